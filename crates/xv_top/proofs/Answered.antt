-- Lines that were played were answered.
use Rattle.std.proofs.Common.{ℕ, List, [], ◌∷◌}
use Rattle.xv_model.specs.Wait.{Event}
use Rattle.xv_script.specs.declared.line.Line.{Line}
use Rattle.xv_script.specs.declared.line.Line.TheVariants.{Step, Ask}
use Rattle.xv_core.specs.Seen.{Seen}
use Rattle.xv_top.specs.Playing.{IsEventPlayed, ArePlayed, IsAnswered, AreAnswered}

one-answered : (old new : Seen) (e : Event) (text : List ℕ) → IsEventPlayed old e new text → IsAnswered old e new text
one-answered old new e text played = record {
  answer = played.answer;
  answers = played.stepped.answers;
  of_job = played.stepped.job;
  journal = played.stepped.journal;
  kept = played.kept;
  line = played.line;
}

pub answered : (lines : List Line) (old new : Seen) (text : List ℕ) → ArePlayed old lines new text → AreAnswered old lines new text
answered [] old new text none = none
answered (Step e ∷ ls) old new text (mid, first, rest, line, others, is) =
    (mid, first, rest, one-answered old mid e first line, answered ls mid new rest others, is)
answered (Ask unit ∷ ls) old new text (mid, first, rest, line, others, is) =
    (mid, first, rest, line, answered ls mid new rest others, is)
