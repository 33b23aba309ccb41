use Rattle.std.proofs.Common.{◌≡◌, drop}
use Rattle.std.specs.List.{find}
use Rattle.xv_text.specs.Words.{is_spelled}
use Rattle.xv_text.proofs.words.first_spelled.Given as goal

abbrev pub invariant-loop-word : goal.invariant-loop-word
invariant-loop-word g l = find (λ word. is_spelled (g.W.TextWord.spelling word) l.field) l.words ≡ find (λ word. is_spelled (g.W.TextWord.spelling word) l.field) (drop l.word-index l.words)
