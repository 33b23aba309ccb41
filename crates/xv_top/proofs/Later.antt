-- A migration later: the lines that were played since took it on by steps.
use Rattle.std.proofs.Common.{◌≡◌, ℕ, true, List, ◌∙◌}
use Rattle.xv_script.specs.declared.line.Line.{Line}
use Rattle.xv_script.specs.declared.line.Line.TheVariants.{Step, Ask}
use Rattle.xv_core.specs.Seen.{Seen}
use Rattle.xv_core.specs.Origin.{HasOrigin}
use Rattle.xv_core.specs.Keeping.{IsKept, tells}
use Rattle.xv_core.specs.Losing.{LosesNothing}
use Rattle.xv_core.proofs.Stepped.Origins.{origin-same, origin-then}
use Rattle.xv_core.proofs.Losing.{loses-nothing}
use Rattle.xv_top.specs.Playing.{IsLinePlayed}

pub record IsLater (old new : Seen) : Type 0 where
  pub origin : HasOrigin old new
  pub kept : IsKept new

pub later_none : (m : Seen) → IsKept m → IsLater m m
later_none m kept = record { origin = origin-same m; kept = kept }

-- one line more
pub later_line : (l m n : Seen) (line : Line) (text : List ℕ) → IsLater l m → IsLinePlayed m line n text → IsLater l n
later_line l m n (Step e) text so_far played = record { origin = origin-then l m n e played.answer so_far.origin played.stepped; kept = played.kept }
later_line l m n (Ask unit) text so_far played = rw played.0 so_far

-- so nothing is lost where both devices told at first what they hold
pub later-loses : (old new : Seen) → IsLater old new → tells old.source ≡ true → tells old.dest ≡ true → LosesNothing new
later-loses old new later source dest = loses-nothing new later.kept (later.origin.tells.source ∙ source) (later.origin.tells.dest ∙ dest)
