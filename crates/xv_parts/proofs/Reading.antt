-- What a step in memory reads is what the unmigrated guest reads there.
use Rattle.std.specs.Prelude.{◌≡◌, ◌&&◌, Bool, true, length, drop}
use Rattle.std.proofs.Common.{ap, ◌∙◌}
use Rattle.xv_model.specs.Guest.{read_bytes}
use Rattle.xv_model.specs.Wait.{Event}
use Rattle.xv_model.specs.Effect.{Turn}
use Rattle.xv_job.specs.Written.{job_of}
use Rattle.xv_core.specs.Seen.{Seen, view_of}
use Rattle.xv_core.specs.Stepped.{IsStep}
use Rattle.xv_core.specs.Keeping.{IsKept, HoldsGuest, tells}
use Rattle.xv_core.proofs.Stepped.ReadOn.{read-on as read-on-told}
use Rattle.xv_parts.specs.Memory.{IsInMemory}

-- both devices tell what they hold, so they hold what the unmigrated guest's contents say
both-tell : (m : Seen) → IsInMemory m → (tells m.source && tells m.dest) ≡ true
both-tell m h = ap (λ (b : Bool). b && tells m.dest) h.origin.tells.source ∙ h.origin.tells.dest

pub holds : (m : Seen) → IsInMemory m → HoldsGuest m
holds m h = h.kept.contents (both-tell m h)

pub read-on : (m n : Seen) (e : Event) (a : Turn) → IsInMemory m → IsStep m e a n → IsKept n → drop (length m.reads) n.reads ≡ read_bytes (job_of m.job) (view_of n).history (length (view_of m).history)
read-on m n e a h s kept = read-on-told m n e a h.kept kept (both-tell m h) s
