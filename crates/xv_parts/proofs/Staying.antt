-- A migration begins in memory, and every step leaves it there.
use Rattle.std.proofs.Common.{sym, subst}
use Rattle.xv_model.specs.Wait.{Event}
use Rattle.xv_model.specs.Effect.{Turn}
use Rattle.xv_job.specs.Written.{Written}
use Rattle.xv_core.specs.Seen.{Seen}
use Rattle.xv_core.specs.Stepped.{IsStep}
use Rattle.xv_core.specs.Origin.{HasOrigin}
use Rattle.xv_core.specs.Keeping.{IsKept}
use Rattle.xv_core.proofs.Stepped.Origins.{origin-same, origin-then}
use Rattle.xv_parts.specs.Memory.{begun_in_memory, IsInMemory}

pub begins : (w : Written) → IsKept (begun_in_memory w) → IsInMemory (begun_in_memory w)
begins w kept = record { kept = kept; origin = origin-same (begun_in_memory w) }

pub stays : (m n : Seen) (e : Event) (a : Turn) → IsInMemory m → IsStep m e a n → IsKept n → IsInMemory n
stays m n e a h s kept = record {
  kept = kept;
  origin = subst (λ (w : Written). HasOrigin (begun_in_memory w) n) (sym s.job) (origin-then (begun_in_memory m.job) m n e a h.origin s);
}
