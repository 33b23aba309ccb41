-- The limits of the worked job that is cancelled with a queue.
use Rattle.std.proofs.Common.{◌≡◌, ◌<◌, ◌≤◌, ℕ, zero, suc, length, refl, inl, arith}
use Rattle.std.specs.Prelude.{None}
use Rattle.xv_base.specs.Layout.{layout_fault}
use Rattle.xv_model.specs.Job.{IsGoodJob, IsLegal, blocks, trace, operation}
use Rattle.xv_model.specs.Worked.CancelledWithAQueue.{cancelled_with_a_queue_job}

queued-layout : layout_fault cancelled_with_a_queue_job.shape ≡ None
unfolding lib.Count.ones
queued-layout = refl

queued-blocks : (d : ℕ) → d < 1 → 1 ≤ blocks cancelled_with_a_queue_job.shape.disks d
queued-blocks zero l = omega arith
queued-blocks (suc d) l = absurd (omega arith)

queued-legal : (guest k : ℕ) → k < length (trace cancelled_with_a_queue_job guest) → IsLegal cancelled_with_a_queue_job.shape (operation cancelled_with_a_queue_job guest k)
queued-legal zero zero l = record { unit_is = omega arith; some_bytes = omega arith; in_unit = omega arith; whole_block = λ w p. (refl, refl); short_read = λ h. absurd (cc) }
queued-legal zero (suc k) l = absurd (omega arith)
queued-legal (suc zero) zero l = record { unit_is = omega arith; some_bytes = omega arith; in_unit = omega arith; whole_block = λ w p. (refl, refl); short_read = λ h. absurd (cc) }
queued-legal (suc zero) (suc k) l = absurd (omega arith)
queued-legal (suc (suc zero)) zero l = record { unit_is = omega arith; some_bytes = omega arith; in_unit = omega arith; whole_block = λ w p. absurd (cc); short_read = λ h. omega arith }
queued-legal (suc (suc zero)) (suc zero) l = record { unit_is = omega arith; some_bytes = omega arith; in_unit = omega arith; whole_block = λ w p. absurd (cc); short_read = λ h. omega arith }
queued-legal (suc (suc zero)) (suc (suc k)) l = absurd (omega arith)
queued-legal (suc (suc (suc guest))) k l = absurd (omega arith)

pub queued-good : IsGoodJob cancelled_with_a_queue_job
queued-good = record {
  machine = record { no_fault = queued-layout; few_disks = omega arith };
  same_units = refl;
  some_blocks = queued-blocks;
  formats = inl (refl, refl);
  streams = (omega arith, omega arith);
  credit = (omega arith, omega arith);
  outbox = (omega arith, omega arith);
  region = (omega arith, omega arith, omega arith);
  rounds = (omega arith, omega arith);
  dirty = omega arith;
  cancel = omega arith;
  guests = (omega arith, omega arith);
  operations = omega arith;
  legal = queued-legal;
  init_units = λ i l. absurd (omega arith);
  init_rises = λ i j lt l. absurd (omega arith);
  fault_lines = omega arith;
  fault_numbers = refl;
}
