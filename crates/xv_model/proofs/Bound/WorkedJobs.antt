-- The limits of two worked jobs.
use Rattle.std.proofs.Common.{◌≡◌, ◌<◌, ◌≤◌, ℕ, zero, suc, length, refl, inl, inr, arith}
use Rattle.std.specs.Prelude.{None}
use Rattle.xv_base.specs.Layout.{layout_fault}
use Rattle.xv_model.specs.Job.{IsGoodJob, IsLegal, blocks, trace, operation}
use Rattle.xv_model.specs.Worked.TwoGuestsQueue.{two_guests_queue_job}
use Rattle.xv_model.specs.Worked.RoundsPastTheLimit.{rounds_past_the_limit_job}

two_guests-layout : layout_fault two_guests_queue_job.shape ≡ None
unfolding lib.Count.ones
two_guests-layout = refl

two_guests-blocks : (d : ℕ) → d < 1 → 1 ≤ blocks two_guests_queue_job.shape.disks d
two_guests-blocks zero l = omega arith
two_guests-blocks (suc d) l = absurd (omega arith)

two_guests-legal : (guest k : ℕ) → k < length (trace two_guests_queue_job guest) → IsLegal two_guests_queue_job.shape (operation two_guests_queue_job guest k)
two_guests-legal zero zero l = record { unit_is = omega arith; some_bytes = omega arith; in_unit = omega arith; whole_block = λ w p. (refl, refl); short_read = λ h. absurd (cc) }
two_guests-legal zero (suc k) l = absurd (omega arith)
two_guests-legal (suc zero) zero l = record { unit_is = omega arith; some_bytes = omega arith; in_unit = omega arith; whole_block = λ w p. (refl, refl); short_read = λ h. absurd (cc) }
two_guests-legal (suc zero) (suc k) l = absurd (omega arith)
two_guests-legal (suc (suc guest)) k l = absurd (omega arith)

pub two_guests-good : IsGoodJob two_guests_queue_job
two_guests-good = record {
  machine = record { no_fault = two_guests-layout; few_disks = omega arith };
  same_units = refl;
  some_blocks = two_guests-blocks;
  formats = inl (refl, refl);
  streams = (omega arith, omega arith);
  credit = (omega arith, omega arith);
  outbox = (omega arith, omega arith);
  region = (omega arith, omega arith, omega arith);
  rounds = (omega arith, omega arith);
  dirty = omega arith;
  cancel = tt;
  guests = (omega arith, omega arith);
  operations = omega arith;
  legal = two_guests-legal;
  init_units = λ i l. absurd (omega arith);
  init_rises = λ i j lt l. absurd (omega arith);
  fault_lines = omega arith;
  fault_numbers = refl;
}

rounds_past-layout : layout_fault rounds_past_the_limit_job.shape ≡ None
unfolding lib.Count.ones
rounds_past-layout = refl

rounds_past-blocks : (d : ℕ) → d < 1 → 1 ≤ blocks rounds_past_the_limit_job.shape.disks d
rounds_past-blocks zero l = omega arith
rounds_past-blocks (suc d) l = absurd (omega arith)

rounds_past-legal : (guest k : ℕ) → k < length (trace rounds_past_the_limit_job guest) → IsLegal rounds_past_the_limit_job.shape (operation rounds_past_the_limit_job guest k)
rounds_past-legal zero zero l = record { unit_is = omega arith; some_bytes = omega arith; in_unit = omega arith; whole_block = λ w p. absurd (cc); short_read = λ h. absurd (cc) }
rounds_past-legal zero (suc zero) l = record { unit_is = omega arith; some_bytes = omega arith; in_unit = omega arith; whole_block = λ w p. absurd (cc); short_read = λ h. absurd (cc) }
rounds_past-legal zero (suc (suc k)) l = absurd (omega arith)
rounds_past-legal (suc guest) k l = absurd (omega arith)

pub rounds_past-good : IsGoodJob rounds_past_the_limit_job
rounds_past-good = record {
  machine = record { no_fault = rounds_past-layout; few_disks = omega arith };
  same_units = refl;
  some_blocks = rounds_past-blocks;
  formats = inr (refl, omega arith, omega arith);
  streams = (omega arith, omega arith);
  credit = (omega arith, omega arith);
  outbox = (omega arith, omega arith);
  region = (omega arith, omega arith, omega arith);
  rounds = (omega arith, omega arith);
  dirty = omega arith;
  cancel = tt;
  guests = (omega arith, omega arith);
  operations = omega arith;
  legal = rounds_past-legal;
  init_units = λ i l. absurd (omega arith);
  init_rises = λ i j lt l. absurd (omega arith);
  fault_lines = omega arith;
  fault_numbers = refl;
}
