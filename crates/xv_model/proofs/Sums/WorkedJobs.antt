-- The limits of the worked jobs whose messages are counted.
use Rattle.std.proofs.Common.{◌≡◌, ◌<◌, ◌≤◌, ℕ, zero, suc, length, refl, inl, arith}
use Rattle.std.specs.Prelude.{None}
use Rattle.xv_base.specs.Layout.{layout_fault}
use Rattle.xv_model.specs.Job.{IsGoodJob, IsLegal, blocks, trace, operation}
use Rattle.xv_model.specs.Worked.VersionsEverywhere.{versions_everywhere_job}
use Rattle.xv_model.specs.Worked.RoomInTheOutbox.{room_in_the_outbox_job}

everywhere-layout : layout_fault versions_everywhere_job.shape ≡ None
unfolding lib.Count.ones
everywhere-layout = refl

everywhere-blocks : (d : ℕ) → d < 1 → 1 ≤ blocks versions_everywhere_job.shape.disks d
everywhere-blocks zero l = omega arith
everywhere-blocks (suc d) l = absurd (omega arith)

everywhere-legal : (guest k : ℕ) → k < length (trace versions_everywhere_job guest) → IsLegal versions_everywhere_job.shape (operation versions_everywhere_job guest k)
everywhere-legal zero zero l = record { unit_is = omega arith; some_bytes = omega arith; in_unit = omega arith; whole_block = λ w p. (refl, refl); short_read = λ h. absurd (cc) }
everywhere-legal zero (suc zero) l = record { unit_is = omega arith; some_bytes = omega arith; in_unit = omega arith; whole_block = λ w p. (refl, refl); short_read = λ h. absurd (cc) }
everywhere-legal zero (suc (suc zero)) l = record { unit_is = omega arith; some_bytes = omega arith; in_unit = omega arith; whole_block = λ w p. (refl, refl); short_read = λ h. absurd (cc) }
everywhere-legal zero (suc (suc (suc k))) l = absurd (omega arith)
everywhere-legal (suc guest) k l = absurd (omega arith)

pub everywhere-good : IsGoodJob versions_everywhere_job
everywhere-good = record {
  machine = record { no_fault = everywhere-layout; few_disks = omega arith };
  same_units = refl;
  some_blocks = everywhere-blocks;
  formats = inl (refl, refl);
  streams = (omega arith, omega arith);
  credit = (omega arith, omega arith);
  outbox = (omega arith, omega arith);
  region = (omega arith, omega arith, omega arith);
  rounds = (omega arith, omega arith);
  dirty = omega arith;
  cancel = tt;
  guests = (omega arith, omega arith);
  operations = omega arith;
  legal = everywhere-legal;
  init_units = λ i l. absurd (omega arith);
  init_rises = λ i j lt l. absurd (omega arith);
  fault_lines = omega arith;
  fault_numbers = refl;
}

room-layout : layout_fault room_in_the_outbox_job.shape ≡ None
unfolding lib.Count.ones
room-layout = refl

room-blocks : (d : ℕ) → d < 1 → 1 ≤ blocks room_in_the_outbox_job.shape.disks d
room-blocks zero l = omega arith
room-blocks (suc d) l = absurd (omega arith)

room-legal : (guest k : ℕ) → k < length (trace room_in_the_outbox_job guest) → IsLegal room_in_the_outbox_job.shape (operation room_in_the_outbox_job guest k)
room-legal zero zero l = record { unit_is = omega arith; some_bytes = omega arith; in_unit = omega arith; whole_block = λ w p. (refl, refl); short_read = λ h. absurd (cc) }
room-legal zero (suc k) l = absurd (omega arith)
room-legal (suc zero) zero l = record { unit_is = omega arith; some_bytes = omega arith; in_unit = omega arith; whole_block = λ w p. (refl, refl); short_read = λ h. absurd (cc) }
room-legal (suc zero) (suc k) l = absurd (omega arith)
room-legal (suc (suc guest)) k l = absurd (omega arith)

pub room-good : IsGoodJob room_in_the_outbox_job
room-good = record {
  machine = record { no_fault = room-layout; few_disks = omega arith };
  same_units = refl;
  some_blocks = room-blocks;
  formats = inl (refl, refl);
  streams = (omega arith, omega arith);
  credit = (omega arith, omega arith);
  outbox = (omega arith, omega arith);
  region = (omega arith, omega arith, omega arith);
  rounds = (omega arith, omega arith);
  dirty = omega arith;
  cancel = tt;
  guests = (omega arith, omega arith);
  operations = omega arith;
  legal = room-legal;
  init_units = λ i l. absurd (omega arith);
  init_rises = λ i j lt l. absurd (omega arith);
  fault_lines = omega arith;
  fault_numbers = refl;
}
