-- Worked migrations that meet the premises of the laws.
use Rattle.std.specs.Prelude.{◌≤◌, ◌<◌, ℕ, zero, suc, length}
use Rattle.std.proofs.Common.{arith, refl, inl, inr}
use Rattle.xv_model.specs.Job.{IsGoodJob, IsLegal, trace, operation, blocks}
use Rattle.xv_model.specs.Worked.FirstPath.{first_path_job}
use Rattle.xv_model.specs.Worked.Groups.{groups_job}
use Rattle.xv_model.specs.Worked.Throttling.{throttling_job}
use Rattle.xv_model.specs.Worked.CancelledWhileStunned.{cancelled_while_stunned_job}
use Rattle.xv_model.specs.Worked.AfterTheSwitch.{after_the_switch_job}
use Rattle.xv_model.specs.Worked.FailedDestination.{failed_destination_job}
use Rattle.xv_model.specs.Worked.SwitchByCreditAlone.{switch_by_credit_alone_job}

first_path-disk : (d : ℕ) → d < length first_path_job.shape.disks → 1 ≤ blocks first_path_job.shape.disks d
first_path-disk zero lt = omega arith
first_path-disk (suc d) lt = absurd (omega (arith, lt))

first_path-legal : (guest k : ℕ) → k < length (trace first_path_job guest) → IsLegal first_path_job.shape (operation first_path_job guest k)
first_path-legal zero k lt = absurd (omega (arith, lt))
first_path-legal (suc guest) k lt = absurd (omega (arith, lt))

pub first_path-good : IsGoodJob first_path_job
unfolding lib.Count.ones
first_path-good = record {
  machine = record { no_fault = refl; few_disks = omega arith };
  same_units = refl;
  some_blocks = first_path-disk;
  formats = inl (refl, refl);
  streams = (omega arith, omega arith);
  credit = (omega arith, omega arith);
  outbox = (omega arith, omega arith);
  region = (omega arith, omega arith, omega arith);
  rounds = (omega arith, omega arith);
  dirty = omega arith;
  cancel = tt;
  guests = (omega arith, omega arith);
  operations = omega arith;
  legal = first_path-legal;
  init_units = λ i lt. absurd (omega (arith, lt));
  init_rises = λ i j lt within. absurd (omega (arith, within));
  fault_lines = omega arith;
  fault_numbers = refl;
}

groups-disk : (d : ℕ) → d < length groups_job.shape.disks → 1 ≤ blocks groups_job.shape.disks d
groups-disk zero lt = omega arith
groups-disk (suc d) lt = absurd (omega (arith, lt))

groups-legal : (guest k : ℕ) → k < length (trace groups_job guest) → IsLegal groups_job.shape (operation groups_job guest k)
groups-legal zero k lt = absurd (omega (arith, lt))
groups-legal (suc guest) k lt = absurd (omega (arith, lt))

pub groups-good : IsGoodJob groups_job
unfolding lib.Count.ones
groups-good = record {
  machine = record { no_fault = refl; few_disks = omega arith };
  same_units = refl;
  some_blocks = groups-disk;
  formats = inr (refl, omega arith, omega arith);
  streams = (omega arith, omega arith);
  credit = (omega arith, omega arith);
  outbox = (omega arith, omega arith);
  region = (omega arith, omega arith, omega arith);
  rounds = (omega arith, omega arith);
  dirty = omega arith;
  cancel = tt;
  guests = (omega arith, omega arith);
  operations = omega arith;
  legal = groups-legal;
  init_units = λ i lt. absurd (omega (arith, lt));
  init_rises = λ i j lt within. absurd (omega (arith, within));
  fault_lines = omega arith;
  fault_numbers = refl;
}

throttling-disk : (d : ℕ) → d < length throttling_job.shape.disks → 1 ≤ blocks throttling_job.shape.disks d
throttling-disk zero lt = omega arith
throttling-disk (suc d) lt = absurd (omega (arith, lt))

throttling-legal : (guest k : ℕ) → k < length (trace throttling_job guest) → IsLegal throttling_job.shape (operation throttling_job guest k)
throttling-legal zero zero lt = record { unit_is = omega arith; some_bytes = omega arith; in_unit = omega arith; whole_block = λ writes block. (refl, refl); short_read = λ none. absurd (cc) }
throttling-legal zero (suc k) lt = absurd (omega (arith, lt))
throttling-legal (suc guest) k lt = absurd (omega (arith, lt))

pub throttling-good : IsGoodJob throttling_job
unfolding lib.Count.ones
throttling-good = record {
  machine = record { no_fault = refl; few_disks = omega arith };
  same_units = refl;
  some_blocks = throttling-disk;
  formats = inl (refl, refl);
  streams = (omega arith, omega arith);
  credit = (omega arith, omega arith);
  outbox = (omega arith, omega arith);
  region = (omega arith, omega arith, omega arith);
  rounds = (omega arith, omega arith);
  dirty = omega arith;
  cancel = tt;
  guests = (omega arith, omega arith);
  operations = omega arith;
  legal = throttling-legal;
  init_units = λ i lt. absurd (omega (arith, lt));
  init_rises = λ i j lt within. absurd (omega (arith, within));
  fault_lines = omega arith;
  fault_numbers = refl;
}

cancelled-legal : (guest k : ℕ) → k < length (trace cancelled_while_stunned_job guest) → IsLegal cancelled_while_stunned_job.shape (operation cancelled_while_stunned_job guest k)
cancelled-legal zero zero lt = record { unit_is = omega arith; some_bytes = omega arith; in_unit = omega arith; whole_block = λ writes block. absurd (cc); short_read = λ none. absurd (cc) }
cancelled-legal zero (suc zero) lt = record { unit_is = omega arith; some_bytes = omega arith; in_unit = omega arith; whole_block = λ writes block. absurd (cc); short_read = λ none. omega arith }
cancelled-legal zero (suc (suc k)) lt = absurd (omega (arith, lt))
cancelled-legal (suc guest) k lt = absurd (omega (arith, lt))

pub cancelled-good : IsGoodJob cancelled_while_stunned_job
unfolding lib.Count.ones
cancelled-good = record {
  machine = record { no_fault = refl; few_disks = omega arith };
  same_units = refl;
  some_blocks = λ d lt. absurd (omega (arith, lt));
  formats = inl (refl, refl);
  streams = (omega arith, omega arith);
  credit = (omega arith, omega arith);
  outbox = (omega arith, omega arith);
  region = (omega arith, omega arith, omega arith);
  rounds = (omega arith, omega arith);
  dirty = omega arith;
  cancel = omega arith;
  guests = (omega arith, omega arith);
  operations = omega arith;
  legal = cancelled-legal;
  init_units = λ i lt. absurd (omega (arith, lt));
  init_rises = λ i j lt within. absurd (omega (arith, within));
  fault_lines = omega arith;
  fault_numbers = refl;
}

after_the_switch-disk : (d : ℕ) → d < length after_the_switch_job.shape.disks → 1 ≤ blocks after_the_switch_job.shape.disks d
after_the_switch-disk zero lt = omega arith
after_the_switch-disk (suc d) lt = absurd (omega (arith, lt))

after_the_switch-legal : (guest k : ℕ) → k < length (trace after_the_switch_job guest) → IsLegal after_the_switch_job.shape (operation after_the_switch_job guest k)
after_the_switch-legal zero zero lt = record { unit_is = omega arith; some_bytes = omega arith; in_unit = omega arith; whole_block = λ writes block. (refl, refl); short_read = λ none. absurd (cc) }
after_the_switch-legal zero (suc zero) lt = record { unit_is = omega arith; some_bytes = omega arith; in_unit = omega arith; whole_block = λ writes block. absurd (cc); short_read = λ none. omega arith }
after_the_switch-legal zero (suc (suc zero)) lt = record { unit_is = omega arith; some_bytes = omega arith; in_unit = omega arith; whole_block = λ writes block. (refl, refl); short_read = λ none. absurd (cc) }
after_the_switch-legal zero (suc (suc (suc zero))) lt = record { unit_is = omega arith; some_bytes = omega arith; in_unit = omega arith; whole_block = λ writes block. absurd (cc); short_read = λ none. omega arith }
after_the_switch-legal zero (suc (suc (suc (suc k)))) lt = absurd (omega (arith, lt))
after_the_switch-legal (suc guest) k lt = absurd (omega (arith, lt))

pub after_the_switch-good : IsGoodJob after_the_switch_job
unfolding lib.Count.ones
after_the_switch-good = record {
  machine = record { no_fault = refl; few_disks = omega arith };
  same_units = refl;
  some_blocks = after_the_switch-disk;
  formats = inl (refl, refl);
  streams = (omega arith, omega arith);
  credit = (omega arith, omega arith);
  outbox = (omega arith, omega arith);
  region = (omega arith, omega arith, omega arith);
  rounds = (omega arith, omega arith);
  dirty = omega arith;
  cancel = tt;
  guests = (omega arith, omega arith);
  operations = omega arith;
  legal = after_the_switch-legal;
  init_units = λ i lt. absurd (omega (arith, lt));
  init_rises = λ i j lt within. absurd (omega (arith, within));
  fault_lines = omega arith;
  fault_numbers = refl;
}

failed_destination-disk : (d : ℕ) → d < length failed_destination_job.shape.disks → 1 ≤ blocks failed_destination_job.shape.disks d
failed_destination-disk zero lt = omega arith
failed_destination-disk (suc d) lt = absurd (omega (arith, lt))

failed_destination-legal : (guest k : ℕ) → k < length (trace failed_destination_job guest) → IsLegal failed_destination_job.shape (operation failed_destination_job guest k)
failed_destination-legal zero zero lt = record { unit_is = omega arith; some_bytes = omega arith; in_unit = omega arith; whole_block = λ writes block. (refl, refl); short_read = λ none. absurd (cc) }
failed_destination-legal zero (suc k) lt = absurd (omega (arith, lt))
failed_destination-legal (suc guest) k lt = absurd (omega (arith, lt))

pub failed_destination-good : IsGoodJob failed_destination_job
unfolding lib.Count.ones
failed_destination-good = record {
  machine = record { no_fault = refl; few_disks = omega arith };
  same_units = refl;
  some_blocks = failed_destination-disk;
  formats = inl (refl, refl);
  streams = (omega arith, omega arith);
  credit = (omega arith, omega arith);
  outbox = (omega arith, omega arith);
  region = (omega arith, omega arith, omega arith);
  rounds = (omega arith, omega arith);
  dirty = omega arith;
  cancel = tt;
  guests = (omega arith, omega arith);
  operations = omega arith;
  legal = failed_destination-legal;
  init_units = λ i lt. absurd (omega (arith, lt));
  init_rises = λ i j lt within. absurd (omega (arith, within));
  fault_lines = omega arith;
  fault_numbers = refl;
}

switch_by_credit-legal : (guest k : ℕ) → k < length (trace switch_by_credit_alone_job guest) → IsLegal switch_by_credit_alone_job.shape (operation switch_by_credit_alone_job guest k)
switch_by_credit-legal zero k lt = absurd (omega (arith, lt))
switch_by_credit-legal (suc guest) k lt = absurd (omega (arith, lt))

pub switch_by_credit-good : IsGoodJob switch_by_credit_alone_job
unfolding lib.Count.ones
switch_by_credit-good = record {
  machine = record { no_fault = refl; few_disks = omega arith };
  same_units = refl;
  some_blocks = λ d lt. absurd (omega (arith, lt));
  formats = inl (refl, refl);
  streams = (omega arith, omega arith);
  credit = (omega arith, omega arith);
  outbox = (omega arith, omega arith);
  region = (omega arith, omega arith, omega arith);
  rounds = (omega arith, omega arith);
  dirty = omega arith;
  cancel = tt;
  guests = (omega arith, omega arith);
  operations = omega arith;
  legal = switch_by_credit-legal;
  init_units = λ i lt. absurd (omega (arith, lt));
  init_rises = λ i j lt within. absurd (omega (arith, within));
  fault_lines = omega arith;
  fault_numbers = refl;
}
