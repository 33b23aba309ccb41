-- What is told of a migration: one unit's numbers, and the totals of the report.
use Rattle.std.specs.Prelude.{ℕ, ◌-◌, ◌||◌, not, nat_lt, Bool, List, length, drop, replicate, unwrap_or, sum, sum_by, count_by, if◌then◌else◌}
use Rattle.xv_model.specs.Job.{Job, size}
use Rattle.xv_model.specs.Guest.{is_done, content}
use Rattle.xv_model.specs.View.{View, number, side, is_switched}
use Rattle.xv_model.specs.Outstanding.{count, count_streams, of_unit}
use Rattle.xv_base.specs.declared.event.Probe.{Probe}
use Rattle.xv_base.specs.declared.event.Totals.{Totals}

-- one unit's numbers
abbrev pub probe : Job → View → ℕ → Probe
probe job v unit = record {
  unit = record { 0 = unit };
  side = side job v unit;
  issued = number v.outbox.issued unit;
  applied = number v.hold.applied unit;
  outbox = count (of_unit unit) v.outbox.messages;
  wires = count_streams (of_unit unit) v.streams;
  held = count (of_unit unit) v.hold.held;
}

-- the numbers of the report, where the journal has n entries
abbrev pub totals : Job → View → ℕ → Totals
totals job v n = record {
  phase = v.phase;
  history = length v.history;
  faulted = count_by (λ e. not (is_done e.outcome)) v.history;
  journal = n;
  stun = v.stun;
  copied = sum_by (λ d. d.cursor) v.disks;
  rounds = v.rounds;
  messages = sum v.outbox.issued;
  mirrors = sum (drop job.copy.pages v.outbox.issued) - count_by (λ k. nat_lt 0 k) (drop job.copy.pages v.outbox.issued);
  applied = sum v.hold.applied;
  credit = v.credit;
}

-- What each side holds of a unit: the source the whole history, or that at the stun once the guest has left; the
-- destination what was last written there, or the whole history once it has the guest.
abbrev pub source_length : View → ℕ
source_length v = if is_switched v.phase then unwrap_or v.stun 0 else length v.history

abbrev pub source_content : Job → View → ℕ → List ℕ
source_content job v unit = content job v.history unit (source_length v)

abbrev pub dest_length : View → ℕ → ℕ
dest_length v unit = if is_switched v.phase then length v.history else number v.hold.recorded unit

abbrev pub is_written : View → ℕ → Bool
is_written v unit = is_switched v.phase || nat_lt 0 (number v.hold.applied unit)

abbrev pub dest_content : Job → View → ℕ → List ℕ
dest_content job v unit = if is_written v unit then content job v.history unit (dest_length v unit) else replicate (size job.shape unit) 0
