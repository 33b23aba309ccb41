-- What `drive` writes and leaves: the job that a number makes, run by the driver from its beginning to its end.
use Rattle.std.specs.Prelude.{◌≡◌, ◌<◌, ℕ, ◌++◌, true, List, length, count_by, codes, decimal}
use Rattle.std.specs.List.{range_with_len}
use Rattle.std.specs.Str.{bytes_eq}
use Rattle.xv_base.specs.declared.event.Phase.TheVariants.{Switched}
use Rattle.xv_model.specs.Job.{Job, unit_count}
use Rattle.xv_model.specs.Guest.{content}
use Rattle.xv_model.specs.Step.{Entry, is_faithful}
use Rattle.xv_model.specs.Contents.{unit_content}
use Rattle.xv_model.specs.Work.{is_finished}
use Rattle.xv_model.specs.Driver.{driven}
use Rattle.xv_report.specs.Texts.{row}
use Rattle.xv_job.specs.Written.{Written, job_of}
use Rattle.xv_job.specs.Made.{made_job}
use Rattle.xv_core.specs.Seen.{Seen, view_of}
use Rattle.xv_core.specs.Keeping.{IsKept, told_contents}
use Rattle.xv_top.specs.Outcome.{Outcome, WritesAll}
use Rattle.xv_top.specs.Replay.{report_of}
use Rattle.xv_top.specs.Top.{CountsWrites}
use Rattle.xv_top.specs.declared.command.Form.TheVariants.{Rows}
use Rattle.xv_top.specs.declared.program.Left.TheVariants.{First}

-- in how many of so many units two sides hold the same bytes
abbrev pub agreeing : ℕ → List (List ℕ) → List (List ℕ) → ℕ
agreeing units xs ys = count_by (λ unit. bytes_eq (unit_content xs unit) (unit_content ys unit)) (range_with_len 0 units)

-- a line that says so
abbrev pub agree_line : ℕ → List ℕ
agree_line count = row (codes "agree") (decimal count)

-- The report of a journal, and that all units agree; the journal of a job's driven run; and what is written of that. They are
-- only names, so that no goal writes out the texts or the run.
unfoldable pub agreed_text : Job → List Entry → List ℕ
agreed_text job journal = report_of Rows job journal ++ agree_line (unit_count job)

unfoldable pub driven_journal : Written → List Entry
driven_journal written = driven (job_of written)

unfoldable pub drive_text : Written → List ℕ
drive_text written = agreed_text (job_of written) (driven_journal written)

-- A migration has the job and the journal of its driven run, in which exactly those calls failed that the job's faults
-- name, and is finished. It is what every migration keeps, and both sides count the guest's writes.
pub record HasDriven (written : Written) (m : Seen) : Type 0 where
  pub of_job : m.job ≡ written
  pub journal : m.journal ≡ driven_journal written
  pub faithful : is_faithful (job_of written) m.journal ≡ true
  pub kept : IsKept m
  pub counts : CountsWrites m
  pub finished : is_finished (job_of m.job) (view_of m) ≡ true

-- these contents of the units are what the unmigrated guest leaves there after the whole history
pub record AreTheGuests (m : Seen) (contents : List (List ℕ)) : Type 0 where
  pub each : (unit : ℕ) → unit < unit_count (job_of m.job) → unit_content contents unit ≡ content (job_of m.job) (view_of m).history unit (length (view_of m).history)

-- the destination has the guest, and holds what the unmigrated guest leaves
pub record HasHandedOver (m : Seen) : Type 0 where
  pub switched : (view_of m).phase ≡ Switched
  pub holds : AreTheGuests m (told_contents m.dest)

-- the migration that is left has driven the job of the number and handed the guest over, and what is written of it was written
pub record IsDriven (number : ℕ) (o : Outcome) : Type 0 where
  pub migration : Seen
  pub output : WritesAll o.output (drive_text (made_job number))
  pub has_driven : HasDriven (made_job number) migration
  pub handed_over : HasHandedOver migration
  pub is_left : o.left ≡ First migration
