use Rattle.std.proofs.Common.{refl, sym, ◌∙◌, ◌≡◌}
use Rattle.xv_core.specs.Seen.{Seen}
use Rattle.xv_job.specs.Made.{made_job}
use Rattle.xv_parts.specs.Memory.{IsInMemory}
use Rattle.xv_top.proofs.Printed.{loses-in-memory, zero-elsewhere, ended-all, left-one}
use Rattle.xv_top.proofs.Statuses.{drive-promise, ok-no_err}
use Rattle.xv_top.specs.Printed.{HasEndedAll}
use Rattle.xv_top.proofs.driving.run_drive.Goals as goal

pub returns-in-Ok-clause-promise : goal.returns-in-Ok-clause-promise
returns-in-Ok-clause-promise g c = λ input reads.
    drive-promise c.args.number _ reads (λ not. absurd (not refl))
    (record {
      migration = c.in-Ok.machine;
      output = record { taken = c.in-Ok.ensures.written; handed_on = c.in-Ok.ensures.flushed; quiet = c.drive.ensures.quiet (ok-no_err _ _ _ c.in-Ok.is) };
      has_driven = c.in-Ok.ensures.driven;
      handed_over = c.in-Ok.ensures.handed_over;
      is_left = c.leave.ensures;
    })

pub returns-in-Ok-clause-loses_nothing : goal.returns-in-Ok-clause-loses_nothing
returns-in-Ok-clause-loses_nothing g c = λ m is.
    let inside = left-one IsInMemory c.in-Ok.machine m (sym c.leave.ensures ∙ is) c.in-Ok.ensures.in_memory in
    (loses-in-memory m inside, zero-elsewhere m inside)

pub returns-in-Ok-clause-ends_all : goal.returns-in-Ok-clause-ends_all
returns-in-Ok-clause-ends_all g c = λ m is.
    let machine = c.in-Ok.machine in
    let driven = c.in-Ok.ensures.driven in
    left-one (λ (n : Seen). (n.job ≡ made_job c.args.number) × HasEndedAll n) machine m (sym c.leave.ensures ∙ is)
    (driven.of_job, ended-all machine driven.kept driven.finished c.in-Ok.ensures.handed_over)
