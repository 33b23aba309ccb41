use Rattle.std.proofs.Common.{◌≡◌, ◌++◌, ap, subst}
use Rattle.xv_job.specs.JobText.{job_text}
use Rattle.xv_job.specs.Written.{Written, written_of, ops_held}
use Rattle.xv_job.proofs.Taken.{on_ok}
use Rattle.xv_job.proofs.Printed.{all_written}
use Rattle.xv_job.proofs.print.print_lines.Goals as goal

pub returns : goal.returns
returns c =
    let i = c.job.inside in
    let P : Written → Type 0 = λ w. c.push_line.new.out.items ≡ c.args.out.now.items ++ job_text w in
    on_ok c.push_line.result _ _
    (λ h. subst P c.job.view_is (all_written (written_of i.layout i.format i.group i.config i.faults.items i.init.items i.traces.items) c.deref.result.now c.deref-2.result.now c.deref-3.result.now c.args.out.now.items c.print_machine.new.out.items c.print_settings.new.out.items c.print_contents.new.out.items c.print_traces.new.out.items c.push_line.new.out.items c.deref.ensures.value c.deref-2.ensures.value (ap ops_held c.deref-3.ensures.value) c.in_ok-print_machine.ensures c.in_ok-print_settings.ensures c.in_ok-print_contents.ensures c.in_ok-print_traces.ensures h))
    c.push_line.ensures.ok
