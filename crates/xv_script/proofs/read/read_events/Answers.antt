use Rattle.std.proofs.Common.{arith}
use Rattle.xv_job.specs.Written.{job_of}
use Rattle.xv_script.proofs.Scripts.{answers}
use Rattle.xv_script.proofs.read.read_events.Goals as goal

pub returns : goal.returns
returns c =
    let few = c.counts_of.ensures.few in
    let read = c.read_counted.ensures in
    let a = answers (job_of c.args.job.now) c.counts_of.result c.args.first_line c.args.text.now c.read_counted.result (λ lines. lines.items) c.counts_of.ensures.exactly
    (record { guests = omega (arith, few.0); disks = omega (arith, few.1); streams = omega (arith, few.2); units = few.3 })
    read.fault read.no_fault read.lines in
    record { fault = a.fault; no_fault = a.no_fault; lines = a.lines; text = a.spells; script = a.script; only = a.only; refused = a.refused }
