use Rattle.std.proofs.Common.{arith}
use Rattle.xv_run.proofs.Inputs.{job-alone, job-followed, job-fault}
use Rattle.xv_run.proofs.input.parse.Goals as goal

pub returns-then-place-text-clause-text : goal.returns-then-place-text-clause-text
returns-then-place-text-clause-text c =
    job-alone c.args.text.now c.in-Ok.job c.in-Ok.place.byte c.in-Ok.place.line c.requires c.in-Ok.ensures.no_fault c.in-Ok.ensures.front c.in-Ok.ensures.line c.in-Ok.ensures.good (omega arith)

pub returns-else-place-text-clause-refused : goal.returns-else-place-text-clause-refused
returns-else-place-text-clause-refused c =
    rw c.order_at.ensures (job-followed c.args.text.now c.in-Ok.job c.in-Ok.place.byte c.in-Ok.place.line c.requires c.in-Ok.ensures.no_fault c.in-Ok.ensures.front c.in-Ok.ensures.line c.in-Ok.ensures.good (omega (arith, c.in-Ok.ensures.within, c.if-place-text.false)))

pub returns-in-Err-Fault-clause-refused : goal.returns-in-Err-Fault-clause-refused
returns-in-Err-Fault-clause-refused c =
    let found = rw c.in-Err-Fault.field-0-is at c.in-Err-Fault.ensures.fault in
    job-fault c.args.text.now c.in-Err-Fault.fault c.requires found
