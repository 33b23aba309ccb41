use Rattle.std.proofs.Common.{sym, subst}
use Rattle.xv_wire.specs.Memory.{Pipe, told}
use Rattle.xv_job.specs.Written.{job_of}
use Rattle.xv_core.specs.Beginning.{IsWireFor, back_room}
use Rattle.xv_parts.proofs.Begun.{wires-long, wires-fit, back-fits}
use Rattle.xv_parts.proofs.beginning.make_wires.Goals as goal

pub returns-clause-each_stream : goal.returns-clause-each_stream
returns-clause-each_stream c = wires-long c.args.job.now c.in_ok-wires.wires.items c.in_ok-wires.ensures

pub returns-clause-wires_fit : goal.returns-clause-wires_fit
returns-clause-wires_fit c = wires-fit c.args.job.now c.in_ok-wires.wires.items c.in_ok-wires.ensures

pub returns-clause-back_fits : goal.returns-clause-back_fits
returns-clause-back_fits c = subst (λ (p : Pipe). IsWireFor (back_room (job_of c.args.job.now)) (told p)) (sym c.in_ok-back.ensures) (back-fits c.args.job.now)
