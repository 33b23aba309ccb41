use Rattle.std.proofs.Common.{List, ℕ, refl, subst}
use Rattle.xv_io.specs.Io.{TookMore, TookFront}
use Rattle.xv_job.specs.Made.{made_job}
use Rattle.xv_top.proofs.Driven.{text-is, fault-same}
use Rattle.xv_top.proofs.driving.drive.Goals as goal

pub returns-in-Ok-write_driven-clause-written : goal.returns-in-Ok-write_driven-clause-written
returns-in-Ok-write_driven-clause-written g c =
    subst (λ (text : List ℕ). TookMore (g.O.Sink.taken c.args.output.now) (g.O.Sink.taken c.write_driven.new.output) text)
    (text-is (made_job c.args.number) c.in-Ok.machine c.in-Ok.ensures.driven) c.in-Ok-write_driven.ensures.whole

pub returns-in-Err-write_driven-clause-front : goal.returns-in-Err-write_driven-clause-front
returns-in-Err-write_driven-clause-front g c =
    subst (λ (text : List ℕ). TookFront (g.O.Sink.taken c.args.output.now) (g.O.Sink.taken c.write_driven.new.output) text)
    (text-is (made_job c.args.number) c.in-Ok.machine c.in-Ok.ensures.driven) c.in-Err-write_driven.ensures.front

pub returns-in-Err-write_driven-clause-fault : goal.returns-in-Err-write_driven-clause-fault
returns-in-Err-write_driven-clause-fault g c = λ there.
    c.write_driven.ensures.fault (fault-same c.write_driven.result _ c.in-Err-write_driven.error _ c.in-Err-write_driven.is refl there)

pub returns-in-Err-write_driven-clause-quiet : goal.returns-in-Err-write_driven-clause-quiet
returns-in-Err-write_driven-clause-quiet g c = λ other.
    c.write_driven.ensures.quiet (λ there. other (fault-same _ c.write_driven.result c.in-Err-write_driven.error _ refl c.in-Err-write_driven.is there))
