use Rattle.std.proofs.Common.{arith, refl}
use Rattle.std.proofs.lemmas.Bool.Decides.{nat_tests}
use Rattle.xv_job.specs.Held.{job_held}
use Rattle.xv_job.proofs.Taken.{too_many_faults, bad_fault, good_fault, fault_said}
use Rattle.xv_job.proofs.held.Held.take_fault.Goals as goal

pub returns-then-len-clause-stopped : goal.returns-then-len-clause-stopped
returns-then-len-clause-stopped c =
    too_many_faults (job_held c.args.self.now) c.args.args.now c.in-Some.what.now c.in-Some.numbers c.in-Some-call_of.call c.in-Some.ensures.first c.in-Some-call_of.ensures c.in-Ok.ensures.no_fault (grind (arith, nat_tests))

pub returns-in_default-fault_of-clause-stopped : goal.returns-in_default-fault_of-clause-stopped
returns-in_default-fault_of-clause-stopped c =
    bad_fault (job_held c.args.self.now) c.args.args.now c.in-Some.what.now c.in-Some.numbers c.in-Some-call_of.call c.in-Ok.row c.in-Some.ensures.first c.in-Some-call_of.ensures c.in-Ok.ensures.no_fault c.in-Ok.ensures.values (grind (arith, nat_tests)) c.in_default-fault_of.ensures.bad

pub returns-in-Ok-push-clause-taken : goal.returns-in-Ok-push-clause-taken
returns-in-Ok-push-clause-taken c =
    let first = c.in-Some.ensures.first in
    let known = c.in-Some-call_of.ensures in
    let values = c.in-Ok.ensures.values in
    let is = c.in-Some-fault_of.ensures.is in
    record {
      no_fault = good_fault (job_held c.args.self.now) c.args.args.now c.in-Some.what.now c.in-Some.numbers c.in-Some-call_of.call c.in-Ok.row c.in-Some-fault_of.fault first known c.in-Ok.ensures.no_fault values (grind (arith, nat_tests)) is c.in-Some-fault_of.ensures.good;
      said = fault_said (job_held c.args.self.now) c.args.args.now c.in-Some.what.now c.in-Some.numbers c.in-Some-call_of.call c.in-Ok.row c.in-Some-fault_of.fault c.push.new.self.items first known values is c.in-Ok-push.ensures.items;
      consistent = record { disks = c.requires.consistent.disks; shapes = c.requires.consistent.shapes; operations = c.requires.consistent.operations; after_last = c.requires.consistent.after_last };
      last = refl;
    }
