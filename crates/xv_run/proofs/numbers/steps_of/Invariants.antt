use Rattle.std.proofs.Common.{◌≡◌, ◌≤◌, take}
use Rattle.xv_run.specs.Numbers.{steps_of}
use Rattle.xv_run.proofs.numbers.steps_of.Given as goal

abbrev pub invariant-loop-entry : goal.invariant-loop-entry
invariant-loop-entry l = record {
  counted : l.count ≡ steps_of l.worker (take l.entry-index l.journal);
  few : l.count ≤ l.entry-index;
}
