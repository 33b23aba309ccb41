use Rattle.std.proofs.Common.{◌≡◌, ◌-◌, ◌≤◌, ◌++◌, length, take}
use Rattle.xv_streams.proofs.Takes.{Taking}
use Rattle.xv_streams.proofs.filling.fill.Given as goal

abbrev pub invariant-loop-count : goal.invariant-loop-count
invariant-loop-count g l = record {
  more : l.have ≤ l.count;
  most : l.count ≤ l.want;
  there : l.count - l.have ≤ length (g.W.Wire.told l.initial.wire).transit;
  gathered : take l.count l.buffer ≡ take l.have l.initial.buffer ++ take (l.count - l.have) (g.W.Wire.told l.initial.wire).transit;
  taking : Taking (l.count - l.have) (l.want - l.have) (g.W.Wire.told l.initial.wire) (g.W.Wire.told l.wire) (g.W.Wire.faults l.initial.wire) (g.W.Wire.faults l.wire);
}

abbrev pub decreases-loop-count : goal.decreases-loop-count
decreases-loop-count g l = l.want - l.count
