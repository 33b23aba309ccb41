use Rattle.std.proofs.Common.{◌≡◌, length}
use Rattle.xv_engine_tests.proofs.streams_tests.send_some.Given as goal

abbrev pub invariant-loop-i : goal.invariant-loop-i
invariant-loop-i g l = record {
  same : l.streams ≡ record l.initial.streams { making = l.streams.making };
  many : length l.streams.making ≡ l.i;
}
