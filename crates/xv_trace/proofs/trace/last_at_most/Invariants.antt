use Rattle.std.proofs.Common.{◌<◌, ◌≤◌, ◌-◌, length, get_or}
use Rattle.xv_trace.proofs.trace.last_at_most.Given as goal

abbrev pub invariant-loop-high : goal.invariant-loop-high
invariant-loop-high l = record {
  apart : l.low < l.high;
  within : l.high ≤ length l.firsts;
  here : get_or l.firsts l.low 0 ≤ l.k;
  next : l.high < length l.firsts → l.k < get_or l.firsts l.high 0;
}

abbrev pub decreases-loop-high : goal.decreases-loop-high
decreases-loop-high l = l.high - l.low
