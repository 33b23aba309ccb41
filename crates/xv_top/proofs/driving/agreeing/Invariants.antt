use Rattle.std.proofs.Common.{◌≡◌, ◌+◌, ◌-◌, ◌≤◌}
use Rattle.std.specs.Prelude.{count_by}
use Rattle.std.specs.List.{range_with_len}
use Rattle.xv_base.specs.Units.{units}
use Rattle.xv_top.specs.Driven.{agreeing}
use Rattle.xv_top.proofs.Agreeing.{agrees}
use Rattle.xv_top.proofs.driving.agreeing.Given as goal

abbrev pub invariant-loop-unit : goal.invariant-loop-unit
invariant-loop-unit l = record {
  left : l.count + count_by (agrees l.device.contents l.plain.contents) (range_with_len l.unit (units l.device.shape - l.unit)) ≡ agreeing (units l.device.shape) l.device.contents l.plain.contents;
  few : l.count ≤ l.unit;
}
