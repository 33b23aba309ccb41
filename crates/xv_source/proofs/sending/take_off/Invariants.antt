use Rattle.std.proofs.Common.{◌≡◌, ◌-◌}
use Rattle.xv_source.specs.Batches.{outbox_past}
use Rattle.xv_source.proofs.sending.take_off.Given as goal

abbrev pub invariant-loop : goal.invariant-loop
invariant-loop l = record {
  taken : l.outbox ≡ outbox_past l.counter l.initial.outbox;
  paid : l.credit ≡ record l.initial.credit { left = l.initial.credit.left - l.counter };
}
