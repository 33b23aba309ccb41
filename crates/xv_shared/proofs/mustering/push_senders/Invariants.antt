use Rattle.std.proofs.Common.{◌≡◌, ◌+◌, ◌++◌}
use Rattle.xv_report.specs.declared.counts.Job1.TheVariants.{Sender}
use Rattle.xv_shared.specs.FirstCrew.{each_below, fresh}
use Rattle.xv_shared.proofs.mustering.push_senders.Given as goal

abbrev pub invariant-loop-stream : goal.invariant-loop-stream
invariant-loop-stream g l = record {
  pushed : l.passes.items ≡ l.initial.passes.items ++ each_below l.stream (λ k. fresh (Sender k));
  parts : l.share.parts + l.stream ≡ l.initial.share.parts;
  none : l.share.amount ≡ 0;
}
