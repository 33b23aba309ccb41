use Rattle.std.proofs.Common.{◌≡◌, ◌+◌, ◌++◌}
use Rattle.xv_job.specs.Written.{job_of}
use Rattle.xv_shared.specs.FirstCrew.{each_below, fresh_guest}
use Rattle.xv_shared.proofs.mustering.push_guests.Given as goal

abbrev pub invariant-loop-guest : goal.invariant-loop-guest
invariant-loop-guest g l = record {
  pushed : l.passes.items ≡ l.initial.passes.items ++ each_below l.guest (fresh_guest (job_of l.job));
  done : l.shares.done.parts + l.guest ≡ l.initial.shares.done.parts;
  queued : l.shares.queued.parts + l.guest ≡ l.initial.shares.queued.parts;
  faulted : l.shares.faulted.parts + l.guest ≡ l.initial.shares.faulted.parts;
  no_done : l.shares.done.amount ≡ 0;
  no_queued : l.shares.queued.amount ≡ 0;
  no_faulted : l.shares.faulted.amount ≡ 0;
  other : l.shares.other ≡ l.initial.shares.other;
}
