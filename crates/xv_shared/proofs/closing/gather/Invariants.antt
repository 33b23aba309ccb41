use Rattle.std.proofs.Common.{◌≡◌, ◌+◌, not, sum_by}
use Rattle.std.specs.Prelude.{count_by, vec_len}
use Rattle.xv_shared.specs.Crews.{is_guest, done, queued, faulted, other}
use Rattle.xv_shared.proofs.closing.gather.Given as goal

-- what was put back, and what is still to be
abbrev pub invariant-loop-pass : goal.invariant-loop-pass
invariant-loop-pass g l = record {
  done_parts : l.shares.done.parts + count_by is_guest l.passes.items ≡ l.initial.shares.done.parts + count_by is_guest l.initial.passes.items;
  queued_parts : l.shares.queued.parts + count_by is_guest l.passes.items ≡ l.initial.shares.queued.parts + count_by is_guest l.initial.passes.items;
  faulted_parts : l.shares.faulted.parts + count_by is_guest l.passes.items ≡ l.initial.shares.faulted.parts + count_by is_guest l.initial.passes.items;
  other_parts : l.shares.other.parts + count_by (λ p. not (is_guest p)) l.passes.items ≡ l.initial.shares.other.parts + count_by (λ p. not (is_guest p)) l.initial.passes.items;
  done_amount : l.shares.done.amount + sum_by done l.passes.items ≡ l.initial.shares.done.amount + sum_by done l.initial.passes.items;
  queued_amount : l.shares.queued.amount + sum_by queued l.passes.items ≡ l.initial.shares.queued.amount + sum_by queued l.initial.passes.items;
  faulted_amount : l.shares.faulted.amount + sum_by faulted l.passes.items ≡ l.initial.shares.faulted.amount + sum_by faulted l.initial.passes.items;
  other_amount : l.shares.other.amount + sum_by other l.passes.items ≡ l.initial.shares.other.amount + sum_by other l.initial.passes.items;
}

abbrev pub decreases-loop-pass : goal.decreases-loop-pass
decreases-loop-pass g l = vec_len l.passes
