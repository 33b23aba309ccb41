use Rattle.std.proofs.Common.{◌≡◌}
use Rattle.xv_source.specs.Making.{made_blocks}
use Rattle.xv_source.proofs.copying.issue_blocks.Given as goal

abbrev pub invariant-loop-i : goal.invariant-loop-i
invariant-loop-i l = l.outbox ≡ made_blocks l.initial.outbox l.first.0 l.at l.region.read l.i
