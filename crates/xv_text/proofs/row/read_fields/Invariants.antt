use Rattle.xv_text.proofs.Rows.{IsReadTo}
use Rattle.xv_text.proofs.row.read_fields.Given as goal

abbrev pub invariant-loop-kind : goal.invariant-loop-kind
invariant-loop-kind l = IsReadTo l.kinds l.args l.kind-index l.row l.fault l.rest
