use Rattle.std.proofs.Common.{◌≡◌, ◌∙◌, ap, arith, sym, subst, length, take, List, ℕ, false, Option}
use Rattle.std.specs.Prelude.{IfSome}
use Rattle.xv_base.specs.Units.{Shape, is_page, size}
use Rattle.xv_base.specs.Pattern.{repeated}
use Rattle.xv_model.specs.Job.{IsLegal}
use Rattle.xv_source.specs.Half.{Source}
use Rattle.xv_source.proofs.Guesting.{whole_block, length_repeated, written_back}
use Rattle.xv_source.proofs.source.SourceHalf.write_mirrored.Goals as goal

pub slice_bounds-bytes-end : goal.slice_bounds-bytes-end
slice_bounds-bytes-end g c =
    let back = written_back c.self.inside.unit.len c.self.inside.unit.items c.operate.new.unit (omega arith) (omega arith) in
    let laid = subst (λ (w : Option (List ℕ)). IfSome w (λ pattern. take c.args.op.now.len c.operate.new.unit ≡ repeated pattern c.args.op.now.len)) c.requires.write c.in-Ok.ensures.laid in
    sym (ap (λ (bytes : List ℕ). length (take c.args.op.now.len bytes)) (c.deref.ensures.value ∙ back) ∙ ap length laid ∙ length_repeated c.args.pattern.now c.args.op.now.len)

pub issue-requires-clause-whole : goal.issue-requires-clause-whole
issue-requires-clause-whole g c =
    let back = written_back c.self.inside.unit.len c.self.inside.unit.items c.operate.new.unit (omega arith) (omega arith) in
    let laid = subst (λ (w : Option (List ℕ)). IfSome w (λ pattern. take c.args.op.now.len c.operate.new.unit ≡ repeated pattern c.args.op.now.len)) c.requires.write c.in-Ok.ensures.laid in
    let block : is_page c.self.inside.layout c.args.op.now.unit.0 ≡ false = subst (λ (h : Source). is_page h.shape c.args.op.now.unit.0 ≡ false) (sym c.self.view_is) c.requires.block in
    let legal = subst (λ (h : Source). IsLegal h.shape c.args.op.now) (sym c.self.view_is) c.requires.legal in
    ap (λ (bytes : List ℕ). length (take c.args.op.now.len bytes)) (c.deref.ensures.value ∙ back) ∙ ap length laid ∙ length_repeated c.args.pattern.now c.args.op.now.len
    ∙ whole_block c.self.inside.layout c.args.op.now c.args.pattern.now legal c.requires.write block
    ∙ ap (λ (s : Shape). size s c.args.op.now.unit.0) (sym c.self.invariant.outbox_of.0)
