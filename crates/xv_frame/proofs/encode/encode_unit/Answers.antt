use Rattle.std.proofs.Common.{◌≡◌, ◌++◌, length, drop, sym, ◌∙◌, refl}
use Rattle.xv_frame.specs.Frame.{unit_head}
use Rattle.xv_frame.proofs.ReadHeads.{length-unit-head}
use Rattle.xv_frame.proofs.Putting.{Begins, begins-more}
use Rattle.xv_frame.proofs.encode.encode_unit.Goals as goal

pub returns-clause-spelled : goal.returns-clause-spelled
returns-clause-spelled c =
    let h = c.args.head in
    let z = length c.args.bytes.now in
    let size : c.size.result ≡ z = c.size.ensures.exactly ∙ sym c.requires.whole in
    let old = c.args.into.now in
    let start : Begins old (unit_head h z) c.put_unit_head-at.new.into c.put_unit_head-at.result =
    record {
      long = length-unit-head h z ∙ sym c.put_unit_head-at.ensures.end;
      written = c.put_unit_head-at.ensures.written ∙ (λ i. unit_head h (size i) ++ drop (sym c.put_unit_head-at.ensures.end i) old);
    } in
    (begins-more old _ _ _ c.args.bytes.now _ _ _ start refl c.put.ensures.end c.put.ensures.written).written
