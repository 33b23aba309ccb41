use Rattle.std.proofs.Common.{arith, sym, ◌≡◌, ◌<◌, length, subst, ap, ◌∙◌}
use Rattle.xv_base.specs.Units.{units, size}
use Rattle.xv_device.specs.Memory.{Device}
use Rattle.xv_device.specs.Pieces.{piece}
use Rattle.xv_device.specs.Device.{content}
use Rattle.xv_device.proofs.Places.{within}
use Rattle.xv_device.proofs.Pieces.{content-pieces, length-piece}
use Rattle.xv_device.proofs.memory.MemDevice.content.Goals as goal

pub part-requires : goal.part-requires
part-requires c =
    let unit : c.args.unit.0 < units c.self.inside.layout = subst (λ (d : Device). c.args.unit.0 < units d.shape) (sym c.self.view_is) c.requires in
    omega (arith, within _ c.self.invariant.good _ unit, c.self.invariant.all_there, ap length c.deref.ensures.value)

pub returns : goal.returns
returns c =
    let unit : c.args.unit.0 < units c.self.inside.layout = subst (λ (d : Device). c.args.unit.0 < units d.shape) (sym c.self.view_is) c.requires in
    let is : c.part.result.now ≡ piece c.self.inside.layout c.self.inside.bytes.items c.args.unit.0 =
    rw (← c.place-at.ensures.exactly, ← c.size.ensures.exactly, ← c.deref.ensures.value) c.part.ensures in
    subst (λ (d : Device). record { exactly : c.part.result.now ≡ content d.contents c.args.unit.0; full : length c.part.result.now ≡ size d.shape c.args.unit.0 }) c.self.view_is
    (record {
      exactly = is ∙ sym (content-pieces _ _ _ unit);
      full = ap length is ∙ length-piece _ c.self.invariant.good _ _ c.self.invariant.all_there unit;
    })
