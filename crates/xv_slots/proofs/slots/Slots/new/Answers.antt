use Rattle.std.proofs.Common.{rules, ◌≡◌, ◌*◌, replicate}
use Rattle.xv_slots.proofs.Rows.{row-zeros}
use Rattle.xv_slots.proofs.slots.Slots.new.Goals as goal

pub returns : goal.returns
returns c =
    let zeros : c.in-Ok.bytes.items ≡ replicate (c.args.count * c.args.width) 0 = search rules in
    row-zeros _ _ _ zeros
