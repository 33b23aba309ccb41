use Rattle.std.proofs.Common.{rules, ◌≡◌, ◌*◌, replicate, None}
use Rattle.xv_hold.proofs.Matches.{none-seen}
use Rattle.xv_hold.proofs.ready.ReadySlots.new.Goals as goal

pub returns : goal.returns
returns c =
    let none : c.in-Ok.places.items ≡ replicate (2 * c.args.count) None = search rules in
    none-seen _ _ none
