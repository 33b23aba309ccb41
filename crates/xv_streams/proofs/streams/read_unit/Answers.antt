use Rattle.std.proofs.Common.{◌≡◌, ◌-◌, length, drop, ap, ◌∙◌, length-drop}
use Rattle.std.proofs.lemmas.List.{take_at, take_rest}
use Rattle.xv_streams.proofs.streams.read_unit.Goals as goal

pub returns-clause-content : goal.returns-clause-content
returns-clause-content c =
    let frame = c.args.frame.now in
    let copied : c.copy_from_slice.new.self ≡ drop 24 frame = c.copy_from_slice.ensures.after ∙ take_rest frame 24 in
    let long : length c.copy_from_slice.new.self ≡ length frame - 24 = ap length copied ∙ length-drop 24 frame in
    take_at c.copy_from_slice.new.self (drop (length frame - 24) c.args.into.now) (length frame - 24) long ∙ copied
