use Rattle.std.proofs.Common.{◌≡◌, ◌≢◌, ◌++◌, List, All, length, ap, sym, subst, ◌∙◌}
use Rattle.xv_handover.specs.declared.message.Reply.{Reply}
use Rattle.xv_handover.specs.declared.message.Reply.TheVariants.{Failed}
use Rattle.xv_handover.specs.World.{first_world, replies}
use Rattle.xv_handover.proofs.Told.{all_told, length-replies}
use Rattle.xv_top.proofs.handover.hand_over.Goals as goal

pub write_world-requires-clause-one_each : goal.write_world-requires-clause-one_each
write_world-requires-clause-one_each g c =
    let told : c.deref.result.now ≡ replies first_world c.args.events.now = c.deref.ensures.value ∙ (c.in-Ok.ensures.replies ∙ ap (λ (rs : List Reply). rs ++ replies first_world c.args.events.now) c.new-replies.ensures.items) in
    ap (λ (rs : List Reply). length rs) told ∙ length-replies first_world c.args.events.now

pub write_world-requires-clause-told : goal.write_world-requires-clause-told
write_world-requires-clause-told g c =
    let told : c.deref.result.now ≡ replies first_world c.args.events.now = c.deref.ensures.value ∙ (c.in-Ok.ensures.replies ∙ ap (λ (rs : List Reply). rs ++ replies first_world c.args.events.now) c.new-replies.ensures.items) in
    subst (λ (rs : List Reply). All (λ r. r ≢ Failed) rs) (sym told) (all_told first_world c.args.events.now)
