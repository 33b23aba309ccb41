use Rattle.std.proofs.Common.{◌++◌, ◌∷◌, [], ap, sym, ◌∙◌, arith}
use Rattle.std.specs.List.{range_with_len}
use Rattle.xv_hold.proofs.Fresh.{range-more}
use Rattle.xv_hold.proofs.hold.all_slots.Goals as goal

pub loop-slot-preserved : goal.loop-slot-preserved
loop-slot-preserved c = record {
  all = c.in-Ok-push.ensures.items
      ∙ ap (λ xs. xs ++ c.loop-slot.slot ∷ []) c.loop-slot.invariant.all
      ∙ ap (λ m. range_with_len 0 c.loop-slot.slot ++ m ∷ []) (omega arith)
      ∙ sym (range-more 0 c.loop-slot.slot);
  room = omega (arith, c.loop-slot.invariant.room, c.in-Ok-push.ensures.capacity);
}
