use Rattle.std.proofs.Common.{rules, arith, sym, ◌≡◌, ◌<◌, ◌^◌, ◌++◌, ◌∷◌, [], length, subst}
use Rattle.std.proofs.lemmas.Grind.{common_steps}
use Rattle.xv_guest.specs.Log.{Log}
use Rattle.xv_guest.proofs.Counts.{count_fits, counted-push}
use Rattle.xv_guest.proofs.history.History.push.Goals as goal

pub overflow_add-index_mut : goal.overflow_add-index_mut
overflow_add-index_mut c =
    let guest : c.args.ended.guest.0 < 2 ^ 8 = search rules in
    let room : length c.self.inside.entries.items < c.self.inside.room = subst (λ (v : Log). length v.entries < v.room) (sym c.self.view_is) c.requires in
    let fits = count_fits _ _ _ _ _ _ _ c.self.invariant room guest c.index_mut.ensures.value in
    search rules

pub invariant_of-self : goal.invariant_of-self
invariant_of-self c =
    let guest : c.args.ended.guest.0 < 2 ^ 8 = search rules in
    let room : length c.self.inside.entries.items < c.self.inside.room = subst (λ (v : Log). length v.entries < v.room) (sym c.self.view_is) c.requires in
    let items : c.push_reserved.new.self.items ≡ c.self.inside.entries.items ++ c.args.ended ∷ [] = grind (arith, common_steps) in
    rw items (counted-push _ _ _ _ _ _ c.args.ended _ _ c.self.invariant room c.push_reserved.ensures.capacity guest c.index_mut.ensures.value c.fault_count.ensures)
