use Rattle.std.proofs.Common.{◌≡◌, ◌<◌, List, length, Option, Some, None, ℕ, arith, subst, sym, ◌∙◌}
use Rattle.std.proofs.lemmas.List.{get_or_read}
use Rattle.xv_hold.specs.Tournament.{IsEarliest, NoneReady, place}
use Rattle.xv_hold.proofs.Matches.{earliest, none-ready}
use Rattle.xv_hold.proofs.ready.ReadySlots.first.Goals as goal

pub returns-in-Some-clause-first : goal.returns-in-Some-clause-first
returns-in-Some-clause-first c =
    let some : 0 < c.self.inside.count = omega (arith, c.if-self-eq0.false) in
    let within : 1 < length c.self.inside.places.items = omega (arith, c.self.invariant.size) in
    let there : place c.self.inside.places.items 1 ≡ Some c.in-Some.entry = sym (get_or_read c.self.inside.places.items 1 c.index.result.now within c.index.ensures None) ∙ c.in-Some.is in
    subst (λ (a : List (Option ℕ)). IsEarliest a c.in-Some.entry.slot) c.self.view_is (earliest _ _ _ c.self.invariant some there)

pub returns-in-None-clause-none : goal.returns-in-None-clause-none
returns-in-None-clause-none c =
    let some : 0 < c.self.inside.count = omega (arith, c.if-self-eq0.false) in
    let within : 1 < length c.self.inside.places.items = omega (arith, c.self.invariant.size) in
    let there : place c.self.inside.places.items 1 ≡ None = sym (get_or_read c.self.inside.places.items 1 c.index.result.now within c.index.ensures None) ∙ c.in-None.is in
    subst NoneReady c.self.view_is (none-ready _ _ c.self.invariant there)
