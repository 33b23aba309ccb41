-- A message put into its unit's chain, or taken out as the first of it: the links lead on as they should.
use Rattle.std.proofs.Common.{◌≡◌, ◌≢◌, ℕ, ◌<◌, ◌≤◌, ◌⊎◌, List, Option, Some, None, sym, refl, ap, ◌∙◌, arith, inl, inr, ⊎_elim, subst}
use Rattle.std.proofs.lemmas.Bool.{cases_lt, cases_eq}
use Rattle.xv_hold.specs.declared.hold.Held.{Held}
use Rattle.xv_hold.specs.Arrival.{in_slot}
use Rattle.xv_hold.specs.Chains.{link, IsLeastAbove, LeadsAbove}
use Rattle.xv_hold.proofs.Places.{none_or_some}

-- `more` has what `slots` has, and a message in a slot that is free there
pub record IsPut (slots more : List (Option Held)) (slot : ℕ) (g : Held) : Type 0 where
  pub own : in_slot more slot ≡ Some g
  pub empty : in_slot slots slot ≡ None
  pub others : (k : ℕ) → k ≢ slot → in_slot more k ≡ in_slot slots k

pub put-cases : (slots more : List (Option Held)) (slot : ℕ) (g : Held) → IsPut slots more slot g → (k : ℕ) (h : Held) → in_slot more k ≡ Some h
    → ((k ≡ slot) × (h ≡ g)) ⊎ ((k ≢ slot) × (in_slot slots k ≡ Some h))
put-cases slots more slot g p k h is = elim (cases_eq k slot) [
  | inl same ↦ inl (same, let e : Some h ≡ Some g = sym is ∙ ap (in_slot more) same ∙ p.own in cc)
  | inr other ↦ inr (other, sym (p.others k other) ∙ is)
]

pub put-apart : (slots more : List (Option Held)) (slot : ℕ) (g : Held) → IsPut slots more slot g → (k : ℕ) (h : Held) → in_slot slots k ≡ Some h → k ≢ slot
put-apart slots more slot g p k h is same = let e : in_slot slots slot ≡ Some h = ap (in_slot slots) (sym same) ∙ is in let no = p.empty in cc

pub put-keeps : (slots more : List (Option Held)) (slot : ℕ) (g : Held) → IsPut slots more slot g → (k : ℕ) (h : Held) → in_slot slots k ≡ Some h → in_slot more k ≡ Some h
put-keeps slots more slot g p k h is = p.others k (put-apart slots more slot g p k h is) ∙ is

-- where a message of another unit comes to, or goes from, a chain is as it was
pub leads-other : (slots more : List (Option Held)) (slot : ℕ) (g : Held) → IsPut slots more slot g → (unit bound : ℕ) (to : Option ℕ) → g.head.unit.0 ≢ unit
    → LeadsAbove slots unit bound to → LeadsAbove more unit bound to
leads-other slots more slot g p unit bound to other l = record {
  none = λ e k h is own. ⊎_elim
      (λ new. absurd (other (ap (λ x. x.head.unit.0) (sym new.1) ∙ own)))
      (λ old. l.none e k h old.1 own)
      (put-cases slots more slot g p k h is);
  next = λ k e. let n = l.next k e in record {
    held = n.held;
    is_held = put-keeps slots more slot g p k n.held n.is_held;
    of_unit = n.of_unit;
    above = n.above;
    least = λ j h is own up. ⊎_elim
        (λ new. absurd (other (ap (λ x. x.head.unit.0) (sym new.1) ∙ own)))
        (λ old. n.least j h old.1 own up)
        (put-cases slots more slot g p j h is);
  };
}

-- The link behind which a message goes: it leads above a bound, which is the version that was written last or that of
-- a message that is held, and to no version up to that of the message.
pub record IsPlaceOf (slots : List (Option Held)) (links : List (Option ℕ)) (written : ℕ) (g : Held) (at bound : ℕ) : Type 0 where
  pub leads : LeadsAbove slots g.head.unit.0 bound (link links at)
  pub below : bound < g.head.version
  pub beyond : (k : ℕ) (h : Held) → link links at ≡ Some k → in_slot slots k ≡ Some h → g.head.version < h.head.version
  pub held_at : written < bound → (h : Held) × (in_slot slots at ≡ Some h) × (h.head.unit.0 ≡ g.head.unit.0) × (h.head.version ≡ bound)

module _ (slots more : List (Option Held)) (slot : ℕ) (g : Held) (p : IsPut slots more slot g) (links : List (Option ℕ)) (written at bound : ℕ) (b : IsPlaceOf slots links written g at bound) where
  -- that link then leads to the message
  pub leads-new : LeadsAbove more g.head.unit.0 bound (Some slot)
  leads-new = record {
    none = λ e. absurd cc;
    next = λ k e. let same : slot ≡ k = cc in subst (IsLeastAbove more g.head.unit.0 bound) same (record {
      held = g;
      is_held = p.own;
      of_unit = refl;
      above = b.below;
      least = λ j h is own up. ⊎_elim
          (λ new. let one = ap (λ x. x.head.version) new.1 in omega arith)
          (λ old. ⊎_elim
          (λ none. absurd (omega (arith, b.leads.none none j h old.1 own)))
          (λ some. let n = b.leads.next some.0 some.1 in omega (arith, n.least j h old.1 own up, b.beyond some.0 n.held some.1 n.is_held))
          (none_or_some (link links at)))
          (put-cases slots more slot g p j h is);
    });
  }

  -- and the message's link to where that link led
  pub leads-on : LeadsAbove more g.head.unit.0 g.head.version (link links at)
  leads-on = record {
    none = λ e k h is own. ⊎_elim
        (λ new. let one = ap (λ x. x.head.version) new.1 in omega arith)
        (λ old. omega (arith, b.leads.none e k h old.1 own, b.below))
        (put-cases slots more slot g p k h is);
    next = λ k e. let n = b.leads.next k e in record {
      held = n.held;
      is_held = put-keeps slots more slot g p k n.held n.is_held;
      of_unit = n.of_unit;
      above = b.beyond k n.held e n.is_held;
      least = λ j h is own up. ⊎_elim
          (λ new. let one = ap (λ x. x.head.version) new.1 in absurd (omega arith))
          (λ old. n.least j h old.1 own (omega (arith, b.below)))
          (put-cases slots more slot g p j h is);
    };
  }

  -- each other link of the chain leads where it led
  pub leads-same : (other : ℕ) (to : Option ℕ) → LeadsAbove slots g.head.unit.0 other to → other ≢ bound → written ≤ other
      → (bound < other → (k : ℕ) × (h : Held) × (in_slot slots k ≡ Some h) × (h.head.unit.0 ≡ g.head.unit.0) × (h.head.version ≡ other))
      → LeadsAbove more g.head.unit.0 other to
  leads-same other to l apart up held = elim (cases_lt other bound) [
    | inl low ↦
        let at' = b.held_at (omega arith) in
        record {
          none = λ e. absurd (omega (arith, l.none e at at'.0 at'.1 at'.2, at'.3));
          next = λ k e. let n = l.next k e in record {
            held = n.held;
            is_held = put-keeps slots more slot g p k n.held n.is_held;
            of_unit = n.of_unit;
            above = n.above;
            least = λ j h is own above. ⊎_elim
                (λ new. let one = ap (λ x. x.head.version) new.1 in omega (arith, n.least at at'.0 at'.1 at'.2 (omega (arith, at'.3)), at'.3, b.below))
                (λ old. n.least j h old.1 own above)
                (put-cases slots more slot g p j h is);
          };
        }
    | inr not_low ↦
        let high = held (omega arith) in
        let before : g.head.version < other = ⊎_elim
        (λ none. absurd (omega (arith, b.leads.none none high.0 high.1 high.2 high.3, high.4)))
        (λ some. let n = b.leads.next some.0 some.1 in omega (arith, n.least high.0 high.1 high.2 high.3 (omega (arith, high.4)), high.4, b.beyond some.0 n.held some.1 n.is_held))
        (none_or_some (link links at)) in
        record {
          none = λ e k h is own. ⊎_elim
              (λ new. let one = ap (λ x. x.head.version) new.1 in omega arith)
              (λ old. l.none e k h old.1 own)
              (put-cases slots more slot g p k h is);
          next = λ k e. let n = l.next k e in record {
            held = n.held;
            is_held = put-keeps slots more slot g p k n.held n.is_held;
            of_unit = n.of_unit;
            above = n.above;
            least = λ j h is own above. ⊎_elim
                (λ new. let one = ap (λ x. x.head.version) new.1 in absurd (omega arith))
                (λ old. n.least j h old.1 own above)
                (put-cases slots more slot g p j h is);
          };
        }
  ]
