-- A message arrives: the list has it at its end, and the hold keeps what each hold keeps.
use Rattle.std.proofs.Common.{◌≡◌, ◌≢◌, ℕ, ◌+◌, ◌-◌, ◌*◌, ◌^◌, ◌<◌, ◌≤◌, ◌⊎◌, true, cond, List, [], ◌∷◌, ◌++◌, length, map, get_or, set, take, drop, sum, count_by, Some, None, sym, refl, ap, ◌∙◌, arith, ⊎_elim, inl, inr, subst, eq-eqb, ne_eqb}
use Rattle.std.specs.List.{sum_by}
use Rattle.std.proofs.lemmas.List.{same_lists, map-append, map-set, get_or-map, length-map, length_push, take_at, get_or_push, get_or_append_left, get_or-set_same, get_or-set_other, length-set}
use Rattle.std.proofs.lemmas.List.Sums.{sum_by_push, get_or-le-sum_by, sum_by-le, count_by-le-length}
use Rattle.std.proofs.lemmas.List.Elements.{All-from_get_or}
use Rattle.std.proofs.lemmas.Bool.{cases_eq}
use Rattle.std.proofs.Math.Nat.{mul-le-mul_right}
use Rattle.xv_base.specs.Units.{units, size}
use Rattle.xv_base.proofs.Within.{good_within}
use Rattle.xv_slots.specs.Row.{content, put}
use Rattle.xv_hold.specs.declared.hold.Held.{Held}
use Rattle.xv_hold.specs.Messages.{Message, UnitHead, no_message, is_of, is_version, copies, arrived, last_slot}
use Rattle.xv_hold.specs.Arrival.{in_slot, head_of, slot_of, in_order, message_in}
use Rattle.xv_hold.specs.Chains.{link, IsLastBelow, end_with}
use Rattle.xv_hold.specs.Kept.{State, IsKept, IsHeldIn, messages, seen_of, ready_by, ready_after}
use Rattle.xv_hold.proofs.Places.{ArrivedOnce, slot-found, slot-same, order-at, order-place, order-more}
use Rattle.xv_hold.proofs.FirstReady.{message-at, messages-length}
use Rattle.xv_hold.proofs.Linking.{IsPut, put-cases, put-apart, put-keeps}
use Rattle.xv_hold.proofs.Chained.{IsUnwritten, chained-more}
use Rattle.xv_hold.proofs.Ends.{ended-more}

-- two functions that agree on the items of a list
pub map-same : {X : Type 0} (f g : ℕ → X) (xs : List ℕ) → ((j : ℕ) → j < length xs → f (get_or xs j 0) ≡ g (get_or xs j 0)) → map f xs ≡ map g xs
map-same f g xs same = same_lists (map f xs) (map g xs) (length-map xs f ∙ sym (length-map xs g))
    (λ j d l.
    let in' : j < length xs = omega (arith, length-map xs f) in
    get_or-map f xs j 0 d in' ∙ same j in' ∙ sym (get_or-map g xs j 0 d in'))

pub unwritten : (s : State) → IsKept s → IsUnwritten s.slots s.applied
unwritten s h = record { above = λ k g is. (h.held_in k g is).unwritten; once = h.version_once }

-- the message that arrives, and the state after it
abbrev pub arriving : State → UnitHead → Held
arriving s head = record { head = head; arrival = s.arrivals }

abbrev pub arrived_state : State → ℕ → List ℕ → ℕ → UnitHead → List ℕ → State
arrived_state s slot free at head bytes = record s {
  slots = set s.slots slot (Some (arriving s head));
  links = set (set s.links slot (link s.links at)) at (Some slot);
  ends = set s.ends head.unit.0 (end_with slot (link s.links at) (link s.ends head.unit.0));
  row = put s.row slot bytes;
  ready = set s.ready slot (ready_after (get_or s.applied head.unit.0 0) (Some (arriving s head)));
  free = free;
  counts = set s.counts head.unit.0 (get_or s.counts head.unit.0 0 + 1);
  arrivals = s.arrivals + 1;
}

-- the slot was free, the place was found by a walk, and the message may come
pub record Arrives (s : State) (slot : ℕ) (free : List ℕ) (at : ℕ) (head : UnitHead) (bytes : List ℕ) : Type 0 where
  pub popped : s.free ≡ free ++ slot ∷ []
  pub place : IsLastBelow s.slots s.links head.unit.0 head.version at
  pub unit_in : head.unit.0 < units s.shape
  pub whole : length bytes ≡ size s.shape head.unit.0
  pub unwritten : get_or s.applied head.unit.0 0 < head.version
  pub not_held : copies (seen_of s) head.unit.0 head.version ≡ 0

-- the slot that was taken is one of the slots, and free
popped-slot : (s : State) (slot : ℕ) (free : List ℕ) → s.free ≡ free ++ slot ∷ [] → (length free < length s.free) × (get_or s.free (length free) 0 ≡ slot)
popped-slot s slot free is = (omega (arith, ap length is, length_push free slot), ap (λ xs. get_or xs (length free) 0) is ∙ get_or_push free slot 0 (length free) refl)

pub popped-in : (s : State) → IsKept s → (slot : ℕ) (free : List ℕ) → s.free ≡ free ++ slot ∷ [] → slot < s.limit
popped-in s h slot free is = let p = popped-slot s slot free is in subst (λ k. k < s.limit) p.1 (h.free_in (length free) p.0)

popped-empty : (s : State) → IsKept s → (slot : ℕ) (free : List ℕ) → s.free ≡ free ++ slot ∷ [] → in_slot s.slots slot ≡ None
popped-empty s h slot free is = let p = popped-slot s slot free is in subst (λ k. in_slot s.slots k ≡ None) p.1 (h.free_empty (length free) p.0)

-- no message of the version is in a slot where the list has none
pub none-held : (s : State) → IsKept s → (unit version : ℕ) → copies (seen_of s) unit version ≡ 0
    → (k : ℕ) (g : Held) → in_slot s.slots k ≡ Some g → g.head.unit.0 ≡ unit → g.head.version ≢ version
none-held s h unit version none k g is own same =
    let at = order-place s.slots h.arrived_once s.arrivals k g 0 is (h.held_in k g is).numbered in
    let j : ℕ = length (in_order s.slots g.arrival) in
    let test : Message → ℕ = λ m. cond (is_version unit version m.head) 1 0 in
    let head : (get_or (messages s) j no_message).head ≡ g.head = ap (λ m. m.head) (message-at s j at.0) ∙ ap (λ i. head_of (in_slot s.slots i)) at.1 ∙ ap head_of is in
    let passes : is_version unit version g.head ≡ true = rw (eq-eqb g.head.unit.0 unit own, eq-eqb g.head.version version same) refl in
    let one : test (get_or (messages s) j no_message) ≡ 1 = ap (λ x. cond (is_version unit version x) 1 0) head ∙ ap (λ b. cond b 1 0) passes in
    omega (arith, get_or-le-sum_by test (messages s) j no_message (omega (arith, at.0, messages-length s)))

module _ (s : State) (h : IsKept s) (slot : ℕ) (free : List ℕ) (at : ℕ) (head : UnitHead) (bytes : List ℕ) (a : Arrives s slot free at head bytes) where
  slot_in : slot < length s.slots
  slot_in = omega (arith, popped-in s h slot free a.popped, h.slot_each)

  put-in : IsPut s.slots (arrived_state s slot free at head bytes).slots slot (arriving s head)
  put-in = record {
    own = get_or-set_same s.slots slot (Some (arriving s head)) None slot_in;
    empty = popped-empty s h slot free a.popped;
    others = λ k other. get_or-set_other s.slots slot k (Some (arriving s head)) None other;
  }

  cases : (k : ℕ) (g : Held) → in_slot (arrived_state s slot free at head bytes).slots k ≡ Some g → ((k ≡ slot) × (g ≡ arriving s head)) ⊎ ((k ≢ slot) × (in_slot s.slots k ≡ Some g))
  cases = put-cases s.slots (arrived_state s slot free at head bytes).slots slot (arriving s head) put-in

  arrived-once : ArrivedOnce (arrived_state s slot free at head bytes).slots
  arrived-once k j g f is there same = ⊎_elim
      (λ new. ⊎_elim
      (λ new'. new.0 ∙ sym new'.0)
      (λ old. let own = ap (λ x. x.arrival) new.1 in absurd (omega (arith, (h.held_in j f old.1).numbered)))
      (cases j f there))
      (λ old. ⊎_elim
      (λ new'. let own = ap (λ x. x.arrival) new'.1 in absurd (omega (arith, (h.held_in k g old.1).numbered)))
      (λ old'. h.arrived_once k j g f old.1 old'.1 same)
      (cases j f there))
      (cases k g is)

  not-held : (k : ℕ) (g : Held) → in_slot s.slots k ≡ Some g → g.head.unit.0 ≡ head.unit.0 → g.head.version ≢ head.version
  not-held = none-held s h head.unit.0 head.version a.not_held

  version-once : (k j : ℕ) (g f : Held) → in_slot (arrived_state s slot free at head bytes).slots k ≡ Some g → in_slot (arrived_state s slot free at head bytes).slots j ≡ Some f
      → g.head.unit.0 ≡ f.head.unit.0 → g.head.version ≡ f.head.version → k ≡ j
  version-once k j g f is there unit version = ⊎_elim
      (λ new. ⊎_elim
      (λ new'. new.0 ∙ sym new'.0)
      (λ old. absurd (not-held j f old.1 (sym unit ∙ ap (λ x. x.head.unit.0) new.1) (sym version ∙ ap (λ x. x.head.version) new.1)))
      (cases j f there))
      (λ old. ⊎_elim
      (λ new'. absurd (not-held k g old.1 (unit ∙ ap (λ x. x.head.unit.0) new'.1) (version ∙ ap (λ x. x.head.version) new'.1)))
      (λ old'. h.version_once k j g f old.1 old'.1 unit version)
      (cases j f there))
      (cases k g is)

  -- the slots in order of arrival, with the new one last
  before-same : (m : ℕ) → m < s.arrivals → slot_of (arrived_state s slot free at head bytes).slots m ≡ slot_of s.slots m
  before-same m l = slot-same s.slots (arrived_state s slot free at head bytes).slots m h.arrived_once arrived-once
      (λ k g is _. put-keeps s.slots (arrived_state s slot free at head bytes).slots slot (arriving s head) put-in k g is)
      (λ k g is own. ⊎_elim (λ new. let one = ap (λ x. x.arrival) new.1 in absurd (omega arith)) (λ old. old.1) (cases k g is))

  order : in_order (arrived_state s slot free at head bytes).slots (s.arrivals + 1) ≡ in_order s.slots s.arrivals ++ slot ∷ []
  order = order-more s.slots (arrived_state s slot free at head bytes).slots s.arrivals slot before-same
      (slot-found (arrived_state s slot free at head bytes).slots arrived-once s.arrivals slot (arriving s head) put-in.own refl)

  -- the messages, with the new one last
  old-message : (k : ℕ) (g : Held) → in_slot s.slots k ≡ Some g → message_in s.shape (put s.row slot bytes) (arrived_state s slot free at head bytes).slots k ≡ message_in s.shape s.row s.slots k
  old-message k g is =
      let other = put-apart s.slots (arrived_state s slot free at head bytes).slots slot (arriving s head) put-in k g is in
      ap (λ o. record { slot = k; head = head_of o; content = take (size s.shape (head_of o).unit.0) (content (put s.row slot bytes) k) }) (put-in.others k other)
      ∙ ap (λ c. record { slot = k; head = head_of (in_slot s.slots k); content = take (size s.shape (head_of (in_slot s.slots k)).unit.0) c }) (get_or-set_other s.row.slots slot k _ [] other)

  new-content : take (size s.shape head.unit.0) (content (put s.row slot bytes) slot) ≡ bytes
  new-content =
      ap (λ n. take n (content (put s.row slot bytes) slot)) (sym a.whole)
      ∙ ap (take (length bytes)) (get_or-set_same s.row.slots slot _ [] (omega (arith, slot_in, h.slot_each, h.row_each)))
      ∙ take_at bytes (drop (length bytes) (content s.row slot)) (length bytes) refl

  new-message : message_in s.shape (put s.row slot bytes) (arrived_state s slot free at head bytes).slots slot ≡ record { slot = slot; head = head; content = bytes }
  new-message =
      ap (λ o. record { slot = slot; head = head_of o; content = take (size s.shape (head_of o).unit.0) (content (put s.row slot bytes) slot) }) put-in.own
      ∙ ap (λ c. record { slot = slot; head = head; content = c }) new-content

  pub messages-more : messages (arrived_state s slot free at head bytes) ≡ messages s ++ record { slot = slot; head = head; content = bytes } ∷ []
  messages-more =
      let one : ℕ → Message = message_in s.shape (put s.row slot bytes) (arrived_state s slot free at head bytes).slots in
      ap (map one) order
      ∙ map-append one (in_order s.slots s.arrivals) (slot ∷ [])
      ∙ ap (λ ms. ms ++ one slot ∷ []) (map-same one (message_in s.shape s.row s.slots) (in_order s.slots s.arrivals)
      (λ j l. let p = order-at s.slots s.arrivals j 0 l in old-message (get_or (in_order s.slots s.arrivals) j 0) p.held p.is_held))
      ∙ ap (λ m. messages s ++ m ∷ []) new-message

  counts-more : (u : ℕ) → get_or (arrived_state s slot free at head bytes).counts u 0 ≡ count_by (λ m. is_of u m.head) (messages (arrived_state s slot free at head bytes))
  counts-more u =
      let of_message : Message → ℕ = λ m. cond (is_of u m.head) 1 0 in
      let new : Message = record { slot = slot; head = head; content = bytes } in
      let listed = sum_by_push of_message (messages s) new in
      let before : get_or s.counts u 0 ≡ sum_by of_message (messages s) = h.counted u in
      let all : sum_by of_message (messages (arrived_state s slot free at head bytes)) ≡ sum_by of_message (messages s ++ new ∷ []) = ap (sum_by of_message) messages-more in
      elim (cases_eq u head.unit.0) [
        | inl own ↦
            let one : of_message new ≡ 1 = rw (eq-eqb head.unit.0 u (sym own)) refl in
            let now : get_or (set s.counts head.unit.0 (get_or s.counts head.unit.0 0 + 1)) u 0 ≡ get_or s.counts u 0 + 1 =
            ap (λ w. get_or (set s.counts head.unit.0 (get_or s.counts head.unit.0 0 + 1)) w 0) own
            ∙ get_or-set_same s.counts head.unit.0 _ 0 (omega (arith, a.unit_in, h.count_each))
            ∙ ap (λ w. get_or s.counts w 0 + 1) (sym own) in
            omega arith
        | inr other ↦
            let none : of_message new ≡ 0 = rw (ne_eqb head.unit.0 u (λ e. other (sym e))) refl in
            let now : get_or (set s.counts head.unit.0 (get_or s.counts head.unit.0 0 + 1)) u 0 ≡ get_or s.counts u 0 = get_or-set_other s.counts head.unit.0 u _ 0 other in
            omega arith
      ]

  ready-more : (arrived_state s slot free at head bytes).ready ≡ map (ready_by s.applied) (arrived_state s slot free at head bytes).slots
  ready-more =
      ap (λ r. set r slot (ready_after (get_or s.applied head.unit.0 0) (Some (arriving s head)))) h.ready_are
      ∙ sym (map-set (ready_by s.applied) s.slots slot (Some (arriving s head)))

  free-same : (i : ℕ) → i < length free → get_or s.free i 0 ≡ get_or free i 0
  free-same i l = ap (λ xs. get_or xs i 0) a.popped ∙ get_or_append_left free (slot ∷ []) 0 i l

  free-more : length s.free ≡ length free + 1
  free-more = ap length a.popped ∙ length_push free slot

  free-apart : (i : ℕ) → i < length free → get_or free i 0 ≢ slot
  free-apart i l same =
      let p = popped-slot s slot free a.popped in
      let one = h.free_once i (length free) (omega (arith, free-more)) p.0 (free-same i l ∙ same ∙ sym p.1) in
      omega arith

  length-more : length (messages (arrived_state s slot free at head bytes)) ≡ length (messages s) + 1
  length-more = ap length messages-more ∙ length_push (messages s) (record { slot = slot; head = head; content = bytes })

  held-more : (k : ℕ) (g : Held) → in_slot (arrived_state s slot free at head bytes).slots k ≡ Some g → IsHeldIn (arrived_state s slot free at head bytes) g
  held-more k g is = ⊎_elim
      (λ new. subst (IsHeldIn (arrived_state s slot free at head bytes)) (sym new.1) (record { unit_in = a.unit_in; unwritten = a.unwritten; numbered = omega arith }))
      (λ old. let in' = h.held_in k g old.1 in record { unit_in = in'.unit_in; unwritten = in'.unwritten; numbered = omega (arith, in'.numbered) })
      (cases k g is)

  pub arrived-kept : IsKept (arrived_state s slot free at head bytes)
  arrived-kept = record {
    good = h.good;
    small = h.small;
    slot_each = length-set s.slots slot (Some (arriving s head)) ∙ h.slot_each;
    link_each = length-set (set s.links slot (link s.links at)) at (Some slot) ∙ length-set s.links slot (link s.links at) ∙ h.link_each;
    end_each = length-set s.ends head.unit.0 _ ∙ h.end_each;
    row_each = length-set s.row.slots slot _ ∙ h.row_each;
    width = h.width;
    applied_each = h.applied_each;
    recorded_each = h.recorded_each;
    count_each = length-set s.counts head.unit.0 _ ∙ h.count_each;
    versions = h.versions;
    held_in = held-more;
    arrived_once = arrived-once;
    version_once = version-once;
    chained = chained-more s.slots (arrived_state s slot free at head bytes).slots slot (arriving s head) put-in (length-set s.slots slot (Some (arriving s head)))
        s.links s.applied h.chained (omega (arith, h.link_each, h.slot_each, h.applied_each)) (omega (arith, a.unit_in, h.applied_each)) slot_in (unwritten s h) at a.place a.unwritten not-held;
    ended = λ u in'. ended-more s.slots (arrived_state s slot free at head bytes).slots slot (arriving s head) put-in (length-set s.slots slot (Some (arriving s head)))
        s.links s.applied h.chained (omega (arith, h.link_each, h.slot_each, h.applied_each)) (omega (arith, a.unit_in, h.applied_each)) slot_in (unwritten s h) at a.place
        s.ends (omega (arith, h.end_each, h.applied_each)) u (h.ended u in');
    ready_are = ready-more;
    free_in = λ i l. subst (λ k. k < s.limit) (free-same i l) (h.free_in i (omega (arith, free-more)));
    free_empty = λ i l.
        put-in.others (get_or free i 0) (free-apart i l)
        ∙ subst (λ k. in_slot s.slots k ≡ None) (free-same i l) (h.free_empty i (omega (arith, free-more)));
    free_once = λ i j l m same. h.free_once i j (omega (arith, free-more)) (omega (arith, free-more)) (free-same i l ∙ same ∙ sym (free-same j m));
    others_held = omega (arith, h.others_held, free-more, length-more);
    arrivals_are = omega (arith, h.arrivals_are, length-more);
    counted = counts-more;
  }

-- the last message is the one that arrived
pub seen-more : (s : State) (h : IsKept s) (slot : ℕ) (free : List ℕ) (at : ℕ) (head : UnitHead) (bytes : List ℕ) → Arrives s slot free at head bytes
    → seen_of (arrived_state s slot free at head bytes) ≡ arrived (seen_of s) (last_slot (seen_of (arrived_state s slot free at head bytes))) head bytes
seen-more s h slot free at head bytes a =
    let new : Message = record { slot = slot; head = head; content = bytes } in
    let more = messages-more s h slot free at head bytes a in
    let last : last_slot (seen_of (arrived_state s slot free at head bytes)) ≡ slot =
    ap (λ ms. (get_or ms (length ms - 1) no_message).slot) more
    ∙ ap (λ m. m.slot) (get_or_push (messages s) new no_message (length (messages s ++ new ∷ []) - 1) (omega (arith, length_push (messages s) new))) in
    rw last (ap (λ ms. record (seen_of s) { messages = ms }) more)

-- the number of arrivals has room for one more
pub arrivals-fit : (s : State) → IsKept s → length (messages s) < s.limit → s.arrivals + 1 < 2 ^ 64
arrivals-fit s h room =
    let few : length s.applied ≤ 2 ^ 20 = omega (arith, h.applied_each, (good_within s.shape h.good).few_units) in
    let all : sum s.applied ≤ length s.applied * 2 ^ 32 = sum_by-le (λ x. x) (2 ^ 32) s.applied (All-from_get_or (λ x. x ≤ 2 ^ 32) s.applied 0 (λ i _. omega (arith, h.versions i))) in
    let most : length s.applied * 2 ^ 32 ≤ 2 ^ 20 * 2 ^ 32 = mul-le-mul_right {m = length s.applied} {n = 2 ^ 20} (2 ^ 32) few in
    omega (arith, h.arrivals_are, h.small)

-- as has the count of each unit
pub count-fits : (s : State) → IsKept s → length (messages s) < s.limit → (u : ℕ) → get_or s.counts u 0 + 1 < 2 ^ 32
count-fits s h room u =
    let few = count_by-le-length (λ m. is_of u m.head) (messages s) in
    omega (arith, h.counted u, h.small)
