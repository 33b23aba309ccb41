-- A message more is laid into a slot of its own, and the others stay as they lie.
use Rattle.std.proofs.Common.{◌≡◌, ◌≢◌, ℕ, ◌+◌, ◌-◌, ◌<◌, ◌≤◌, ◌==◌, ◌⊎◌, cond, List, [], ◌∷◌, ◌++◌, length, set, take, drop, map, sym, refl, ap, ◌∙◌, arith, inl, inr, ⊎_elim, eq-eqb, ne_eqb}
use Rattle.std.proofs.lemmas.List.{map-append, same_lists, get_or-map, length-map, length_push, take_at, get_or_push, get_or_append_left, get_or-set_same, get_or-set_other, length-set, get_or-drop, length-drop}
use Rattle.std.proofs.lemmas.Bool.{cases_lt, cases_eq}
use Rattle.xv_base.specs.Units.{Shape, units, size}
use Rattle.xv_base.proofs.Partition.{has_greatest_size}
use Rattle.xv_slots.specs.Row.{Row, content, put}
use Rattle.xv_outbox.specs.declared.outbox.Queued.{Queued}
use Rattle.xv_outbox.specs.Places.{message_of, messages_of, no_entry, entry, IsBefore, IsLaid}

-- a unit's content fits a slot
pub size-fits : (s : Shape) (limit : ℕ) (queue : List Queued) (capacity : ℕ) (row : Row) (next : ℕ) (issued : List ℕ)
    → IsLaid s limit queue capacity row next issued → (unit : ℕ) → unit < units s → size s unit ≤ row.width
size-fits s limit queue capacity row next issued h unit u = omega (arith, (has_greatest_size s h.good).most unit u, h.width)

-- the next slot is none of those before it
not-next : (n next back slot : ℕ) → 0 < back → back < n → IsBefore n next back slot → slot ≢ next
not-next n next back slot p q h same = ⊎_elim (λ e. omega arith) (λ e. omega arith) h

-- one step on round the slots
abbrev following : ℕ → ℕ → ℕ
following n slot = cond (slot + 1 == n) 0 (slot + 1)

following-in : (n slot : ℕ) → slot < n → following n slot < n
following-in n slot h = elim (cases_eq (slot + 1) n) [
  | inl e ↦ rw (eq-eqb (slot + 1) n e) (omega arith)
  | inr e ↦ rw (ne_eqb (slot + 1) n e) (omega arith)
]

-- the slots before the next one are then one place more before the one that follows it
step-back : (n next back slot : ℕ) → next < n → slot < n → back < n → IsBefore n next back slot → IsBefore n (following n next) (back + 1) slot
step-back n next back slot h l b is = elim (cases_eq (next + 1) n) [
  | inl e ↦ rw (eq-eqb (next + 1) n e) (⊎_elim (λ a. inr (omega arith)) (λ a. absurd (omega arith)) is)
  | inr e ↦ rw (ne_eqb (next + 1) n e) (⊎_elim (λ a. inl (omega arith)) (λ a. inr (omega arith)) is)
]

itself : (n next : ℕ) → next < n → IsBefore n (following n next) 1 next
itself n next h = elim (cases_eq (next + 1) n) [
  | inl e ↦ rw (eq-eqb (next + 1) n e) (inr (omega arith))
  | inr e ↦ rw (ne_eqb (next + 1) n e) (inl refl)
]

-- the entries after one more
old-entry : (queue : List Queued) (q : Queued) (i : ℕ) → i < length queue → entry (queue ++ q ∷ []) i ≡ entry queue i
old-entry queue q i h = get_or_append_left queue (q ∷ []) no_entry i h

new-entry : (queue : List Queued) (q : Queued) (i : ℕ) → i ≡ length queue → entry (queue ++ q ∷ []) i ≡ q
new-entry queue q i h = get_or_push queue q no_entry i (sym h)

last-or-old : (queue : List Queued) (q : Queued) (i : ℕ) → i < length (queue ++ q ∷ []) → (i < length queue) ⊎ (i ≡ length queue)
last-or-old queue q i h = elim (cases_lt i (length queue)) [ inl l ↦ inl l | inr g ↦ inr (omega (arith, length_push queue q)) ]

pub laid-made : (s : Shape) (limit : ℕ) (queue : List Queued) (capacity : ℕ) (row : Row) (next : ℕ) (issued : List ℕ)
    → IsLaid s limit queue capacity row next issued → length queue < limit
    → (q : Queued) → q.slot ≡ next → q.head.unit.0 < units s → (bytes : List ℕ) (unit version : ℕ)
    → IsLaid s limit (queue ++ q ∷ []) capacity (put row next bytes) (following limit next) (set issued unit version)
laid-made s limit queue capacity row next issued h room q at in' bytes unit version =
    let there : next < limit = h.next_in (omega arith) in
    record {
      good = h.good;
      small = h.small;
      reserved = h.reserved;
      within = omega (arith, length_push queue q);
      slots = length-set row.slots next _ ∙ h.slots;
      width = h.width;
      per_unit = length-set issued unit version ∙ h.per_unit;
      next_in = λ _. following-in limit next there;
      units_in = λ i l. ⊎_elim
          (λ old. rw (old-entry queue q i old) (h.units_in i old))
          (λ last. rw (new-entry queue q i last) in')
          (last-or-old queue q i l);
      slots_in = λ i l. ⊎_elim
          (λ old. rw (old-entry queue q i old) (h.slots_in i old))
          (λ last. rw (new-entry queue q i last, at) there)
          (last-or-old queue q i l);
      in_turn = λ i l. ⊎_elim
          (λ old.
          let back : length (queue ++ q ∷ []) - i ≡ length queue - i + 1 = omega (arith, length_push queue q) in
          let few : length queue - i < limit = omega arith in
          rw (old-entry queue q i old, back) (step-back limit next (length queue - i) (entry queue i).slot there (h.slots_in i old) few (h.in_turn i old)))
          (λ last.
          let back : length (queue ++ q ∷ []) - i ≡ 1 = omega (arith, length_push queue q) in
          rw (new-entry queue q i last, back, at) (itself limit next there))
          (last-or-old queue q i l);
    }

pub laid-taken : (s : Shape) (limit : ℕ) (queue : List Queued) (capacity : ℕ) (row : Row) (next : ℕ) (issued : List ℕ)
    → IsLaid s limit queue capacity row next issued → 0 < length queue → IsLaid s limit (drop 1 queue) capacity row next issued
laid-taken s limit queue capacity row next issued h some = record {
  good = h.good;
  small = h.small;
  reserved = h.reserved;
  within = omega (arith, length-drop 1 queue);
  slots = h.slots;
  width = h.width;
  per_unit = h.per_unit;
  next_in = h.next_in;
  units_in = λ i l. rw (get_or-drop 1 queue i no_entry) (h.units_in (1 + i) (omega (arith, length-drop 1 queue)));
  slots_in = λ i l. rw (get_or-drop 1 queue i no_entry) (h.slots_in (1 + i) (omega (arith, length-drop 1 queue)));
  in_turn = λ i l.
      let back : length (drop 1 queue) - i ≡ length queue - (1 + i) = omega (arith, length-drop 1 queue) in
      rw (get_or-drop 1 queue i no_entry, back) (h.in_turn (1 + i) (omega (arith, length-drop 1 queue)));
}

-- what was laid into the next slot, and what lies in the others
own-content : (row : Row) (next : ℕ) (bytes : List ℕ) → next < length row.slots → take (length bytes) (content (put row next bytes) next) ≡ bytes
own-content row next bytes h =
    ap (take (length bytes)) (get_or-set_same row.slots next _ [] h) ∙ take_at bytes (drop (length bytes) (content row next)) (length bytes) refl

pub messages-made : (s : Shape) (limit : ℕ) (queue : List Queued) (capacity : ℕ) (row : Row) (next : ℕ) (issued : List ℕ)
    → IsLaid s limit queue capacity row next issued → length queue < limit
    → (q : Queued) → q.slot ≡ next → (bytes : List ℕ) → length bytes ≡ size s q.head.unit.0
    → messages_of s (put row next bytes) (queue ++ q ∷ []) ≡ messages_of s row queue ++ record { head = q.head; content = bytes } ∷ []
messages-made s limit queue capacity row next issued h room q at bytes whole =
    let there : next < limit = h.next_in (omega arith) in
    let others : map (message_of s (put row next bytes)) queue ≡ map (message_of s row) queue = same_lists _ _
    (length-map queue (message_of s (put row next bytes)) ∙ sym (length-map queue (message_of s row)))
    (λ i d l.
    let old : i < length queue = omega (arith, length-map queue (message_of s (put row next bytes))) in
    let apart = not-next limit next (length queue - i) (entry queue i).slot (omega arith) (omega arith) (h.in_turn i old) in
    get_or-map (message_of s (put row next bytes)) queue i no_entry d old
    ∙ ap (λ c. record { head = (entry queue i).head; content = take (size s (entry queue i).head.unit.0) c }) (get_or-set_other row.slots next (entry queue i).slot _ [] apart)
    ∙ sym (get_or-map (message_of s row) queue i no_entry d old)) in
    let own : take (size s q.head.unit.0) (content (put row next bytes) q.slot) ≡ bytes =
    ap (λ n. take n (content (put row next bytes) q.slot)) (sym whole)
    ∙ ap (λ k. take (length bytes) (content (put row next bytes) k)) at
    ∙ own-content row next bytes (omega (arith, h.slots)) in
    map-append (message_of s (put row next bytes)) queue (q ∷ [])
    ∙ ap (λ ms. ms ++ message_of s (put row next bytes) q ∷ []) others
    ∙ ap (λ c. messages_of s row queue ++ record { head = q.head; content = c } ∷ []) own
