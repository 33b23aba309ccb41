-- The earliest slot that is ready has the first message, in order of arrival, that is its unit's next version.
use Rattle.std.proofs.Common.{◌≡◌, ℕ, zero, suc, ◌+◌, ◌<◌, ◌≤◌, ◌⊎◌, Bool, true, false, List, length, map, take, get_or, Option, Some, None, sym, refl, ap, ◌∙◌, arith, inl, inr, ⊎_elim}
use Rattle.std.specs.Prelude.{IfNone, IfSome}
use Rattle.std.specs.Option.{option_to_list}
use Rattle.std.proofs.lemmas.List.{get_or-map, get_or_past, length-map, length-append}
use Rattle.std.proofs.lemmas.List.Sums.{position_or_len_is, passes_at_first}
use Rattle.std.proofs.lemmas.Bool.{cases_lt, lt-ltb, le-ltb, ltb-true, eqb-true}
use Rattle.xv_base.specs.Units.{units, size}
use Rattle.xv_base.proofs.Partition.{has_greatest_size}
use Rattle.xv_slots.specs.Row.{content}
use Rattle.xv_hold.specs.declared.hold.Held.{Held}
use Rattle.xv_hold.specs.Tournament.{NoneReady, IsEarliest}
use Rattle.xv_hold.specs.Messages.{Hold, UnitHead, version, no_message, is_next, is_ready, ready_place, ready_message, ready_slot}
use Rattle.xv_hold.specs.Arrival.{in_slot, head_of, slot_of, in_order, message_in}
use Rattle.xv_hold.specs.Kept.{State, IsKept, messages, seen_of, ready_by}
use Rattle.xv_hold.proofs.Places.{order-at, order-place}
use Rattle.xv_hold.proofs.Walk.{held-within}

pub true_or_false : (b : Bool) → (b ≡ true) ⊎ (b ≡ false)
true_or_false true = inl refl
true_or_false false = inr refl

order-grows : (slots : List (Option Held)) (m n : ℕ) → m ≤ n → length (in_order slots m) ≤ length (in_order slots n)
order-grows slots m zero l = let none : m ≡ 0 = omega arith in rw none (omega arith)
order-grows slots m (suc n) l = elim (cases_lt m (suc n)) [
  | inl below ↦ omega (arith, order-grows slots m n (omega arith), length-append (in_order slots n) (option_to_list (slot_of slots n)))
  | inr same ↦ let one : m ≡ suc n = omega arith in rw one (omega arith)
]

-- the number by which a slot is ready
pub ready-at : (s : State) → IsKept s → (k : ℕ) → get_or s.ready k None ≡ ready_by s.applied (in_slot s.slots k)
ready-at s h k = ap (λ r. get_or r k None) h.ready_are ∙ (elim (cases_lt k (length s.slots)) [
  | inl l ↦ get_or-map (ready_by s.applied) s.slots k None None l
  | inr past ↦
      get_or_past (map (ready_by s.applied) s.slots) k None (omega (arith, length-map s.slots (ready_by s.applied)))
      ∙ ap (ready_by s.applied) (sym (get_or_past s.slots k None past))
])

pub ready-next : (s : State) → IsKept s → (k : ℕ) (g : Held) → in_slot s.slots k ≡ Some g → is_next s.applied g.head ≡ true → get_or s.ready k None ≡ Some g.arrival
ready-next s h k g is next = ready-at s h k ∙ ap (ready_by s.applied) is ∙ rw next refl

-- a slot that is ready holds a next version
record IsNextIn (s : State) (k n : ℕ) : Type 0 where
  held : Held
  is_held : in_slot s.slots k ≡ Some held
  next : is_next s.applied held.head ≡ true
  number : held.arrival ≡ n

next-in : (s : State) → IsKept s → (k n : ℕ) (o : Option Held) → in_slot s.slots k ≡ o → ready_by s.applied o ≡ Some n → IsNextIn s k n
next-in s h k n None is by = absurd cc
next-in s h k n (Some g) is by = ⊎_elim
    (λ next. record { held = g; is_held = is; next = next; number = let e : Some g.arrival ≡ Some n = rw next at by in cc })
    (λ other. let e : None ≡ Some n = rw other at by in absurd cc)
    (true_or_false (is_next s.applied g.head))

ready-held : (s : State) → IsKept s → (k n : ℕ) → get_or s.ready k None ≡ Some n → IsNextIn s k n
ready-held s h k n is = next-in s h k n (in_slot s.slots k) refl (sym (ready-at s h k) ∙ is)

-- the message at a place of the order
pub message-at : (s : State) (k : ℕ) → k < length (in_order s.slots s.arrivals) → get_or (messages s) k no_message ≡ message_in s.shape s.row s.slots (get_or (in_order s.slots s.arrivals) k 0)
message-at s k l = get_or-map (message_in s.shape s.row s.slots) (in_order s.slots s.arrivals) k 0 no_message l

pub messages-length : (s : State) → length (messages s) ≡ length (in_order s.slots s.arrivals)
messages-length s = length-map (in_order s.slots s.arrivals) (message_in s.shape s.row s.slots)

next-at : (s : State) (k : ℕ) (g : Held) → k < length (in_order s.slots s.arrivals) → in_slot s.slots (get_or (in_order s.slots s.arrivals) k 0) ≡ Some g
    → is_next s.applied (get_or (messages s) k no_message).head ≡ is_next s.applied g.head
next-at s k g l is = ap (λ m. is_next s.applied m.head) (message-at s k l) ∙ ap (λ o. is_next s.applied (head_of o)) is

-- with none ready no message is a next version
none-next : (s : State) → IsKept s → NoneReady s.ready → ready_slot (seen_of s) ≡ None
none-next s h none =
    let fails : (k : ℕ) → k < length (messages s) → is_next s.applied (get_or (messages s) k no_message).head ≡ false = λ k l.
    let in' : k < length (in_order s.slots s.arrivals) = omega (arith, messages-length s) in
    let p = order-at s.slots s.arrivals k 0 in' in
    next-at s k p.held in' p.is_held
    ∙ ⊎_elim
    (λ next. let is : get_or s.ready (get_or (in_order s.slots s.arrivals) k 0) None ≡ Some p.held.arrival = ready-next s h _ p.held p.is_held next in let no = none (get_or (in_order s.slots s.arrivals) k 0) in absurd cc)
    (λ other. other)
    (true_or_false (is_next s.applied p.held.head)) in
    let all : ready_place (seen_of s) ≡ length (messages s) =
    position_or_len_is (λ m. is_next s.applied m.head) (messages s) (length (messages s)) no_message (omega arith) fails (λ l. absurd (omega arith)) in
    rw (all, le-ltb (length (messages s)) (length (messages s)) (omega arith)) refl

-- The message that is ready: its slot, and its place in order of arrival.
pub record IsReadyIn (s : State) (slot : ℕ) : Type 0 where
  pub held : Held
  pub is_held : in_slot s.slots slot ≡ Some held
  pub next : is_next s.applied held.head ≡ true
  pub place : ready_place (seen_of s) ≡ length (in_order s.slots held.arrival)
  pub within : length (in_order s.slots held.arrival) < length (in_order s.slots s.arrivals)
  pub message : ready_message (seen_of s) ≡ message_in s.shape s.row s.slots slot

-- the earliest slot that is ready
earliest-ready : (s : State) → IsKept s → (slot : ℕ) → IsEarliest s.ready slot → IsReadyIn s slot
earliest-ready s h slot e =
    let own = ready-held s h slot e.arrival e.is_ready in
    let g = own.held in
    let k : ℕ = length (in_order s.slots g.arrival) in
    let at = order-place s.slots h.arrived_once s.arrivals slot g 0 own.is_held (h.held_in slot g own.is_held).numbered in
    let there : in_slot s.slots (get_or (in_order s.slots s.arrivals) k 0) ≡ Some g = ap (in_slot s.slots) at.1 ∙ own.is_held in
    let fails : (j : ℕ) → j < k → is_next s.applied (get_or (messages s) j no_message).head ≡ false = λ j l.
    let in' : j < length (in_order s.slots s.arrivals) = omega (arith, at.0) in
    let p = order-at s.slots s.arrivals j 0 in' in
    let before : p.held.arrival < g.arrival = elim (cases_lt p.held.arrival g.arrival) [
      | inl b ↦ b
      | inr later ↦ absurd (omega (arith, order-grows s.slots g.arrival p.held.arrival later, p.behind))
    ] in
    next-at s j p.held in' p.is_held
    ∙ ⊎_elim
    (λ next. let is : get_or s.ready (get_or (in_order s.slots s.arrivals) j 0) None ≡ Some p.held.arrival = ready-next s h _ p.held p.is_held next in absurd (omega (arith, e.no_earlier _ p.held.arrival is, own.number)))
    (λ other. other)
    (true_or_false (is_next s.applied p.held.head)) in
    let first : ready_place (seen_of s) ≡ k =
    position_or_len_is (λ m. is_next s.applied m.head) (messages s) k no_message (omega (arith, at.0, messages-length s)) fails (λ l. next-at s k g at.0 there ∙ own.next) in
    record {
      held = g;
      is_held = own.is_held;
      next = own.next;
      place = first;
      within = at.0;
      message = ap (λ j. get_or (messages s) j no_message) first ∙ message-at s k at.0 ∙ ap (message_in s.shape s.row s.slots) at.1;
    }

ready-slot-is : (s : State) (slot : ℕ) → IsReadyIn s slot → ready_slot (seen_of s) ≡ Some slot
ready-slot-is s slot r =
    let in' : ready_place (seen_of s) < length (messages s) = omega (arith, r.place, r.within, messages-length s) in
    rw (lt-ltb (ready_place (seen_of s)) (length (messages s)) in') (ap (λ m. Some m.slot) r.message)

earliest-slot : (s : State) → IsKept s → (slot : ℕ) → IsEarliest s.ready slot → ready_slot (seen_of s) ≡ Some slot
earliest-slot s h slot e = ready-slot-is s slot (earliest-ready s h slot e)

-- a slot that is answered as ready
ready-in-range : (s : State) (slot : ℕ) → ready_slot (seen_of s) ≡ Some slot → (ready_place (seen_of s) < length (messages s)) × ((ready_message (seen_of s)).slot ≡ slot)
ready-in-range s slot is = ⊎_elim
    (λ yes. (ltb-true (ready_place (seen_of s)) (length (messages s)) yes, let e : Some (ready_message (seen_of s)).slot ≡ Some slot = rw yes at is in cc))
    (λ no. let e : None ≡ Some slot = rw no at is in absurd cc)
    (true_or_false (is_ready (seen_of s)))

pub ready-in : (s : State) → IsKept s → (slot : ℕ) → ready_slot (seen_of s) ≡ Some slot → IsReadyIn s slot
ready-in s h slot is =
    let at = ready-in-range s slot is in
    let k : ℕ = ready_place (seen_of s) in
    let in' : k < length (in_order s.slots s.arrivals) = omega (arith, at.0, messages-length s) in
    let p = order-at s.slots s.arrivals k 0 in' in
    let message : ready_message (seen_of s) ≡ message_in s.shape s.row s.slots (get_or (in_order s.slots s.arrivals) k 0) = message-at s k in' in
    let own : get_or (in_order s.slots s.arrivals) k 0 ≡ slot = sym (ap (λ m. m.slot) message) ∙ at.1 in
    record {
      held = p.held;
      is_held = ap (in_slot s.slots) (sym own) ∙ p.is_held;
      next = sym (next-at s k p.held in' p.is_held) ∙ passes_at_first (λ m. is_next s.applied m.head) (messages s) no_message at.0;
      place = sym p.behind;
      within = omega (arith, p.behind);
      message = message ∙ ap (message_in s.shape s.row s.slots) own;
    }

-- what the ready slots answer is the slot of the first message that is ready
pub answers : (s : State) → IsKept s → (first : Option ℕ) → IfNone first (NoneReady s.ready) → IfSome first (λ slot. IsEarliest s.ready slot) → first ≡ ready_slot (seen_of s)
answers s h None none some = sym (none-next s h none)
answers s h (Some slot) none some = sym (earliest-slot s h slot some)

-- the head of the message that is ready
pub record IsReadyHead (v : Hold) (head : UnitHead) : Type 0 where
  pub exactly : head ≡ (ready_message v).head
  pub in_range : head.unit.0 < units v.shape
  pub next : head.version ≡ version v head.unit.0 + 1

pub head-is : (s : State) → IsKept s → (slot : ℕ) (g : Held) → ready_slot (seen_of s) ≡ Some slot → in_slot s.slots slot ≡ Some g → IsReadyHead (seen_of s) g.head
head-is s h slot g is there =
    let r = ready-in s h slot is in
    let same : r.held ≡ g = cc in
    record {
      exactly = sym (ap (λ m. m.head) r.message ∙ ap head_of there);
      in_range = (h.held_in slot g there).unit_in;
      next = eqb-true g.head.version (get_or s.applied g.head.unit.0 0 + 1) (ap (λ x. is_next s.applied x.head) (sym same) ∙ r.next);
    }

-- its content lies in its slot
pub content-is : (s : State) → IsKept s → (slot : ℕ) (head : UnitHead) → ready_slot (seen_of s) ≡ Some slot → head ≡ (ready_message (seen_of s)).head
    → take (size s.shape head.unit.0) (content s.row slot) ≡ (ready_message (seen_of s)).content
content-is s h slot head is same =
    let r = ready-in s h slot is in
    let own : head_of (in_slot s.slots slot) ≡ head = sym (ap (λ m. m.head) r.message) ∙ sym same in
    sym (ap (λ m. m.content) r.message ∙ ap (λ (x : UnitHead). take (size s.shape x.unit.0) (content s.row slot)) own)

-- and its slot is one of the row's
pub slot-in-row : (s : State) → IsKept s → (slot : ℕ) → ready_slot (seen_of s) ≡ Some slot → slot < length s.row.slots
slot-in-row s h slot is = let r = ready-in s h slot is in omega (arith, held-within s.slots slot r.held r.is_held, h.slot_each, h.row_each)

pub size-fits : (s : State) → IsKept s → (unit : ℕ) → unit < units s.shape → size s.shape unit ≤ s.row.width
size-fits s h unit in' = omega (arith, (has_greatest_size s.shape h.good).most unit in', h.width)

-- each slot is ready by a number or not
pub ready-length : (s : State) → IsKept s → length s.ready ≡ length s.slots
ready-length s h = ap length h.ready_are ∙ length-map s.slots (ready_by s.applied)
