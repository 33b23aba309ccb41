-- The message that is ready is written and taken out: the list is without it, and the hold keeps what each hold keeps.
use Rattle.std.proofs.Common.{◌≡◌, ◌≢◌, ℕ, ◌+◌, ◌-◌, ◌^◌, ◌<◌, ◌≤◌, ◌⊎◌, ◌==◌, cond, List, [], ◌∷◌, ◌++◌, length, map, get_or, set, take, remove, count_by, Option, Some, None, sym, refl, ap, ◌∙◌, arith, inl, inr, ⊎_elim, subst, eq-eqb, ne_eqb, eqb-true}
use Rattle.std.specs.Prelude.{IfSome}
use Rattle.std.specs.List.{sum_by}
use Rattle.std.proofs.lemmas.List.{ext_get_or, get_or-map, length-map, length_push, get_or_push, get_or_append_left, get_or-set_same, get_or-set_other, length-set}
use Rattle.std.proofs.lemmas.List.Edits.{length-remove}
use Rattle.std.proofs.lemmas.List.Sums.{sum_by-set, sum_by-remove}
use Rattle.std.proofs.lemmas.Bool.{cases_lt, cases_eq}
use Rattle.xv_base.specs.Units.{size}
use Rattle.xv_slots.specs.Row.{content}
use Rattle.xv_hold.specs.declared.hold.Held.{Held}
use Rattle.xv_hold.specs.Messages.{Message, UnitHead, no_message, is_of, ready_place, ready_message, written}
use Rattle.xv_hold.specs.Arrival.{in_slot, head_of, slot_of, in_order, message_in}
use Rattle.xv_hold.specs.Chains.{link, LeadsAbove, end_without}
use Rattle.xv_hold.specs.Kept.{State, IsKept, IsHeldIn, messages, seen_of, ready_by, ready_after, with_next}
use Rattle.xv_hold.proofs.Walk.{held-within}
use Rattle.xv_hold.proofs.Places.{ArrivedOnce, none_or_some, slot-found, slot-none, slot-same, order-at, order-less}
use Rattle.xv_hold.proofs.FirstReady.{IsReadyIn, ready-at, ready-length, messages-length}
use Rattle.xv_hold.proofs.Linking.{IsPut, put-apart, put-keeps}
use Rattle.xv_hold.proofs.Chained.{chained-less}
use Rattle.xv_hold.proofs.Ends.{ended-less}
use Rattle.xv_hold.proofs.Arriving.{map-same, unwritten}
use Rattle.xv_hold.proofs.Heads.{map-remove}

-- the state after the message was written
abbrev pub written_state : State → ℕ → UnitHead → State
written_state s slot head = record s {
  slots = set s.slots slot None;
  links = set s.links (length s.slots + head.unit.0) (link s.links slot);
  ends = set s.ends head.unit.0 (end_without (link s.links slot) (link s.ends head.unit.0));
  ready = with_next (set s.slots slot None) (link s.links slot) head.version (set s.ready slot None);
  free = s.free ++ slot ∷ [];
  applied = set s.applied head.unit.0 head.version;
  recorded = set s.recorded head.unit.0 head.at;
  counts = set s.counts head.unit.0 (get_or s.counts head.unit.0 0 - 1);
}

module _ (s : State) (h : IsKept s) (slot : ℕ) (r : IsReadyIn s slot) (small : r.held.head.version < 2 ^ 32) where
  abbrev g : Held
  g = r.held

  slot_in : slot < length s.slots
  slot_in = held-within s.slots slot g r.is_held

  unit_in : g.head.unit.0 < length s.applied
  unit_in = omega (arith, (h.held_in slot g r.is_held).unit_in, h.applied_each)

  version-is : g.head.version ≡ get_or s.applied g.head.unit.0 0 + 1
  version-is = eqb-true g.head.version (get_or s.applied g.head.unit.0 0 + 1) r.next

  taken : IsPut (written_state s slot g.head).slots s.slots slot g
  taken = record {
    own = r.is_held;
    empty = get_or-set_same s.slots slot None None slot_in;
    others = λ k other. sym (get_or-set_other s.slots slot k None None other);
  }

  kept : (k : ℕ) (f : Held) → in_slot (written_state s slot g.head).slots k ≡ Some f → in_slot s.slots k ≡ Some f
  kept = put-keeps (written_state s slot g.head).slots s.slots slot g taken

  other : (k : ℕ) (f : Held) → in_slot (written_state s slot g.head).slots k ≡ Some f → k ≢ slot
  other = put-apart (written_state s slot g.head).slots s.slots slot g taken

  arrived-once : ArrivedOnce (written_state s slot g.head).slots
  arrived-once k j f e is there same = h.arrived_once k j f e (kept k f is) (kept j e there) same

  -- the versions that were written
  now-own : get_or (set s.applied g.head.unit.0 g.head.version) g.head.unit.0 0 ≡ g.head.version
  now-own = get_or-set_same s.applied g.head.unit.0 g.head.version 0 unit_in

  now-other : (u : ℕ) → u ≢ g.head.unit.0 → get_or (set s.applied g.head.unit.0 g.head.version) u 0 ≡ get_or s.applied u 0
  now-other u apart = get_or-set_other s.applied g.head.unit.0 u g.head.version 0 apart

  -- another message of the unit has a greater version
  greater : (k : ℕ) (f : Held) → in_slot s.slots k ≡ Some f → k ≢ slot → f.head.unit.0 ≡ g.head.unit.0 → g.head.version < f.head.version
  greater k f is apart own =
      let above : get_or s.applied g.head.unit.0 0 < f.head.version = subst (λ u. get_or s.applied u 0 < f.head.version) own (h.held_in k f is).unwritten in
      let differs : f.head.version ≢ g.head.version = λ e. apart (h.version_once k slot f g is r.is_held own e) in
      omega (arith, version-is)

  held-less : (k : ℕ) (f : Held) → in_slot (written_state s slot g.head).slots k ≡ Some f → IsHeldIn (written_state s slot g.head) f
  held-less k f is =
      let before = h.held_in k f (kept k f is) in
      record {
        unit_in = before.unit_in;
        unwritten = elim (cases_eq f.head.unit.0 g.head.unit.0) [
          | inl own ↦ subst (λ u. get_or (set s.applied g.head.unit.0 g.head.version) u 0 < f.head.version) (sym own) (rw now-own (greater k f (kept k f is) (other k f is) own))
          | inr apart ↦ rw (now-other f.head.unit.0 apart) before.unwritten
        ];
        numbered = before.numbered;
      }

  -- the slots in order of arrival, without it
  same-slot : (m : ℕ) → m ≢ g.arrival → slot_of (written_state s slot g.head).slots m ≡ slot_of s.slots m
  same-slot m apart = slot-same s.slots (written_state s slot g.head).slots m h.arrived_once arrived-once
      (λ k f is own.
      let elsewhere : k ≢ slot = λ e. (let one : Some f ≡ Some g = sym is ∙ ap (in_slot s.slots) e ∙ r.is_held in let n : f ≡ g = cc in apart (sym own ∙ ap (λ x. x.arrival) n)) in
      sym (taken.others k elsewhere) ∙ is)
      (λ k f is _. kept k f is)

  order : in_order (written_state s slot g.head).slots s.arrivals ≡ remove (in_order s.slots s.arrivals) (length (in_order s.slots g.arrival))
  order = order-less s.slots (written_state s slot g.head).slots h.arrived_once g.arrival s.arrivals slot same-slot
      (slot-found s.slots h.arrived_once g.arrival slot g r.is_held refl)
      (slot-none (written_state s slot g.head).slots g.arrival (λ k f is own. other k f is (h.arrived_once k slot f g (kept k f is) r.is_held own)))
      (h.held_in slot g r.is_held).numbered

  same-message : (k : ℕ) (f : Held) → in_slot (written_state s slot g.head).slots k ≡ Some f → message_in s.shape s.row (written_state s slot g.head).slots k ≡ message_in s.shape s.row s.slots k
  same-message k f is = ap (λ o. record { slot = k; head = head_of o; content = take (size s.shape (head_of o).unit.0) (content s.row k) }) (sym (taken.others k (other k f is)))

  messages-less : messages (written_state s slot g.head) ≡ remove (messages s) (ready_place (seen_of s))
  messages-less =
      map-same (message_in s.shape s.row (written_state s slot g.head).slots) (message_in s.shape s.row s.slots) (in_order (written_state s slot g.head).slots s.arrivals)
      (λ j l. let p = order-at (written_state s slot g.head).slots s.arrivals j 0 l in same-message (get_or (in_order (written_state s slot g.head).slots s.arrivals) j 0) p.held p.is_held)
      ∙ ap (map (message_in s.shape s.row s.slots)) order
      ∙ map-remove (message_in s.shape s.row s.slots) (in_order s.slots s.arrivals) (length (in_order s.slots g.arrival))
      ∙ ap (remove (messages s)) (sym r.place)

  place_in : ready_place (seen_of s) < length (messages s)
  place_in = omega (arith, r.place, r.within, messages-length s)

  length-less : length (messages (written_state s slot g.head)) + 1 ≡ length (messages s)
  length-less = ap (λ ms. length ms + 1) messages-less ∙ length-remove (messages s) (ready_place (seen_of s)) place_in

  head-is : (ready_message (seen_of s)).head ≡ g.head
  head-is = ap (λ m. m.head) r.message ∙ ap head_of r.is_held

  -- what is counted of each unit, before and after
  abbrev counted-of : ℕ → ℕ
  counted-of u = cond (g.head.unit.0 == u) 1 0

  counts-step : (u : ℕ) → get_or s.counts u 0 ≡ count_by (λ m. is_of u m.head) (messages (written_state s slot g.head)) + counted-of u
  counts-step u =
      let of_message : Message → ℕ = λ m. cond (is_of u m.head) 1 0 in
      let listed = sum_by-remove of_message (messages s) (ready_place (seen_of s)) no_message place_in in
      let one : of_message (ready_message (seen_of s)) ≡ counted-of u = ap (λ x. cond (is_of u x) 1 0) head-is in
      let before : get_or s.counts u 0 ≡ sum_by of_message (messages s) = h.counted u in
      let all : sum_by of_message (messages (written_state s slot g.head)) ≡ sum_by of_message (remove (messages s) (ready_place (seen_of s))) = ap (sum_by of_message) messages-less in
      omega arith

  pub count-some : 1 ≤ get_or s.counts g.head.unit.0 0
  count-some =
      let one : counted-of g.head.unit.0 ≡ 1 = rw (eq-eqb g.head.unit.0 g.head.unit.0 refl) refl in
      omega (arith, counts-step g.head.unit.0)

  counts-less : (u : ℕ) → get_or (written_state s slot g.head).counts u 0 ≡ count_by (λ m. is_of u m.head) (messages (written_state s slot g.head))
  counts-less u =
      let step = counts-step u in
      elim (cases_eq u g.head.unit.0) [
        | inl own ↦
            let one : counted-of u ≡ 1 = rw (eq-eqb g.head.unit.0 u (sym own)) refl in
            let now : get_or (set s.counts g.head.unit.0 (get_or s.counts g.head.unit.0 0 - 1)) u 0 ≡ get_or s.counts u 0 - 1 =
            ap (λ w. get_or (set s.counts g.head.unit.0 (get_or s.counts g.head.unit.0 0 - 1)) w 0) own
            ∙ get_or-set_same s.counts g.head.unit.0 _ 0 (omega (arith, unit_in, h.count_each, h.applied_each))
            ∙ ap (λ w. get_or s.counts w 0 - 1) (sym own) in
            omega arith
        | inr apart ↦
            let none : counted-of u ≡ 0 = rw (ne_eqb g.head.unit.0 u (λ e. apart (sym e))) refl in
            let now : get_or (set s.counts g.head.unit.0 (get_or s.counts g.head.unit.0 0 - 1)) u 0 ≡ get_or s.counts u 0 = get_or-set_other s.counts g.head.unit.0 u _ 0 apart in
            omega arith
      ]

  -- a message is ready by its number as before, unless its version is the next one now
  same-by : (j : ℕ) (o : Option Held) → in_slot s.slots j ≡ o → j ≢ slot
      → ((f : Held) → in_slot s.slots j ≡ Some f → f.head.unit.0 ≡ g.head.unit.0 → f.head.version ≢ g.head.version + 1)
      → ready_by s.applied o ≡ ready_by (set s.applied g.head.unit.0 g.head.version) o
  same-by j None is apart not_next = refl
  same-by j (Some f) is apart not_next = elim (cases_eq f.head.unit.0 g.head.unit.0) [
    | inl own ↦
        let late : g.head.version < f.head.version = greater j f is apart own in
        let before : ready_by s.applied (Some f) ≡ None =
        ap (λ u. ready_after (get_or s.applied u 0) (Some f)) own
        ∙ (let no : f.head.version ≢ get_or s.applied g.head.unit.0 0 + 1 = λ e. omega (arith, version-is) in rw (ne_eqb f.head.version (get_or s.applied g.head.unit.0 0 + 1) no) refl) in
        let now : ready_by (set s.applied g.head.unit.0 g.head.version) (Some f) ≡ None =
        ap (λ u. ready_after (get_or (set s.applied g.head.unit.0 g.head.version) u 0) (Some f)) own
        ∙ ap (λ n. ready_after n (Some f)) now-own
        ∙ rw (ne_eqb f.head.version (g.head.version + 1) (not_next f is own)) refl in
        before ∙ sym now
    | inr other_unit ↦ ap (λ n. ready_after n (Some f)) (sym (now-other f.head.unit.0 other_unit))
  ]

  -- the slots that are ready, but for it
  abbrev without : List (Option ℕ)
  without = set s.ready slot None

  without-own : get_or without slot None ≡ None
  without-own = get_or-set_same s.ready slot None None (omega (arith, slot_in, ready-length s h))

  without-other : (j : ℕ) → j ≢ slot → get_or without j None ≡ ready_by s.applied (in_slot s.slots j)
  without-other j apart = get_or-set_other s.ready slot j None None apart ∙ ready-at s h j

  leads : LeadsAbove s.slots g.head.unit.0 g.head.version (link s.links slot)
  leads = h.chained.nexts slot g r.is_held

  abbrev by_now : ℕ → Option ℕ
  by_now j = ready_by (set s.applied g.head.unit.0 g.head.version) (in_slot (written_state s slot g.head).slots j)

  by_now-own : by_now slot ≡ None
  by_now-own = ap (ready_by (set s.applied g.head.unit.0 g.head.version)) taken.empty

  by_now-other : (j : ℕ) → j ≢ slot → ready_by (set s.applied g.head.unit.0 g.head.version) (in_slot s.slots j) ≡ by_now j
  by_now-other j apart = ap (ready_by (set s.applied g.head.unit.0 g.head.version)) (taken.others j apart)

  -- with none next in the chain, and with one
  ready-none : link s.links slot ≡ None → (j : ℕ) → get_or without j None ≡ by_now j
  ready-none none j = elim (cases_eq j slot) [
    | inl own ↦ ap (λ k. get_or without k None) own ∙ without-own ∙ sym by_now-own ∙ ap by_now (sym own)
    | inr apart ↦
        without-other j apart
        ∙ same-by j (in_slot s.slots j) refl apart (λ f is own next. omega (arith, leads.none none j f is own))
        ∙ by_now-other j apart
  ]

  ready-some : (next : ℕ) → link s.links slot ≡ Some next → (j : ℕ) → get_or (set without next (ready_after g.head.version (in_slot (written_state s slot g.head).slots next))) j None ≡ by_now j
  ready-some next some j =
      let n = leads.next next some in
      let apart : next ≢ slot = λ e. (let one : Some n.held ≡ Some g = sym n.is_held ∙ ap (in_slot s.slots) e ∙ r.is_held in let same : n.held ≡ g = cc in let version = ap (λ x. x.head.version) same in omega (arith, n.above)) in
      let there : in_slot (written_state s slot g.head).slots next ≡ Some n.held = sym (taken.others next apart) ∙ n.is_held in
      elim (cases_eq j next) [
        | inl here ↦
            let now : get_or (set s.applied g.head.unit.0 g.head.version) n.held.head.unit.0 0 ≡ g.head.version = ap (λ u. get_or (set s.applied g.head.unit.0 g.head.version) u 0) n.of_unit ∙ now-own in
            ap (λ k. get_or (set without next (ready_after g.head.version (in_slot (written_state s slot g.head).slots next))) k None) here
            ∙ get_or-set_same without next _ None (omega (arith, held-within s.slots next n.held n.is_held, length-set s.ready slot None, ready-length s h))
            ∙ ap (ready_after g.head.version) there
            ∙ ap (λ m. ready_after m (Some n.held)) (sym now)
            ∙ ap (ready_by (set s.applied g.head.unit.0 g.head.version)) (sym there)
            ∙ ap by_now (sym here)
        | inr elsewhere ↦
            get_or-set_other without next j _ None elsewhere
            ∙ (elim (cases_eq j slot) [
              | inl own ↦ ap (λ k. get_or without k None) own ∙ without-own ∙ sym by_now-own ∙ ap by_now (sym own)
              | inr else_apart ↦
                  without-other j else_apart
                  ∙ same-by j (in_slot s.slots j) refl else_apart
                  (λ f is own next_now.
                  let least = n.least j f is own (omega arith) in
                  elsewhere (h.version_once j next f n.held is n.is_held (own ∙ sym n.of_unit) (omega (arith, n.above))))
                  ∙ by_now-other j else_apart
            ])
      ]

  ready-less : (written_state s slot g.head).ready ≡ map (ready_by (set s.applied g.head.unit.0 g.head.version)) (written_state s slot g.head).slots
  ready-less =
      let slots = (written_state s slot g.head).slots in
      let by = ready_by (set s.applied g.head.unit.0 g.head.version) in
      let sizes : length (map by slots) ≡ length s.slots = length-map slots by ∙ length-set s.slots slot None in
      let P : Option ℕ → Type 0 = λ to. with_next slots to g.head.version without ≡ map by slots in
      ⊎_elim
      (λ none.
      let size : length without ≡ length s.slots = length-set s.ready slot None ∙ ready-length s h in
      subst P (sym none) (ext_get_or None without (map by slots) (size ∙ sym sizes)
      (λ j l. ready-none none j ∙ sym (get_or-map by slots j None None (omega (arith, length-set s.slots slot None))))))
      (λ some.
      let full : List (Option ℕ) = set without some.0 (ready_after g.head.version (in_slot slots some.0)) in
      let size : length full ≡ length s.slots = length-set without some.0 _ ∙ length-set s.ready slot None ∙ ready-length s h in
      subst P (sym some.1) (ext_get_or None full (map by slots) (size ∙ sym sizes)
      (λ j l. ready-some some.0 some.1 j ∙ sym (get_or-map by slots j None None (omega (arith, length-set s.slots slot None))))))
      (none_or_some (link s.links slot))

  -- the free slots, with it
  free-old : (i : ℕ) → i < length s.free → get_or (s.free ++ slot ∷ []) i 0 ≡ get_or s.free i 0
  free-old i l = get_or_append_left s.free (slot ∷ []) 0 i l

  free-new : (i : ℕ) → i ≡ length s.free → get_or (s.free ++ slot ∷ []) i 0 ≡ slot
  free-new i is = get_or_push s.free slot 0 i (sym is)

  old-or-new : (i : ℕ) → i < length (s.free ++ slot ∷ []) → (i < length s.free) ⊎ (i ≡ length s.free)
  old-or-new i l = elim (cases_lt i (length s.free)) [ inl old ↦ inl old | inr new ↦ inr (omega (arith, length_push s.free slot)) ]

  free-apart : (i : ℕ) → i < length s.free → get_or s.free i 0 ≢ slot
  free-apart i l same = let none = h.free_empty i l in let held : in_slot s.slots (get_or s.free i 0) ≡ Some g = ap (in_slot s.slots) same ∙ r.is_held in cc

  free-once : (i j : ℕ) → i < length (s.free ++ slot ∷ []) → j < length (s.free ++ slot ∷ []) → get_or (s.free ++ slot ∷ []) i 0 ≡ get_or (s.free ++ slot ∷ []) j 0 → i ≡ j
  free-once i j l m same = ⊎_elim
      (λ old. ⊎_elim
      (λ old'. h.free_once i j old old' (sym (free-old i old) ∙ same ∙ free-old j old'))
      (λ new'. absurd (free-apart i old (sym (free-old i old) ∙ same ∙ free-new j new')))
      (old-or-new j m))
      (λ new. ⊎_elim
      (λ old'. absurd (free-apart j old' (sym (free-old j old') ∙ sym same ∙ free-new i new)))
      (λ new'. new ∙ sym new')
      (old-or-new j m))
      (old-or-new i l)

  pub written-kept : IsKept (written_state s slot g.head)
  written-kept = record {
    good = h.good;
    small = h.small;
    slot_each = length-set s.slots slot None ∙ h.slot_each;
    link_each = length-set s.links (length s.slots + g.head.unit.0) (link s.links slot) ∙ h.link_each;
    end_each = length-set s.ends g.head.unit.0 _ ∙ h.end_each;
    row_each = h.row_each;
    width = h.width;
    applied_each = length-set s.applied g.head.unit.0 g.head.version ∙ h.applied_each;
    recorded_each = length-set s.recorded g.head.unit.0 g.head.at ∙ h.recorded_each;
    count_each = length-set s.counts g.head.unit.0 _ ∙ h.count_each;
    versions = λ u. elim (cases_eq u g.head.unit.0) [
      | inl own ↦ subst (λ w. get_or (set s.applied g.head.unit.0 g.head.version) w 0 < 2 ^ 32) (sym own) (rw now-own small)
      | inr apart ↦ rw (now-other u apart) (h.versions u)
    ];
    held_in = held-less;
    arrived_once = arrived-once;
    version_once = λ k j f e is there unit version. h.version_once k j f e (kept k f is) (kept j e there) unit version;
    chained = chained-less s.slots (written_state s slot g.head).slots slot g taken (length-set s.slots slot None) s.links s.applied h.chained
        (omega (arith, h.link_each, h.slot_each, h.applied_each)) unit_in (unwritten s h) version-is;
    ended = λ u in'. ended-less s.slots (written_state s slot g.head).slots slot g taken (length-set s.slots slot None)
        s.links s.applied h.chained (omega (arith, h.link_each, h.slot_each, h.applied_each)) unit_in (unwritten s h) s.ends (omega (arith, h.end_each, h.applied_each)) u (h.ended u in');
    ready_are = ready-less;
    free_in = λ i l. ⊎_elim
        (λ old. rw (free-old i old) (h.free_in i old))
        (λ new. rw (free-new i new) (omega (arith, slot_in, h.slot_each)))
        (old-or-new i l);
    free_empty = λ i l. ⊎_elim
        (λ old. rw (free-old i old) (sym (taken.others (get_or s.free i 0) (free-apart i old)) ∙ h.free_empty i old))
        (λ new. rw (free-new i new) taken.empty)
        (old-or-new i l);
    free_once = free-once;
    others_held = omega (arith, h.others_held, length_push s.free slot, length-less);
    arrivals_are =
        let summed = sum_by-set (λ x. x) s.applied g.head.unit.0 g.head.version 0 unit_in in
        omega (arith, h.arrivals_are, length-less, version-is);
    counted = counts-less;
  }

  pub seen-less : seen_of (written_state s slot g.head) ≡ written (seen_of s)
  seen-less = rw (messages-less, head-is) refl

-- the head of the message that is ready
pub ready-head : (s : State) (slot : ℕ) (r : IsReadyIn s slot) → (ready_message (seen_of s)).head ≡ r.held.head
ready-head s slot r = ap (λ m. m.head) r.message ∙ ap head_of r.is_held

-- its link leads to one of the slots
pub next-within : (s : State) → IsKept s → (slot : ℕ) → IsReadyIn s slot → (to : Option ℕ) → to ≡ link s.links slot → IfSome to (λ next. (next < length s.slots) × (next < length s.ready))
next-within s h slot r None is = tt
next-within s h slot r (Some next) is =
    let n = (h.chained.nexts slot r.held r.is_held).next next (sym is) in
    let within : next < length s.slots = held-within s.slots next n.held n.is_held in
    (within, omega (arith, ready-length s h))
