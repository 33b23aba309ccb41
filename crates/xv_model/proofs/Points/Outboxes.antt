-- In the outbox the versions of one unit rise, above every version sent, held or applied, over each event.
use Rattle.std.specs.Prelude.{◌≡◌, ◌≤◌, ◌<◌, ℕ, ◌+◌, Bool, true, List, [], ◌∷◌, ◌++◌, length, take, drop}
use Rattle.std.proofs.Common.{arith, refl, ap, sym, subst, inl, inr, ◌∙◌}
use Rattle.std.proofs.lemmas.Bool.{cases_lt}
use Rattle.std.proofs.lemmas.List.{length-take, length-drop, length_push, get_or_append_left, get_or_push, get_or-take, get_or-drop}
use Rattle.xv_model.specs.View.{Outbox, UnitHead, number, no_message}
use Rattle.xv_model.specs.Effect.{made}
use Rattle.xv_model.specs.Outstanding.{Bag, count, is_version}
use Rattle.xv_model.specs.Invariant.{EachVersionOnce, OutboxRises, message_at}
use Rattle.xv_model.proofs.Bags.{new_message, place-count, count-place, is_version-unit, is_version-number, is_version-from, version-within}
use Rattle.xv_model.proofs.Points.Versions.{box_bag}

-- the messages before the new one, and the new one
push-before : (messages : List UnitHead) (m : UnitHead) (i : ℕ) → i < length messages → message_at (messages ++ m ∷ []) i ≡ message_at messages i
push-before messages m i h = get_or_append_left messages (m ∷ []) no_message i h

push-last : (messages : List UnitHead) (m : UnitHead) (i : ℕ) → length messages ≡ i → message_at (messages ++ m ∷ []) i ≡ m
push-last messages m i h = get_or_push messages m no_message i h

-- a message in the outbox is an outstanding version, so it is at most the one issued
in_outbox-within : (box : Outbox) (way : Bag) (applied : List ℕ) (i : ℕ) → EachVersionOnce (box_bag box way) box.issued applied → i < length box.messages → (message_at box.messages i).version ≤ number box.issued (message_at box.messages i).unit.0
in_outbox-within box way applied i p h =
    let m = message_at box.messages i in
    let a = place-count (is_version m.unit.0 m.version) box.messages i h (is_version-from m.unit.0 m.version m refl refl) in
    version-within (box_bag box way) box.issued applied m.unit.0 m.version p (omega arith)

in_way-within : (box : Outbox) (way : Bag) (applied : List ℕ) (unit version : ℕ) → EachVersionOnce (box_bag box way) box.issued applied → 0 < way (is_version unit version) → version ≤ number box.issued unit
in_way-within box way applied unit version p h = version-within (box_bag box way) box.issued applied unit version p (omega arith)

-- what making one message does
pub rises-made : (box : Outbox) (way : Bag) (applied : List ℕ) (unit at : ℕ) → EachVersionOnce (box_bag box way) box.issued applied → OutboxRises box.messages way applied → OutboxRises (made box unit at).messages way applied
rises-made box way applied unit at p o =
    let m = new_message box unit at in
    let messages = box.messages in
    let long = length_push messages m in
    record {
      rising = λ i j lt there same. elim (cases_lt j (length messages)) [
        | inl before ↦
            let a = push-before messages m i (omega arith) in
            let b = push-before messages m j before in
            let c : (message_at messages i).unit.0 ≡ (message_at messages j).unit.0 = ap (λ (x : UnitHead). x.unit.0) (sym a) ∙ same ∙ ap (λ (x : UnitHead). x.unit.0) b in
            let d = o.rising i j lt before c in
            let e = ap (λ (x : UnitHead). x.version) a in
            let f = ap (λ (x : UnitHead). x.version) b in
            omega arith
        | inr past ↦
            let a = push-before messages m i (omega arith) in
            let b = push-last messages m j (omega arith) in
            let c : (message_at messages i).unit.0 ≡ unit = ap (λ (x : UnitHead). x.unit.0) (sym a) ∙ same ∙ ap (λ (x : UnitHead). x.unit.0) b in
            let d = in_outbox-within box way applied i p (omega arith) in
            let e = ap (λ (x : UnitHead). x.version) a in
            let f : (message_at (messages ++ m ∷ []) j).version ≡ number box.issued unit + 1 = ap (λ (x : UnitHead). x.version) b in
            let g = ap (number box.issued) c in
            omega arith
      ];
      above_sent = λ i version there h. elim (cases_lt i (length messages)) [
        | inl before ↦
            let a = push-before messages m i before in
            let b = o.above_sent i version before (subst (λ (x : UnitHead). 0 < way (is_version x.unit.0 version)) a h) in
            let e = ap (λ (x : UnitHead). x.version) a in
            omega arith
        | inr past ↦
            let a = push-last messages m i (omega arith) in
            let b = in_way-within box way applied unit version p (subst (λ (x : UnitHead). 0 < way (is_version x.unit.0 version)) a h) in
            let f : (message_at (messages ++ m ∷ []) i).version ≡ number box.issued unit + 1 = ap (λ (x : UnitHead). x.version) a in
            omega arith
      ];
      above_applied = λ i there. elim (cases_lt i (length messages)) [
        | inl before ↦
            let a = push-before messages m i before in
            subst (λ (x : UnitHead). number applied x.unit.0 < x.version) (sym a) (o.above_applied i before)
        | inr past ↦
            let a = push-last messages m i (omega arith) in
            let b = p.in_order unit in
            subst (λ (x : UnitHead). number applied x.unit.0 < x.version) (sym a) (omega arith)
      ];
    }

-- a message past the first n is above each of its unit's versions on the way and among those n
above_taken : (messages : List UnitHead) (way : Bag) (applied : List ℕ) (n i version : ℕ) → OutboxRises messages way applied → n + i < length messages → 0 < count (is_version (message_at messages (n + i)).unit.0 version) (take n messages) → version < (message_at messages (n + i)).version
above_taken messages way applied n i version o there h =
    let unit = (message_at messages (n + i)).unit.0 in
    let place = count-place (is_version unit version) (take n messages) h in
    let j = place.0 in
    let lt : j < n = let a = place.1 in omega (arith, length-take n messages) in
    let same = get_or-take n messages j no_message lt in
    let passes : is_version unit version (message_at messages j) ≡ true = ap (is_version unit version) (sym same) ∙ place.2 in
    let u = is_version-unit unit version (message_at messages j) passes in
    let w = is_version-number unit version (message_at messages j) passes in
    let a = o.rising j (n + i) (omega arith) there u in
    omega arith

above_both : (messages : List UnitHead) (way more : Bag) (applied : List ℕ) (n i version : ℕ) → ((test : UnitHead → Bool) → more test ≡ way test + count test (take n messages)) → OutboxRises messages way applied → n + i < length messages → 0 < more (is_version (message_at messages (n + i)).unit.0 version) → version < (message_at messages (n + i)).version
above_both messages way more applied n i version adds o there h =
    let test = is_version (message_at messages (n + i)).unit.0 version in
    elim (cases_lt 0 (way test)) [
      | inl sent_before ↦ o.above_sent (n + i) version there sent_before
      | inr not ↦ above_taken messages way applied n i version o there (let a = adds test in omega arith)
    ]

-- what sending the first n messages does
pub rises-dropped : (messages : List UnitHead) (way more : Bag) (applied : List ℕ) (n : ℕ) → ((test : UnitHead → Bool) → more test ≡ way test + count test (take n messages)) → OutboxRises messages way applied → OutboxRises (drop n messages) more applied
rises-dropped messages way more applied n adds o =
    let at = λ (i : ℕ). get_or-drop n messages i no_message in
    let long = length-drop n messages in
    record {
      rising = λ i j lt there same.
          let c : (message_at messages (n + i)).unit.0 ≡ (message_at messages (n + j)).unit.0 = ap (λ (x : UnitHead). x.unit.0) (sym (at i)) ∙ same ∙ ap (λ (x : UnitHead). x.unit.0) (at j) in
          let d = o.rising (n + i) (n + j) (omega arith) (omega arith) c in
          let e = ap (λ (x : UnitHead). x.version) (at i) in
          let f = ap (λ (x : UnitHead). x.version) (at j) in
          omega arith;
      above_sent = λ i version there h.
          let e = ap (λ (x : UnitHead). x.version) (at i) in
          let k : 0 < more (is_version (message_at messages (n + i)).unit.0 version) = subst (λ (x : UnitHead). 0 < more (is_version x.unit.0 version)) (at i) h in
          let l = above_both messages way more applied n i version adds o (omega arith) k in
          omega arith;
      above_applied = λ i there. subst (λ (x : UnitHead). number applied x.unit.0 < x.version) (sym (at i)) (o.above_applied (n + i) (omega arith));
    }
