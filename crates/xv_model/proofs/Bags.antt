-- Counts of messages in lists, groups and streams, and the bag of what is outstanding after each effect.
use Rattle.std.specs.Prelude.{◌≡◌, ◌≢◌, ◌⊎◌, ◌≤◌, ◌<◌, ℕ, zero, suc, ◌+◌, Bool, true, false, List, [], ◌∷◌, ◌++◌, length, take, drop, set, remove, get_or, if◌then◌else◌}
use Rattle.std.proofs.Common.{arith, refl, ap, inl, inr}
use Rattle.std.proofs.lemmas.Bool.{and_parts, and_from, eqb-true, eq-eqb, ltb-true, cases_Bool, cases_lt}
use Rattle.std.proofs.lemmas.List.{take-append-drop, get_or-set_other, length-set, length_push, get_or_past}
use Rattle.xv_model.specs.Job.{Job}
use Rattle.xv_model.specs.View.{View, Outbox, Hold, UnitHead, no_message, number, stream, front_group, ready, ready_message, is_ready, is_next, first_next}
use Rattle.xv_model.specs.Effect.{made, made_run, sent, batch, delivered, applied_next}
use Rattle.xv_model.specs.Outstanding.{Bag, count, count_groups, count_streams, on_the_way, outstanding, is_version, is_message}
use Rattle.xv_model.specs.Invariant.{EachVersionOnce}

pub count-append : (test : UnitHead → Bool) (xs ys : List UnitHead) → count test (xs ++ ys) ≡ count test xs + count test ys
count-append test [] ys = omega arith
count-append test (x ∷ xs) ys = let h = count-append test xs ys in omega arith

pub count-take-drop : (test : UnitHead → Bool) (n : ℕ) (xs : List UnitHead) → count test (take n xs) + count test (drop n xs) ≡ count test xs
count-take-drop test n xs = rw (← count-append) (ap (count test) (take-append-drop n xs))

pub count_groups-append : (test : UnitHead → Bool) (xs ys : List (List UnitHead)) → count_groups test (xs ++ ys) ≡ count_groups test xs + count_groups test ys
count_groups-append test [] ys = omega arith
count_groups-append test (x ∷ xs) ys = let h = count_groups-append test xs ys in omega arith

-- the count in all streams after one of them became another: it loses the old one's and gains the new one's
pub count_streams-set : (test : UnitHead → Bool) (streams : List (List (List UnitHead))) (s : ℕ) (new : List (List UnitHead)) → s < length streams → count_streams test (set streams s new) + count_groups test (get_or streams s []) ≡ count_streams test streams + count_groups test new
count_streams-set test [] s new h = absurd (omega arith)
count_streams-set test (x ∷ xs) zero new h = omega arith
count_streams-set test (x ∷ xs) (suc s) new h = let k = count_streams-set test xs s new (omega arith) in omega arith

-- the front group of a stream, none where there is none
pub count_groups-drop : (test : UnitHead → Bool) (groups : List (List UnitHead)) → count test (get_or groups 0 []) + count_groups test (drop 1 groups) ≡ count_groups test groups
count_groups-drop test [] = refl
count_groups-drop test (x ∷ xs) = refl

-- a removal
pub count-remove : (test : UnitHead → Bool) (xs : List UnitHead) (i : ℕ) → i < length xs → count test (remove xs i) + (if test (get_or xs i no_message) then 1 else 0) ≡ count test xs
count-remove test [] i h = absurd (omega arith)
count-remove test (x ∷ xs) zero h = omega arith
count-remove test (x ∷ xs) (suc i) h = let k = count-remove test xs i (omega arith) in omega arith

one-le : (test other : UnitHead → Bool) (m : UnitHead) (a b : ℕ) → (test m ≡ true → other m ≡ true) → a ≤ b → (if test m then 1 else 0) + a ≤ (if other m then 1 else 0) + b
one-le test other m a b h k = elim (cases_Bool (test m)) [ inl e ↦ rw (e, h e) (omega arith) | inr e ↦ rw e (omega arith) ]

-- where each passing message of one test passes another
pub count-le : (test other : UnitHead → Bool) (ms : List UnitHead) → ((m : UnitHead) → test m ≡ true → other m ≡ true) → count test ms ≤ count other ms
count-le test other [] h = omega arith
count-le test other (m ∷ ms) h = let k = count-le test other ms h in one-le test other m (count test ms) (count other ms) (h m) k

pub count_groups-le : (test other : UnitHead → Bool) (gs : List (List UnitHead)) → ((m : UnitHead) → test m ≡ true → other m ≡ true) → count_groups test gs ≤ count_groups other gs
count_groups-le test other [] h = omega arith
count_groups-le test other (g ∷ gs) h = let k = count_groups-le test other gs h in let l = count-le test other g h in omega arith

pub count_streams-le : (test other : UnitHead → Bool) (ss : List (List (List UnitHead))) → ((m : UnitHead) → test m ≡ true → other m ≡ true) → count_streams test ss ≤ count_streams other ss
count_streams-le test other [] h = omega arith
count_streams-le test other (s ∷ ss) h = let k = count_streams-le test other ss h in let l = count_groups-le test other s h in omega arith

place-later : (test : UnitHead → Bool) (m : UnitHead) (ms : List UnitHead) → (i : ℕ) × (i < length ms) × (test (get_or ms i no_message) ≡ true) → (i : ℕ) × (i < suc (length ms)) × (test (get_or (m ∷ ms) i no_message) ≡ true)
place-later test m ms p = (suc p.0, omega (arith, p.1), p.2)

-- a positive count has a place, and a place gives a positive count
pub count-place : (test : UnitHead → Bool) (ms : List UnitHead) → 0 < count test ms → (i : ℕ) × (i < length ms) × (test (get_or ms i no_message) ≡ true)
count-place test [] h = absurd (omega arith)
count-place test (m ∷ ms) h = elim (cases_Bool (test m)) [ inl e ↦ (zero, omega arith, e) | inr e ↦ place-later test m ms (count-place test ms (let k = rw e at h in omega arith)) ]

pub place-count : (test : UnitHead → Bool) (ms : List UnitHead) (i : ℕ) → i < length ms → test (get_or ms i no_message) ≡ true → 0 < count test ms
place-count test [] i h e = absurd (omega arith)
place-count test (m ∷ ms) zero h e = rw e (omega arith)
place-count test (m ∷ ms) (suc i) h e = let k = place-count test ms i (omega arith) e in omega arith

-- the message that is made next for a unit
abbrev pub new_message : Outbox → ℕ → ℕ → UnitHead
new_message box unit at = record { unit = record { 0 = unit }; version = number box.issued unit + 1; at = at }

pub count-made : (test : UnitHead → Bool) (box : Outbox) (unit at : ℕ) → count test (made box unit at).messages ≡ count test box.messages + (if test (new_message box unit at) then 1 else 0)
count-made test box unit at = let h = count-append test box.messages (new_message box unit at ∷ []) in omega arith

-- a run of messages makes for each of its units the next version, and none for another
pub length-issued-run : (box : Outbox) (unit at n : ℕ) → length (made_run box unit at n).issued ≡ length box.issued
length-issued-run box unit at zero = refl
length-issued-run box unit at (suc n) = let k = length-issued-run box unit at n in omega (arith, length-set (made_run box unit at n).issued (unit + n) (number (made_run box unit at n).issued (unit + n) + 1))

pub length-messages-run : (box : Outbox) (unit at n : ℕ) → length (made_run box unit at n).messages ≡ length box.messages + n
length-messages-run box unit at zero = omega arith
length-messages-run box unit at (suc n) = let k = length-messages-run box unit at n in omega (arith, length_push (made_run box unit at n).messages (new_message (made_run box unit at n) (unit + n) at))

pub issued-run-other : (box : Outbox) (unit at n u : ℕ) → (u < unit) ⊎ (unit + n ≤ u) → number (made_run box unit at n).issued u ≡ number box.issued u
issued-run-other box unit at zero u h = refl
issued-run-other box unit at (suc n) u h =
    let ne : u ≢ unit + n = elim h [ inl e ↦ omega arith | inr e ↦ omega arith ] in
    rw get_or-set_other (issued-run-other box unit at n u (elim h [ inl e ↦ inl e | inr e ↦ inr (omega arith) ]))

-- two bags that count the same are one
pub same_bag : (a b : Bag) → ((test : UnitHead → Bool) → a test ≡ b test) → a ≡ b
same_bag a b e = λ i test. e test i

-- sending moves messages from the outbox to a stream
pub on_the_way-sent : (job : Job) (v : View) (s : ℕ) → s < length v.streams → (test : UnitHead → Bool) → on_the_way (sent job v s) test ≡ on_the_way v test + count test (take (batch job v) v.outbox.messages)
on_the_way-sent job v s h test =
    let batch_messages = take (batch job v) v.outbox.messages in
    let a = count_streams-set test v.streams s (stream v s ++ batch_messages ∷ []) h in
    let b = count_groups-append test (stream v s) (batch_messages ∷ []) in
    omega arith

pub outstanding-sent : (job : Job) (v : View) (s : ℕ) → s < length v.streams → (test : UnitHead → Bool) → outstanding (sent job v s) test ≡ outstanding v test
outstanding-sent job v s h test = omega (arith, on_the_way-sent job v s h test, count-take-drop test (batch job v) v.outbox.messages)

pub outstanding-sent-bag : (job : Job) (v : View) (s : ℕ) → s < length v.streams → outstanding (sent job v s) ≡ outstanding v
outstanding-sent-bag job v s h = same_bag _ _ (outstanding-sent job v s h)

-- delivering moves a group from a stream to what is held
pub on_the_way-delivered : (v : View) (s : ℕ) → s < length v.streams → (test : UnitHead → Bool) → on_the_way (delivered v s) test ≡ on_the_way v test
on_the_way-delivered v s h test =
    let a = count_streams-set test v.streams s (drop 1 (stream v s)) h in
    let b = count_groups-drop test (stream v s) in
    let c = count-append test v.hold.held (front_group v s) in
    omega arith

pub on_the_way-delivered-bag : (v : View) (s : ℕ) → s < length v.streams → on_the_way (delivered v s) ≡ on_the_way v
on_the_way-delivered-bag v s h = same_bag _ _ (on_the_way-delivered v s h)

pub outstanding-delivered : (v : View) (s : ℕ) → s < length v.streams → (test : UnitHead → Bool) → outstanding (delivered v s) test ≡ outstanding v test
outstanding-delivered v s h test = omega (arith, on_the_way-delivered v s h test)

pub outstanding-delivered-bag : (v : View) (s : ℕ) → s < length v.streams → outstanding (delivered v s) ≡ outstanding v
outstanding-delivered-bag v s h = same_bag _ _ (outstanding-delivered v s h)

-- the ready message is held, and is its unit's next version
first_next-step : (applied : List ℕ) (m : UnitHead) (ms : List UnitHead) (b : Bool) → is_next applied m ≡ b → (first_next applied ms < length ms → is_next applied (get_or ms (first_next applied ms) no_message) ≡ true) → (if b then 0 else suc (first_next applied ms)) < suc (length ms) → is_next applied (get_or (m ∷ ms) (if b then 0 else suc (first_next applied ms)) no_message) ≡ true
first_next-step applied m ms true e later k = e
first_next-step applied m ms false e later k = later (omega arith)

first_next-is : (applied : List ℕ) (ms : List UnitHead) → first_next applied ms < length ms → is_next applied (get_or ms (first_next applied ms) no_message) ≡ true
first_next-is applied [] h = absurd (omega arith)
first_next-is applied (m ∷ ms) h = first_next-step applied m ms (is_next applied m) refl (first_next-is applied ms) h

pub ready-held : (h : Hold) → is_ready h ≡ true → ready h < length h.held
ready-held h e = ltb-true _ _ e

pub ready-next : (h : Hold) → is_ready h ≡ true → (ready_message h).version ≡ number h.applied (ready_message h).unit.0 + 1
ready-next h e = eqb-true _ _ (first_next-is h.applied h.held (ready-held h e))

-- so it is on the way
pub ready-on_the_way : (v : View) → is_ready v.hold ≡ true → (test : UnitHead → Bool) → test (ready_message v.hold) ≡ true → 0 < on_the_way v test
ready-on_the_way v e test t = let k = place-count test v.hold.held (ready v.hold) (ready-held v.hold e) t in omega arith

-- writing the ready message takes it away
pub on_the_way-applied : (v : View) → is_ready v.hold ≡ true → (test : UnitHead → Bool) → on_the_way v test ≡ (if test (ready_message v.hold) then 1 else 0) + on_the_way (applied_next v) test
on_the_way-applied v e test = omega (arith, count-remove test v.hold.held (ready v.hold) (ready-held v.hold e))

pub outstanding-applied : (v : View) → is_ready v.hold ≡ true → (test : UnitHead → Bool) → outstanding v test ≡ (if test (ready_message v.hold) then 1 else 0) + outstanding (applied_next v) test
outstanding-applied v e test = omega (arith, on_the_way-applied v e test)

-- a test that passes more counts no less
pub on_the_way-le : (v : View) (test other : UnitHead → Bool) → ((m : UnitHead) → test m ≡ true → other m ≡ true) → on_the_way v test ≤ on_the_way v other
on_the_way-le v test other h = let a = count_streams-le test other v.streams h in let b = count-le test other v.hold.held h in omega arith

pub outstanding-le : (v : View) (test other : UnitHead → Bool) → ((m : UnitHead) → test m ≡ true → other m ≡ true) → outstanding v test ≤ outstanding v other
outstanding-le v test other h = let a = on_the_way-le v test other h in let b = count-le test other v.outbox.messages h in omega arith

-- the tests of a version and of a message
pub is_version-unit : (unit version : ℕ) (m : UnitHead) → is_version unit version m ≡ true → m.unit.0 ≡ unit
is_version-unit unit version m e = eqb-true _ _ (and_parts _ _ e).0

pub is_version-number : (unit version : ℕ) (m : UnitHead) → is_version unit version m ≡ true → m.version ≡ version
is_version-number unit version m e = eqb-true _ _ (and_parts _ _ e).1

pub is_version-from : (unit version : ℕ) (m : UnitHead) → m.unit.0 ≡ unit → m.version ≡ version → is_version unit version m ≡ true
is_version-from unit version m e f = and_from _ _ (eq-eqb _ _ e) (eq-eqb _ _ f)

pub is_message-version : (unit version at : ℕ) (m : UnitHead) → is_message unit version at m ≡ true → is_version unit version m ≡ true
is_message-version unit version at m e = (and_parts _ _ e).0

pub is_message-at : (unit version at : ℕ) (m : UnitHead) → is_message unit version at m ≡ true → m.at ≡ at
is_message-at unit version at m e = eqb-true _ _ (and_parts _ _ e).1

pub is_message-from : (unit version at : ℕ) (m : UnitHead) → m.unit.0 ≡ unit → m.version ≡ version → m.at ≡ at → is_message unit version at m ≡ true
is_message-from unit version at m e f g = and_from _ _ (is_version-from unit version m e f) (eq-eqb _ _ g)

pub message-has-version : (v : View) (unit version at : ℕ) → 0 < outstanding v (is_message unit version at) → 0 < outstanding v (is_version unit version)
message-has-version v unit version at h = let k = outstanding-le v (is_message unit version at) (is_version unit version) (is_message-version unit version at) in omega arith

-- an outstanding version is above the one applied, and at most the one issued; so it is at least 1, and of a unit that is there
pub version-above : (bag : Bag) (issued applied : List ℕ) (unit version : ℕ) → EachVersionOnce bag issued applied → 0 < bag (is_version unit version) → number applied unit < version
version-above bag issued applied unit version p h = elim (cases_lt (number applied unit) version) [ inl e ↦ e | inr e ↦ let k = p.none_applied unit version e in absurd (omega arith) ]

pub version-within : (bag : Bag) (issued applied : List ℕ) (unit version : ℕ) → EachVersionOnce bag issued applied → 0 < bag (is_version unit version) → version ≤ number issued unit
version-within bag issued applied unit version p h = elim (cases_lt (number issued unit) version) [ inl e ↦ let k = p.none_to_come unit version e in absurd (omega arith) | inr e ↦ e ]

pub issued-unit : (issued : List ℕ) (unit : ℕ) → 0 < number issued unit → unit < length issued
issued-unit issued unit h = elim (cases_lt unit (length issued)) [ inl e ↦ e | inr e ↦ let k = get_or_past issued unit 0 e in absurd (omega arith) ]

pub version-unit : (bag : Bag) (issued applied : List ℕ) (unit version : ℕ) → EachVersionOnce bag issued applied → 0 < bag (is_version unit version) → unit < length issued
version-unit bag issued applied unit version p h =
    let a = version-above bag issued applied unit version p h in
    let b = version-within bag issued applied unit version p h in
    issued-unit issued unit (omega arith)

-- the ready message is outstanding as its version, and as itself
pub ready-outstanding : (v : View) → is_ready v.hold ≡ true → 0 < outstanding v (is_version (ready_message v.hold).unit.0 (ready_message v.hold).version)
ready-outstanding v e =
    let m = ready_message v.hold in
    let k = ready-on_the_way v e (is_version m.unit.0 m.version) (is_version-from m.unit.0 m.version m refl refl) in
    omega arith

pub ready-itself : (v : View) → is_ready v.hold ≡ true → 0 < outstanding v (is_message (ready_message v.hold).unit.0 (ready_message v.hold).version (ready_message v.hold).at)
ready-itself v e =
    let m = ready_message v.hold in
    let k = ready-on_the_way v e (is_message m.unit.0 m.version m.at) (is_message-from m.unit.0 m.version m.at m refl refl refl) in
    omega arith
