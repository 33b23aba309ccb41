-- The window: what the credit and the limit of the outbox leave room for.
use Rattle.std.specs.Prelude.{◌≡◌, ◌≤◌, ◌<◌, ℕ, zero, suc, ◌+◌, ◌==◌, ◌&&◌, not, nat_lt, Bool, true, false, List, [], ◌∷◌, length, sum, get_or, None, if◌then◌else◌}
use Rattle.std.proofs.Common.{arith, refl, inl, inr}
use Rattle.std.proofs.lemmas.Bool.{cases_lt, and_parts, eqb-true, ltb-true}
use Rattle.std.proofs.lemmas.List.Sums.{sum_by-cons}
use Rattle.xv_model.specs.Job.{Job, IsGoodJob, unit_count}
use Rattle.xv_model.specs.View.{View, UnitHead, number, no_message, stream, front_group}
use Rattle.xv_model.specs.Wait.{wait}
use Rattle.xv_model.specs.Effect.{batch}
use Rattle.xv_model.specs.Outstanding.{count, count_streams, on_the_way, outstanding, any, is_version, is_message}
use Rattle.xv_model.specs.Invariant.{IsViewOf, is_good_group, are_good_groups}
use Rattle.xv_base.specs.declared.event.Event.TheVariants.{Send, Deliver, Apply, Ack, Credit}
use Rattle.xv_model.proofs.Bags.{count_groups-drop, place-count, is_version-from, version-above, version-within, version-unit, ready-on_the_way}
use Rattle.xv_model.proofs.GoesOn.{send_goes, deliver_goes, apply_goes, ack_goes, credit_goes, batch_fits}
use Rattle.xv_model.proofs.Points.CreditSteps.{count-any}

pub way-fits : (job : Job) (v : View) → IsViewOf job v → on_the_way v any ≤ job.config.credit
way-fits job v inv = omega (arith, inv.credit.sums)

pub outbox-fits : (job : Job) (v : View) → IsViewOf job v → length v.outbox.messages ≤ job.config.outbox
outbox-fits job v inv = inv.credit.outbox_fits

-- the messages of a stream's front group are on the streams
front-counted : (test : UnitHead → Bool) (streams : List (List (List UnitHead))) (s : ℕ) → count test (get_or (get_or streams s []) 0 []) ≤ count_streams test streams
front-counted test [] s = omega arith
front-counted test (g ∷ gs) zero = let h = count_groups-drop test g in omega arith
front-counted test (g ∷ gs) (suc s) = let h = front-counted test gs s in omega arith

-- as many acknowledgements as there are, at least, are acknowledged
length-acks : (acks : List ℕ) → ((i : ℕ) → i < length acks → 1 ≤ number acks i) → length acks ≤ sum acks
length-acks [] each = omega arith
length-acks (a ∷ acks) each =
    let rest = length-acks acks (λ i lt. each (suc i) (omega arith)) in
    let here = each 0 (omega arith) in
    omega (arith, sum_by-cons (λ (n : ℕ). n) a acks)

first-ack : (acks : List ℕ) → number acks 0 ≤ sum acks
first-ack [] = omega arith
first-ack (a ∷ acks) = omega (arith, sum_by-cons (λ (n : ℕ). n) a acks)

pub record SendFits (job : Job) (v : View) : Type 0 where
  pub some : 1 ≤ batch job v
  pub of_messages : batch job v ≤ length v.outbox.messages
  pub of_group : batch job v ≤ job.group
  pub of_credit : batch job v ≤ v.credit
  pub in_window : count_streams any v.streams + length v.hold.held + batch job v ≤ job.config.credit

pub send-fits : (job : Job) (v : View) (s : ℕ) (flag : Bool) → IsGoodJob job → IsViewOf job v → wait job v (Send s) flag ≡ None → SendFits job v
send-fits job v s flag good inv w =
    let b = batch_fits job v good (send_goes job v s flag w) in
    record { some = b.some; of_messages = b.of_messages; of_group = b.of_group; of_credit = b.of_credit; in_window = omega (arith, b.of_credit, inv.credit.sums, count-any v.hold.held) }

pub front-fits : (job : Job) (v : View) (s : ℕ) → IsViewOf job v → length (front_group v s) + length v.hold.held ≤ job.config.credit
front-fits job v s inv = omega (arith, front-counted any v.streams s, count-any (front_group v s), count-any v.hold.held, inv.credit.sums)

-- a message of a front group, by its place
abbrev pub front_message : View → ℕ → ℕ → UnitHead
front_message v s i = get_or (front_group v s) i no_message

front-there : (v : View) (s i : ℕ) → i < length (front_group v s) → 0 < count (is_version (front_message v s i).unit.0 (front_message v s i).version) (front_group v s)
front-there v s i lt =
    let m = front_message v s i in
    place-count (is_version m.unit.0 m.version) (front_group v s) i lt (is_version-from m.unit.0 m.version m refl refl)

front-outstanding : (v : View) (s i : ℕ) → i < length (front_group v s) → 0 < outstanding v (is_version (front_message v s i).unit.0 (front_message v s i).version)
front-outstanding v s i lt =
    let m = front_message v s i in
    omega (arith, front-there v s i lt, front-counted (is_version m.unit.0 m.version) v.streams s)

pub front-above : (job : Job) (v : View) (s i : ℕ) → IsViewOf job v → i < length (front_group v s) → number v.hold.applied (front_message v s i).unit.0 < (front_message v s i).version
front-above job v s i inv lt = version-above (outstanding v) v.outbox.issued v.hold.applied (front_message v s i).unit.0 (front_message v s i).version inv.versions (front-outstanding v s i lt)

pub front-unit : (job : Job) (v : View) (s i : ℕ) → IsViewOf job v → i < length (front_group v s) → (front_message v s i).unit.0 < unit_count job
front-unit job v s i inv lt =
    let k = version-unit (outstanding v) v.outbox.issued v.hold.applied (front_message v s i).unit.0 (front_message v s i).version inv.versions (front-outstanding v s i lt) in
    omega (arith, inv.lists.issued)

front-one : (job : Job) (v : View) (s i : ℕ) → IsViewOf job v → i < length (front_group v s) → outstanding v (is_version (front_message v s i).unit.0 (front_message v s i).version) ≡ 1
front-one job v s i inv lt =
    let m = front_message v s i in
    inv.versions.once m.unit.0 m.version (front-above job v s i inv lt) (version-within (outstanding v) v.outbox.issued v.hold.applied m.unit.0 m.version inv.versions (front-outstanding v s i lt))

pub front-once : (job : Job) (v : View) (s i : ℕ) → IsViewOf job v → i < length (front_group v s) → count (is_version (front_message v s i).unit.0 (front_message v s i).version) (front_group v s) ≡ 1
front-once job v s i inv lt =
    let m = front_message v s i in
    omega (arith, front-there v s i lt, front-counted (is_version m.unit.0 m.version) v.streams s, front-one job v s i inv lt)

pub front-not_held : (job : Job) (v : View) (s i : ℕ) → IsViewOf job v → i < length (front_group v s) → count (is_version (front_message v s i).unit.0 (front_message v s i).version) v.hold.held ≡ 0
front-not_held job v s i inv lt =
    let m = front_message v s i in
    omega (arith, front-there v s i lt, front-counted (is_version m.unit.0 m.version) v.streams s, front-one job v s i inv lt)

-- the front group of a stream with one is there, and no group is empty
some-size : (one : Bool) (n limit : ℕ) → (if one then n == 1 else (nat_lt 0 n && not (nat_lt limit n))) ≡ true → 1 ≤ n
some-size true n limit e = omega (arith, eqb-true n 1 e)
some-size false n limit e = omega (arith, ltb-true 0 n (and_parts (nat_lt 0 n) (not (nat_lt limit n)) e).0)

first_group-some : (job : Job) (groups : List (List UnitHead)) → are_good_groups job groups ≡ true → 0 < length groups → 1 ≤ length (get_or groups 0 [])
first_group-some job [] e lt = absurd (omega arith)
first_group-some job (g ∷ groups) e lt = some-size (job.format == 1) (length g) job.group (and_parts (is_good_group job g) (are_good_groups job groups) e).0

pub front-some : (job : Job) (v : View) (s : ℕ) → IsGoodJob job → IsViewOf job v → wait job v (Deliver s) false ≡ None → 1 ≤ length (front_group v s)
front-some job v s good inv w = first_group-some job (stream v s) (inv.lists.groups s) ((deliver_goes job v s false w).some_group refl)

pub ack-fits : (job : Job) (v : View) (flag : Bool) → IsViewOf job v → wait job v Ack flag ≡ None → (1 ≤ v.freed) × (v.freed ≤ job.config.credit) × (length v.acks + 1 ≤ job.config.credit)
ack-fits job v flag inv w =
    let some = (ack_goes job v flag w).some_freed in
    let acks = length-acks v.acks inv.credit.each_ack in
    (omega (arith, some), omega (arith, inv.credit.sums), omega (arith, inv.credit.sums, some, acks))

pub acks-fit : (job : Job) (v : View) → IsViewOf job v → length v.acks ≤ job.config.credit
acks-fit job v inv = omega (arith, length-acks v.acks inv.credit.each_ack, inv.credit.sums)

pub credit-fits : (job : Job) (v : View) → IsViewOf job v → v.credit + number v.acks 0 ≤ job.config.credit
credit-fits job v inv = omega (arith, first-ack v.acks, inv.credit.sums)

pub credit-some : (job : Job) (v : View) → IsViewOf job v → wait job v Credit false ≡ None → 1 ≤ number v.acks 0
credit-some job v inv w = inv.credit.each_ack 0 ((credit_goes job v false w).some_ack refl)

pub apply-fits : (job : Job) (v : View) (flag : Bool) → IsViewOf job v → wait job v Apply flag ≡ None → v.freed + 1 ≤ job.config.credit
apply-fits job v flag inv w =
    let way = ready-on_the_way v (apply_goes job v flag w).ready any refl in
    omega (arith, way, inv.credit.sums)

-- every outstanding message is of a unit that is there, and of a version from the one applied up to the one issued
pub outstanding-unit : (job : Job) (v : View) (unit version : ℕ) → IsViewOf job v → 0 < outstanding v (is_version unit version) → unit < unit_count job
outstanding-unit job v unit version inv some =
    let k = version-unit (outstanding v) v.outbox.issued v.hold.applied unit version inv.versions some in
    omega (arith, inv.lists.issued)

pub outstanding-above : (job : Job) (v : View) (unit version : ℕ) → IsViewOf job v → 0 < outstanding v (is_version unit version) → number v.hold.applied unit < version
outstanding-above job v unit version inv some = version-above (outstanding v) v.outbox.issued v.hold.applied unit version inv.versions some

pub outstanding-within : (job : Job) (v : View) (unit version : ℕ) → IsViewOf job v → 0 < outstanding v (is_version unit version) → version ≤ number v.outbox.issued unit
outstanding-within job v unit version inv some = version-within (outstanding v) v.outbox.issued v.hold.applied unit version inv.versions some

pub outstanding-once : (job : Job) (v : View) (unit version : ℕ) → IsViewOf job v → outstanding v (is_version unit version) ≤ 1
outstanding-once job v unit version inv = elim (cases_lt 0 (outstanding v (is_version unit version))) [
  | inl some ↦ omega (arith, inv.versions.once unit version (outstanding-above job v unit version inv some) (outstanding-within job v unit version inv some))
  | inr none ↦ omega (arith, none)
]

pub outstanding-at : (job : Job) (v : View) (unit version at : ℕ) → IsViewOf job v → 0 < outstanding v (is_message unit version at) → at ≤ length v.history
outstanding-at job v unit version at inv some = omega (arith, inv.times.to_mark unit version at some, inv.history.mark_within)
