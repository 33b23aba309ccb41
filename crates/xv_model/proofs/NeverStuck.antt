-- Never stuck: in every view that is not finished some event goes on.
use Rattle.std.specs.Prelude.{◌≡◌, ◌⊎◌, ◌≤◌, ◌<◌, ℕ, zero, suc, ◌+◌, ◌&&◌, not, nat_lt, nat_le, Bool, true, false, sum, is_some, List, [], ◌∷◌, length, get_or, Option, Some, None, IfSome}
use Rattle.std.proofs.Common.{arith, refl, ap, sym, ◌∙◌, subst, inl, inr, true≢false}
use Rattle.std.proofs.lemmas.Bool.{cases_Bool, cases_lt, and_parts, and_from, and_right, ltb-true, ltb-false, leb-true, eq-eqb}
use Rattle.xv_model.specs.Job.{Job, IsGoodJob, block_of, operation_count}
use Rattle.xv_model.specs.View.{View, Disk, Hold, UnitHead, Phase, disk, front, no_message, number, is_empty, is_empty_set, is_running, is_stunned, is_live, is_inside, all_copied, queues_empty, is_next, first_next, is_ready}
use Rattle.xv_model.specs.Wait.{has_cancel, reaches, is_before, cancel_due, room}
use Rattle.xv_base.specs.declared.event.Phase.TheVariants.{Running, Stunned, Switched, Cancelled, Failed}
use Rattle.xv_model.specs.Outstanding.{count, count_groups, count_streams, on_the_way, outstanding, any, is_version}
use Rattle.xv_model.specs.Invariant.{IsViewOf, CancelHolds}
use Rattle.xv_model.specs.Work.{all_ended_from, is_finished}
use Rattle.xv_model.proofs.Bags.{count-place, place-count, is_version-from, is_version-unit, is_version-number, version-above, version-within}
use Rattle.xv_model.proofs.GoesOn.{empty-nil, stunned_is_live, live_is_running}
use Rattle.xv_model.proofs.Points.CreditSteps.{count-any}
use Rattle.xv_model.proofs.Able.{SomeActs, guest_acts_with_room, guest_acts_alone, begin_acts, region_acts, release_acts_alone, release_acts_with_room, page_acts, round_acts, send_acts, deliver_acts, apply_acts, ack_acts, credit_acts, stun_acts, switch_acts, cancel_acts}
use Rattle.xv_model.proofs.Left.{SomeQueue, some_queue, in_no_queue, queue_is_empty, SomeUncopied, some_uncopied, SomeGuest, some_guest, has_more, not_all_ended}

-- phases
running_not_stunned : (p : Phase) → is_running p ≡ true → is_stunned p ≡ false
running_not_stunned Running e = refl
running_not_stunned Stunned e = absurd (cc)
running_not_stunned Switched e = absurd (cc)
running_not_stunned Cancelled e = absurd (cc)
running_not_stunned Failed e = absurd (cc)

pub still_not_running : (p : Phase) → is_live p ≡ false → is_running p ≡ false
still_not_running Running e = absurd (cc)
still_not_running Stunned e = absurd (cc)
still_not_running Switched e = refl
still_not_running Cancelled e = refl
still_not_running Failed e = refl

pub still_not_stunned : (p : Phase) → is_live p ≡ false → is_stunned p ≡ false
still_not_stunned Running e = absurd (cc)
still_not_stunned Stunned e = absurd (cc)
still_not_stunned Switched e = refl
still_not_stunned Cancelled e = refl
still_not_stunned Failed e = refl

-- a stream with something on it
record SomeGroups (streams : List (List (List UnitHead))) : Type 0 where
  number_of : ℕ
  there : number_of < length streams
  some : is_empty (get_or streams number_of []) ≡ false

groups-later : (g : List (List UnitHead)) (streams : List (List (List UnitHead))) → is_empty g ≡ true → SomeGroups streams ⊎ ((test : UnitHead → Bool) → count_streams test streams ≡ 0) → SomeGroups (g ∷ streams) ⊎ ((test : UnitHead → Bool) → count_streams test (g ∷ streams) ≡ 0)
groups-later g streams e (inl s) = inl (record { number_of = suc s.number_of; there = omega (arith, s.there); some = s.some })
groups-later g streams e (inr none) = inr (λ test. omega (arith, ap (count_groups test) (empty-nil g e), none test))

streams_cases : (streams : List (List (List UnitHead))) → SomeGroups streams ⊎ ((test : UnitHead → Bool) → count_streams test streams ≡ 0)
streams_cases [] = inr (λ test. refl)
streams_cases (g ∷ streams) = elim (cases_Bool (is_empty g)) [
  | inl none ↦ groups-later g streams none (streams_cases streams)
  | inr some ↦ inl (record { number_of = zero; there = omega arith; some = some })
]

-- where a held message is its unit's next version, one is ready
next_found : (applied : List ℕ) (ms : List UnitHead) (i : ℕ) → i < length ms → is_next applied (get_or ms i no_message) ≡ true → first_next applied ms < length ms
next_found applied [] i lt e = absurd (omega arith)
next_found applied (m ∷ ms) zero lt e = rw e (omega arith)
next_found applied (m ∷ ms) (suc i) lt e = elim (cases_Bool (is_next applied m)) [
  | inl here ↦ rw here (omega arith)
  | inr later ↦ rw later (omega (arith, next_found applied ms i (omega (arith, lt)) e))
]

-- where nothing is ready, no held message is the version after the one applied
next_not_held : (h : Hold) (unit : ℕ) → is_ready h ≡ false → 0 < count (is_version unit (number h.applied unit + 1)) h.held → ⊥
next_not_held h unit e some =
    let place = count-place (is_version unit (number h.applied unit + 1)) h.held some in
    let m = get_or h.held place.0 no_message in
    let next : m.version ≡ number h.applied m.unit.0 + 1 = is_version-number unit (number h.applied unit + 1) m place.2 ∙ ap (λ (u : ℕ). number h.applied u + 1) (sym (is_version-unit unit (number h.applied unit + 1) m place.2)) in
    omega (arith, next_found h.applied h.held place.0 place.1 (eq-eqb _ _ next), ltb-false _ _ e)

-- and none in the outbox is, where a later one is held
next_not_made : (job : Job) (v : View) (unit version : ℕ) → IsViewOf job v → 0 < on_the_way v (is_version unit version) → number v.hold.applied unit < version → 0 < count (is_version unit (number v.hold.applied unit + 1)) v.outbox.messages → ⊥
next_not_made job v unit version inv way above some =
    let place = count-place (is_version unit (number v.hold.applied unit + 1)) v.outbox.messages some in
    let m = get_or v.outbox.messages place.0 no_message in
    let here : m.unit.0 ≡ unit = is_version-unit unit (number v.hold.applied unit + 1) m place.2 in
    let next : m.version ≡ number v.hold.applied unit + 1 = is_version-number unit (number v.hold.applied unit + 1) m place.2 in
    let sent = inv.outbox.above_sent place.0 version place.1 (subst (λ (u : ℕ). 0 < on_the_way v (is_version u version)) (sym here) way) in
    omega (arith, sent, next, above)

one_of : (a b : ℕ) → a + b ≡ 1 → (0 < a → ⊥) → (0 < b → ⊥) → ⊥
one_of a b e f g = elim (cases_lt 0 a) [ inl some ↦ f some | inr none ↦ g (omega (arith, e, none)) ]

nothing_held : (job : Job) (v : View) → IsViewOf job v → ((test : UnitHead → Bool) → count_streams test v.streams ≡ 0) → is_ready v.hold ≡ false → length v.hold.held ≡ 0
nothing_held job v inv none unready = elim (cases_lt 0 (length v.hold.held)) [
  | inl some ↦
      let m = get_or v.hold.held 0 no_message in
      let unit = m.unit.0 in
      let held = place-count (is_version unit m.version) v.hold.held 0 some (is_version-from unit m.version m refl refl) in
      let out : 0 < outstanding v (is_version unit m.version) = omega (arith, held) in
      let above = version-above (outstanding v) v.outbox.issued v.hold.applied unit m.version inv.versions out in
      let within = version-within (outstanding v) v.outbox.issued v.hold.applied unit m.version inv.versions out in
      let once = inv.versions.once unit (number v.hold.applied unit + 1) (omega arith) (omega (arith, above, within)) in
      let in_hold = next_not_held v.hold unit unready in
      let in_box = next_not_made job v unit m.version inv (omega (arith, held)) above in
      absurd (one_of (count (is_version unit (number v.hold.applied unit + 1)) v.outbox.messages) (count (is_version unit (number v.hold.applied unit + 1)) v.hold.held) (omega (arith, once, none (is_version unit (number v.hold.applied unit + 1)))) in_box in_hold)
  | inr e ↦ omega (arith, e)
]

-- either something moves between the sides, or all credit is back
credit_back : (job : Job) (v : View) → IsViewOf job v → ((test : UnitHead → Bool) → count_streams test v.streams ≡ 0) → is_ready v.hold ≡ false → v.freed ≡ 0 → v.acks ≡ [] → v.credit ≡ job.config.credit
credit_back job v inv none unready freed acks =
    let held = nothing_held job v inv none unready in
    omega (arith, inv.credit.sums, none any, count-any v.hold.held, held, freed, ap sum acks)

moves_or_back : (job : Job) (v : View) → IsViewOf job v → is_live v.phase ≡ true → SomeActs job v ⊎ (v.credit ≡ job.config.credit)
moves_or_back job v inv live = elim (cases_Bool (is_ready v.hold)) [
  | inl ready ↦ inl (apply_acts job v live ready)
  | inr unready ↦ elim (streams_cases v.streams) [
    | inl s ↦ inl (deliver_acts job v s.number_of (omega (arith, s.there, inv.lists.streams)) live s.some)
    | inr none ↦ elim (cases_lt 0 v.freed) [
      | inl some ↦ inl (ack_acts job v live some)
      | inr freed ↦ elim (cases_Bool (is_empty v.acks)) [
        | inl acks ↦ inr (credit_back job v inv none unready (omega (arith, freed)) (empty-nil v.acks acks))
        | inr some ↦ inl (credit_acts job v live some)
      ]
    ]
  ]
]

-- a stunned guest's job with a cancel number has reached it
stunned_reaches : (cancel : Option ℕ) (p : Phase) (n : ℕ) → CancelHolds cancel p n → is_some cancel ≡ true → is_stunned p ≡ true → reaches cancel n ≡ true
stunned_reaches None p n holds e s = absurd (cc)
stunned_reaches (Some k) p n holds e s = eq-eqb n k (holds.stunned_at k refl s)

-- before its cancel number a job has operations to come
before_end : (cancel : Option ℕ) (n total : ℕ) → IfSome cancel (λ k. k ≤ total) → is_before cancel n ≡ true → n < total
before_end None n total within e = absurd (cc)
before_end (Some k) n total within e = omega (arith, ltb-true n k e, within)

-- nothing is on the way and nothing to be sent
record AllSent (job : Job) (v : View) : Type 0 where
  due : cancel_due job v ≡ false
  credit : v.credit ≡ job.config.credit
  messages : is_empty v.outbox.messages ≡ true
  to_send : is_empty_set v.to_send ≡ true

has_room : (job : Job) (v : View) → IsGoodJob job → AllSent job v → length v.outbox.messages < job.config.outbox
has_room job v good sent = omega (arith, ap length (empty-nil v.outbox.messages sent.messages), good.outbox.0)

region_has_room : (job : Job) (v : View) (d : ℕ) → IsGoodJob job → IsViewOf job v → AllSent job v → (disk v d).region ≤ room job v
region_has_room job v d good inv sent = omega (arith, ap length (empty-nil v.outbox.messages sent.messages), good.region.2, inv.regions.region_fits d)

stunned_acts : (job : Job) (v : View) → IsViewOf job v → is_stunned v.phase ≡ true → AllSent job v → SomeActs job v
stunned_acts job v inv stunned sent = elim (cases_Bool (has_cancel job)) [
  | inl asked ↦
      let due = and_from (reaches job.config.cancel (length v.history)) (is_live v.phase) (stunned_reaches job.config.cancel v.phase (length v.history) inv.cancel asked stunned) (stunned_is_live v.phase stunned) in
      absurd (true≢false (sym due ∙ sent.due))
  | inr unasked ↦ switch_acts job v stunned unasked sent.to_send sent.messages (omega (arith, sent.credit))
]

some_inside : (k : Disk) (block : ℕ) → is_inside k block ≡ true → 0 < k.region
some_inside k block e =
    let both = and_parts (nat_le k.cursor block) (nat_lt block (k.cursor + k.region)) e in
    omega (arith, leb-true k.cursor block both.0, ltb-true block (k.cursor + k.region) both.1)

queue_acts : (job : Job) (v : View) → IsGoodJob job → IsViewOf job v → is_running v.phase ≡ true → AllSent job v → SomeQueue v.disks → SomeActs job v
queue_acts job v good inv running sent q =
    let there : q.disk < length job.copy.disks = omega (arith, q.there, inv.lists.disks) in
    elim (cases_Bool (is_inside (disk v q.disk) (block_of job.copy (front (disk v q.disk)).unit.0))) [
      | inl inside ↦ region_acts job v q.disk there running (some_inside (disk v q.disk) _ inside) (region_has_room job v q.disk good inv sent)
      | inr outside ↦ release_acts_with_room job v q.disk there q.waits sent.due outside (has_room job v good sent)
    ]

copy_acts : (job : Job) (v : View) → IsGoodJob job → IsViewOf job v → is_running v.phase ≡ true → AllSent job v → queues_empty v.disks ≡ true → SomeUncopied job.copy.disks v.disks → SomeActs job v
copy_acts job v good inv running sent queues u = elim (cases_lt 0 (disk v u.disk).region) [
  | inl some ↦ region_acts job v u.disk u.there running some (region_has_room job v u.disk good inv sent)
  | inr none ↦ begin_acts job v u.disk u.there running u.uncopied (omega (arith, none)) (queue_is_empty v.disks u.disk queues)
]

left_acts : (job : Job) (v : View) → IsGoodJob job → is_running v.phase ≡ true → AllSent job v → queues_empty v.disks ≡ true → SomeGuest job.traces v.history 0 → SomeActs job v
left_acts job v good running sent queues s = guest_acts_with_room job v s.guest s.there (has_more job v.history s) (in_no_queue v.disks s.guest queues) sent.due (running_not_stunned v.phase running) (has_room job v good sent)

end_acts : (job : Job) (v : View) → IsGoodJob job → is_running v.phase ≡ true → AllSent job v → queues_empty v.disks ≡ true → all_copied job v ≡ true → SomeActs job v
end_acts job v good running sent queues copied = elim (cases_lt v.rounds job.config.rounds) [
  | inl more ↦ round_acts job v running sent.to_send copied more
  | inr last ↦ elim (cases_Bool (is_before job.config.cancel (length v.history))) [
    | inl before ↦ left_acts job v good running sent queues (some_guest 0 job.traces v.history (not_all_ended job v.history (before_end job.config.cancel (length v.history) (operation_count job) good.cancel before)))
    | inr reached ↦ stun_acts job v running reached copied queues sent.to_send (omega (arith, last, good.rounds.0)) last
  ]
]

running_acts : (job : Job) (v : View) → IsGoodJob job → IsViewOf job v → is_running v.phase ≡ true → AllSent job v → SomeActs job v
running_acts job v good inv running sent = elim (cases_Bool (queues_empty v.disks)) [
  | inl queues ↦ elim (cases_Bool (all_copied job v)) [
    | inl copied ↦ end_acts job v good running sent queues copied
    | inr uncopied ↦ copy_acts job v good inv running sent queues (some_uncopied job.copy.disks v.disks inv.lists.disks uncopied)
  ]
  | inr waits ↦ queue_acts job v good inv running sent (some_queue v.disks waits)
]

sent_acts : (job : Job) (v : View) → IsGoodJob job → IsViewOf job v → is_live v.phase ≡ true → AllSent job v → SomeActs job v
sent_acts job v good inv live sent = elim (cases_Bool (is_stunned v.phase)) [
  | inl stunned ↦ stunned_acts job v inv stunned sent
  | inr unstunned ↦ running_acts job v good inv (live_is_running v.phase live unstunned) sent
]

back_acts : (job : Job) (v : View) → IsGoodJob job → IsViewOf job v → is_live v.phase ≡ true → cancel_due job v ≡ false → v.credit ≡ job.config.credit → SomeActs job v
back_acts job v good inv live due back = elim (cases_Bool (is_empty v.outbox.messages)) [
  | inl none ↦ elim (cases_Bool (is_empty_set v.to_send)) [
    | inl all ↦ sent_acts job v good inv live (record { due = due; credit = back; messages = none; to_send = all })
    | inr some ↦ page_acts job v live some (omega (arith, ap length (empty-nil v.outbox.messages none), good.outbox.0))
  ]
  | inr some ↦ send_acts job v 0 (omega (arith, good.streams.0)) live some (omega (arith, back, good.credit.0))
]

live_acts : (job : Job) (v : View) → IsGoodJob job → IsViewOf job v → is_live v.phase ≡ true → SomeActs job v
live_acts job v good inv live = elim (cases_Bool (cancel_due job v)) [
  | inl due ↦ cancel_acts job v due
  | inr not_due ↦ elim (moves_or_back job v inv live) [
    | inl acts ↦ acts
    | inr back ↦ back_acts job v good inv live not_due back
  ]
]

-- where the migration is over, the guests and those that wait go on
three_true : (a b c : Bool) → a ≡ true → b ≡ true → c ≡ true → (a && b && c) ≡ true
three_true a b c e f g = rw (e, f, g) refl

still_acts : (job : Job) (v : View) → IsViewOf job v → is_live v.phase ≡ false → is_finished job v ≡ false → SomeActs job v
still_acts job v inv still unfinished =
    let due = and_right (reaches job.config.cancel (length v.history)) (is_live v.phase) still in
    elim (cases_Bool (queues_empty v.disks)) [
      | inl queues ↦ elim (cases_Bool (all_ended_from 0 job.traces v.history)) [
        | inl all ↦ absurd (true≢false (sym (three_true (not (is_live v.phase)) (all_ended_from 0 job.traces v.history) (queues_empty v.disks) (ap not still) all queues) ∙ unfinished))
        | inr left ↦
            let s = some_guest 0 job.traces v.history left in
            guest_acts_alone job v s.guest s.there (has_more job v.history s) (in_no_queue v.disks s.guest queues) due (still_not_stunned v.phase still) (still_not_running v.phase still)
      ]
      | inr waits ↦
          let q = some_queue v.disks waits in
          release_acts_alone job v q.disk (omega (arith, q.there, inv.lists.disks)) q.waits due (still_not_running v.phase still)
    ]

pub never_stuck : (job : Job) (v : View) → IsGoodJob job → IsViewOf job v → is_finished job v ≡ false → SomeActs job v
never_stuck job v good inv unfinished = elim (cases_Bool (is_live v.phase)) [
  | inl live ↦ live_acts job v good inv live
  | inr still ↦ still_acts job v inv still unfinished
]
