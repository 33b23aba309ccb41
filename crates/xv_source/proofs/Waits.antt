-- What the half's own call waits for is what the machine does, in whatever migration lets the event go on.
use Rattle.std.specs.Prelude.{◌≡◌, ℕ, ◌==◌, ◌&&◌, ◌||◌, not, Bool, true, false, Option, None, IfSome, nat_lt, nat_le, length, get_or, if◌then◌else◌}
use Rattle.std.proofs.Common.{refl, sym, ap, ◌∙◌}
use Rattle.std.proofs.lemmas.Bool.{and_parts, not-true}
use Rattle.xv_base.specs.declared.answer.Why.TheVariants.{CancelDue, NotNow, NothingThere, Throttled, NoCredit}
use Rattle.xv_base.specs.declared.event.Event.TheVariants.{Guest, Begin, Read, Advance, Release, Round, Page, Send, Deliver, Apply, Ack, Credit, Stun, Switch, Cancel}
use Rattle.xv_model.specs.Job.{Job, blocks, block_of}
use Rattle.xv_model.specs.View.{View, no_disk, is_running, is_empty, is_inside, is_empty_set, is_copied, all_copied, front}
use Rattle.xv_model.specs.Wait.{Event, Why, wait, unless, cancel_due, is_before, is_full, room, may_begin_round, may_stun}
use Rattle.xv_source.specs.Half.{Source, with_limits, with_source}
use Rattle.xv_source.specs.Step.{is_let, Allows, is_of_source}
use Rattle.xv_source.specs.Waits.{own_wait, is_asked, plain_job, plain_view, judges}
use Rattle.xv_source.proofs.Steps.{along, against}

-- the events whose wait the half knows
abbrev pub is_own : Event → Bool
is_own (Guest g) = false
is_own (Begin d) = true
is_own (Read d) = true
is_own (Advance d) = true
is_own (Release d) = true
is_own Round = true
is_own Page = true
is_own (Send s) = true
is_own (Deliver s) = false
is_own Apply = false
is_own Ack = false
is_own Credit = false
is_own Stun = true
is_own Switch = false
is_own Cancel = false

-- the two formats by the number and by the truth value
format_is : (beside : Bool) → ((if beside then 2 else 1) == 2) ≡ beside
format_is true = refl
format_is false = refl

-- the tests of a release, of a round and of the stun, as truth values
release_by : (queue due run inside full : Bool) → due ≡ false → run ≡ true →
    unless queue NothingThere (unless inside NotNow (unless full Throttled None)) ≡ unless queue NothingThere (unless due CancelDue (unless (run && inside) NotNow (unless (run && full) Throttled None)))
release_by queue false true inside full not_due running = refl
release_by queue false false inside full not_due running = absurd (cc)
release_by queue true run inside full not_due running = absurd (cc)

round_by : (run sent copied few none beside two form : Bool) → run ≡ true → two ≡ beside → beside ≡ form →
    unless (not (sent && (if copied then few else (two && not none)))) NotNow None ≡ unless (not run) NotNow (unless (not (sent && (if copied then few else (form && not none)))) NotNow None)
round_by true sent copied few none beside two form running is same =
    ap (λ (b : Bool). unless (not (sent && (if copied then few else (b && not none)))) NotNow None) (is ∙ same)
round_by false sent copied few none beside two form running is same = absurd (cc)

stun_by : (run early may : Bool) → (run && not early) ≡ true → unless (not may) NotNow None ≡ unless (not run) NotNow (unless early CancelDue (unless (not may) NotNow None))
stun_by true false may lets = refl
stun_by true true may lets = absurd (cc)
stun_by false early may lets = absurd (cc)

same-wait : (event : Event) (job : Job) (v : View) (h : Source) (beside flag : Bool) → is_let (with_limits job h) (with_source v h) event ≡ true → is_asked v.phase event ≡ true →
    beside ≡ (job.format == 2) → is_own event ≡ true → own_wait beside h event ≡ wait (with_limits job h) (with_source v h) event flag
same-wait (Begin d) job v h beside flag lets asked format of = ap (λ (b : Bool). unless (not b) NotNow (own_wait beside h (Begin d))) (sym asked)
same-wait (Read d) job v h beside flag lets asked format of = ap (λ (b : Bool). unless (not b) NotNow (own_wait beside h (Read d))) (sym asked)
same-wait (Advance d) job v h beside flag lets asked format of = ap (λ (b : Bool). unless (not b) NotNow (own_wait beside h (Advance d))) (sym asked)
same-wait (Release d) job v h beside flag lets asked format of =
    release_by (is_empty (get_or h.disks d no_disk).queue) (cancel_due (with_limits job h) (with_source v h)) (is_running v.phase)
    (is_inside (get_or h.disks d no_disk) (block_of h.shape (front (get_or h.disks d no_disk)).unit.0)) (is_full (with_limits job h) (with_source v h))
    (not-true _ (and_parts (not (is_empty (get_or h.disks d no_disk).queue)) (not (cancel_due (with_limits job h) (with_source v h))) lets).1) asked
same-wait Round job v h beside flag lets asked format of =
    round_by (is_running v.phase) (is_empty_set h.to_send) (all_copied (with_limits job h) (with_source v h)) (nat_lt h.rounds h.config.rounds) (is_empty_set h.dirty) beside ((if beside then 2 else 1) == 2) (job.format == 2)
    asked (format_is beside) format
same-wait Page job v h beside flag lets asked format of = ap (λ (b : Bool). unless (not b) NotNow (own_wait beside h Page)) (sym asked)
same-wait (Send s) job v h beside flag lets asked format of = ap (λ (b : Bool). unless (not b) NotNow (own_wait beside h (Send s))) (sym asked)
same-wait Stun job v h beside flag lets asked format of =
    stun_by (is_running v.phase) (is_before h.config.cancel (length v.history)) (may_stun (with_limits job h) (with_source v h)) lets
same-wait (Guest g) job v h beside flag lets asked format of = absurd (cc)
same-wait (Deliver s) job v h beside flag lets asked format of = absurd (cc)
same-wait Apply job v h beside flag lets asked format of = absurd (cc)
same-wait Ack job v h beside flag lets asked format of = absurd (cc)
same-wait Credit job v h beside flag lets asked format of = absurd (cc)
same-wait Switch job v h beside flag lets asked format of = absurd (cc)
same-wait Cancel job v h beside flag lets asked format of = absurd (cc)

pub own-wait : (job : Job) (v : View) (event : Event) (h : Source) (beside flag : Bool) → Allows job v event h → is_asked v.phase event ≡ true → beside ≡ (job.format == 2) →
    is_own event ≡ true → own_wait beside h event ≡ wait job v event flag
own-wait job v event h beside flag allows asked format of =
    along (λ (j : Job) (w : View). own_wait beside h event ≡ wait j w event flag) job v h allows.of
    (same-wait event job v h beside flag (against (λ (j : Job) (w : View). is_let j w event ≡ true) job v h allows.of allows.lets) asked format of)

-- so where the half's own call goes on, the machine does
pub own-goes : (job : Job) (v : View) (event : Event) (h : Source) (flag : Bool) → Allows job v event h → is_asked v.phase event ≡ true → is_own event ≡ true →
    own_wait (job.format == 2) h event ≡ None → wait job v event flag ≡ None
own-goes job v event h flag allows asked own goes = sym (own-wait job v event h (job.format == 2) flag allows asked refl own) ∙ goes

-- an event of the source on a disk that is there is one whose wait the half knows
pub own-of : (count : ℕ) (event : Event) → is_of_source count event ≡ true → is_own event ≡ true
own-of count (Guest g) of = of
own-of count (Begin d) of = refl
own-of count (Read d) of = refl
own-of count (Advance d) of = refl
own-of count (Release d) of = refl
own-of count Round of = refl
own-of count Page of = refl
own-of count (Send s) of = refl
own-of count (Deliver s) of = of
own-of count Apply of = of
own-of count Ack of = of
own-of count Credit of = of
own-of count Stun of = refl
own-of count Switch of = of
own-of count Cancel of = of

-- what holds of a reason, and of a later one, holds of the wait that comes of both
pub unless-if : (P : Why → Type 0) (b : Bool) (why : Why) (later : Option Why) → P why → IfSome later P → IfSome (unless b why later) P
unless-if P true why later here rest = here
unless-if P false why later here rest = rest

-- the half's own call answers no wait but those that it judges
pub own-judged : (beside : Bool) (h : Source) (event : Event) → is_own event ≡ true → IfSome (own_wait beside h event) (λ why. judges event why ≡ true)
own-judged beside h (Begin d) of = unless-if (λ why. judges (Begin d) why ≡ true) (is_copied (blocks h.shape.disks d) (get_or h.disks d no_disk) || not ((get_or h.disks d no_disk).region == 0) || not (is_empty (get_or h.disks d no_disk).queue)) NotNow None refl tt
own-judged beside h (Read d) of = unless-if (λ why. judges (Read d) why ≡ true) (nat_le (get_or h.disks d no_disk).region (get_or h.disks d no_disk).got) NotNow None refl tt
own-judged beside h (Advance d) of =
    unless-if (λ why. judges (Advance d) why ≡ true) (((get_or h.disks d no_disk).region == 0) || nat_lt (get_or h.disks d no_disk).got (get_or h.disks d no_disk).region) NotNow _ refl
    (unless-if (λ why. judges (Advance d) why ≡ true) (nat_lt (room (plain_job beside h) (plain_view h)) (get_or h.disks d no_disk).region) Throttled None refl tt)
own-judged beside h (Release d) of =
    unless-if (λ why. judges (Release d) why ≡ true) (is_empty (get_or h.disks d no_disk).queue) NothingThere _ refl
    (unless-if (λ why. judges (Release d) why ≡ true) (is_inside (get_or h.disks d no_disk) (block_of h.shape (front (get_or h.disks d no_disk)).unit.0)) NotNow _ refl
    (unless-if (λ why. judges (Release d) why ≡ true) (is_full (plain_job beside h) (plain_view h)) Throttled None refl tt))
own-judged beside h Round of = unless-if (λ why. judges Round why ≡ true) (not (may_begin_round (plain_job beside h) (plain_view h))) NotNow None refl tt
own-judged beside h Page of =
    unless-if (λ why. judges Page why ≡ true) (is_empty_set h.to_send) NothingThere _ refl
    (unless-if (λ why. judges Page why ≡ true) (is_full (plain_job beside h) (plain_view h)) Throttled None refl tt)
own-judged beside h (Send s) of =
    unless-if (λ why. judges (Send s) why ≡ true) (is_empty h.messages) NothingThere _ refl
    (unless-if (λ why. judges (Send s) why ≡ true) (h.credit == 0) NoCredit None refl tt)
own-judged beside h Stun of = unless-if (λ why. judges Stun why ≡ true) (not (may_stun (plain_job beside h) (plain_view h))) NotNow None refl tt
own-judged beside h (Guest g) of = absurd (cc)
own-judged beside h (Deliver s) of = absurd (cc)
own-judged beside h Apply of = absurd (cc)
own-judged beside h Ack of = absurd (cc)
own-judged beside h Credit of = absurd (cc)
own-judged beside h Switch of = absurd (cc)
own-judged beside h Cancel of = absurd (cc)
