-- The driver's order finds an event that goes on wherever there is one, and none where the run is finished.
use Rattle.std.specs.Prelude.{◌≡◌, ◌⊎◌, ◌<◌, ℕ, zero, suc, ◌%◌, ◌&&◌, ◌||◌, Bool, true, false, List, [], ◌∷◌, ◌++◌, length, take, drop, Option, Some, None, is_none, IsSomeAnd, if◌then◌else◌}
use Rattle.std.specs.List.{list_any, list_all}
use Rattle.std.proofs.Common.{arith, refl, ap, sym, ◌∙◌, subst, inl, inr, take-append-drop}
use Rattle.std.proofs.lemmas.Bool.{cases_eq, and_parts, and_from, or_left, or_right, ltb-true, lt-ltb}
use Rattle.std.proofs.lemmas.List.Folds.{list_any-append, list_all-append}
use Rattle.xv_model.specs.Job.{Job, IsGoodJob, guest_count}
use Rattle.xv_model.specs.View.{View}
use Rattle.xv_model.specs.Wait.{Event, Why, wait, fits}
use Rattle.xv_model.specs.Invariant.{IsViewOf}
use Rattle.xv_model.specs.Work.{is_finished}
use Rattle.xv_model.specs.Driver.{for_each_below, driver_events, first_able, from_place, next_event}
use Rattle.xv_base.specs.declared.event.Event.TheVariants.{Guest, Begin, Read, Advance, Release, Round, Page, Send, Deliver, Apply, Ack, Credit, Stun, Switch, Cancel}
use Rattle.xv_model.proofs.Able.{SomeActs}
use Rattle.xv_model.proofs.NeverStuck.{never_stuck}

-- whether an event goes on
abbrev pub goes_on : Job → View → Event → Bool
goes_on job v e = is_none (wait job v e false)

none_waits : (w : Option Why) → is_none w ≡ true → w ≡ None
none_waits None e = refl
none_waits (Some why) e = absurd (cc)

-- what passes for one of the numbers below n passes for the list over them
below_any : (test : Event → Bool) (n i : ℕ) (events : ℕ → List Event) → i < n → list_any test (events i) ≡ true → list_any test (for_each_below n events) ≡ true
below_any test zero i events lt e = absurd (omega arith)
below_any test (suc n) i events lt e = elim (cases_eq i n) [
  | inl same ↦ list_any-append test (for_each_below n events) (events n) ∙ or_right (list_any test (for_each_below n events)) (list_any test (events n)) (subst (λ (k : ℕ). list_any test (events k) ≡ true) same e)
  | inr other ↦ list_any-append test (for_each_below n events) (events n) ∙ or_left (list_any test (for_each_below n events)) (list_any test (events n)) (below_any test n i events (omega (arith, lt, other)) e)
]

below_all : (test : Event → Bool) (n : ℕ) (events : ℕ → List Event) → ((i : ℕ) → i < n → list_all test (events i) ≡ true) → list_all test (for_each_below n events) ≡ true
below_all test zero events each = refl
below_all test (suc n) events each = list_all-append test (for_each_below n events) (events n) ∙ and_from (list_all test (for_each_below n events)) (list_all test (events n)) (below_all test n events (λ i lt. each i (omega (arith, lt)))) (each n (omega arith))

-- the parts of the driver's list
abbrev guests_of : Job → List Event
guests_of job = for_each_below (guest_count job) (λ g. Guest (record { 0 = g }) ∷ [])

abbrev disk_events : ℕ → List Event
disk_events d = Begin d ∷ Read d ∷ Advance d ∷ Release d ∷ []

abbrev disks_of : Job → List Event
disks_of job = for_each_below (length job.copy.disks) disk_events

abbrev rounds_of : List Event
rounds_of = Round ∷ Page ∷ []

abbrev sends_of : Job → List Event
sends_of job = for_each_below job.config.streams (λ s. Send s ∷ [])

abbrev deliveries_of : Job → List Event
deliveries_of job = for_each_below job.config.streams (λ s. Deliver s ∷ [])

abbrev ends_of : List Event
ends_of = Apply ∷ Ack ∷ Credit ∷ Stun ∷ Switch ∷ Cancel ∷ []

-- six lists joined
in_left : (test : Event → Bool) (xs ys : List Event) → list_any test xs ≡ true → list_any test (xs ++ ys) ≡ true
in_left test xs ys e = list_any-append test xs ys ∙ or_left (list_any test xs) (list_any test ys) e

in_right : (test : Event → Bool) (xs ys : List Event) → list_any test ys ≡ true → list_any test (xs ++ ys) ≡ true
in_right test xs ys e = list_any-append test xs ys ∙ or_right (list_any test xs) (list_any test ys) e

abbrev joined_six : List Event → List Event → List Event → List Event → List Event → List Event → List Event
joined_six a b c d e f = a ++ b ++ c ++ d ++ e ++ f

in_first : (test : Event → Bool) (a b c d e f : List Event) → list_any test a ≡ true → list_any test (joined_six a b c d e f) ≡ true
in_first test a b c d e f h = in_left test (a ++ b ++ c ++ d ++ e) f (in_left test (a ++ b ++ c ++ d) e (in_left test (a ++ b ++ c) d (in_left test (a ++ b) c (in_left test a b h))))

in_second : (test : Event → Bool) (a b c d e f : List Event) → list_any test b ≡ true → list_any test (joined_six a b c d e f) ≡ true
in_second test a b c d e f h = in_left test (a ++ b ++ c ++ d ++ e) f (in_left test (a ++ b ++ c ++ d) e (in_left test (a ++ b ++ c) d (in_left test (a ++ b) c (in_right test a b h))))

in_third : (test : Event → Bool) (a b c d e f : List Event) → list_any test c ≡ true → list_any test (joined_six a b c d e f) ≡ true
in_third test a b c d e f h = in_left test (a ++ b ++ c ++ d ++ e) f (in_left test (a ++ b ++ c ++ d) e (in_left test (a ++ b ++ c) d (in_right test (a ++ b) c h)))

in_fourth : (test : Event → Bool) (a b c d e f : List Event) → list_any test d ≡ true → list_any test (joined_six a b c d e f) ≡ true
in_fourth test a b c d e f h = in_left test (a ++ b ++ c ++ d ++ e) f (in_left test (a ++ b ++ c ++ d) e (in_right test (a ++ b ++ c) d h))

in_fifth : (test : Event → Bool) (a b c d e f : List Event) → list_any test e ≡ true → list_any test (joined_six a b c d e f) ≡ true
in_fifth test a b c d e f h = in_left test (a ++ b ++ c ++ d ++ e) f (in_right test (a ++ b ++ c ++ d) e h)

in_sixth : (test : Event → Bool) (a b c d e f : List Event) → list_any test f ≡ true → list_any test (joined_six a b c d e f) ≡ true
in_sixth test a b c d e f h = in_right test (a ++ b ++ c ++ d ++ e) f h

-- each event of the job is in the driver's list
guest_in : (test : Event → Bool) (job : Job) (g : ℕ) → g < guest_count job → test (Guest (record { 0 = g })) ≡ true → list_any test (driver_events job) ≡ true
guest_in test job g lt e = in_first test (guests_of job) (disks_of job) rounds_of (sends_of job) (deliveries_of job) ends_of (below_any test (guest_count job) g (λ k. Guest (record { 0 = k }) ∷ []) lt (rw e refl))

disk_in : (test : Event → Bool) (job : Job) (d : ℕ) → d < length job.copy.disks → list_any test (disk_events d) ≡ true → list_any test (driver_events job) ≡ true
disk_in test job d lt e = in_second test (guests_of job) (disks_of job) rounds_of (sends_of job) (deliveries_of job) ends_of (below_any test (length job.copy.disks) d disk_events lt e)

round_in : (test : Event → Bool) (job : Job) → list_any test rounds_of ≡ true → list_any test (driver_events job) ≡ true
round_in test job e = in_third test (guests_of job) (disks_of job) rounds_of (sends_of job) (deliveries_of job) ends_of e

send_in : (test : Event → Bool) (job : Job) (s : ℕ) → s < job.config.streams → test (Send s) ≡ true → list_any test (driver_events job) ≡ true
send_in test job s lt e = in_fourth test (guests_of job) (disks_of job) rounds_of (sends_of job) (deliveries_of job) ends_of (below_any test job.config.streams s (λ k. Send k ∷ []) lt (rw e refl))

deliver_in : (test : Event → Bool) (job : Job) (s : ℕ) → s < job.config.streams → test (Deliver s) ≡ true → list_any test (driver_events job) ≡ true
deliver_in test job s lt e = in_fifth test (guests_of job) (disks_of job) rounds_of (sends_of job) (deliveries_of job) ends_of (below_any test job.config.streams s (λ k. Deliver k ∷ []) lt (rw e refl))

end_in : (test : Event → Bool) (job : Job) → list_any test ends_of ≡ true → list_any test (driver_events job) ≡ true
end_in test job e = in_sixth test (guests_of job) (disks_of job) rounds_of (sends_of job) (deliveries_of job) ends_of e

one_of_four : (a b c d : Bool) → (a ≡ true) ⊎ ((b ≡ true) ⊎ ((c ≡ true) ⊎ (d ≡ true))) → (a || (b || (c || (d || false)))) ≡ true
one_of_four a b c d (inl e) = rw e refl
one_of_four a b c d (inr (inl e)) = or_right a _ (rw e refl)
one_of_four a b c d (inr (inr (inl e))) = or_right a _ (or_right b _ (rw e refl))
one_of_four a b c d (inr (inr (inr e))) = or_right a _ (or_right b _ (or_right c _ (rw e refl)))

pub event_in : (test : Event → Bool) (job : Job) (e : Event) → fits job e ≡ true → test e ≡ true → list_any test (driver_events job) ≡ true
event_in test job (Guest g) f t = guest_in test job g.0 (ltb-true g.0 (guest_count job) f) t
event_in test job (Begin d) f t = disk_in test job d (ltb-true d (length job.copy.disks) f) (one_of_four (test (Begin d)) (test (Read d)) (test (Advance d)) (test (Release d)) (inl t))
event_in test job (Read d) f t = disk_in test job d (ltb-true d (length job.copy.disks) f) (one_of_four (test (Begin d)) (test (Read d)) (test (Advance d)) (test (Release d)) (inr (inl t)))
event_in test job (Advance d) f t = disk_in test job d (ltb-true d (length job.copy.disks) f) (one_of_four (test (Begin d)) (test (Read d)) (test (Advance d)) (test (Release d)) (inr (inr (inl t))))
event_in test job (Release d) f t = disk_in test job d (ltb-true d (length job.copy.disks) f) (one_of_four (test (Begin d)) (test (Read d)) (test (Advance d)) (test (Release d)) (inr (inr (inr t))))
event_in test job Round f t = round_in test job (or_left (test Round) _ t)
event_in test job Page f t = round_in test job (or_right (test Round) _ (or_left (test Page) _ t))
event_in test job (Send s) f t = send_in test job s (ltb-true s job.config.streams f) t
event_in test job (Deliver s) f t = deliver_in test job s (ltb-true s job.config.streams f) t
event_in test job Apply f t = end_in test job (or_left (test Apply) _ t)
event_in test job Ack f t = end_in test job (or_right (test Apply) _ (or_left (test Ack) _ t))
event_in test job Credit f t = end_in test job (or_right (test Apply) _ (or_right (test Ack) _ (or_left (test Credit) _ t)))
event_in test job Stun f t = end_in test job (or_right (test Apply) _ (or_right (test Ack) _ (or_right (test Credit) _ (or_left (test Stun) _ t))))
event_in test job Switch f t = end_in test job (or_right (test Apply) _ (or_right (test Ack) _ (or_right (test Credit) _ (or_right (test Stun) _ (or_left (test Switch) _ t)))))
event_in test job Cancel f t = end_in test job (or_right (test Apply) _ (or_right (test Ack) _ (or_right (test Credit) _ (or_right (test Stun) _ (or_right (test Switch) _ (or_left (test Cancel) _ t))))))

-- all events of the list are events of the job
all_joined : (test : Event → Bool) (xs ys : List Event) → list_all test xs ≡ true → list_all test ys ≡ true → list_all test (xs ++ ys) ≡ true
all_joined test xs ys e f = list_all-append test xs ys ∙ and_from (list_all test xs) (list_all test ys) e f

six_joined : (test : Event → Bool) (a b c d e f : List Event) → list_all test a ≡ true → list_all test b ≡ true → list_all test c ≡ true → list_all test d ≡ true → list_all test e ≡ true → list_all test f ≡ true → list_all test (joined_six a b c d e f) ≡ true
six_joined test a b c d e f g h i j k l =
    all_joined test (a ++ b ++ c ++ d ++ e) f (all_joined test (a ++ b ++ c ++ d) e (all_joined test (a ++ b ++ c) d (all_joined test (a ++ b) c (all_joined test a b g h) i) j) k) l

disk_events_fit : (job : Job) (d : ℕ) → d < length job.copy.disks → list_all (fits job) (disk_events d) ≡ true
disk_events_fit job d lt = rw (lt-ltb d (length job.copy.disks) lt) refl

pub all_fit : (job : Job) → list_all (fits job) (driver_events job) ≡ true
all_fit job =
    let guests = below_all (fits job) (guest_count job) (λ k. Guest (record { 0 = k }) ∷ []) (λ g lt. rw (lt-ltb g (guest_count job) lt) refl) in
    let disks = below_all (fits job) (length job.copy.disks) disk_events (disk_events_fit job) in
    let sends = below_all (fits job) job.config.streams (λ k. Send k ∷ []) (λ s lt. rw (lt-ltb s job.config.streams lt) refl) in
    let deliveries = below_all (fits job) job.config.streams (λ k. Deliver k ∷ []) (λ s lt. rw (lt-ltb s job.config.streams lt) refl) in
    six_joined (fits job) (guests_of job) (disks_of job) rounds_of (sends_of job) (deliveries_of job) ends_of guests disks refl sends deliveries refl

-- turning the list changes neither
or_turned : (a b : Bool) → (a || b) ≡ true → (b || a) ≡ true
or_turned true b e = or_right b true refl
or_turned false b e = or_left b false e

and_turned : (a b : Bool) → (a && b) ≡ true → (b && a) ≡ true
and_turned true b e = and_from b true e refl
and_turned false b e = absurd (cc)

any_from_place : (test : Event → Bool) (events : List Event) (place : ℕ) → list_any test events ≡ true → list_any test (from_place events place) ≡ true
any_from_place test events place e =
    let split : list_any test (take place events ++ drop place events) ≡ true = ap (list_any test) (take-append-drop place events) ∙ e in
    list_any-append test (drop place events) (take place events) ∙ or_turned (list_any test (take place events)) (list_any test (drop place events)) (sym (list_any-append test (take place events) (drop place events)) ∙ split)

all_from_place : (test : Event → Bool) (events : List Event) (place : ℕ) → list_all test events ≡ true → list_all test (from_place events place) ≡ true
all_from_place test events place e =
    let split : list_all test (take place events ++ drop place events) ≡ true = ap (list_all test) (take-append-drop place events) ∙ e in
    list_all-append test (drop place events) (take place events) ∙ and_turned (list_all test (take place events)) (list_all test (drop place events)) (sym (list_all-append test (take place events) (drop place events)) ∙ split)

-- what the first event that goes on is
pub record Finds (job : Job) (v : View) (found : Option Event) : Type 0 where
  pub event : Event
  pub is : found ≡ Some event
  pub fitting : fits job event ≡ true
  pub acts : wait job v event false ≡ None

finds_first : (job : Job) (v : View) (e : Event) (es : List Event) (b : Bool) → b ≡ goes_on job v e → fits job e ≡ true → (b ≡ false → Finds job v (first_able job v es)) → Finds job v (if b then Some e else first_able job v es)
finds_first job v e es true same f later = record { event = e; is = refl; fitting = f; acts = none_waits (wait job v e false) (sym same) }
finds_first job v e es false same f later = later refl

or_second : (a b : Bool) → (a || b) ≡ true → a ≡ false → b ≡ true
or_second true b e f = absurd (cc)
or_second false b e f = e

finds : (job : Job) (v : View) (es : List Event) → list_all (fits job) es ≡ true → list_any (goes_on job v) es ≡ true → Finds job v (first_able job v es)
finds job v [] f e = absurd (cc)
finds job v (x ∷ es) f e =
    let both = and_parts (fits job x) (list_all (fits job) es) f in
    finds_first job v x es (goes_on job v x) refl both.0 (λ waits. finds job v es both.1 (or_second (goes_on job v x) (list_any (goes_on job v) es) e waits))

pub some_acts_any : (job : Job) (v : View) → SomeActs job v → list_any (goes_on job v) (driver_events job) ≡ true
some_acts_any job v s = event_in (goes_on job v) job s.event s.fitting (ap is_none s.acts)

pub driver_finds : (job : Job) (v : View) (n : ℕ) → IsGoodJob job → IsViewOf job v → is_finished job v ≡ false → Finds job v (next_event job v n)
driver_finds job v n good inv unfinished =
    let place = n % length (driver_events job) in
    finds job v (from_place (driver_events job) place) (all_from_place (fits job) (driver_events job) place (all_fit job)) (any_from_place (goes_on job v) (driver_events job) place (some_acts_any job v (never_stuck job v good inv unfinished)))

pub driver_some : (job : Job) (v : View) (n : ℕ) → IsGoodJob job → IsViewOf job v → is_finished job v ≡ false → IsSomeAnd (next_event job v n) (λ e. (fits job e ≡ true) × (wait job v e false ≡ None))
driver_some job v n good inv unfinished =
    let f = driver_finds job v n good inv unfinished in
    subst (λ (o : Option Event). IsSomeAnd o (λ e. (fits job e ≡ true) × (wait job v e false ≡ None))) (sym f.is) (f.fitting, f.acts)
