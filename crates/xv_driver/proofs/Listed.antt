-- The events of the driver's list by their numbers.
use Rattle.std.specs.Prelude.{◌≡◌, ◌≤◌, ◌<◌, ℕ, zero, suc, ◌+◌, ◌-◌, ◌*◌, ◌/◌, ◌%◌, List, [], ◌∷◌, ◌++◌, length, get_or}
use Rattle.std.proofs.Common.{arith, refl, sym, ap, subst, ◌∙◌, inl, inr, append_assoc, length-append}
use Rattle.std.proofs.lemmas.Bool.{cases_lt}
use Rattle.std.proofs.lemmas.List.{get_or_append_left, get_or-append_right}
use Rattle.xv_base.specs.declared.event.Event.TheVariants.{Guest, Send, Deliver, Cancel}
use Rattle.xv_model.specs.Job.{Job, guest_count}
use Rattle.xv_model.specs.Wait.{Event}
use Rattle.xv_model.specs.Driver.{for_each_below, driver_events}
use Rattle.xv_job.specs.Written.{Written, job_of}
use Rattle.xv_driver.specs.Order.{AreNumbersOf, copy_events, round_events, end_events, later_events}

-- one event for each number
length-each : (n : ℕ) (event : ℕ → Event) → length (for_each_below n (λ (k : ℕ). event k ∷ [])) ≡ n
length-each zero event = refl
length-each (suc n) event = omega (arith, length-append (for_each_below n (λ (k : ℕ). event k ∷ [])) (event n ∷ []), length-each n event)

at-each : (n i : ℕ) (event : ℕ → Event) → i < n → get_or (for_each_below n (λ (k : ℕ). event k ∷ [])) i Cancel ≡ event i
at-each zero i event lt = absurd (omega arith)
at-each (suc n) i event lt = elim (cases_lt i n) [
  | inl less ↦
      let within : i < length (for_each_below n (λ (k : ℕ). event k ∷ [])) = omega (arith, less, length-each n event) in
      get_or_append_left (for_each_below n (λ (k : ℕ). event k ∷ [])) (event n ∷ []) Cancel i within ∙ at-each n i event less
  | inr last ↦
      let same : i ≡ n = omega arith in
      let none : i - n ≡ 0 = omega arith in
      get_or-append_right (for_each_below n (λ (k : ℕ). event k ∷ [])) (event n ∷ []) n i Cancel (length-each n event) last
      ∙ ap (λ (k : ℕ). get_or (event n ∷ []) k Cancel) none ∙ ap event (sym same)
]

-- four events for each disk
length-copies : (n : ℕ) → length (for_each_below n copy_events) ≡ 4 * n
length-copies zero = refl
length-copies (suc n) = omega (arith, length-append (for_each_below n copy_events) (copy_events n), length-copies n)

at-copies : (n i : ℕ) → i < 4 * n → get_or (for_each_below n copy_events) i Cancel ≡ get_or (copy_events (i / 4)) (i % 4) Cancel
at-copies zero i lt = absurd (omega arith)
at-copies (suc n) i lt = elim (cases_lt i (4 * n)) [
  | inl less ↦
      let within : i < length (for_each_below n copy_events) = omega (arith, less, length-copies n) in
      get_or_append_left (for_each_below n copy_events) (copy_events n) Cancel i within ∙ at-copies n i less
  | inr last ↦
      let disk : n ≡ i / 4 = omega arith in
      let place : i - 4 * n ≡ i % 4 = omega arith in
      get_or-append_right (for_each_below n copy_events) (copy_events n) (4 * n) i Cancel (length-copies n) last
      ∙ ap (λ (k : ℕ). get_or (copy_events n) k Cancel) place ∙ ap (λ (d : ℕ). get_or (copy_events d) (i % 4) Cancel) disk
]

-- the parts of the list
abbrev guests_of : Job → List Event
guests_of job = for_each_below (guest_count job) (λ g. Guest (record { 0 = g }) ∷ [])

abbrev copies_of : Job → List Event
copies_of job = for_each_below (length job.copy.disks) copy_events

abbrev sends_of : ℕ → List Event
sends_of streams = for_each_below streams (λ s. Send s ∷ [])

abbrev deliveries_of : ℕ → List Event
deliveries_of streams = for_each_below streams (λ s. Deliver s ∷ [])

regrouped : (a b r s t e : List Event) → a ++ b ++ r ++ s ++ t ++ e ≡ a ++ (b ++ (r ++ s ++ t ++ e))
regrouped a b r s t e = simp append_assoc

in-parts : (job : Job) → driver_events job ≡ guests_of job ++ (copies_of job ++ later_events job.config.streams)
in-parts job = regrouped (guests_of job) (copies_of job) round_events (sends_of job.config.streams) (deliveries_of job.config.streams) end_events

later-parts : (r s t e : List Event) → r ++ s ++ t ++ e ≡ r ++ (s ++ (t ++ e))
later-parts r s t e = simp append_assoc

later-in-parts : (streams : ℕ) → later_events streams ≡ round_events ++ (sends_of streams ++ (deliveries_of streams ++ end_events))
later-in-parts streams = later-parts round_events (sends_of streams) (deliveries_of streams) end_events

-- the events of each part
pub send-at : (streams i : ℕ) → 2 ≤ i → i < 2 + streams → get_or (later_events streams) i Cancel ≡ Send (i - 2)
send-at streams i from below =
    let rest = deliveries_of streams ++ end_events in
    let there : i - 2 < streams = omega arith in
    let within : i - 2 < length (sends_of streams) = omega (arith, there, length-each streams Send) in
    ap (λ (l : List Event). get_or l i Cancel) (later-in-parts streams)
    ∙ get_or-append_right round_events (sends_of streams ++ rest) 2 i Cancel refl from
    ∙ get_or_append_left (sends_of streams) rest Cancel (i - 2) within
    ∙ at-each streams (i - 2) Send there

behind_sends : (streams i : ℕ) → 2 + streams ≤ i → get_or (later_events streams) i Cancel ≡ get_or (deliveries_of streams ++ end_events) (i - 2 - streams) Cancel
behind_sends streams i from =
    let rest = deliveries_of streams ++ end_events in
    ap (λ (l : List Event). get_or l i Cancel) (later-in-parts streams)
    ∙ get_or-append_right round_events (sends_of streams ++ rest) 2 i Cancel refl (omega arith)
    ∙ get_or-append_right (sends_of streams) rest streams (i - 2) Cancel (length-each streams Send) (omega arith)

pub deliver-at : (streams i : ℕ) → 2 + streams ≤ i → i < 2 + streams + streams → get_or (later_events streams) i Cancel ≡ Deliver (i - (2 + streams))
deliver-at streams i from below =
    let there : i - 2 - streams < streams = omega arith in
    let within : i - 2 - streams < length (deliveries_of streams) = omega (arith, there, length-each streams Deliver) in
    let same : i - 2 - streams ≡ i - (2 + streams) = omega arith in
    behind_sends streams i from
    ∙ get_or_append_left (deliveries_of streams) end_events Cancel (i - 2 - streams) within
    ∙ at-each streams (i - 2 - streams) Deliver there ∙ ap Deliver same

pub end-at : (streams i : ℕ) → 2 + streams + streams ≤ i → get_or (later_events streams) i Cancel ≡ get_or end_events (i - (2 + streams + streams)) Cancel
end-at streams i from =
    let same : i - 2 - streams - streams ≡ i - (2 + streams + streams) = omega arith in
    behind_sends streams i (omega arith)
    ∙ get_or-append_right (deliveries_of streams) end_events streams (i - 2 - streams) Cancel (length-each streams Deliver) (omega arith)
    ∙ ap (λ (k : ℕ). get_or end_events k Cancel) same

pub round-at : (streams i : ℕ) → i < 2 → get_or (later_events streams) i Cancel ≡ get_or round_events i Cancel
round-at streams i below =
    ap (λ (l : List Event). get_or l i Cancel) (later-in-parts streams)
    ∙ get_or_append_left round_events (sends_of streams ++ (deliveries_of streams ++ end_events)) Cancel i below

pub is-guest : (job : Job) (i guests : ℕ) → guests ≡ guest_count job → i < guests → Guest (record { 0 = i }) ≡ get_or (driver_events job) i Cancel
is-guest job i guests same below =
    let guest : ℕ → Event = λ g. Guest (record { 0 = g }) in
    let there : i < guest_count job = omega arith in
    let within : i < length (guests_of job) = omega (arith, there, length-each (guest_count job) guest) in
    sym (
    ap (λ (l : List Event). get_or l i Cancel) (in-parts job)
    ∙ get_or_append_left (guests_of job) (copies_of job ++ later_events job.config.streams) Cancel i within
    ∙ at-each (guest_count job) i guest there
    )

behind-guests : (job : Job) (i guests : ℕ) → guests ≡ guest_count job → guests ≤ i → get_or (driver_events job) i Cancel ≡ get_or (copies_of job ++ later_events job.config.streams) (i - guests) Cancel
behind-guests job i guests same from =
    ap (λ (l : List Event). get_or l i Cancel) (in-parts job)
    ∙ get_or-append_right (guests_of job) (copies_of job ++ later_events job.config.streams) guests i Cancel (length-each (guest_count job) (λ g. Guest (record { 0 = g })) ∙ sym same) from

pub is-copy : (job : Job) (i guests disks : ℕ) → guests ≡ guest_count job → disks ≡ length job.copy.disks → guests ≤ i → i < guests + 4 * disks → get_or (copy_events ((i - guests) / 4)) ((i - guests) % 4) Cancel ≡ get_or (driver_events job) i Cancel
is-copy job i guests disks same each from below =
    let there : i - guests < 4 * length job.copy.disks = omega arith in
    let within : i - guests < length (copies_of job) = omega (arith, there, length-copies (length job.copy.disks)) in
    sym (
    behind-guests job i guests same from
    ∙ get_or_append_left (copies_of job) (later_events job.config.streams) Cancel (i - guests) within
    ∙ at-copies (length job.copy.disks) (i - guests) there
    )

pub is-later : (job : Job) (i guests disks streams : ℕ) → guests ≡ guest_count job → disks ≡ length job.copy.disks → streams ≡ job.config.streams → guests + 4 * disks ≤ i → get_or (later_events streams) (i - (guests + 4 * disks)) Cancel ≡ get_or (driver_events job) i Cancel
is-later job i guests disks streams same each all from =
    let count : length (copies_of job) ≡ 4 * disks = length-copies (length job.copy.disks) ∙ ap (λ (d : ℕ). 4 * d) (sym each) in
    let rest : i - guests - 4 * disks ≡ i - (guests + 4 * disks) = omega arith in
    sym (
    behind-guests job i guests same (omega arith)
    ∙ get_or-append_right (copies_of job) (later_events job.config.streams) (4 * disks) (i - guests) Cancel count (omega arith)
    ∙ ap (λ (s : ℕ). get_or (later_events s) (i - guests - 4 * disks) Cancel) (sym all)
    ∙ ap (λ (k : ℕ). get_or (later_events streams) k Cancel) rest
    )

-- how many there are
pub length-later : (streams : ℕ) → length (later_events streams) ≡ 2 * streams + 8
length-later streams =
    let parts : length (later_events streams) ≡ 2 + (length (sends_of streams) + (length (deliveries_of streams) + 6)) =
    ap (λ (l : List Event). length l) (later-in-parts streams) ∙ three-lengths (sends_of streams) (deliveries_of streams) in
    omega (arith, parts, length-each streams Send, length-each streams Deliver)
  where
    three-lengths : (s t : List Event) → length (round_events ++ (s ++ (t ++ end_events))) ≡ 2 + (length s + (length t + 6))
    three-lengths s t = omega (arith, length-append s (t ++ end_events), length-append t end_events)

length-listed : (job : Job) → length (driver_events job) ≡ guest_count job + 4 * length job.copy.disks + 2 * job.config.streams + 8
length-listed job =
    let parts = ap (λ (l : List Event). length l) (in-parts job) in
    omega (
      arith,
      parts,
      length-append (guests_of job) (copies_of job ++ later_events job.config.streams),
      length-append (copies_of job) (later_events job.config.streams),
      length-each (guest_count job) (λ g. Guest (record { 0 = g })),
      length-copies (length job.copy.disks),
      length-later job.config.streams,
    )

pub counted : (job : Job) (guests disks streams : ℕ) → guests ≡ guest_count job → disks ≡ length job.copy.disks → streams ≡ job.config.streams → guests + 4 * disks + 2 + 2 * streams + 6 ≡ length (driver_events job)
counted job guests disks streams same each all = omega (arith, length-listed job)

-- the numbers of a job that is the same
pub numbers-same : (u w : Written) (guests disks streams : ℕ) → u ≡ w → AreNumbersOf (job_of u) guests disks streams → AreNumbersOf (job_of w) guests disks streams
numbers-same u w guests disks streams same of = subst (λ (x : Written). AreNumbersOf (job_of x) guests disks streams) same of
