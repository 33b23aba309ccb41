-- The workers and the driver made all entries of a journal, each one of them.
use Rattle.std.specs.Prelude.{◌≡◌, ◌≤◌, ◌<◌, ℕ, zero, suc, ◌+◌, ◌-◌, ◌==◌, Bool, true, false, List, [], ◌∷◌, ◌++◌, length, map, take, sum_by, count_by, if◌then◌else◌}
use Rattle.std.specs.List.{range_with_len, list_all}
use Rattle.std.proofs.Common.{refl, ap, ◌∙◌, arith, inl, inr}
use Rattle.std.proofs.lemmas.Bool.{and_parts, cases_eq, eq-eqb, ne_eqb, ltb-true}
use Rattle.std.proofs.lemmas.List.{length-take}
use Rattle.std.proofs.lemmas.List.Sums.{sum_by-cons, AllPass-from_list_all, list_all-from_AllPass}
use Rattle.std.proofs.lemmas.List.Elements.{All-take}
use Rattle.xv_base.specs.declared.event.Event.{Event}
use Rattle.xv_base.specs.declared.event.Event.TheVariants.{Guest as GuestEvent, Begin, Read, Advance, Release, Round, Page, Send, Deliver, Apply, Ack, Credit, Stun, Switch, Cancel}
use Rattle.xv_base.specs.declared.answer.Entry.{Entry}
use Rattle.xv_model.specs.Job.{Job, guest_count}
use Rattle.xv_model.specs.Wait.{fits}
use Rattle.xv_job.specs.Written.{job_of}
use Rattle.xv_core.specs.Seen.{Seen}
use Rattle.xv_core.specs.Keeping.{IsKept}
use Rattle.xv_report.specs.declared.counts.Count.{Count}
use Rattle.xv_report.specs.declared.counts.Job1.{Job1}
use Rattle.xv_report.specs.declared.counts.Job1.TheVariants.{Guest, Copier, Pager, Sender, Receiver, Applier}
use Rattle.xv_report.specs.Workers.{is_worker}
use Rattle.xv_run.specs.Numbers.{worker_of, counted, workers, tally, MadeAll}
use Rattle.xv_run.proofs.Workers.{to_applier, to_receivers, to_senders, to_pager, to_copiers}

-- how many of these workers are this one
abbrev hits : Job1 → List Job1 → ℕ
hits x ws = count_by (λ w. is_worker w x) ws

hits-cons : (x w : Job1) (ws : List Job1) (b : Bool) → is_worker w x ≡ b → hits x (w ∷ ws) ≡ (if b then 1 else 0) + hits x ws
hits-cons x w ws b is = sum_by-cons (λ (v : Job1). if is_worker v x then 1 else 0) w ws ∙ ap (λ (c : Bool). (if c then 1 else 0) + hits x ws) is

skip : (x w : Job1) (ws : List Job1) → is_worker w x ≡ false → hits x (w ∷ ws) ≡ hits x ws
skip x w ws other = omega (arith, hits-cons x w ws false other)

-- of another kind
none-of : (x : Job1) (make : ℕ → Job1) (rest : List Job1) → ((n : ℕ) → is_worker (make n) x ≡ false) → (a n : ℕ) → hits x (map make (range_with_len a n) ++ rest) ≡ hits x rest
none-of x make rest apart a zero = refl
none-of x make rest apart a (suc n) =
    omega (arith, hits-cons x (make a) (map make (range_with_len (a + 1) n) ++ rest) false (apart a), none-of x make rest apart (a + 1) n)

-- of its own kind, behind its number and up to it
none-behind : (make : ℕ → Job1) (g : ℕ) (rest : List Job1) → ((n : ℕ) → is_worker (make n) (make g) ≡ (n == g)) → (a n : ℕ) → g < a → hits (make g) (map make (range_with_len a n) ++ rest) ≡ hits (make g) rest
none-behind make g rest own a zero behind = refl
none-behind make g rest own a (suc n) behind =
    omega (arith, hits-cons (make g) (make a) (map make (range_with_len (a + 1) n) ++ rest) false (own a ∙ ne_eqb a g (λ (same : a ≡ g). omega arith)), none-behind make g rest own (a + 1) n (omega arith))

once : (make : ℕ → Job1) (g : ℕ) (rest : List Job1) → ((n : ℕ) → is_worker (make n) (make g) ≡ (n == g)) → hits (make g) rest ≡ 0 → (a n : ℕ) → a ≤ g → g < a + n → hits (make g) (map make (range_with_len a n) ++ rest) ≡ 1
once make g rest own none a zero from to = absurd (omega arith)
once make g rest own none a (suc n) from to = elim (cases_eq a g) [
  | inl same ↦ omega (arith, hits-cons (make g) (make a) (map make (range_with_len (a + 1) n) ++ rest) true (own a ∙ eq-eqb a g same), none-behind make g rest own (a + 1) n (omega arith), none)
  | inr other ↦ omega (arith, hits-cons (make g) (make a) (map make (range_with_len (a + 1) n) ++ rest) false (own a ∙ ne_eqb a g other), once make g rest own none (a + 1) n (omega arith) (omega arith))
]

-- each event that fits the job is one worker's
module _ (job : Job) where
  abbrev disks : ℕ
  disks = length job.copy.disks

  abbrev streams : ℕ
  streams = job.config.streams

  guest-once : (g : ℕ) → g < guest_count job → hits (Guest g) (workers job) ≡ 1
  guest-once g there =
      let x = Guest g in
      let receivers = none-of x Receiver to_applier (λ n. refl) 0 streams in
      let senders = none-of x Sender (to_receivers job) (λ n. refl) 0 streams in
      let pager = skip x Pager (to_senders job) refl in
      let copiers = none-of x Copier (to_pager job) (λ n. refl) 0 disks in
      once Guest g (to_copiers job) (λ n. refl) (omega (arith, copiers, pager, senders, receivers)) 0 (guest_count job) (omega arith) (omega arith)

  copier-once : (d : ℕ) → d < disks → hits (Copier d) (workers job) ≡ 1
  copier-once d there =
      let x = Copier d in
      let receivers = none-of x Receiver to_applier (λ n. refl) 0 streams in
      let senders = none-of x Sender (to_receivers job) (λ n. refl) 0 streams in
      let pager = skip x Pager (to_senders job) refl in
      none-of x Guest (to_copiers job) (λ n. refl) 0 (guest_count job)
      ∙ once Copier d (to_pager job) (λ n. refl) (omega (arith, pager, senders, receivers)) 0 disks (omega arith) (omega arith)

  pager-once : hits Pager (workers job) ≡ 1
  pager-once =
      let receivers = none-of Pager Receiver to_applier (λ n. refl) 0 streams in
      let senders = none-of Pager Sender (to_receivers job) (λ n. refl) 0 streams in
      none-of Pager Guest (to_copiers job) (λ n. refl) 0 (guest_count job)
      ∙ none-of Pager Copier (to_pager job) (λ n. refl) 0 disks
      ∙ omega (arith, hits-cons Pager Pager (to_senders job) true refl, senders, receivers)

  sender-once : (s : ℕ) → s < streams → hits (Sender s) (workers job) ≡ 1
  sender-once s there =
      let x = Sender s in
      let receivers = none-of x Receiver to_applier (λ n. refl) 0 streams in
      none-of x Guest (to_copiers job) (λ n. refl) 0 (guest_count job)
      ∙ none-of x Copier (to_pager job) (λ n. refl) 0 disks
      ∙ skip x Pager (to_senders job) refl
      ∙ once Sender s (to_receivers job) (λ n. refl) receivers 0 streams (omega arith) (omega arith)

  receiver-once : (s : ℕ) → s < streams → hits (Receiver s) (workers job) ≡ 1
  receiver-once s there =
      let x = Receiver s in
      none-of x Guest (to_copiers job) (λ n. refl) 0 (guest_count job)
      ∙ none-of x Copier (to_pager job) (λ n. refl) 0 disks
      ∙ skip x Pager (to_senders job) refl
      ∙ none-of x Sender (to_receivers job) (λ n. refl) 0 streams
      ∙ once Receiver s to_applier (λ n. refl) refl 0 streams (omega arith) (omega arith)

  applier-once : hits Applier (workers job) ≡ 1
  applier-once =
      none-of Applier Guest (to_copiers job) (λ n. refl) 0 (guest_count job)
      ∙ none-of Applier Copier (to_pager job) (λ n. refl) 0 disks
      ∙ skip Applier Pager (to_senders job) refl
      ∙ none-of Applier Sender (to_receivers job) (λ n. refl) 0 streams
      ∙ none-of Applier Receiver to_applier (λ n. refl) 0 streams

  event-once : (e : Event) → fits job e ≡ true → hits (worker_of e) (workers job) ≡ 1
  event-once (GuestEvent g) fit = guest-once g.0 (ltb-true g.0 (guest_count job) fit)
  event-once (Begin d) fit = copier-once d (ltb-true d disks fit)
  event-once (Read d) fit = copier-once d (ltb-true d disks fit)
  event-once (Advance d) fit = copier-once d (ltb-true d disks fit)
  event-once (Release d) fit = copier-once d (ltb-true d disks fit)
  event-once Round fit = pager-once
  event-once Page fit = pager-once
  event-once (Send s) fit = sender-once s (ltb-true s streams fit)
  event-once (Deliver s) fit = receiver-once s (ltb-true s streams fit)
  event-once Apply fit = applier-once
  event-once Ack fit = applier-once
  event-once Credit fit = pager-once
  event-once Stun fit = pager-once
  event-once Switch fit = pager-once
  event-once Cancel fit = pager-once

-- the numbers of these workers together
abbrev total : List Entry → List Job1 → ℕ
total journal ws = sum_by (λ (c : Count). c.steps) (map (counted journal) ws)

total-none : (ws : List Job1) → total [] ws ≡ 0
total-none [] = refl
total-none (w ∷ ws) = omega (arith, sum_by-cons (λ (c : Count). c.steps) (counted [] w) (map (counted []) ws), total-none ws)

-- one entry more adds as many as are its worker
total-cons : (e : Entry) (es : List Entry) (ws : List Job1) → total (e ∷ es) ws ≡ hits (worker_of e.event) ws + total es ws
total-cons e es [] = refl
total-cons e es (w ∷ ws) =
    omega (
      arith,
      sum_by-cons (λ (c : Count). c.steps) (counted (e ∷ es) w) (map (counted (e ∷ es)) ws),
      sum_by-cons (λ (c : Count). c.steps) (counted es w) (map (counted es) ws),
      sum_by-cons (λ (x : Entry). if is_worker w (worker_of x.event) then 1 else 0) e es,
      hits-cons (worker_of e.event) w ws (is_worker w (worker_of e.event)) refl,
      total-cons e es ws,
    )

all-counted : (job : Job) (journal : List Entry) → list_all (λ (e : Entry). fits job e.event) journal ≡ true → total journal (workers job) ≡ length journal
all-counted job [] fitting = total-none (workers job)
all-counted job (e ∷ es) fitting =
    let fit = and_parts (fits job e.event) (list_all (λ (x : Entry). fits job x.event) es) fitting in
    omega (arith, total-cons e es (workers job), event-once job e.event fit.0, all-counted job es fit.1)

front-fits : (job : Job) (journal : List Entry) (n : ℕ) → list_all (λ (e : Entry). fits job e.event) journal ≡ true → list_all (λ (e : Entry). fits job e.event) (take n journal) ≡ true
front-fits job journal n fitting =
    list_all-from_AllPass (λ (e : Entry). fits job e.event) (take n journal)
    (All-take (λ (e : Entry). fits job e.event ≡ true) n journal (AllPass-from_list_all (λ (e : Entry). fits job e.event) journal fitting))

-- The same of a kept migration.
pub made-all : (m : Seen) (finish : ℕ) → IsKept m → finish ≤ length m.journal → MadeAll (tally (job_of m.job) m.journal finish) m.journal
unfolding MadeAll
made-all m finish kept within =
    let front = take (length m.journal - finish) m.journal in
    omega (arith, all-counted (job_of m.job) front (front-fits (job_of m.job) m.journal (length m.journal - finish) kept.fitting), length-take (length m.journal - finish) m.journal)
