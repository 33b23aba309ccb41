-- The workers of a job are distinct.
use Rattle.std.proofs.Common.{◌≡◌, ℕ, zero, suc, ◌+◌, ◌-◌, take, ◌<◌, ◌==◌, false, List, [], ◌∷◌, ◌++◌, length, map, refl, sym, ap, subst, ◌∙◌, arith, append_assoc}
use Rattle.std.proofs.lemmas.List.FromFn.{map-range_with_len_more}
use Rattle.std.specs.List.{range_with_len, AllByRecursion, IsDistinct}
use Rattle.xv_model.specs.Job.{Job, guest_count}
use Rattle.xv_model.specs.Step.{Entry}
use Rattle.xv_report.specs.declared.counts.Count.{Count}
use Rattle.xv_report.specs.declared.counts.Job1.{Job1}
use Rattle.xv_report.specs.declared.counts.Job1.TheVariants.{Guest, Copier, Pager, Sender, Receiver, Applier}
use Rattle.xv_report.specs.Workers.{Tally, is_worker, AreDistinct}
use Rattle.xv_run.specs.Numbers.{workers, counted, tally}

-- counts, and how many entries were made after them
abbrev tally_of : List Count → ℕ → Tally
tally_of counts finish = record { workers = counts; finish = finish }

-- a worker is none of others
abbrev Apart : Job1 → List Job1 → Type 0
Apart x ys = AllByRecursion (λ y. is_worker x y ≡ false) ys

others : (x : Job1) (make : ℕ → Job1) → ((n : ℕ) → is_worker x (make n) ≡ false) → (a n : ℕ) (rest : List Job1) → Apart x rest → Apart x (map make (range_with_len a n) ++ rest)
others x make apart a zero rest fine = fine
others x make apart a (suc n) rest fine = (apart a, others x make apart (a + 1) n rest fine)

-- of one kind, those with greater numbers
later : (make : ℕ → Job1) → ((m n : ℕ) → m < n → is_worker (make m) (make n) ≡ false) → (first a n : ℕ) (rest : List Job1) → first < a → Apart (make first) rest → Apart (make first) (map make (range_with_len a n) ++ rest)
later make apart first a zero rest lt fine = fine
later make apart first a (suc n) rest lt fine = (apart first a lt, later make apart first (a + 1) n rest (omega (arith, lt)) fine)

of-kind : (make : ℕ → Job1) → ((m n : ℕ) → m < n → is_worker (make m) (make n) ≡ false) → (a n : ℕ) (rest : List Job1) → ((k : ℕ) → Apart (make k) rest) → IsDistinct is_worker rest → IsDistinct is_worker (map make (range_with_len a n) ++ rest)
unfolding IsDistinct
of-kind make apart a zero rest fine distinct = distinct
of-kind make apart a (suc n) rest fine distinct = (later make apart a (a + 1) n rest (omega arith) (fine a), of-kind make apart (a + 1) n rest fine distinct)

differ : (m n : ℕ) → m < n → (m == n) ≡ false
differ m n lt = grind (arith, lt)

-- the workers from each kind on
abbrev pub to_applier : List Job1
to_applier = Applier ∷ []

abbrev pub to_receivers : Job → List Job1
to_receivers job = map Receiver (range_with_len 0 job.config.streams) ++ to_applier

abbrev pub to_senders : Job → List Job1
to_senders job = map Sender (range_with_len 0 job.config.streams) ++ to_receivers job

abbrev pub to_pager : Job → List Job1
to_pager job = Pager ∷ to_senders job

abbrev pub to_copiers : Job → List Job1
to_copiers job = map Copier (range_with_len 0 (length job.copy.disks)) ++ to_pager job

pub workers-distinct : (job : Job) → IsDistinct is_worker (workers job)
unfolding IsDistinct
workers-distinct job =
    let disks = length job.copy.disks in
    let streams = job.config.streams in
    let receivers : IsDistinct is_worker (to_receivers job) = of-kind Receiver (λ m n lt. differ m n lt) 0 streams to_applier (λ k. (refl, tt)) (tt, tt) in
    let senders : IsDistinct is_worker (to_senders job) = of-kind Sender (λ m n lt. differ m n lt) 0 streams (to_receivers job) (λ k. others (Sender k) Receiver (λ n. refl) 0 streams to_applier (refl, tt)) receivers in
    let pager : IsDistinct is_worker (to_pager job) = (others Pager Sender (λ n. refl) 0 streams (to_receivers job) (others Pager Receiver (λ n. refl) 0 streams to_applier (refl, tt)), senders) in
    let copiers : IsDistinct is_worker (to_copiers job) = of-kind Copier (λ m n lt. differ m n lt) 0 disks (to_pager job) (λ k. (refl, others (Copier k) Sender (λ n. refl) 0 streams (to_receivers job) (others (Copier k) Receiver (λ n. refl) 0 streams to_applier (refl, tt)))) pager in
    of-kind Guest (λ m n lt. differ m n lt) 0 (guest_count job) (to_copiers job) (λ k. others (Guest k) Copier (λ n. refl) 0 disks (to_pager job) (refl, others (Guest k) Sender (λ n. refl) 0 streams (to_receivers job) (others (Guest k) Receiver (λ n. refl) 0 streams to_applier (refl, tt)))) copiers

-- so are their counts
names : (journal : List Entry) (ws : List Job1) → map (λ c. c.worker) (map (counted journal) ws) ≡ ws
names journal [] = refl
names journal (w ∷ ws) = ap (λ (xs : List Job1). w ∷ xs) (names journal ws)

pub counts-distinct : (journal : List Entry) (job : Job) (counts : List Count) → counts ≡ map (counted journal) (workers job) → AreDistinct counts
counts-distinct journal job counts is =
    subst (λ (ws : List Job1). IsDistinct is_worker ws) (sym (ap (λ (cs : List Count). map (λ (c : Count). c.worker) cs) is ∙ names journal (workers job))) (workers-distinct job)

-- a worker more of a kind
pub kind-more : (make : ℕ → Job1) (start before later : List Job1) (n : ℕ) → later ≡ before ++ make n ∷ [] → before ≡ start ++ map make (range_with_len 0 n) → later ≡ start ++ map make (range_with_len 0 (n + 1))
kind-more make start before later n pushed are =
    pushed
    ∙ ap (λ (ws : List Job1). ws ++ make n ∷ []) are
    ∙ append_assoc start (map make (range_with_len 0 n)) (make n ∷ [])
    ∙ ap (λ (ws : List Job1). start ++ ws) (sym (map-range_with_len_more make 0 n n (omega arith)))

-- the numbers that were counted
pub tally-is : (job : Job) (journal made : List Entry) (finish : ℕ) (ws : List Job1) (counts : List Count) → made ≡ take (length journal - finish) journal → ws ≡ workers job → counts ≡ map (counted made) ws → tally_of counts finish ≡ tally job journal finish
tally-is job journal made finish ws counts front are counts_are =
    ap (λ (cs : List Count). tally_of cs finish)
    (counts_are ∙ (ap (map (counted made)) are ∙ ap (λ (es : List Entry). map (counted es) (workers job)) front))
