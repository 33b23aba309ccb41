-- The first view meets the invariant.
use Rattle.std.specs.Prelude.{◌≡◌, ◌<◌, ℕ, zero, suc, Bool, true, false, List, [], ◌∷◌, length, map, replicate, get_or, None}
use Rattle.std.proofs.Common.{arith, refl, ap, inl, inr}
use Rattle.std.proofs.lemmas.List.{length-map, length-replicate, get_or-replicate}
use Rattle.xv_base.specs.declared.unit.DiskShape.{DiskShape}
use Rattle.xv_model.specs.Job.{Job, IsGoodJob, unit_count, disk_of}
use Rattle.xv_model.specs.Guest.{wrote, writes}
use Rattle.xv_model.specs.View.{Disk, UnitHead, no_disk, first_view, number, member, all_copied}
use Rattle.xv_model.specs.Wait.{next_operation}
use Rattle.xv_model.specs.Outstanding.{count_streams, on_the_way, outstanding, any, is_message}
use Rattle.xv_model.specs.Invariant.{EachVersionOnce, TimesRise, TipCovers, EachWriteOnce, OutboxRises, CreditIsWhole, RegionsFit, RoundsCount, QueuesWait, HistoryIsLegal, StunIsQuiet, CancelHolds, ListsHaveLengths, IsViewOf, is_settled, is_behind_block, waits_in_all, are_good_groups}
use Rattle.xv_model.proofs.GoesOn.{member-none, members-le}
use Rattle.xv_model.proofs.Layouts.{page_below, settled_cases, behind_block}

-- a number or an element that stands in each place
pub number-none : (n unit : ℕ) → number (replicate n 0) unit ≡ 0
number-none zero unit = refl
number-none (suc n) zero = refl
number-none (suc n) (suc unit) = number-none n unit

no_disk-each : (shapes : List DiskShape) (d : ℕ) → get_or (map (λ (_ : DiskShape). no_disk) shapes) d no_disk ≡ no_disk
no_disk-each [] d = refl
no_disk-each (s ∷ shapes) zero = refl
no_disk-each (s ∷ shapes) (suc d) = no_disk-each shapes d

no_waits : (shapes : List DiskShape) (guest : ℕ) → waits_in_all (map (λ (_ : DiskShape). no_disk) shapes) guest ≡ 0
no_waits [] guest = refl
no_waits (s ∷ shapes) guest = let h = no_waits shapes guest in omega arith

no_stream : (n s : ℕ) → get_or (replicate {A = List (List UnitHead)} n []) s [] ≡ []
no_stream zero s = refl
no_stream (suc n) zero = refl
no_stream (suc n) (suc s) = no_stream n s

all_dirty : (n page : ℕ) → page < n → member (replicate n true) page ≡ true
all_dirty n page h = get_or-replicate n page true false h

-- nothing is on the way
none_streams : (n : ℕ) (test : UnitHead → Bool) → count_streams test (replicate n []) ≡ 0
none_streams zero test = refl
none_streams (suc n) test = let h = none_streams n test in omega arith

none_on_the_way : (job : Job) (test : UnitHead → Bool) → on_the_way (first_view job) test ≡ 0
none_on_the_way job test = let a = none_streams job.config.streams test in omega arith

none_outstanding : (job : Job) (test : UnitHead → Bool) → outstanding (first_view job) test ≡ 0
none_outstanding job test = let a = none_on_the_way job test in omega arith

-- no block is behind, and no unit settled
none_behind : (job : Job) (unit : ℕ) → is_behind_block job.copy (first_view job).disks unit ≡ true → ⊥
none_behind job unit h =
    let b = (behind_block job.copy (first_view job).disks unit h).behind in
    let c = ap (λ (d : Disk). d.cursor) (no_disk-each job.copy.disks (disk_of job.copy unit)) in
    omega arith

none_settled : (job : Job) (unit : ℕ) → is_settled job.copy (first_view job).disks (first_view job).dirty (first_view job).to_send unit ≡ true → ⊥
none_settled job unit h = elim (settled_cases job.copy (first_view job).disks (first_view job).dirty (first_view job).to_send unit h) [
  | inl page ↦ let a = all_dirty job.copy.pages unit (page_below job.copy unit page.0) in let b = page.1 in absurd (cc)
  | inr block ↦ none_behind job unit block
]

first-versions : (job : Job) → EachVersionOnce (outstanding (first_view job)) (first_view job).outbox.issued (first_view job).hold.applied
first-versions job = record {
  in_order = λ unit. let a = number-none (unit_count job) unit in omega arith;
  once = λ unit version above within. let a = number-none (unit_count job) unit in absurd (omega arith);
  none_applied = λ unit version h. none_outstanding job _;
  none_to_come = λ unit version h. none_outstanding job _;
}

first-times : (job : Job) → TimesRise (outstanding (first_view job)) (first_view job).hold.applied (first_view job).hold.recorded 0
first-times job = record {
  rising = λ unit version at above at' h k le. absurd (let a = none_outstanding job (is_message unit version at) in omega arith);
  from_recorded = λ unit version at h k. absurd (let a = number-none (unit_count job) unit in omega arith);
  to_mark = λ unit version at h. absurd (let a = none_outstanding job (is_message unit version at) in omega arith);
  recorded_to_mark = λ unit. let a = number-none (unit_count job) unit in omega arith;
}

first-tips : (job : Job) → TipCovers (wrote job []) 0 (outstanding (first_view job)) (first_view job).outbox.issued (first_view job).hold.applied (first_view job).hold.recorded (is_settled job.copy (first_view job).disks (first_view job).dirty (first_view job).to_send)
first-tips job = record {
  made = λ unit h. absurd (none_settled job unit h);
  covers = λ unit at i h tip lt w. absurd (none_settled job unit h);
}

first-mirrors : (job : Job) → EachWriteOnce (wrote job []) (writes job []) 0 (outstanding (first_view job)) (first_view job).outbox.issued (first_view job).hold.applied (first_view job).hold.recorded (first_view job).outbox.first (is_behind_block job.copy (first_view job).disks)
first-mirrors job = record {
  counted = λ unit h. absurd (none_behind job unit h);
  outstanding = λ unit version at h k. absurd (none_behind job unit h);
  applied_last = λ unit h k. absurd (none_behind job unit h);
}

first-outbox : (job : Job) → OutboxRises [] (on_the_way (first_view job)) (first_view job).hold.applied
first-outbox job = record {
  rising = λ i j lt there same. absurd (omega arith);
  above_sent = λ i version there h. absurd (omega arith);
  above_applied = λ i there. absurd (omega arith);
}

first-credit : (job : Job) → CreditIsWhole job.config.credit job.config.outbox job.config.credit (on_the_way (first_view job)) 0 [] []
first-credit job = record {
  sums = let a = none_on_the_way job any in omega arith;
  each_ack = λ i there. absurd (omega arith);
  outbox_fits = omega arith;
}

first-regions : (job : Job) → RegionsFit job.copy job.config.region (first_view job).phase (first_view job).disks
first-regions job = record {
  cursor_fits = λ d there. rw (no_disk-each job.copy.disks d) (omega arith);
  region_fits = λ d. rw (no_disk-each job.copy.disks d) (omega arith);
  read_fits = λ d. rw (no_disk-each job.copy.disks d) (omega arith);
  only_running = λ d h. absurd (cc);
}

first-rounds : (job : Job) → RoundsCount job.copy.pages job.format job.config.rounds 0 (first_view job).phase (all_copied job (first_view job)) (first_view job).dirty (first_view job).to_send 0 (first_view job).outbox.issued
first-rounds job = record {
  apart = λ page h. member-none job.copy.pages page;
  sendings = λ page there. let a = number-none (unit_count job) page in rw (member-none job.copy.pages page) (omega arith);
  limited = λ h. omega arith;
  beside = λ h k. omega (arith, members-le (first_view job).dirty, length-replicate job.copy.pages true);
  limited_beside = λ h. omega arith;
}

first-queues : (job : Job) → QueuesWait job.copy (first_view job).phase (first_view job).disks (next_operation job (first_view job))
first-queues job = record {
  once = λ guest. let a = no_waits job.copy.disks guest in omega arith;
  of_disk = λ d i there. absurd (let a = ap (λ (x : Disk). length x.queue) (no_disk-each job.copy.disks d) in omega arith);
  to_write = λ d i there. absurd (let a = ap (λ (x : Disk). length x.queue) (no_disk-each job.copy.disks d) in omega arith);
  not_ahead = λ d i h there. absurd (let a = ap (λ (x : Disk). length x.queue) (no_disk-each job.copy.disks d) in omega arith);
}

first-history : (job : Job) → HistoryIsLegal job [] 0 (first_view job).phase None
first-history job = record {
  legal = λ guest. omega arith;
  marked = λ h. refl;
  mark_within = omega arith;
  not_stunned = λ h. refl;
  at_mark = λ n h. absurd (cc);
}

first-quiet : (job : Job) → StunIsQuiet job.config.credit (first_view job).phase (all_copied job (first_view job)) (first_view job).disks (first_view job).dirty (first_view job).to_send 0 None 0 [] job.config.credit
first-quiet job = record {
  all_copied = λ h. absurd (cc);
  no_queue = λ h. absurd (cc);
  none_dirty = λ h. absurd (cc);
  some_round = λ h. absurd (cc);
  has_stun = λ h. absurd (cc);
  none_to_send = λ h. absurd (cc);
  none_made = λ h. refl;
  credit_whole = λ h. refl;
}

first-cancel : (job : Job) → CancelHolds job.config.cancel (first_view job).phase 0
first-cancel job = record {
  never_switched = λ k h. refl;
  not_past = λ k h l. omega arith;
  stunned_at = λ k h l. absurd (cc);
}

first-lists : (job : Job) → ListsHaveLengths job (first_view job)
first-lists job = record {
  disks = length-map job.copy.disks (λ (_ : DiskShape). no_disk);
  dirty = length-replicate job.copy.pages true;
  to_send = length-replicate job.copy.pages false;
  issued = length-replicate (unit_count job) 0;
  first = length-replicate (unit_count job) 0;
  applied = length-replicate (unit_count job) 0;
  recorded = length-replicate (unit_count job) 0;
  streams = length-replicate job.config.streams [];
  groups = λ s. ap (are_good_groups job) (no_stream job.config.streams s);
  first_to_mark = λ unit. let a = number-none (unit_count job) unit in omega arith;
}

-- the first view meets every point
pub first_view-holds : (job : Job) → IsGoodJob job → IsViewOf job (first_view job)
first_view-holds job good = record {
  versions = first-versions job;
  times = first-times job;
  tips = first-tips job;
  unsent = record { none = λ unit h. number-none (unit_count job) unit };
  mirrors = first-mirrors job;
  outbox = first-outbox job;
  credit = first-credit job;
  regions = first-regions job;
  rounds = first-rounds job;
  queues = first-queues job;
  history = first-history job;
  quiet = first-quiet job;
  cancel = first-cancel job;
  lists = first-lists job;
}
