-- What is seen of a pass: whose it is, how many calls were made with it, and what they made; and how a call changes it.
use Rattle.std.specs.Prelude.{◌≡◌, ℕ, ◌+◌, ◌-◌, not, nat_lt, Bool, List, take, drop, if◌then◌else◌}
use Rattle.xv_base.specs.Calls.{next_count}
use Rattle.xv_report.specs.declared.counts.Job1.{Job1}
use Rattle.xv_model.specs.Effect.{Turn}
use Rattle.xv_model.specs.Step.{is_wait}
use Rattle.xv_model.specs.Growth.{happened, is_queued, is_fault}

-- Of a guest: how many of its calls were done, queued and faulted, how many of its operations have not begun, and where
-- the bytes of its last read that was done stand among all that were read.
pub record GuestTally : Type 0 where
  pub guest : ℕ
  pub calls : ℕ
  pub done : ℕ
  pub queued : ℕ
  pub faulted : ℕ
  pub left : ℕ
  pub read_at : ℕ
  pub read_length : ℕ

-- of another worker: how many of its calls made an entry
pub record WorkerTally : Type 0 where
  pub worker : Job1
  pub calls : ℕ
  pub steps : ℕ

-- one where it is so
abbrev pub once : Bool → ℕ
once b = if b then 1 else 0

-- how many entries of the journal a guest's calls made
abbrev pub guest_number : GuestTally → ℕ
guest_number p = p.done + p.queued + p.faulted

-- A call more, with its answer: the count of that answer rises, and an operation has begun, unless it waits.
abbrev pub guest_after : GuestTally → Turn → GuestTally
guest_after p t = record p {
  calls = next_count p.calls;
  done = p.done + once (happened t);
  queued = p.queued + once (is_queued t);
  faulted = p.faulted + once (is_fault t);
  left = p.left - once (not (is_wait t));
}

-- Its last read after a call before and after which so many bytes had been read: those in between, if any.
abbrev pub read_after : GuestTally → ℕ → ℕ → GuestTally
read_after p before later = record p {
  read_at = if nat_lt before later then before else p.read_at;
  read_length = if nat_lt before later then later - before else p.read_length;
}

-- the pass after a call that was answered so
abbrev pub pass_after : GuestTally → Turn → ℕ → ℕ → GuestTally
pass_after p t before later = read_after (guest_after p t) before later

-- the same, which leaves open where the last read stands
abbrev pub IsCounted : GuestTally → Turn → GuestTally → Type 0
IsCounted old t new = new ≡ record (guest_after old t) { read_at = new.read_at; read_length = new.read_length }

abbrev pub worker_after : WorkerTally → Turn → WorkerTally
worker_after p t = record p {
  calls = next_count p.calls;
  steps = p.steps + once (not (is_wait t));
}

-- the bytes of the last read, among all that were read
abbrev pub last_read : GuestTally → List ℕ → List ℕ
last_read p reads = take p.read_length (drop p.read_at reads)

-- a count, and a share of one part that has counted as many
pub record IsBacked (count parts amount : ℕ) : Type 0 where
  pub one_part : parts ≡ 1
  pub backed : amount ≡ count
