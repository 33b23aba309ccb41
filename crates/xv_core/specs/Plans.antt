-- That a journal's entries are flagged exactly where the plans that are told have the numbers of their calls.
use Rattle.std.specs.Prelude.{◌≡◌, ◌≤◌, ℕ, ◌+◌, ◌-◌, ◌&&◌, Bool, true, false, List, [], ◌∷◌, length, map, IfSome, if◌then◌else◌}
use Rattle.xv_base.specs.Calls.{is_listed}
use Rattle.xv_wire.specs.Wire.{Counted}
use Rattle.xv_frame.specs.Frame.{Message, Each, spelled}
use Rattle.xv_frame.specs.declared.codes.TheConstants.{HEAD_SIZE}
use Rattle.xv_streams.specs.Streamed.{lane}
use Rattle.xv_streams.specs.Carried.{frame_of, IsCarried}
use Rattle.xv_streams.specs.Returned.{AreCarried}
use Rattle.xv_model.specs.Job.{Job}
use Rattle.xv_model.specs.View.{View, first_view, is_live}
use Rattle.xv_model.specs.Step.{Entry, Call, SourceRead, SourceWrite, DestRead, DestWrite, DestFlush, Put, Take, AckPut, AckTake, call, same_call, step, is_flagged, same_truth}
use Rattle.xv_model.specs.Outside.{calls_of_kind}
use Rattle.xv_job.specs.Written.{job_of}
use Rattle.xv_core.specs.Seen.{Seen, wire}
use Rattle.xv_core.specs.State.{State}

-- whether the entries whose call is of one kind are flagged exactly where the list has the number of that call, the first
-- being number n + 1
abbrev pub follows_from : Call → List ℕ → Job → View → ℕ → List Entry → Bool
follows_from c fails job v n [] = true
follows_from c fails job v n (e ∷ es) =
    if same_call c (call job v e.event)
    then same_truth (is_flagged e.turn) (is_listed fails (n + 1)) && follows_from c fails job (step job v e.event (is_flagged e.turn)) (n + 1) es
    else follows_from c fails job (step job v e.event (is_flagged e.turn)) n es

abbrev pub follows : Call → List ℕ → Job → List Entry → Bool
follows c fails job journal = follows_from c fails job (first_view job) 0 journal

-- the number of takes that met the first byte of a piece
abbrev pub takes_met : Counted → ℕ
takes_met c = (c.pieces - length c.left) + (if c.met then 1 else 0)

-- where an object has counted just the journal's calls of a kind, the journal follows its plan of that kind
abbrev pub FollowsIf : ℕ → Call → List ℕ → Job → List Entry → Type 0
FollowsIf n c fails job journal = n ≡ calls_of_kind job journal c → follows c fails job journal ≡ true

pub record FollowsPlans (m : Seen) : Type 0 where
  pub source_reads : IfSome m.source.told.counted (λ c. FollowsIf c.calls.reads SourceRead c.plan.reads (job_of m.job) m.journal)
  pub source_writes : IfSome m.source.told.counted (λ c. FollowsIf c.calls.writes SourceWrite c.plan.writes (job_of m.job) m.journal)
  pub dest_reads : IfSome m.dest.told.counted (λ c. FollowsIf c.calls.reads DestRead c.plan.reads (job_of m.job) m.journal)
  pub dest_writes : IfSome m.dest.told.counted (λ c. FollowsIf c.calls.writes DestWrite c.plan.writes (job_of m.job) m.journal)
  pub flushes : IfSome m.dest.told.counted (λ c. FollowsIf c.calls.flushes DestFlush c.plan.flushes (job_of m.job) m.journal)
  pub puts : (s : ℕ) → IfSome (wire m s).told.counted (λ c. FollowsIf c.puts (Put s) c.plan.puts (job_of m.job) m.journal)
  pub takes : (s : ℕ) → IfSome (wire m s).told.counted (λ c. FollowsIf (takes_met c) (Take s) c.plan.takes (job_of m.job) m.journal)
  pub back_puts : IfSome m.back.told.counted (λ c. FollowsIf c.puts AckPut c.plan.puts (job_of m.job) m.journal)
  pub back_takes : IfSome m.back.told.counted (λ c. FollowsIf (takes_met c) AckTake c.plan.takes (job_of m.job) m.journal)

-- while messages move nothing is gathered, and each frame in transit is one piece, at whose first byte no take was
pub record IsPieces (lengths : List ℕ) (c : Counted) : Type 0 where
  pub left : c.left ≡ lengths
  pub unmet : c.met ≡ false
  pub fewer : length c.left ≤ c.pieces

abbrev pub frame_length : ℕ → List Message → ℕ
frame_length format group = length (spelled (frame_of format group))

pub record ArePieces (s : State) : Type 0 where
  pub gathered : (k : ℕ) → is_live s.phase ≡ true → (lane s.streams k).gathered ≡ []
  pub streams : (k : ℕ) → is_live s.phase ≡ true → IfSome (lane s.streams k).wire.counted (IsPieces (map (frame_length s.streams.format) (lane s.streams k).groups))
  pub back_gathered : is_live s.phase ≡ true → s.back.gathered ≡ []
  pub back : is_live s.phase ≡ true → IfSome s.back.wire.counted (IsPieces (map (λ n. HEAD_SIZE) s.back.counts))

-- the bytes on the streams and on the way back are exactly the frames that carry what is there
pub record AllCarried (job : Job) (s : State) : Type 0 where
  pub lanes : Each (IsCarried job.shape job.format) s.streams.lanes
  pub back : AreCarried s.back
