-- The halves, the streams and the way back are the parts of the view that they show; and what shows all parts of a view
-- shows the view.
use Rattle.std.specs.Prelude.{◌≡◌, ℕ, true, List, Option, is_some}
use Rattle.std.proofs.Common.{refl, ap, subst, ◌∙◌}
use Rattle.std.proofs.lemmas.Bool.{and_parts}
use Rattle.xv_base.specs.Units.{Shape}
use Rattle.xv_base.specs.declared.limits.Config.{Config}
use Rattle.xv_model.specs.Job.{Job}
use Rattle.xv_model.specs.Guest.{Ended}
use Rattle.xv_model.specs.View.{View, Phase, UnitHead}
use Rattle.xv_model.specs.Contents.{Contents}
use Rattle.xv_model.specs.Invariant.{IsViewOf}
use Rattle.xv_job.specs.Written.{job_of}
use Rattle.xv_streams.specs.Fronts.{heads_on, contents_on}
use Rattle.xv_source.specs.Half.{IsSourceOf, HasSourceBytes, with_source, with_source_bytes}
use Rattle.xv_dest.specs.Half.{IsDestOf, HasDestBytes, with_dest, with_dest_bytes}
use Rattle.xv_core.specs.State.{State, view, shown, both_tell, contents_of, IsRunning}
use Rattle.xv_model.proofs.Kept.{run-holds}

-- the parts of a view that is shown
pub source-part : (s : State) (v : View) → shown s v ≡ v → with_source v s.source ≡ v
source-part s v e = subst (λ (w : View). with_source w s.source ≡ w) e refl

pub dest-part : (s : State) (v : View) → shown s v ≡ v → with_dest v s.dest ≡ v
dest-part s v e = subst (λ (w : View). with_dest w s.dest ≡ w) e refl

limits-from : (job : Job) (shape : Shape) (config : Config) → shape ≡ job.shape → shape ≡ job.copy → config ≡ job.config → record job { shape = shape; copy = shape; config = config } ≡ job
limits-from job shape config e f g =
    ap (λ (s : Shape). record job { shape = s; copy = shape; config = config }) e ∙ ap (λ (s : Shape). record job { copy = s; config = config }) f ∙ ap (λ (c : Config). record job { config = c }) g

pub is_source_of : (s : State) → IsRunning s → IsSourceOf (job_of s.job) (view s) s.source
is_source_of s r = record {
  limits = limits-from (job_of s.job) s.source.shape s.source.config r.parts.source_shape r.parts.source_copy r.parts.source_limits;
  part = source-part s (view s) r.shows;
}

pub is_dest_of : (s : State) → IsRunning s → IsDestOf (job_of s.job) (view s) s.dest
is_dest_of s r = record { shape = r.parts.dest_shape; limit = r.parts.dest_limit; part = dest-part s (view s) r.shows }

-- what the view has of the rest
pub record Shows (s : State) (v : View) : Type 0 where
  pub history : v.history ≡ s.history
  pub stun : v.stun ≡ s.stun
  pub phase : v.phase ≡ s.phase
  pub streams : v.streams ≡ heads_on s.streams.lanes
  pub acks : v.acks ≡ s.back.counts
  pub messages : v.outbox.messages ≡ s.source.messages
  pub issued : v.outbox.issued ≡ s.source.issued
  pub disks : v.disks ≡ s.source.disks
  pub rounds : v.rounds ≡ s.source.rounds
  pub credit : v.credit ≡ s.source.credit
  pub held : v.hold.held ≡ s.dest.held
  pub applied : v.hold.applied ≡ s.dest.applied
  pub freed : v.freed ≡ s.dest.freed

pub shows-of : (s : State) (v : View) → shown s v ≡ v → Shows s v
shows-of s v e = subst (Shows s) e (record {
  history = refl;
  stun = refl;
  phase = refl;
  streams = refl;
  acks = refl;
  messages = refl;
  issued = refl;
  disks = refl;
  rounds = refl;
  credit = refl;
  held = refl;
  applied = refl;
  freed = refl;
})

pub shows : (s : State) → IsRunning s → Shows s (view s)
shows s r = shows-of s (view s) r.shows

-- the contents of the halves
pub has_source_bytes : (s : State) → both_tell s ≡ true → HasSourceBytes (contents_of s) s.source
has_source_bytes s b = record { told = (and_parts (is_some s.source.told.contents) (is_some s.dest.told.contents) b).0; part = refl }

pub has_dest_bytes : (s : State) → both_tell s ≡ true → HasDestBytes (contents_of s) s.dest
has_dest_bytes s b = record { told = (and_parts (is_some s.source.told.contents) (is_some s.dest.told.contents) b).1; part = refl }

-- a view of which all parts are shown is shown
overlaid : (v : View) (history : List Ended) (stun : Option ℕ) (phase : Phase) (streams : List (List (List UnitHead))) (acks : List ℕ) →
    v.history ≡ history → v.stun ≡ stun → v.phase ≡ phase → v.streams ≡ streams → v.acks ≡ acks →
    record v { history = history; stun = stun; phase = phase; streams = streams; acks = acks } ≡ v
overlaid v history stun phase streams acks e f g h k = rw (← e, ← f, ← g, ← h, ← k) refl

pub joined : (s : State) (v : View) → v.history ≡ s.history → v.stun ≡ s.stun → v.phase ≡ s.phase → v.streams ≡ heads_on s.streams.lanes → v.acks ≡ s.back.counts → with_source v s.source ≡ v → with_dest v s.dest ≡ v → shown s v ≡ v
joined s v e f g h k source dest =
    let rest = overlaid v s.history s.stun s.phase (heads_on s.streams.lanes) s.back.counts e f g h k in
    ap (λ (w : View). with_dest (with_source w s.source) s.dest) rest ∙ ap (λ (w : View). with_dest w s.dest) source ∙ dest

contents-overlaid : (c : Contents) (streams : List (List (List (List ℕ)))) (reads : List ℕ) → c.streams ≡ streams → c.reads ≡ reads → record c { streams = streams; reads = reads } ≡ c
contents-overlaid c streams reads e f = rw (← e, ← f) refl

pub joined-contents : (s : State) (c : Contents) → c.streams ≡ contents_on s.streams.lanes → c.reads ≡ s.reads → with_source_bytes c s.source ≡ c → with_dest_bytes c s.dest ≡ c → contents_of s ≡ c
joined-contents s c e f source dest =
    let rest = contents-overlaid c (contents_on s.streams.lanes) s.reads e f in
    ap (λ (d : Contents). with_dest_bytes (with_source_bytes d s.source) s.dest) rest ∙ ap (λ (d : Contents). with_dest_bytes d s.dest) source ∙ dest

-- a running migration stands in a view that meets the view invariant
pub view-holds : (s : State) → IsRunning s → IsViewOf (job_of s.job) (view s)
view-holds s r = run-holds (job_of s.job) s.journal r.good r.fitting
