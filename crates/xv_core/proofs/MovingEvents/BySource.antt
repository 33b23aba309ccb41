-- A send and a credit: what the source's half and its wires ensure of them is what such an event does to a migration.
use Rattle.std.specs.Prelude.{◌≡◌, ℕ, ◌==◌, min, true, false, List, [], ◌∷◌, ◌++◌, length, take, drop, set, get_or, if◌then◌else◌}
use Rattle.std.proofs.Common.{refl, ap, sym, subst, ◌∙◌}
use Rattle.std.proofs.lemmas.List.{length-set}
use Rattle.xv_base.specs.declared.event.Event.TheVariants.{Send, Credit}
use Rattle.xv_device.specs.Told.{Told}
use Rattle.xv_wire.specs.Told.{Told as WireTold}
use Rattle.xv_streams.specs.Streamed.{Streamed, LaneSeen, OnlyLane, lane, no_lane}
use Rattle.xv_streams.specs.Fronts.{heads_of, contents_of as contents_of_messages, heads_on, contents_on, PutsGroup}
use Rattle.xv_streams.specs.Returned.{Returned, TakesFirst}
use Rattle.xv_model.specs.Job.{Job}
use Rattle.xv_model.specs.View.{View, UnitHead}
use Rattle.xv_model.specs.Effect.{Turn, batch, sent, credited}
use Rattle.xv_model.specs.Step.{is_flagged, is_wait}
use Rattle.xv_model.specs.Contents.{Contents, send_moves}
use Rattle.xv_job.specs.Written.{job_of}
use Rattle.xv_source.specs.Half.{Source, IsSourceOf, HasSourceBytes, AreWhole}
use Rattle.xv_source.specs.Step.{StepsSource, MakesNoCall, batch_of, batch as batch_of_half}
use Rattle.xv_dest.specs.Half.{Dest, IsDestOf, with_dest}
use Rattle.xv_core.specs.State.{State, view, both_tell, contents_of, on_source, IsRunning, IsCarriedOver}
use Rattle.xv_core.proofs.Keeping.Joined.{shows, is_dest_of, has_source_bytes, has_dest_bytes}
use Rattle.xv_core.proofs.Keeping.Reads.{source-whole}
use Rattle.xv_core.proofs.MovingEvents.Moved.{Called, IsMove, effect-is, moves-is, goes-well, goes-wrong, either-done, either-goes}
use Rattle.xv_core.proofs.MovingEvents.Lanes.{heads-put, heads-same, contents-put, contents-same, capacity-same, heads-first, contents-first}

pub send-move : (job : Job) (v : View) (k : ℕ) → IsMove job v (Send k)
send-move job v k = record { ends = refl; gives_up = λ c. refl; done = either-done (job.format == 1) _ _ refl refl; no_wait = either-goes (job.format == 1) _ _ refl refl; fails = refl }

pub credit-move : (job : Job) (v : View) → IsMove job v Credit
credit-move job v = record { ends = refl; gives_up = λ c. refl; done = refl; no_wait = refl; fails = refl }

-- a device that was not called
pub same-source : (old new : Source) → MakesNoCall old new → on_source new ≡ on_source old
same-source old new h =
    ap (λ (told : Told). record { told = told; faults = new.faults }) h.told ∙ ap (λ (n : ℕ). record { told = old.told; faults = n }) h.faults

pub whole-source : (s : State) → IsRunning s → both_tell s ≡ true → AreWhole s.source.shape (contents_of s).source
whole-source s r both = rw r.parts.source_shape (record { whole = λ unit there. source-whole s unit r both there })

-- the destination's part stays where a send, or a credit, changes none of it
dest-at-send : (job : Job) (v : View) (k : ℕ) (d : Dest) → IsDestOf job v d → IsDestOf job (sent job v k) d
dest-at-send job v k d is = record {
  shape = is.shape;
  limit = is.limit;
  part = subst (λ (w : View). with_dest (sent job w k) d ≡ sent job w k) is.part refl;
}

dest-at-credit : (job : Job) (v : View) (d : Dest) → IsDestOf job v d → IsDestOf job (credited v) d
dest-at-credit job v d is = record {
  shape = is.shape;
  limit = is.limit;
  part = subst (λ (w : View). with_dest (credited w) d ≡ credited w) is.part refl;
}

-- What a send was, of the state before it: the half and the streams afterwards.
pub record Sends (s : State) (k : ℕ) (a : Turn) (half : Source) (over : Streamed) : Type 0 where
  pub steps : StepsSource (job_of s.job) (view s) (Send k) a s.source half
  pub call : MakesNoCall s.source half
  pub others : OnlyLane k s.streams over
  pub none_made : over.making ≡ []
  pub put : PutsGroup s.streams.format (batch_of_half s.streams.format (job_of s.job).group s.source) (is_flagged a) (lane s.streams k) (lane over k)
  pub paired : length s.source.contents ≡ length s.source.messages
  pub carried : IsCarriedOver over s.back

abbrev pub after_send : State → Source → Streamed → State
after_send s half over = record s { source = half; streams = over }

-- the machine's batch is the half's
same-batch : (s : State) → IsRunning s → batch_of s.streams.format (job_of s.job).group s.source ≡ batch (job_of s.job) (view s)
same-batch s r =
    let most = (job_of s.job).group in
    ap (λ (f : ℕ). if f == 1 then 1 else min most (min (length s.source.messages) s.source.credit)) r.parts.streams_format
    ∙ ap (λ (ms : List UnitHead). if (job_of s.job).format == 1 then 1 else min most (min (length ms) s.source.credit)) (sym (shows s r).messages)
    ∙ ap (λ (n : ℕ). if (job_of s.job).format == 1 then 1 else min most (min (length (view s).outbox.messages) n)) (sym (shows s r).credit)

-- the group that was put, as heads and as contents
group-heads : (s : State) (k : ℕ) (a : Turn) (half : Source) (over : Streamed) → IsRunning s → Sends s k a half over → heads_of (batch_of_half s.streams.format (job_of s.job).group s.source) ≡ take (batch (job_of s.job) (view s)) (view s).outbox.messages
group-heads s k a half over r by =
    heads-first (batch_of s.streams.format (job_of s.job).group s.source) s.source.messages s.source.contents by.paired
    ∙ ap (λ (n : ℕ). take n s.source.messages) (same-batch s r) ∙ ap (λ (ms : List UnitHead). take (batch (job_of s.job) (view s)) ms) (sym (shows s r).messages)

group-contents : (s : State) (k : ℕ) (a : Turn) (half : Source) (over : Streamed) → IsRunning s → Sends s k a half over → contents_of_messages (batch_of_half s.streams.format (job_of s.job).group s.source) ≡ take (batch (job_of s.job) (view s)) s.source.contents
group-contents s k a half over r by =
    contents-first (batch_of s.streams.format (job_of s.job).group s.source) s.source.messages s.source.contents by.paired
    ∙ ap (λ (n : ℕ). take n s.source.contents) (same-batch s r)

-- the streams afterwards
lanes-after : (k : ℕ) (before over : Streamed) → OnlyLane k before over → over.lanes ≡ set before.lanes k (lane over k)
lanes-after k before over only = ap (λ (x : Streamed). x.lanes) only

streams-sent : (s : State) (k : ℕ) (a : Turn) (half : Source) (over : Streamed) → IsRunning s → Sends s k a half over → is_flagged a ≡ false → (sent (job_of s.job) (view s) k).streams ≡ heads_on over.lanes
streams-sent s k a half over r by unflagged =
    let group = batch_of_half s.streams.format (job_of s.job).group s.source in
    let now : heads_on over.lanes ≡ set (heads_on s.streams.lanes) k (get_or (heads_on s.streams.lanes) k [] ++ heads_of group ∷ []) =
    ap heads_on (lanes-after k s.streams over by.others)
    ∙ heads-put s.streams.lanes k (lane over k) group (goes-well (is_flagged a) (lane s.streams k).groups _ (lane over k).groups by.put.groups unflagged) in
    ap (λ (ls : List (List (List UnitHead))). set ls k (get_or ls k [] ++ take (batch (job_of s.job) (view s)) (view s).outbox.messages ∷ [])) (shows s r).streams
    ∙ ap (λ (g : List UnitHead). set (heads_on s.streams.lanes) k (get_or (heads_on s.streams.lanes) k [] ++ g ∷ [])) (sym (group-heads s k a half over r by))
    ∙ sym now

contents-sent : (s : State) (k : ℕ) (a : Turn) (half : Source) (over : Streamed) → IsRunning s → Sends s k a half over → is_flagged a ≡ false → (send_moves (job_of s.job) (view s) k (contents_of s)).streams ≡ contents_on over.lanes
contents-sent s k a half over r by unflagged =
    let group = batch_of_half s.streams.format (job_of s.job).group s.source in
    let now : contents_on over.lanes ≡ set (contents_on s.streams.lanes) k (get_or (contents_on s.streams.lanes) k [] ++ contents_of_messages group ∷ []) =
    ap contents_on (lanes-after k s.streams over by.others)
    ∙ contents-put s.streams.lanes k (lane over k) group (goes-well (is_flagged a) (lane s.streams k).groups _ (lane over k).groups by.put.groups unflagged) in
    ap (λ (g : List (List ℕ)). set (contents_on s.streams.lanes) k (get_or (contents_on s.streams.lanes) k [] ++ g ∷ [])) (sym (group-contents s k a half over r by))
    ∙ sym now

-- a send was called
pub send-called : (s : State) (k : ℕ) (a : Turn) (half : Source) (over : Streamed) → IsRunning s → is_wait a ≡ false → Sends s k a half over → Called s (Send k) a (after_send s half over)
send-called s k a half over r goes by =
    let job = job_of s.job in
    let v = view s in
    let c = contents_of s in
    let was = shows s r in
    let lanes = lanes-after k s.streams over by.others in
    let stays : is_flagged a ≡ true → (lane over k).groups ≡ (lane s.streams k).groups =
    goes-wrong (is_flagged a) (lane s.streams k).groups _ (lane over k).groups by.put.groups in
    record {
      job = refl;
      journal = refl;
      history = refl;
      reads = refl;
      alike = record {
        source_layout = ap (λ (told : Told). told.shape) by.call.told;
        dest_layout = refl;
        streams_shape = ap (λ (x : Streamed). x.shape) by.others;
        streams_format = ap (λ (x : Streamed). x.format) by.others;
        none_made = by.none_made;
        many = ap (λ (ls : List LaneSeen). length ls) lanes ∙ length-set s.streams.lanes k (lane over k);
        room = λ j. ap (λ (ls : List LaneSeen). (get_or ls j no_lane).wire.capacity) lanes ∙ capacity-same s.streams.lanes k (lane over k) j (ap (λ (told : WireTold). told.capacity) by.put.made.told);
        back_room = refl;
      };
      done = λ unflagged. record {
        history = was.history;
        stun = was.stun;
        streams = streams-sent s k a half over r by unflagged;
        acks = was.acks;
        source = subst (λ (w : View). IsSourceOf job w half) (effect-is job v (Send k) a goes by.steps.answers unflagged) (by.steps.part unflagged);
        dest = dest-at-send job v k s.dest (is_dest_of s r);
      };
      done_phase = λ unflagged. was.phase;
      done_bytes = λ unflagged both. record {
        streams = contents-sent s k a half over r by unflagged;
        reads = refl;
        source = subst (λ (d : Contents). HasSourceBytes d half) (moves-is job v (Send k) a c goes by.steps.answers unflagged) (by.steps.bytes c unflagged (has_source_bytes s both) (whole-source s r both));
        dest = record { told = (has_dest_bytes s both).told; part = refl };
      };
      failed = λ flagged. record {
        history = was.history;
        stun = was.stun;
        streams = was.streams ∙ sym (ap heads_on lanes ∙ heads-same s.streams.lanes k (lane over k) (stays flagged));
        acks = was.acks;
        source = by.steps.failed flagged;
        dest = is_dest_of s r;
      };
      failed_bytes = λ flagged both. record {
        streams = sym (ap contents_on lanes ∙ contents-same s.streams.lanes k (lane over k) (stays flagged));
        reads = refl;
        source = by.steps.failed_bytes c flagged (has_source_bytes s both);
        dest = has_dest_bytes s both;
      };
      calls = record {
        source = same-source s.source half by.call;
        dest = refl;
        streams = record { group = batch_of_half s.streams.format job.group s.source; put = by.put; only = record { lanes = lanes } };
        back = refl;
      };
      carried = by.carried;
    }

-- What a credit was, of the state before it: the half and the way back afterwards.
pub record Credits (s : State) (a : Turn) (half : Source) (back : Returned) : Type 0 where
  pub steps : StepsSource (job_of s.job) (view s) Credit a s.source half
  pub call : MakesNoCall s.source half
  pub taken : TakesFirst (is_flagged a) s.back back
  pub carried : IsCarriedOver s.streams back

abbrev pub after_credit : State → Source → Returned → State
after_credit s half back = record s { source = half; back = back }

pub credit-called : (s : State) (a : Turn) (half : Source) (back : Returned) → IsRunning s → is_wait a ≡ false → Credits s a half back → Called s Credit a (after_credit s half back)
credit-called s a half back r goes by =
    let job = job_of s.job in
    let v = view s in
    let c = contents_of s in
    let was = shows s r in
    record {
      job = refl;
      journal = refl;
      history = refl;
      reads = refl;
      alike = record {
        source_layout = ap (λ (told : Told). told.shape) by.call.told;
        dest_layout = refl;
        streams_shape = refl;
        streams_format = refl;
        none_made = r.parts.none_made;
        many = refl;
        room = λ j. refl;
        back_room = ap (λ (told : WireTold). told.capacity) by.taken.made.told;
      };
      done = λ unflagged. record {
        history = was.history;
        stun = was.stun;
        streams = was.streams;
        acks = ap (λ (ns : List ℕ). drop 1 ns) was.acks ∙ sym (goes-well (is_flagged a) s.back.counts _ back.counts by.taken.counts unflagged);
        source = subst (λ (w : View). IsSourceOf job w half) (effect-is job v Credit a goes by.steps.answers unflagged) (by.steps.part unflagged);
        dest = dest-at-credit job v s.dest (is_dest_of s r);
      };
      done_phase = λ unflagged. was.phase;
      done_bytes = λ unflagged both. record {
        streams = refl;
        reads = refl;
        source = subst (λ (d : Contents). HasSourceBytes d half) (moves-is job v Credit a c goes by.steps.answers unflagged) (by.steps.bytes c unflagged (has_source_bytes s both) (whole-source s r both));
        dest = has_dest_bytes s both;
      };
      failed = λ flagged. record {
        history = was.history;
        stun = was.stun;
        streams = was.streams;
        acks = was.acks ∙ sym (goes-wrong (is_flagged a) s.back.counts _ back.counts by.taken.counts flagged);
        source = by.steps.failed flagged;
        dest = is_dest_of s r;
      };
      failed_bytes = λ flagged both. record {
        streams = refl;
        reads = refl;
        source = by.steps.failed_bytes c flagged (has_source_bytes s both);
        dest = has_dest_bytes s both;
      };
      calls = record { source = same-source s.source half by.call; dest = refl; streams = refl; back = by.taken };
      carried = by.carried;
    }
