-- A delivery, a write, an acknowledgement and the switchover: what the destination's half and its wires ensure of them is
-- what such an event does to a migration.
use Rattle.std.specs.Prelude.{◌≡◌, ℕ, ◌==◌, true, false, List, [], ◌∷◌, ◌++◌, length, drop, set, get_or}
use Rattle.std.proofs.Common.{refl, ap, sym, subst, ◌∙◌}
use Rattle.std.proofs.lemmas.List.{length-set}
use Rattle.xv_base.specs.Units.{Shape, size}
use Rattle.xv_base.specs.declared.event.Event.TheVariants.{Deliver, Apply, Ack, Switch}
use Rattle.xv_base.specs.declared.event.Phase.TheVariants.{Switched}
use Rattle.xv_device.specs.Device.{WriteUnit, FlushAll}
use Rattle.xv_device.specs.Told.{Told}
use Rattle.xv_wire.specs.Told.{Told as WireTold}
use Rattle.xv_streams.specs.Streamed.{Streamed, LaneSeen, lane, no_lane}
use Rattle.xv_streams.specs.Fronts.{heads_on, contents_on, TakesFront}
use Rattle.xv_streams.specs.Returned.{Returned, AckPut}
use Rattle.xv_model.specs.Job.{Job}
use Rattle.xv_model.specs.View.{View, UnitHead, no_message, ready_message}
use Rattle.xv_model.specs.Effect.{Turn, delivered, applied_next, acknowledged, switched}
use Rattle.xv_model.specs.Step.{is_flagged, is_wait}
use Rattle.xv_model.specs.Contents.{Contents}
use Rattle.xv_model.specs.Outside.{whole}
use Rattle.xv_job.specs.Written.{job_of}
use Rattle.xv_source.specs.Half.{Source, IsSourceOf, with_source}
use Rattle.xv_dest.specs.Half.{Dest, IsDestOf, HasDestBytes}
use Rattle.xv_dest.specs.Step.{StepsDest, MovesDest, MakesCall, MakesNoCall, ready_place, ready_write, went_out}
use Rattle.xv_core.specs.Calls.{Made, WrittenPart}
use Rattle.xv_core.specs.State.{State, view, both_tell, contents_of, on_dest, IsRunning, IsCarriedOver}
use Rattle.xv_core.proofs.Keeping.Joined.{shows, dest-part, is_source_of, has_source_bytes}
use Rattle.xv_core.proofs.MovingEvents.Moved.{Called, IsMove, effect-is, moves-is, either-way, goes-well, goes-wrong, either-done, either-goes}
use Rattle.xv_core.proofs.MovingEvents.Lanes.{heads-taken, heads-same, contents-taken, contents-same, capacity-same}

pub deliver-move : (job : Job) (v : View) (k : ℕ) → IsMove job v (Deliver k)
deliver-move job v k = record { ends = refl; gives_up = λ c. refl; done = either-done (job.format == 1) _ _ refl refl; no_wait = either-goes (job.format == 1) _ _ refl refl; fails = refl }

pub apply-move : (job : Job) (v : View) → IsMove job v Apply
apply-move job v = record { ends = refl; gives_up = λ c. refl; done = refl; no_wait = refl; fails = refl }

pub ack-move : (job : Job) (v : View) → IsMove job v Ack
ack-move job v = record { ends = refl; gives_up = λ c. refl; done = refl; no_wait = refl; fails = refl }

pub switch-move : (job : Job) (v : View) → IsMove job v Switch
switch-move job v = record { ends = refl; gives_up = λ c. refl; done = refl; no_wait = refl; fails = refl }

-- a device that was not called
same-dest : (old new : Dest) → MakesNoCall old new → on_dest new ≡ on_dest old
same-dest old new h =
    ap (λ (told : Told). record { told = told; faults = new.faults }) h.told ∙ ap (λ (n : ℕ). record { told = old.told; faults = n }) h.faults

-- the source's part stays where an event of the destination changes none of it
source-at : (job : Job) (v : View) (f : View → View) (h : Source) → with_source (f (with_source v h)) h ≡ f (with_source v h) → IsSourceOf job v h → IsSourceOf job (f v) h
source-at job v f h same is = record { limits = is.limits; part = subst (λ (w : View). with_source (f w) h ≡ f w) is.part same }

-- What a delivery was, of the state before it: the half and the streams afterwards.
pub record Delivers (s : State) (k : ℕ) (a : Turn) (half : Dest) (over : Streamed) : Type 0 where
  pub steps : StepsDest (job_of s.job) (view s) (Deliver k) a s.dest half
  pub bytes : both_tell s ≡ true → MovesDest (job_of s.job) (view s) (contents_of s) (Deliver k) a half
  pub call : MakesNoCall s.dest half
  pub others : over ≡ record s.streams { lanes = set s.streams.lanes k (lane over k); got = over.got }
  pub taken : TakesFront s.dest.shape (is_flagged a) (lane s.streams k) (lane over k)
  pub carried : IsCarriedOver over s.back

abbrev pub after_deliver : State → Dest → Streamed → State
after_deliver s half over = record s { dest = half; streams = over }

lanes-after : (k : ℕ) (before over : Streamed) → over ≡ record before { lanes = set before.lanes k (lane over k); got = over.got } → over.lanes ≡ set before.lanes k (lane over k)
lanes-after k before over others = ap (λ (x : Streamed). x.lanes) others

pub deliver-called : (s : State) (k : ℕ) (a : Turn) (half : Dest) (over : Streamed) → IsRunning s → is_wait a ≡ false → Delivers s k a half over → Called s (Deliver k) a (after_deliver s half over)
deliver-called s k a half over r goes by =
    let job = job_of s.job in
    let v = view s in
    let c = contents_of s in
    let was = shows s r in
    let lanes = lanes-after k s.streams over by.others in
    let old = lane s.streams k in
    let new = lane over k in
    record {
      job = refl;
      journal = refl;
      history = refl;
      reads = refl;
      alike = record {
        source_layout = refl;
        dest_layout = ap (λ (told : Told). told.shape) by.call.told;
        streams_shape = ap (λ (x : Streamed). x.shape) by.others;
        streams_format = ap (λ (x : Streamed). x.format) by.others;
        none_made = ap (λ (x : Streamed). x.making) by.others ∙ r.parts.none_made;
        many = ap (λ (ls : List LaneSeen). length ls) lanes ∙ length-set s.streams.lanes k new;
        room = λ j. ap (λ (ls : List LaneSeen). (get_or ls j no_lane).wire.capacity) lanes ∙ capacity-same s.streams.lanes k new j (ap (λ (told : WireTold). told.capacity) by.taken.made.told);
        back_room = refl;
      };
      done = λ unflagged. record {
        history = was.history;
        stun = was.stun;
        streams =
            ap (λ (ls : List (List (List UnitHead))). set ls k (drop 1 (get_or ls k []))) was.streams
            ∙ sym (ap heads_on lanes ∙ heads-taken s.streams.lanes k new (goes-well (is_flagged a) old.groups _ new.groups by.taken.groups unflagged));
        acks = was.acks;
        source = source-at job v (λ w. delivered w k) s.source refl (is_source_of s r);
        dest = subst (λ (w : View). IsDestOf job w half) (effect-is job v (Deliver k) a goes by.steps.answers unflagged) (by.steps.part unflagged);
      };
      done_phase = λ unflagged. was.phase;
      done_bytes = λ unflagged both. record {
        streams = sym (ap contents_on lanes ∙ contents-taken s.streams.lanes k new (goes-well (is_flagged a) old.groups _ new.groups by.taken.groups unflagged));
        reads = refl;
        source = record { told = (has_source_bytes s both).told; part = refl };
        dest = subst (λ (d : Contents). HasDestBytes d half) (moves-is job v (Deliver k) a c goes by.steps.answers unflagged) ((by.bytes both).moved unflagged);
      };
      failed = λ flagged. record {
        history = was.history;
        stun = was.stun;
        streams = was.streams ∙ sym (ap heads_on lanes ∙ heads-same s.streams.lanes k new (goes-wrong (is_flagged a) old.groups _ new.groups by.taken.groups flagged));
        acks = was.acks;
        source = is_source_of s r;
        dest = by.steps.failed flagged;
      };
      failed_bytes = λ flagged both. record {
        streams = sym (ap contents_on lanes ∙ contents-same s.streams.lanes k new (goes-wrong (is_flagged a) old.groups _ new.groups by.taken.groups flagged));
        reads = refl;
        source = has_source_bytes s both;
        dest = (by.bytes both).kept flagged;
      };
      calls = record {
        source = refl;
        dest = same-dest s.dest half by.call;
        streams = record {
          taken = subst (λ (x : Shape). TakesFront x (is_flagged a) old new) (r.parts.dest_shape ∙ sym r.parts.streams_shape) by.taken;
          only = record { lanes = lanes };
        };
        back = refl;
      };
      carried = by.carried;
    }

-- What the other events of the destination were, of the state before them.
pub record Applies (s : State) (a : Turn) (half : Dest) : Type 0 where
  pub steps : StepsDest (job_of s.job) (view s) Apply a s.dest half
  pub bytes : both_tell s ≡ true → MovesDest (job_of s.job) (view s) (contents_of s) Apply a half
  pub call : MakesCall (ready_write s.dest) a s.dest half
  pub whole : went_out a ≡ true → length (get_or s.dest.contents (ready_place s.dest) []) ≡ size s.dest.shape (get_or s.dest.held (ready_place s.dest) no_message).unit.0
  pub carried : IsCarriedOver s.streams s.back

abbrev pub after_apply : State → Dest → State
after_apply s half = record s { dest = half }

-- the write that the half makes is the machine's
same-unit : (s : State) → IsRunning s → (get_or s.dest.held (ready_place s.dest) no_message).unit.0 ≡ (ready_message (view s).hold).unit.0
same-unit s r = ap (λ (w : View). (ready_message w.hold).unit.0) (dest-part s (view s) r.shows)

written-part : (s : State) (a : Turn) (half : Dest) → IsRunning s → went_out a ≡ true → Applies s a half → WrittenPart (whole (job_of s.job) (ready_message (view s).hold).unit.0) (is_flagged a) (on_dest s.dest) (on_dest half)
written-part s a half r out by = record {
  patches = false;
  bytes = get_or s.dest.contents (ready_place s.dest) [];
  covers = by.whole out ∙ ap (λ (x : Shape). size x (get_or s.dest.held (ready_place s.dest) no_message).unit.0) r.parts.dest_shape ∙ ap (size (job_of s.job).shape) (same-unit s r);
  made =
      subst (λ (u : ℕ). Made (WriteUnit u (get_or s.dest.contents (ready_place s.dest) [])) (is_flagged a) (on_dest s.dest) (on_dest half)) (same-unit s r) (by.call.made out);
}

pub apply-called : (s : State) (a : Turn) (half : Dest) → IsRunning s → is_wait a ≡ false → Applies s a half → Called s Apply a (after_apply s half)
apply-called s a half r goes by =
    let job = job_of s.job in
    let v = view s in
    let c = contents_of s in
    let was = shows s r in
    let out : went_out a ≡ true = either-way went_out job v Apply a goes by.steps.answers refl refl in
    record {
      job = refl;
      journal = refl;
      history = refl;
      reads = refl;
      alike = record {
        source_layout = refl;
        dest_layout = ap (λ (told : Told). told.shape) (by.call.made out).told;
        streams_shape = refl;
        streams_format = refl;
        none_made = r.parts.none_made;
        many = refl;
        room = λ j. refl;
        back_room = refl;
      };
      done = λ unflagged. record {
        history = was.history;
        stun = was.stun;
        streams = was.streams;
        acks = was.acks;
        source = source-at job v applied_next s.source refl (is_source_of s r);
        dest = subst (λ (w : View). IsDestOf job w half) (effect-is job v Apply a goes by.steps.answers unflagged) (by.steps.part unflagged);
      };
      done_phase = λ unflagged. was.phase;
      done_bytes = λ unflagged both. record {
        streams = refl;
        reads = refl;
        source = record { told = (has_source_bytes s both).told; part = refl };
        dest = subst (λ (d : Contents). HasDestBytes d half) (moves-is job v Apply a c goes by.steps.answers unflagged) ((by.bytes both).moved unflagged);
      };
      failed = λ flagged. record {
        history = was.history;
        stun = was.stun;
        streams = was.streams;
        acks = was.acks;
        source = is_source_of s r;
        dest = by.steps.failed flagged;
      };
      failed_bytes = λ flagged both. record { streams = refl; reads = refl; source = has_source_bytes s both; dest = (by.bytes both).kept flagged };
      calls = record { source = refl; dest = written-part s a half r out by; streams = refl; back = refl };
      carried = by.carried;
    }

-- What an acknowledgement was: the half and the way back afterwards.
pub record Acknowledges (s : State) (a : Turn) (half : Dest) (back : Returned) : Type 0 where
  pub steps : StepsDest (job_of s.job) (view s) Ack a s.dest half
  pub bytes : both_tell s ≡ true → MovesDest (job_of s.job) (view s) (contents_of s) Ack a half
  pub call : MakesNoCall s.dest half
  pub put : went_out a ≡ true → AckPut s.dest.freed (is_flagged a) s.back back
  pub carried : IsCarriedOver s.streams back

abbrev pub after_ack : State → Dest → Returned → State
after_ack s half back = record s { dest = half; back = back }

pub ack-called : (s : State) (a : Turn) (half : Dest) (back : Returned) → IsRunning s → is_wait a ≡ false → Acknowledges s a half back → Called s Ack a (after_ack s half back)
ack-called s a half back r goes by =
    let job = job_of s.job in
    let v = view s in
    let c = contents_of s in
    let was = shows s r in
    let put : AckPut s.dest.freed (is_flagged a) s.back back = by.put (either-way went_out job v Ack a goes by.steps.answers refl refl) in
    record {
      job = refl;
      journal = refl;
      history = refl;
      reads = refl;
      alike = record {
        source_layout = refl;
        dest_layout = ap (λ (told : Told). told.shape) by.call.told;
        streams_shape = refl;
        streams_format = refl;
        none_made = r.parts.none_made;
        many = refl;
        room = λ j. refl;
        back_room = ap (λ (told : WireTold). told.capacity) put.made.told;
      };
      done = λ unflagged. record {
        history = was.history;
        stun = was.stun;
        streams = was.streams;
        acks =
            ap (λ (ns : List ℕ). ns ++ v.freed ∷ []) was.acks ∙ ap (λ (n : ℕ). s.back.counts ++ n ∷ []) was.freed
            ∙ sym (goes-well (is_flagged a) s.back.counts _ back.counts put.counts unflagged);
        source = source-at job v acknowledged s.source refl (is_source_of s r);
        dest = subst (λ (w : View). IsDestOf job w half) (effect-is job v Ack a goes by.steps.answers unflagged) (by.steps.part unflagged);
      };
      done_phase = λ unflagged. was.phase;
      done_bytes = λ unflagged both. record {
        streams = refl;
        reads = refl;
        source = has_source_bytes s both;
        dest = subst (λ (d : Contents). HasDestBytes d half) (moves-is job v Ack a c goes by.steps.answers unflagged) ((by.bytes both).moved unflagged);
      };
      failed = λ flagged. record {
        history = was.history;
        stun = was.stun;
        streams = was.streams;
        acks = was.acks ∙ sym (goes-wrong (is_flagged a) s.back.counts _ back.counts put.counts flagged);
        source = is_source_of s r;
        dest = by.steps.failed flagged;
      };
      failed_bytes = λ flagged both. record { streams = refl; reads = refl; source = has_source_bytes s both; dest = (by.bytes both).kept flagged };
      calls = record { source = refl; dest = same-dest s.dest half by.call; streams = refl; back = record { count = s.dest.freed; put = put } };
      carried = by.carried;
    }

-- What the switchover was: the half afterwards, in the phase that follows.
pub record Switches (s : State) (a : Turn) (half : Dest) : Type 0 where
  pub steps : StepsDest (job_of s.job) (view s) Switch a s.dest half
  pub bytes : both_tell s ≡ true → MovesDest (job_of s.job) (view s) (contents_of s) Switch a half
  pub call : MakesCall FlushAll a s.dest half
  pub carried : IsCarriedOver s.streams s.back

abbrev pub after_switch : State → Dest → State
after_switch s half = record s { dest = half; phase = Switched }

pub switch-called : (s : State) (a : Turn) (half : Dest) → IsRunning s → is_wait a ≡ false → Switches s a half → Called s Switch a (after_switch s half)
switch-called s a half r goes by =
    let job = job_of s.job in
    let v = view s in
    let c = contents_of s in
    let was = shows s r in
    let made : Made FlushAll (is_flagged a) (on_dest s.dest) (on_dest half) = by.call.made (either-way went_out job v Switch a goes by.steps.answers refl refl) in
    record {
      job = refl;
      journal = refl;
      history = refl;
      reads = refl;
      alike = record {
        source_layout = refl;
        dest_layout = ap (λ (told : Told). told.shape) made.told;
        streams_shape = refl;
        streams_format = refl;
        none_made = r.parts.none_made;
        many = refl;
        room = λ j. refl;
        back_room = refl;
      };
      done = λ unflagged. record {
        history = was.history;
        stun = was.stun;
        streams = was.streams;
        acks = was.acks;
        source = source-at job v switched s.source refl (is_source_of s r);
        dest = subst (λ (w : View). IsDestOf job w half) (effect-is job v Switch a goes by.steps.answers unflagged) (by.steps.part unflagged);
      };
      done_phase = λ unflagged. refl;
      done_bytes = λ unflagged both. record {
        streams = refl;
        reads = refl;
        source = has_source_bytes s both;
        dest = subst (λ (d : Contents). HasDestBytes d half) (moves-is job v Switch a c goes by.steps.answers unflagged) ((by.bytes both).moved unflagged);
      };
      failed = λ flagged. record {
        history = was.history;
        stun = was.stun;
        streams = was.streams;
        acks = was.acks;
        source = is_source_of s r;
        dest = by.steps.failed flagged;
      };
      failed_bytes = λ flagged both. record { streams = refl; reads = refl; source = has_source_bytes s both; dest = (by.bytes both).kept flagged };
      calls = record { source = refl; dest = made; streams = refl; back = refl };
      carried = by.carried;
    }
