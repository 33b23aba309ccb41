-- Each event that moves messages, from what its half's call ensures in a migration.
use Rattle.std.specs.Prelude.{◌≡◌, ◌<◌, ◌^◌, ℕ, ◌-◌, ◌==◌, ◌&&◌, not, Bool, true, false, List, [], ◌∷◌, ◌++◌, length, map, drop, set, get_or, Option, Some, None, option_map, IfSome, if◌then◌else◌}
use Rattle.std.proofs.Common.{arith, refl, ap, sym, subst, ◌∙◌}
use Rattle.std.proofs.lemmas.Bool.{lt-ltb}
use Rattle.xv_base.specs.Units.{Shape, size}
use Rattle.xv_base.specs.declared.answer.Turn.TheVariants.{Wait as Waits}
use Rattle.xv_base.specs.declared.answer.Why.{Why}
use Rattle.xv_base.specs.declared.answer.Why.TheVariants.{NothingThere, NotNow}
use Rattle.xv_base.specs.declared.event.Event.TheVariants.{Guest, Begin, Read, Advance, Release, Round, Page, Send, Deliver, Apply, Ack, Credit, Stun, Switch, Cancel}
use Rattle.xv_device.specs.Device.{FlushAll}
use Rattle.xv_frame.specs.Frame.{Message, AckFrame, Each, all_spelled}
use Rattle.xv_wire.specs.Wire.{Counted, TakeBytes, counted_after}
use Rattle.xv_wire.specs.Told.{Told as WireTold, told_after}
use Rattle.xv_streams.specs.Streamed.{Streamed, LaneSeen, OnlyLane, lane}
use Rattle.xv_streams.specs.Carried.{IsCarried, frames_of}
use Rattle.xv_streams.specs.Fronts.{heads_of, heads_on, contents_on, PutsGroup, TakesFront}
use Rattle.xv_streams.specs.Returned.{Returned, AckPut, AreCarried, TakesFirst}
use Rattle.xv_model.specs.Job.{Job}
use Rattle.xv_model.specs.View.{View, UnitHead, no_message, stream, is_empty, is_live, is_stunned}
use Rattle.xv_model.specs.Wait.{Event, wait, has_cancel, may_switch, unless}
use Rattle.xv_model.specs.Effect.{Turn}
use Rattle.xv_model.specs.Step.{breaks, turn, turn_by, is_flagged, is_wait}
use Rattle.xv_model.specs.Contents.{Contents}
use Rattle.xv_model.proofs.GoesOn.{unless-none, empty-nil}
use Rattle.xv_job.specs.Written.{job_of}
use Rattle.xv_source.specs.Half.{Source}
use Rattle.xv_source.specs.Step.{Allows as AllowsSource, StepsSource, MakesNoCall as CallsNoSource, batch as batch_of_half, went_out as went_out_of_source}
use Rattle.xv_dest.specs.Half.{Dest, HasDestBytes}
use Rattle.xv_dest.specs.Step.{Allows as AllowsDest, StepsDest, MovesDest, MakesCall, MakesNoCall, ready_place, ready_write, went_out}
use Rattle.xv_core.specs.Seen.{Seen, OnWire, view_of}
use Rattle.xv_core.specs.State.{State, view, seen_of, contents_of, IsRunning}
use Rattle.xv_core.specs.Kept.{IsState}
use Rattle.xv_core.specs.Stepped.{IsStep}
use Rattle.xv_core.proofs.Stepped.Waited.{Waited, IsStill, IsStillBack, AreStill}
use Rattle.xv_core.proofs.Keeping.Joined.{shows, is_source_of, is_dest_of, has_dest_bytes}
use Rattle.xv_core.proofs.Counting.Room.{wire-countable}
use Rattle.xv_core.proofs.Counting.Wires.{wire-is}
use Rattle.xv_core.proofs.Plans.Lanes.{carried-at}
use Rattle.xv_core.proofs.Stepped.Waits.{waited-none, still-set}
use Rattle.xv_core.proofs.MovingEvents.Moved.{either-way}
use Rattle.xv_core.proofs.MovingEvents.Lanes.{heads-at}
use Rattle.xv_core.proofs.MovingEvents.BySource.{after_send, after_credit, send-move, credit-move, send-called, credit-called}
use Rattle.xv_core.proofs.MovingEvents.ByDest.{after_deliver, after_apply, after_ack, after_switch, deliver-move, apply-move, ack-move, switch-move, deliver-called, apply-called, ack-called, switch-called}
use Rattle.xv_core.proofs.MovingEvents.Settled.{OfMove, what-for, wait-unflagged, waits-for, at-once}

-- a stream of the job as it is seen, and the phase as it is asked for
pub stream-seen : (s : State) (m : Seen) (k : ℕ) → seen_of s ≡ m → k < (job_of m.job).config.streams → k < (job_of s.job).config.streams
stream-seen s m k sees lt = subst (λ (x : Seen). k < (job_of x.job).config.streams) (sym sees) lt

is-live : (s : State) → IsRunning s → is_live s.phase ≡ true → is_live (view s).phase ≡ true
is-live s r live = ap is_live (shows s r).phase ∙ live

-- a stream's wire may be called
pub lane-countable : (s : State) (k : ℕ) → IsState s → IfSome (lane s.streams k).wire.counted (λ c. c.puts < 2 ^ 63)
lane-countable s k kept = subst (λ (w : OnWire). IfSome w.told.counted (λ c. c.puts < 2 ^ 63)) (wire-is s.streams.lanes k) (wire-countable s k kept)

-- What a send of at most so many messages ensures.
pub record SendEnsures (s : State) (k most : ℕ) (a : Turn) (half : Source) (over : Streamed) : Type 0 where
  pub step : (job : Job) (v : View) → AllowsSource job v (Send k) s.source → job.format ≡ s.streams.format → job.group ≡ most → StepsSource job v (Send k) a s.source half
  pub call : CallsNoSource s.source half
  pub others : OnlyLane k s.streams over
  pub none_made : over.making ≡ []
  pub put : went_out_of_source a ≡ true → PutsGroup s.streams.format (batch_of_half s.streams.format most s.source) (is_flagged a) (lane s.streams k) (lane over k)
  pub waits : is_wait a ≡ true → over ≡ s.streams
  pub paired : length s.source.contents ≡ length s.source.messages
  pub carried : Each (IsCarried over.shape over.format) over.lanes

unsent-still : (s : State) (half : Source) (over : Streamed) → half ≡ s.source → over ≡ s.streams → Waited s (after_send s half over)
unsent-still s half over e f =
    subst (λ (h : Source). Waited s (after_send s h over)) (sym e) (subst (λ (x : Streamed). Waited s (after_send s s.source x)) (sym f) (waited-none s))

either-out : (b : Bool) (x y : Turn) → went_out_of_source x ≡ true → went_out_of_source y ≡ true → went_out_of_source (if b then x else y) ≡ true
either-out true x y e f = e
either-out false x y e f = f

sends-as : (s : State) (m : Seen) (k : ℕ) (a : Turn) (half : Source) (over : Streamed) → IsState s → seen_of s ≡ m → k < (job_of m.job).config.streams → is_live s.phase ≡ true → SendEnsures s k (job_of s.job).group a half over → OfMove s (Send k) a (after_send s half over)
sends-as s m k a half over kept sees there live e =
    let r = kept.running in
    let job = job_of s.job in
    let v = view s in
    let steps = e.step job v (record { of = is_source_of s r; lets = is-live s r live }) (sym r.parts.streams_format) refl in
    record {
      fit = lt-ltb k job.config.streams (stream-seen s m k sees there);
      move = send-move job v k;
      answers = steps.answers;
      journal = refl;
      called = λ goes. send-called s k a half over r goes (record {
        steps = steps;
        call = e.call;
        others = e.others;
        none_made = e.none_made;
        put = e.put (either-way went_out_of_source job v (Send k) a goes steps.answers (either-out (job.format == 1) _ _ refl refl) refl);
        paired = e.paired;
        carried = record { streams = e.carried; back = kept.carried.back };
      });
      waited = λ waits. unsent-still s half over (steps.waits waits) (e.waits waits);
    }

pub send-of : (s : State) (m : Seen) (k most : ℕ) (a : Turn) (half : Source) (over : Streamed) → IsState s → seen_of s ≡ m → k < (job_of m.job).config.streams → is_live s.phase ≡ true → most ≡ (job_of s.job).group → SendEnsures s k most a half over → OfMove s (Send k) a (after_send s half over)
send-of s m k most a half over kept sees there live is e = sends-as s m k a half over kept sees there live (subst (λ (n : ℕ). SendEnsures s k n a half over) is e)

-- What a credit ensures.
pub record CreditEnsures (s : State) (a : Turn) (half : Source) (back : Returned) : Type 0 where
  pub step : (job : Job) (v : View) → AllowsSource job v Credit s.source → v.acks ≡ s.back.counts → StepsSource job v Credit a s.source half
  pub call : CallsNoSource s.source half
  pub taken : TakesFirst (is_flagged a) s.back back
  pub carried : AreCarried back

-- a take that moved nothing leaves what a wire tells
counts-same : (o : Option Counted) → option_map (counted_after (TakeBytes 0) false) o ≡ o
counts-same None = refl
counts-same (Some c) = refl

wire-still : (n : ℕ) (before later : WireTold) → n ≡ 0 → later ≡ told_after (TakeBytes n) false before → later ≡ before
wire-still n before later none is =
    is ∙ ap (λ (m : ℕ). told_after (TakeBytes m) false before) none
    ∙ ap (λ (o : Option Counted). record { capacity = before.capacity; transit = before.transit; counted = o }) (counts-same before.counted)

-- where bytes joined are none, none are on either side
none-left : (xs ys : List ℕ) → xs ++ ys ≡ [] → (xs ≡ []) × (length ys ≡ 0)
none-left [] ys e = (refl, ap (λ (bytes : List ℕ). length bytes) e)
none-left (x ∷ xs) ys e = absurd (cc)

-- the second wait of an event that waits for two things, where it is not the first
second : (b c : Bool) (first last why : Why) → b ≡ false → unless b first (unless c last None) ≡ Some why → c ≡ true
second false true first last why e is = refl
second false false first last why e is = absurd (cc)
second true c first last why e is = absurd (cc)

not-live : (b : Bool) → b ≡ true → not b ≡ false
not-live true e = refl
not-live false e = absurd (cc)

back-still : (old new : Returned) → TakesFirst false old new → AreCarried old → old.counts ≡ [] → IsStillBack old new
back-still old new taken carried none =
    let bytes = none-left old.gathered old.wire.transit (carried.stand ∙ ap (λ (ns : List ℕ). all_spelled (map AckFrame ns)) none) in
    record {
      counts = taken.counts ∙ ap (λ (ns : List ℕ). drop 1 ns) none ∙ sym none;
      gathered = taken.gathered refl ∙ sym bytes.0;
      wire = wire-still (length old.wire.transit - length new.wire.transit) old.wire new.wire (omega (arith, bytes.1)) taken.made.told;
      faults = taken.made.caused.never_falls;
    }

nothing-back : (s : State) (a : Turn) → IsRunning s → is_live s.phase ≡ true → a ≡ turn (job_of s.job) (view s) Credit (is_flagged a) → is_wait a ≡ true → s.back.counts ≡ []
nothing-back s a r live answers waits =
    let job = job_of s.job in
    let v = view s in
    let is = what-for job v Credit a refl answers waits in
    sym (shows s r).acks ∙ empty-nil v.acks (second (not (is_live v.phase)) (is_empty v.acks) _ NothingThere is.0 (not-live (is_live v.phase) (is-live s r live)) is.2)

pub credit-of : (s : State) (a : Turn) (half : Source) (back : Returned) → IsState s → is_live s.phase ≡ true → CreditEnsures s a half back → OfMove s Credit a (after_credit s half back)
credit-of s a half back kept live e =
    let r = kept.running in
    let job = job_of s.job in
    let v = view s in
    let steps = e.step job v (record { of = is_source_of s r; lets = is-live s r live }) (shows s r).acks in
    record {
      fit = refl;
      move = credit-move job v;
      answers = steps.answers;
      journal = refl;
      called = λ goes. credit-called s a half back r goes (record {
        steps = steps;
        call = e.call;
        taken = e.taken;
        carried = record { streams = kept.carried.streams; back = e.carried };
      });
      waited = λ waits.
          let taken : TakesFirst false s.back back = subst (λ (f : Bool). TakesFirst f s.back back) (wait-unflagged a waits).0 e.taken in
          subst (λ (h : Source). Waited s (after_credit s h back)) (sym (steps.waits waits))
          (record {
            rest = refl;
            streams = refl;
            lanes = (waited-none s).lanes;
            back = back-still s.back back taken kept.carried.back (nothing-back s a r live steps.answers waits);
          });
    }

-- What a delivery ensures.
pub record DeliverEnsures (s : State) (k : ℕ) (a : Turn) (half : Dest) (over : Streamed) : Type 0 where
  pub step : (job : Job) (v : View) → AllowsDest job v (Deliver k) s.dest → job.format ≡ s.streams.format → v.streams ≡ heads_on s.streams.lanes → StepsDest job v (Deliver k) a s.dest half
  pub bytes : (job : Job) (v : View) (c : Contents) → AllowsDest job v (Deliver k) s.dest → v.streams ≡ heads_on s.streams.lanes → c.streams ≡ contents_on s.streams.lanes → HasDestBytes c s.dest → MovesDest job v c (Deliver k) a half
  pub call : MakesNoCall s.dest half
  pub others : over ≡ record s.streams { lanes = set s.streams.lanes k (lane over k); got = over.got }
  pub taken : TakesFront s.dest.shape (is_flagged a) (lane s.streams k) (lane over k)
  pub carried : Each (IsCarried over.shape over.format) over.lanes

no-groups : (groups : List (List Message)) → map heads_of groups ≡ [] → groups ≡ []
no-groups [] e = refl
no-groups (g ∷ gs) e = absurd (cc)

nothing-there : (s : State) (k : ℕ) (a : Turn) → IsRunning s → is_live s.phase ≡ true → a ≡ turn (job_of s.job) (view s) (Deliver k) (is_flagged a) → is_wait a ≡ true → (lane s.streams k).groups ≡ []
nothing-there s k a r live answers waits =
    let job = job_of s.job in
    let v = view s in
    let is = what-for job v (Deliver k) a (deliver-move job v k).no_wait answers waits in
    let none : stream v k ≡ [] =
    empty-nil (stream v k) (second (not (is_live v.phase)) (is_empty (stream v k)) _ NothingThere is.0 (not-live (is_live v.phase) (is-live s r live)) is.2) in
    no-groups (lane s.streams k).groups (sym (heads-at s.streams.lanes k) ∙ ap (λ (ls : List (List (List UnitHead))). get_or ls k []) (sym (shows s r).streams) ∙ none)

lane-still : (shape : Shape) (format : ℕ) (layout : Shape) (old new : LaneSeen) → TakesFront layout false old new → IsCarried shape format old → old.groups ≡ [] → IsStill old new
lane-still shape format layout old new taken carried none =
    let bytes = none-left old.gathered old.wire.transit (carried.stand ∙ ap (λ (gs : List (List Message)). all_spelled (frames_of format gs)) none) in
    record {
      groups = taken.groups ∙ ap (λ (gs : List (List Message)). drop 1 gs) none ∙ sym none;
      gathered = taken.gathered refl ∙ sym bytes.0;
      wire = wire-still (length old.wire.transit - length new.wire.transit) old.wire new.wire (omega (arith, bytes.1)) taken.made.told;
      faults = taken.made.caused.never_falls;
    }

undelivered-still : (s : State) (k : ℕ) (over : Streamed) → over ≡ record s.streams { lanes = set s.streams.lanes k (lane over k); got = over.got } → IsStill (lane s.streams k) (lane over k) → Waited s (after_deliver s s.dest over)
undelivered-still s k over others still =
    let lanes : over.lanes ≡ set s.streams.lanes k (lane over k) = ap (λ (x : Streamed). x.lanes) others in
    record {
      rest = refl;
      streams = others ∙ ap (λ (ls : List LaneSeen). record s.streams { lanes = ls; got = over.got }) (sym lanes);
      lanes = subst (AreStill s.streams.lanes) (sym lanes) (still-set s.streams.lanes k (lane over k) still);
      back = (waited-none s).back;
    }

pub deliver-of : (s : State) (m : Seen) (k : ℕ) (a : Turn) (half : Dest) (over : Streamed) → IsState s → seen_of s ≡ m → k < (job_of m.job).config.streams → is_live s.phase ≡ true → DeliverEnsures s k a half over → OfMove s (Deliver k) a (after_deliver s half over)
deliver-of s m k a half over kept sees there live e =
    let r = kept.running in
    let job = job_of s.job in
    let v = view s in
    let allows : AllowsDest job v (Deliver k) s.dest = record { of = is_dest_of s r; lets = is-live s r live } in
    let steps = e.step job v allows (sym r.parts.streams_format) (shows s r).streams in
    record {
      fit = lt-ltb k job.config.streams (stream-seen s m k sees there);
      move = deliver-move job v k;
      answers = steps.answers;
      journal = refl;
      called = λ goes. deliver-called s k a half over r goes (record {
        steps = steps;
        bytes = λ both. e.bytes job v (contents_of s) allows (shows s r).streams refl (has_dest_bytes s both);
        call = e.call;
        others = e.others;
        taken = e.taken;
        carried = record { streams = e.carried; back = kept.carried.back };
      });
      waited = λ waits.
          let taken : TakesFront s.dest.shape false (lane s.streams k) (lane over k) = subst (λ (f : Bool). TakesFront s.dest.shape f (lane s.streams k) (lane over k)) (wait-unflagged a waits).0 e.taken in
          let carried = carried-at s.streams.shape s.streams.format s.streams.lanes k kept.carried.streams in
          subst (λ (h : Dest). Waited s (after_deliver s h over)) (sym (steps.waits waits))
          (undelivered-still s k over e.others (lane-still s.streams.shape s.streams.format s.dest.shape (lane s.streams k) (lane over k) taken carried (nothing-there s k a r live steps.answers waits)));
    }

-- What a write ensures.
pub record ApplyEnsures (s : State) (a : Turn) (half : Dest) : Type 0 where
  pub step : (job : Job) (v : View) → AllowsDest job v Apply s.dest → StepsDest job v Apply a s.dest half
  pub bytes : (job : Job) (v : View) (c : Contents) → AllowsDest job v Apply s.dest → HasDestBytes c s.dest → MovesDest job v c Apply a half
  pub call : MakesCall (ready_write s.dest) a s.dest half
  pub whole : went_out a ≡ true → length (get_or s.dest.contents (ready_place s.dest) []) ≡ size s.dest.shape (get_or s.dest.held (ready_place s.dest) no_message).unit.0

pub apply-of : (s : State) (a : Turn) (half : Dest) → IsState s → is_live s.phase ≡ true → ApplyEnsures s a half → OfMove s Apply a (after_apply s half)
apply-of s a half kept live e =
    let r = kept.running in
    let job = job_of s.job in
    let v = view s in
    let allows : AllowsDest job v Apply s.dest = record { of = is_dest_of s r; lets = is-live s r live } in
    let steps = e.step job v allows in
    record {
      fit = refl;
      move = apply-move job v;
      answers = steps.answers;
      journal = refl;
      called = λ goes. apply-called s a half r goes (record {
        steps = steps;
        bytes = λ both. e.bytes job v (contents_of s) allows (has_dest_bytes s both);
        call = e.call;
        whole = e.whole;
        carried = kept.carried;
      });
      waited = λ waits. subst (λ (h : Dest). Waited s (after_apply s h)) (sym (steps.waits waits)) (waited-none s);
    }

-- What an acknowledgement ensures.
pub record AckEnsures (s : State) (a : Turn) (half : Dest) (back : Returned) : Type 0 where
  pub step : (job : Job) (v : View) → AllowsDest job v Ack s.dest → StepsDest job v Ack a s.dest half
  pub bytes : (job : Job) (v : View) (c : Contents) → AllowsDest job v Ack s.dest → HasDestBytes c s.dest → MovesDest job v c Ack a half
  pub call : MakesNoCall s.dest half
  pub put : went_out a ≡ true → AckPut s.dest.freed (is_flagged a) s.back back
  pub waits : is_wait a ≡ true → back ≡ s.back
  pub carried : AreCarried back

unacknowledged-still : (s : State) (half : Dest) (back : Returned) → half ≡ s.dest → back ≡ s.back → Waited s (after_ack s half back)
unacknowledged-still s half back e f =
    subst (λ (h : Dest). Waited s (after_ack s h back)) (sym e) (subst (λ (x : Returned). Waited s (after_ack s s.dest x)) (sym f) (waited-none s))

pub ack-of : (s : State) (a : Turn) (half : Dest) (back : Returned) → IsState s → is_live s.phase ≡ true → AckEnsures s a half back → OfMove s Ack a (after_ack s half back)
ack-of s a half back kept live e =
    let r = kept.running in
    let job = job_of s.job in
    let v = view s in
    let allows : AllowsDest job v Ack s.dest = record { of = is_dest_of s r; lets = is-live s r live } in
    let steps = e.step job v allows in
    record {
      fit = refl;
      move = ack-move job v;
      answers = steps.answers;
      journal = refl;
      called = λ goes. ack-called s a half back r goes (record {
        steps = steps;
        bytes = λ both. e.bytes job v (contents_of s) allows (has_dest_bytes s both);
        call = e.call;
        put = e.put;
        carried = record { streams = kept.carried.streams; back = e.carried };
      });
      waited = λ waits. unacknowledged-still s half back (steps.waits waits) (e.waits waits);
    }

-- What the switchover ensures.
pub record SwitchEnsures (s : State) (a : Turn) (half : Dest) : Type 0 where
  pub step : (job : Job) (v : View) → AllowsDest job v Switch s.dest → StepsDest job v Switch a s.dest half
  pub bytes : (job : Job) (v : View) (c : Contents) → AllowsDest job v Switch s.dest → HasDestBytes c s.dest → MovesDest job v c Switch a half
  pub call : MakesCall FlushAll a s.dest half

-- where nothing is waited for, the half may flush
three-none : (b c d : Bool) (x y z : Why) → unless (not b) x (unless c y (unless (not d) z None)) ≡ None → (b && not c && d) ≡ true
three-none true false true x y z e = refl
three-none true false false x y z e = absurd (cc)
three-none true true d x y z e = absurd (cc)
three-none false c d x y z e = absurd (cc)

goes-by : (w : Option Why) (b : Bool) (job : Job) (v : View) → w ≡ None → is_wait (turn_by w b job v Switch) ≡ false
goes-by None true job v e = refl
goes-by None false job v e = refl
goes-by (Some why) b job v e = absurd (cc)

switch-flagged : (job : Job) (v : View) (flag : Bool) → wait job v Switch flag ≡ wait job v Switch false
switch-flagged job v flag = refl

pub switch-of : (s : State) (a : Turn) (half : Dest) → IsState s → wait (job_of s.job) (view s) Switch false ≡ None → SwitchEnsures s a half → OfMove s Switch a (after_switch s half)
switch-of s a half kept none e =
    let r = kept.running in
    let job = job_of s.job in
    let v = view s in
    let allows : AllowsDest job v Switch s.dest = record { of = is_dest_of s r; lets = three-none (is_stunned v.phase) (has_cancel job) (may_switch job v) _ _ _ none } in
    let steps = e.step job v allows in
    let goes : is_wait a ≡ false = ap is_wait steps.answers ∙ goes-by (wait job v Switch (is_flagged a)) (breaks job v Switch (is_flagged a)) job v (switch-flagged job v (is_flagged a) ∙ none) in
    record {
      fit = refl;
      move = switch-move job v;
      answers = steps.answers;
      journal = refl;
      called = λ _. switch-called s a half r goes (record {
        steps = steps;
        bytes = λ both. e.bytes job v (contents_of s) allows (has_dest_bytes s both);
        call = e.call;
        carried = kept.carried;
      });
      waited = λ waits. absurd (cc);
    }

-- What every event of these but the switchover waits for first.
abbrev pub needs_live : Event → Bool
needs_live (Guest g) = false
needs_live (Begin d) = false
needs_live (Read d) = false
needs_live (Advance d) = false
needs_live (Release d) = false
needs_live Round = false
needs_live Page = false
needs_live (Send k) = true
needs_live (Deliver k) = true
needs_live Apply = true
needs_live Ack = true
needs_live Credit = true
needs_live Stun = false
needs_live Switch = false
needs_live Cancel = false

by-phase : (job : Job) (v : View) (e : Event) → needs_live e ≡ true → is_live v.phase ≡ false → wait job v e false ≡ Some NotNow
by-phase job v (Guest g) n off = absurd (cc)
by-phase job v (Begin d) n off = absurd (cc)
by-phase job v (Read d) n off = absurd (cc)
by-phase job v (Advance d) n off = absurd (cc)
by-phase job v (Release d) n off = absurd (cc)
by-phase job v Round n off = absurd (cc)
by-phase job v Page n off = absurd (cc)
by-phase job v (Send k) n off = at-once (is_live v.phase) NotNow _ off
by-phase job v (Deliver k) n off = at-once (is_live v.phase) NotNow _ off
by-phase job v Apply n off = at-once (is_live v.phase) NotNow _ off
by-phase job v Ack n off = at-once (is_live v.phase) NotNow _ off
by-phase job v Credit n off = at-once (is_live v.phase) NotNow _ off
by-phase job v Stun n off = absurd (cc)
by-phase job v Switch n off = absurd (cc)
by-phase job v Cancel n off = absurd (cc)

pub waits-not-live : (s : State) (m : Seen) (e : Event) → IsState s → seen_of s ≡ m → needs_live e ≡ true → is_live s.phase ≡ false → IsStep m e (Waits NotNow) m
waits-not-live s m e kept sees needs off = waits-for s m e NotNow sees (by-phase (job_of s.job) (view s) e needs (ap is_live (shows s kept.running).phase ∙ off))

not-false : (b : Bool) → not b ≡ false → b ≡ true
not-false true e = refl
not-false false e = absurd (cc)

-- that nothing is waited for, as it is seen
pub none-seen : (s : State) (m : Seen) (e : Event) → seen_of s ≡ m → wait (job_of m.job) (view_of m) e false ≡ None → wait (job_of s.job) (view s) e false ≡ None
none-seen s m e sees none = subst (λ (x : Seen). wait (job_of x.job) (view_of x) e false ≡ None) (sym sees) none

pub apply-live : (s : State) → IsState s → wait (job_of s.job) (view s) Apply false ≡ None → is_live s.phase ≡ true
apply-live s kept none =
    let first = unless-none (not (is_live (view s).phase)) NotNow _ none in
    ap is_live (sym (shows s kept.running).phase) ∙ not-false (is_live (view s).phase) first.0
