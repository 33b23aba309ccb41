-- What a migration's parts keep, as contracts see it.
use Rattle.std.specs.Prelude.{◌≡◌, ◌<◌, ℕ, zero, suc, ◌+◌, ◌||◌, nat_lt, Bool, true, false, List, [], ◌∷◌, ◌++◌, length, map, get_or}
use Rattle.std.specs.List.{range_with_len}
use Rattle.std.proofs.Common.{refl, sym, ap, subst, ◌∙◌, arith}
use Rattle.std.proofs.lemmas.Bool.{ltb-true}
use Rattle.std.proofs.lemmas.List.FromFn.{fill_by_all}
use Rattle.xv_base.specs.declared.operation.UnitHead.{UnitHead}
use Rattle.xv_frame.specs.Frame.{Message, AckFrame, Each, message, all_spelled}
use Rattle.xv_model.specs.Job.{Job, unit_count}
use Rattle.xv_model.specs.Guest.{content}
use Rattle.xv_model.specs.View.{View, number, disk, is_switched, is_live}
use Rattle.xv_model.specs.Effect.{cursor_unit}
use Rattle.xv_model.specs.Contents.{Contents, HoldsContents, unit_content, region_content, message_content}
use Rattle.xv_model.specs.Report.{source_content, dest_length, is_written}
use Rattle.xv_streams.specs.Streamed.{LaneSeen, lane, no_lane}
use Rattle.xv_streams.specs.Carried.{frames_of, IsCarried}
use Rattle.xv_streams.specs.Fronts.{heads_of, heads_on, contents_on, contents_of as contents_in}
use Rattle.xv_job.specs.Written.{job_of}
use Rattle.xv_core.specs.Seen.{Seen, OnWire, wire}
use Rattle.xv_core.specs.State.{State, seen_of, view, both_tell, contents_of}
use Rattle.xv_core.specs.Kept.{IsState}
use Rattle.xv_core.specs.Keeping.{IsKept, guest_message, guest_messages, guest_blocks}
use Rattle.xv_core.proofs.Counting.Wires.{wire-is}
use Rattle.xv_core.proofs.Keeping.Joined.{shows, view-holds}
use Rattle.xv_core.proofs.Stepped.Stays.{all-carried}

-- messages whose contents are those of their heads
messages-are : (of : UnitHead → List ℕ) (ms : List Message) → contents_in ms ≡ map of (heads_of ms) → ms ≡ map (λ h. message h (of h)) (heads_of ms)
messages-are of [] e = refl
messages-are of (m ∷ ms) e =
    let here : m.content ≡ of m.head = cc in
    let rest : contents_in ms ≡ map of (heads_of ms) = cc in
    ap (λ (c : List ℕ). message m.head c ∷ ms) here ∙ ap (λ (xs : List Message). message m.head (of m.head) ∷ xs) (messages-are of ms rest)

groups-are : (of : UnitHead → List ℕ) (gs : List (List Message)) → map contents_in gs ≡ map (map of) (map heads_of gs) → gs ≡ map (map (λ h. message h (of h))) (map heads_of gs)
groups-are of [] e = refl
groups-are of (g ∷ gs) e =
    let here : contents_in g ≡ map of (heads_of g) = cc in
    let rest : map contents_in gs ≡ map (map of) (map heads_of gs) = cc in
    ap (λ (ms : List Message). ms ∷ gs) (messages-are of g here) ∙ ap (λ (xs : List (List Message)). map (λ h. message h (of h)) (heads_of g) ∷ xs) (groups-are of gs rest)

lanes-are : (of : UnitHead → List ℕ) (lanes : List LaneSeen) (k : ℕ) → contents_on lanes ≡ map (map (map of)) (heads_on lanes) → (get_or lanes k no_lane).groups ≡ map (map (λ h. message h (of h))) (get_or (heads_on lanes) k [])
lanes-are of [] k e = refl
lanes-are of (l ∷ lanes) zero e =
    let here : map contents_in l.groups ≡ map (map of) (map heads_of l.groups) = cc in
    groups-are of l.groups here
lanes-are of (l ∷ lanes) (suc k) e =
    let rest : contents_on lanes ≡ map (map (map of)) (heads_on lanes) = cc in
    lanes-are of lanes k rest

-- what is carried on one stream
carried-at : (P : LaneSeen → Type 0) (lanes : List LaneSeen) (k : ℕ) → Each P lanes → k < length lanes → P (get_or lanes k no_lane)
carried-at P [] k each lt = absurd (omega arith)
carried-at P (l ∷ lanes) zero each lt = each.0
carried-at P (l ∷ lanes) (suc k) each lt = carried-at P lanes k each.1 (omega arith)

-- what each side holds of a unit
source-holds : (job : Job) (v : View) (c : Contents) → HoldsContents job v c → (unit : ℕ) → unit < unit_count job → unit_content c.source unit ≡ source_content job v unit
source-holds job v c h unit lt = by (is_switched v.phase) refl
  where
    by : (b : Bool) → is_switched v.phase ≡ b → unit_content c.source unit ≡ source_content job v unit
    by true e = rw e (h.source_switched unit lt e)
    by false e = rw e (h.source_is unit lt e)

dest-holds : (job : Job) (v : View) (c : Contents) → HoldsContents job v c → (unit : ℕ) → unit < unit_count job → is_written v unit ≡ true → unit_content c.dest unit ≡ content job v.history unit (dest_length v unit)
dest-holds job v c h unit lt written = by (is_switched v.phase) refl
  where
    by : (b : Bool) → is_switched v.phase ≡ b → unit_content c.dest unit ≡ content job v.history unit (dest_length v unit)
    by true e = rw e (h.dest_switched unit lt e)
    by false e =
        let some : nat_lt 0 (number v.hold.applied unit) ≡ true = sym (ap (λ (b : Bool). b || nat_lt 0 (number v.hold.applied unit)) e) ∙ written in
        rw e (h.dest_is unit lt e (ltb-true 0 (number v.hold.applied unit) some))

-- the blocks read of each region
regions-hold : (job : Job) (v : View) (c : Contents) → length v.disks ≡ length job.copy.disks → HoldsContents job v c → c.regions ≡ map (guest_blocks job v) (range_with_len 0 (length job.copy.disks))
regions-hold job v c disks h =
    fill_by_all (guest_blocks job v) c.regions (length job.copy.disks) [] (h.regions_length ∙ disks) (λ d lt.
    let there : d < length v.disks = omega (arith, disks) in
    fill_by_all (λ (k : ℕ). content job v.history (cursor_unit job v d + k) (length v.history)) (region_content c d) (disk v d).got [] (h.region_length d there) (λ k got. h.region_is d k there got))

-- what stands on a stream's wire
wires-hold : (s : State) → IsState s → both_tell s ≡ true → (k : ℕ) → k < (job_of s.job).config.streams → (wire (seen_of s) k).gathered ++ (wire (seen_of s) k).told.transit ≡ all_spelled (frames_of (job_of s.job).format (guest_messages (job_of s.job) (view s) k))
wires-hold s i both k lt =
    let job = job_of s.job in
    let v = view s in
    let streams = (shows s i.running).streams in
    let of : UnitHead → List ℕ = message_content job v.history in
    let same : contents_on s.streams.lanes ≡ map (map (map of)) (heads_on s.streams.lanes) =
    (i.running.contents both).streams_are ∙ ap (λ (ss : List (List (List UnitHead))). map (map (map of)) ss) streams in
    let groups : (lane s.streams k).groups ≡ guest_messages job v k =
    lanes-are of s.streams.lanes k same ∙ ap (λ (ss : List (List (List UnitHead))). map (map (guest_message job v)) (get_or ss k [])) (sym streams) in
    let carried : IsCarried job.shape job.format (lane s.streams k) =
    carried-at (IsCarried job.shape job.format) s.streams.lanes k (all-carried job s i.running.parts i.carried).lanes (rw i.running.parts.each_stream lt) in
    subst (λ (w : OnWire). w.gathered ++ w.told.transit ≡ all_spelled (frames_of job.format (guest_messages job v k))) (sym (wire-is s.streams.lanes k))
    (carried.stand ∙ ap (λ (gs : List (List Message)). all_spelled (frames_of job.format gs)) groups)

kept-at : (s : State) → IsState s → IsKept (seen_of s)
kept-at s i =
    let job = job_of s.job in
    let v = view s in
    record {
      good = i.running.good;
      fitting = i.running.fitting;
      is_run = i.running.is_run;
      view = view-holds s i.running;
      contents = λ both. record {
        source = source-holds job v (contents_of s) (i.running.contents both);
        dest = dest-holds job v (contents_of s) (i.running.contents both);
        regions = regions-hold job v (contents_of s) (view-holds s i.running).lists.disks (i.running.contents both);
        outbox = (i.running.contents both).outbox_is;
        held = (i.running.contents both).held_is;
        wires = wires-hold s i both;
        reads = (i.running.contents both).reads_are;
      };
      source_layout = i.running.parts.source_layout;
      dest_layout = i.running.parts.dest_layout;
      way_back = i.carried.back.stand ∙ ap (λ (counts : List ℕ). all_spelled (map AckFrame counts)) (sym (shows s i.running).acks);
      gathered = λ k live. ap (λ (w : OnWire). w.gathered) (wire-is s.streams.lanes k) ∙ i.pieces.gathered k (sym (ap is_live (shows s i.running).phase) ∙ live);
      gathered_back = λ live. i.pieces.back_gathered (sym (ap is_live (shows s i.running).phase) ∙ live);
      counts = i.counts;
      caused = i.caused;
      plans = i.plans;
    }

pub kept-seen : (s : State) (m : Seen) → IsState s → seen_of s ≡ m → IsKept m
kept-seen s m i seen = subst IsKept seen (kept-at s i)
