-- What is fresh is a migration's state, in which nothing has happened.
use Rattle.std.specs.Prelude.{◌≡◌, ◌≤◌, ◌<◌, ℕ, zero, suc, List, [], ◌∷◌, length, map, get_or, None, IfSome}
use Rattle.std.proofs.Common.{refl, sym, ap, subst, ◌∙◌, arith}
use Rattle.xv_base.specs.Units.{Shape, units}
use Rattle.xv_base.specs.declared.event.Phase.TheVariants.{Running}
use Rattle.xv_device.specs.Told.{Told}
use Rattle.xv_wire.specs.Told.{Told as WireTold}
use Rattle.xv_frame.specs.Frame.{Message, Each, IsFrame, IsMessage}
use Rattle.xv_model.specs.Job.{Job, IsGoodJob}
use Rattle.xv_model.specs.Guest.{Ended}
use Rattle.xv_model.specs.Step.{Entry}
use Rattle.xv_streams.specs.Streamed.{Streamed, LaneSeen, no_lane, fresh_lane}
use Rattle.xv_streams.specs.Carried.{most_messages, frames_of, joined as joined_groups, IsCarried}
use Rattle.xv_streams.specs.Returned.{Returned, AreCarried}
use Rattle.xv_source.specs.Half.{Source}
use Rattle.xv_dest.specs.Half.{Dest}
use Rattle.xv_job.specs.Written.{Written, job_of}
use Rattle.xv_core.specs.Seen.{Seen, OnDevice, OnWire, no_wire}
use Rattle.xv_core.specs.State.{State, state_of, seen_of, on_source, on_dest, on_wire, on_back, ArePartsOf}
use Rattle.xv_core.specs.Starting.{PutsLittle, CountsNoPiece, IsIdle}
use Rattle.xv_core.specs.Kept.{IsState}
use Rattle.xv_core.specs.Beginning.{IsDeviceFor, IsWireFor, stream_room, fresh_wire, begun}
use Rattle.xv_core.specs.Fresh.{IsFreshLane, AreFresh}
use Rattle.xv_core.proofs.Beginning.KeepsStart.{AreEmpty, starts}
use Rattle.xv_core.proofs.Counting.Start.{counts-begin, flags-begin, plans-begin, pieces-begin}

-- what holds of each fresh lane holds of every stream, where it holds of one that is not there
on-each : (P : LaneSeen → Type 0) (room : ℕ) (lanes : List LaneSeen) (k : ℕ) → Each (IsFreshLane room) lanes → P no_lane → ((l : LaneSeen) → IsFreshLane room l → P l) → P (get_or lanes k no_lane)
on-each P room [] k h none one = none
on-each P room (l ∷ lanes) zero h none one = one l h.0
on-each P room (l ∷ lanes) (suc k) h none one = on-each P room lanes k h.1 none one

there : (room : ℕ) (lanes : List LaneSeen) (k : ℕ) → Each (IsFreshLane room) lanes → k < length lanes → room ≤ (get_or lanes k no_lane).wire.capacity
there room [] k h lt = absurd (omega arith)
there room (l ∷ lanes) zero h lt = h.0.wire.roomy
there room (l ∷ lanes) (suc k) h lt = there room lanes k h.1 (omega arith)

few-puts : (room : ℕ) (lanes : List LaneSeen) (k : ℕ) → Each (IsFreshLane room) lanes → PutsLittle (get_or (map on_wire lanes) k no_wire).told
few-puts room [] k h = tt
few-puts room (l ∷ lanes) zero h = h.0.wire.little
few-puts room (l ∷ lanes) (suc k) h = few-puts room lanes k h.1

all-empty : (room : ℕ) (lanes : List LaneSeen) → Each (IsFreshLane room) lanes → AreEmpty lanes
all-empty room [] h = tt
all-empty room (l ∷ lanes) h = (h.0.groups, all-empty room lanes h.1)

-- no byte is gathered or in transit
carries-none : (s : Shape) (format : ℕ) (l : LaneSeen) → l.groups ≡ [] → l.gathered ≡ [] → l.wire.transit ≡ [] → IsCarried s format l
carries-none s format l e f g = record {
  stand = rw (e, f, g) refl;
  frames = subst (λ (groups : List (List Message)). Each (IsFrame s) (frames_of format groups)) (sym e) tt;
  messages = subst (λ (groups : List (List Message)). Each (IsMessage s) (joined_groups groups)) (sym e) tt;
  sizes = subst (λ (groups : List (List Message)). Each (λ g. (1 ≤ length g) × (length g ≤ most_messages format)) groups) (sym e) tt;
  bytes = rw (e, f, g) refl;
  few_bytes = rw (e, f, g) (omega arith);
}

carry-none : (s : Shape) (format room : ℕ) (lanes : List LaneSeen) → Each (IsFreshLane room) lanes → Each (IsCarried s format) lanes
carry-none s format room [] h = tt
carry-none s format room (l ∷ lanes) h = (carries-none s format l h.0.groups h.0.gathered h.0.wire.none, carry-none s format room lanes h.1)

returns-none : (r : Returned) → r.counts ≡ [] → r.gathered ≡ [] → r.wire.transit ≡ [] → AreCarried r
returns-none r e f g = record {
  stand = rw (e, f, g) refl;
  counts = subst (Each (λ n. (1 ≤ n) × (n ≤ 1024))) (sym e) tt;
  bytes = rw (e, f, g) refl;
}

-- what a device for a job tells
numbers-are : (job : Job) (told : Told) → IsDeviceFor job told → length told.writes ≡ units job.shape
numbers-are job told d = d.sized.writes_each ∙ ap units d.layout

contents-are : (job : Job) (told : Told) → IsDeviceFor job told → IfSome told.contents (λ contents. length contents ≡ units job.shape)
contents-are job told d = subst (λ (s : Shape). IfSome told.contents (λ contents. length contents ≡ units s)) d.layout d.sized.contents_each

parts-are : (job : Written) (source : Source) (dest : Dest) (streams : Streamed) (back : Returned) → AreFresh job source dest streams back → ArePartsOf (job_of job) source dest streams back
parts-are job source dest streams back f = record {
  source_shape = ap (λ (h : Source). h.shape) f.source_half;
  source_copy = ap (λ (h : Source). h.shape) f.source_half;
  source_limits = ap (λ (h : Source). h.config) f.source_half;
  source_layout = f.source_device.layout;
  dest_shape = ap (λ (h : Dest). h.shape) f.dest_half;
  dest_limit = ap (λ (h : Dest). h.limit) f.dest_half;
  dest_layout = f.dest_device.layout;
  streams_shape = f.layout;
  streams_format = f.format;
  each_stream = f.each_stream;
  none_made = f.none_made;
  wires_room = λ k lt. there (stream_room (job_of job)) streams.lanes k f.lanes (rw f.each_stream lt);
  back_room = f.back_wire.roomy;
}

idle : (s : State) (room : ℕ) → Each (IsFreshLane room) s.streams.lanes → s.back.gathered ≡ [] → s.back.counts ≡ [] → CountsNoPiece s.back.wire → IsIdle s
idle s room lanes gathered counts none = record {
  none_gathered = λ k. on-each (λ l. l.gathered ≡ []) room s.streams.lanes k lanes refl (λ l h. h.gathered);
  none_there = λ k. on-each (λ l. l.groups ≡ []) room s.streams.lanes k lanes refl (λ l h. h.groups);
  pieces = λ k. on-each (λ l. CountsNoPiece l.wire) room s.streams.lanes k lanes tt (λ l h. h.wire.no_piece);
  none_gathered_back = gathered;
  none_there_back = counts;
  pieces_back = none;
}

pub begins : (job : Written) (journal : List Entry) (history : List Ended) (source : Source) (dest : Dest) (streams : Streamed) (back : Returned) (reads : List ℕ) →
    IsGoodJob (job_of job) → journal ≡ [] → history ≡ [] → reads ≡ [] → AreFresh job source dest streams back →
    IsState (state_of job journal history Running None source dest streams back reads)
begins job journal history source dest streams back reads good none_entered none_ended none_read f =
    let s = state_of job journal history Running None source dest streams back reads in
    let room = stream_room (job_of job) in
    record {
      running = starts s source.told dest.told source.faults dest.faults (record {
        good = good;
        journal = none_entered;
        history = none_ended;
        phase = refl;
        stun = refl;
        reads = none_read;
        source_half = f.source_half;
        dest_half = f.dest_half;
        empty = all-empty room streams.lanes f.lanes;
        no_counts = f.counts;
        parts = parts-are job source dest streams back f;
        source_told = f.first;
        dest_told = contents-are (job_of job) dest.told f.dest_device;
      });
      carried = record { streams = carry-none streams.shape streams.format room streams.lanes f.lanes; back = returns-none back f.counts f.gathered f.back_wire.none };
      source_numbers = numbers-are (job_of job) source.told f.source_device;
      dest_numbers = numbers-are (job_of job) dest.told f.dest_device;
      counts = counts-begin (seen_of s) (record {
        source = f.source_device.little;
        dest = f.dest_device.little;
        wires = λ k. few-puts room streams.lanes k f.lanes;
        back = f.back_wire.little;
      });
      caused = flags-begin (seen_of s) none_entered;
      pieces = pieces-begin s (idle s room f.lanes f.gathered f.counts f.back_wire.no_piece);
      plans = plans-begin (seen_of s) none_entered;
    }

-- lanes over wires for a job are fresh
pub fresh-each : {W : Type 0} (told : W → WireTold) (faults : W → ℕ) (room : ℕ) (wires : List W) → ((k : ℕ) (d : W) → k < length wires → IsWireFor room (told (get_or wires k d))) → Each (IsFreshLane room) (map (λ w. fresh_lane (told w) (faults w)) wires)
fresh-each told faults room [] h = tt
fresh-each told faults room (w ∷ wires) h = (record { groups = refl; gathered = refl; wire = h 0 w (omega arith) }, fresh-each told faults room wires (λ k d lt. h (suc k) d (omega arith)))

-- and are seen as wires on which nothing is gathered
pub fresh-wires : {W : Type 0} (told : W → WireTold) (faults : W → ℕ) (wires : List W) (lanes : List LaneSeen) → lanes ≡ map (λ w. fresh_lane (told w) (faults w)) wires → map on_wire lanes ≡ map (λ w. fresh_wire (told w) (faults w)) wires
fresh-wires {W = W} told faults wires lanes e = ap (map on_wire) e ∙ each wires
  where
    each : (ws : List W) → map on_wire (map (λ w. fresh_lane (told w) (faults w)) ws) ≡ map (λ w. fresh_wire (told w) (faults w)) ws
    each [] = refl
    each (w ∷ ws) = ap (λ (xs : List OnWire). fresh_wire (told w) (faults w) ∷ xs) (each ws)

pub fresh-back : (told : WireTold) (faults : ℕ) (r : Returned) → r.gathered ≡ [] → r.wire ≡ told → r.faults ≡ faults → on_back r ≡ fresh_wire told faults
fresh-back told faults r e f g = rw (e, f, g) refl

-- and the whole as one that has just begun
abbrev seen_as : Written → List Entry → List ℕ → List (List (List ℕ)) → List (List ℕ) → List (List ℕ) → OnDevice → OnDevice → List OnWire → OnWire → Seen
seen_as job journal reads regions outbox held source dest wires back = record {
  job = job;
  journal = journal;
  reads = reads;
  regions = regions;
  outbox = outbox;
  held = held;
  source = source;
  dest = dest;
  wires = wires;
  back = back;
}

pub seen-begun : (job : Written) (journal : List Entry) (history : List Ended) (source : Source) (dest : Dest) (streams : Streamed) (back : Returned) (reads : List ℕ) →
    journal ≡ [] → reads ≡ [] → AreFresh job source dest streams back →
    seen_of (state_of job journal history Running None source dest streams back reads) ≡ begun job (on_source source) (on_dest dest) (map on_wire streams.lanes) (on_back back)
seen-begun job journal history source dest streams back reads none_entered none_read f =
    let wires = map on_wire streams.lanes in
    let blocks : List (List (List ℕ)) = map (λ _. []) job.shape.disks in
    ap (λ (es : List Entry). seen_as job es reads source.regions source.contents dest.contents (on_source source) (on_dest dest) wires (on_back back)) none_entered
    ∙ ap (λ (bytes : List ℕ). seen_as job [] bytes source.regions source.contents dest.contents (on_source source) (on_dest dest) wires (on_back back)) none_read
    ∙ ap (λ (h : Source). seen_as job [] [] h.regions h.contents dest.contents (on_source source) (on_dest dest) wires (on_back back)) f.source_half
    ∙ ap (λ (h : Dest). seen_as job [] [] blocks [] h.contents (on_source source) (on_dest dest) wires (on_back back)) f.dest_half
