-- A wait leaves all that a migration keeps.
use Rattle.std.specs.Prelude.{◌≡◌, ◌≤◌, ◌<◌, ℕ, zero, suc, ◌+◌, ◌*◌, ◌^◌, List, [], ◌∷◌, length, map, get_or, set, IfSome}
use Rattle.std.proofs.Common.{refl, sym, ap, subst, ◌∙◌, arith}
use Rattle.xv_base.specs.Units.{Shape}
use Rattle.xv_frame.specs.Frame.{Message, Each}
use Rattle.xv_wire.specs.Told.{Told as WireTold}
use Rattle.xv_model.specs.View.{View, UnitHead}
use Rattle.xv_model.specs.Contents.{Contents, HoldsContents}
use Rattle.xv_streams.specs.Streamed.{Streamed, LaneSeen, lane, no_lane}
use Rattle.xv_streams.specs.Carried.{IsCarried, most_bytes}
use Rattle.xv_streams.specs.Fronts.{heads_of, contents_of as contents_of_messages, heads_on, contents_on}
use Rattle.xv_streams.specs.Returned.{Returned, AreCarried}
use Rattle.xv_job.specs.Written.{job_of}
use Rattle.xv_core.specs.Seen.{OnWire, wire}
use Rattle.xv_core.specs.State.{State, IsRunning, IsCarriedOver, ArePartsOf, view, shown, contents_of, seen_of}
use Rattle.xv_core.specs.Plans.{ArePieces, IsPieces, frame_length, FollowsPlans, FollowsIf, takes_met}
use Rattle.xv_core.specs.Counting.{CountsFit, FlagsAreCaused, AreCaused}
use Rattle.xv_core.specs.Kept.{IsState}
use Rattle.xv_core.proofs.Stepped.Waited.{IsStill, IsStillBack, AreStill, Waited}
use Rattle.xv_model.specs.Step.{Put, Take, AckPut, AckTake}
use Rattle.xv_model.specs.Outside.{calls_of_kind}
use Rattle.xv_core.proofs.Counting.Wires.{wire-is}

-- of each stream by its number
still-none : (l : LaneSeen) → IsStill l l
still-none l = record { groups = refl; gathered = refl; wire = refl; faults = omega arith }

still-at : (ls ms : List LaneSeen) (k : ℕ) → AreStill ls ms → IsStill (get_or ls k no_lane) (get_or ms k no_lane)
still-at [] [] k h = still-none no_lane
still-at [] (m ∷ ms) k h = absurd h
still-at (l ∷ ls) [] k h = absurd h
still-at (l ∷ ls) (m ∷ ms) zero h = h.0
still-at (l ∷ ls) (m ∷ ms) (suc k) h = still-at ls ms k h.1

-- what is made of each, where the faults do not count
pub still-map : {B : Type 0} (f : LaneSeen → B) → ((l m : LaneSeen) → IsStill l m → f m ≡ f l) → (ls ms : List LaneSeen) → AreStill ls ms → map f ms ≡ map f ls
still-map f same [] [] h = refl
still-map f same [] (m ∷ ms) h = absurd h
still-map f same (l ∷ ls) [] h = absurd h
still-map f same (l ∷ ls) (m ∷ ms) h = ap (λ b. b ∷ map f ms) (same l m h.0) ∙ ap (λ bs. f l ∷ bs) (still-map f same ls ms h.1)

still-length : (ls ms : List LaneSeen) → AreStill ls ms → length ms ≡ length ls
still-length [] [] h = refl
still-length [] (m ∷ ms) h = absurd h
still-length (l ∷ ls) [] h = absurd h
still-length (l ∷ ls) (m ∷ ms) h = ap (λ n. suc n) (still-length ls ms h.1)

still-each : (P : LaneSeen → Type 0) → ((l m : LaneSeen) → IsStill l m → P l → P m) → (ls ms : List LaneSeen) → AreStill ls ms → Each P ls → Each P ms
still-each P same [] [] h e = tt
still-each P same [] (m ∷ ms) h e = absurd h
still-each P same (l ∷ ls) [] h e = absurd h
still-each P same (l ∷ ls) (m ∷ ms) h e = (same l m h.0 e.0, still-each P same ls ms h.1 e.1)

-- a stream that is still, but for its faults, is the one before
lane-still : (l m : LaneSeen) → IsStill l m → m ≡ record l { faults = m.faults }
lane-still l m h =
    ap (λ (g : List (List Message)). record m { groups = g }) h.groups
    ∙ ap (λ (g : List ℕ). record m { groups = l.groups; gathered = g }) h.gathered
    ∙ ap (λ (w : WireTold). record m { groups = l.groups; gathered = l.gathered; wire = w }) h.wire

back-still : (r q : Returned) → IsStillBack r q → q ≡ record r { faults = q.faults }
back-still r q h =
    ap (λ (c : List ℕ). record q { counts = c }) h.counts
    ∙ ap (λ (g : List ℕ). record q { counts = r.counts; gathered = g }) h.gathered
    ∙ ap (λ (w : WireTold). record q { counts = r.counts; gathered = r.gathered; wire = w }) h.wire

carried-still : (shape : Shape) (format : ℕ) (l m : LaneSeen) → IsStill l m → IsCarried shape format l → IsCarried shape format m
carried-still shape format l m h c =
    subst (λ (x : LaneSeen). IsCarried shape format x) (sym (lane-still l m h))
    (record { stand = c.stand; frames = c.frames; messages = c.messages; sizes = c.sizes; bytes = c.bytes; few_bytes = c.few_bytes })

-- the parts of a state with other streams and another way back, on which nothing moved
module _ (s : State) (x : Streamed) (y : Returned) (same : x ≡ record s.streams { lanes = x.lanes; got = x.got }) (lanes : AreStill s.streams.lanes x.lanes) (back : IsStillBack s.back y) where
  abbrev later : State
  later = record s { streams = x; back = y }

  shape-same : x.shape ≡ s.streams.shape
  shape-same = ap (λ (z : Streamed). z.shape) same

  format-same : x.format ≡ s.streams.format
  format-same = ap (λ (z : Streamed). z.format) same

  making-same : x.making ≡ s.streams.making
  making-same = ap (λ (z : Streamed). z.making) same

  heads-same : heads_on x.lanes ≡ heads_on s.streams.lanes
  heads-same = still-map (λ (l : LaneSeen). map heads_of l.groups) (λ l m h. ap (λ (g : List (List Message)). map heads_of g) h.groups) s.streams.lanes x.lanes lanes

  contents-same : contents_on x.lanes ≡ contents_on s.streams.lanes
  contents-same = still-map (λ (l : LaneSeen). map contents_of_messages l.groups) (λ l m h. ap (λ (g : List (List Message)). map contents_of_messages g) h.groups) s.streams.lanes x.lanes lanes

  shown-same : (v : View) → shown later v ≡ shown s v
  shown-same v =
      ap (λ (streams : List (List (List UnitHead))). record (shown later v) { streams = streams }) heads-same
      ∙ ap (λ (acks : List ℕ). record (shown s v) { acks = acks }) back.counts

  held-same : contents_of later ≡ contents_of s
  held-same = ap (λ (streams : List (List (List (List ℕ)))). record (contents_of s) { streams = streams }) contents-same

  parts-same : ArePartsOf (job_of s.job) s.source s.dest s.streams s.back → ArePartsOf (job_of s.job) s.source s.dest x y
  parts-same p = record {
    source_shape = p.source_shape;
    source_copy = p.source_copy;
    source_limits = p.source_limits;
    source_layout = p.source_layout;
    dest_shape = p.dest_shape;
    dest_limit = p.dest_limit;
    dest_layout = p.dest_layout;
    streams_shape = shape-same ∙ p.streams_shape;
    streams_format = format-same ∙ p.streams_format;
    each_stream = still-length s.streams.lanes x.lanes lanes ∙ p.each_stream;
    none_made = making-same ∙ p.none_made;
    wires_room = λ k h. subst (λ (w : WireTold). (job_of s.job).config.credit * most_bytes (job_of s.job).shape (job_of s.job).format ≤ w.capacity) (sym (still-at s.streams.lanes x.lanes k lanes).wire) (p.wires_room k h);
    back_room = subst (λ (w : WireTold). 24 * (job_of s.job).config.credit ≤ w.capacity) (sym back.wire) p.back_room;
  }

  running-same : IsRunning s → IsRunning later
  running-same r = record {
    good = r.good;
    fitting = r.fitting;
    is_run = r.is_run;
    parts = parts-same r.parts;
    shows = shown-same (view s) ∙ r.shows;
    contents = λ both. subst (λ (c : Contents). HoldsContents (job_of s.job) (view s) c) (sym held-same) (r.contents both);
    reads_long = r.reads_long;
  }

  carried-same : IsCarriedOver s.streams s.back → IsCarriedOver x y
  carried-same c = record {
    streams =
        subst (λ (shape : Shape). Each (IsCarried shape x.format) x.lanes) (sym shape-same)
        (subst (λ (format : ℕ). Each (IsCarried s.streams.shape format) x.lanes) (sym format-same)
        (still-each (IsCarried s.streams.shape s.streams.format) (carried-still s.streams.shape s.streams.format) s.streams.lanes x.lanes lanes c.streams));
    back = subst AreCarried (sym (back-still s.back y back)) (record { stand = c.back.stand; counts = c.back.counts; bytes = c.back.bytes });
  }

  pieces-same : ArePieces s → ArePieces later
  pieces-same p = record {
    gathered = λ k live. (still-at s.streams.lanes x.lanes k lanes).gathered ∙ p.gathered k live;
    streams = λ k live.
        subst (λ (w : WireTold). IfSome w.counted (IsPieces (map (frame_length x.format) (lane x k).groups))) (sym (still-at s.streams.lanes x.lanes k lanes).wire)
        (subst (λ (f : ℕ). IfSome (lane s.streams k).wire.counted (IsPieces (map (frame_length f) (lane x k).groups))) (sym format-same)
        (subst (λ (g : List (List Message)). IfSome (lane s.streams k).wire.counted (IsPieces (map (frame_length s.streams.format) g))) (sym (still-at s.streams.lanes x.lanes k lanes).groups) (p.streams k live)));
    back_gathered = λ live. back.gathered ∙ p.back_gathered live;
    back = λ live.
        subst (λ (w : WireTold). IfSome w.counted (IsPieces (map (λ (n : ℕ). 24) y.counts))) (sym back.wire)
        (subst (λ (c : List ℕ). IfSome s.back.wire.counted (IsPieces (map (λ (n : ℕ). 24) c))) (sym back.counts) (p.back live));
  }

  -- what contracts see of the wires
  pub told-same : (k : ℕ) → (wire (seen_of later) k).told ≡ (wire (seen_of s) k).told
  told-same k =
      ap (λ (w : OnWire). w.told) (wire-is x.lanes k) ∙ (still-at s.streams.lanes x.lanes k lanes).wire ∙ sym (ap (λ (w : OnWire). w.told) (wire-is s.streams.lanes k))

  pub faults-rise : (k : ℕ) → (wire (seen_of s) k).faults ≤ (wire (seen_of later) k).faults
  faults-rise k =
      subst (λ (w : OnWire). w.faults ≤ (wire (seen_of later) k).faults) (sym (wire-is s.streams.lanes k))
      (subst (λ (w : OnWire). (lane s.streams k).faults ≤ w.faults) (sym (wire-is x.lanes k)) (still-at s.streams.lanes x.lanes k lanes).faults)

  counts-same : CountsFit (seen_of s) → CountsFit (seen_of later)
  counts-same c = record {
    source_writes = c.source_writes;
    dest_writes = c.dest_writes;
    source_reads = c.source_reads;
    source_patches = c.source_patches;
    source_flushes = c.source_flushes;
    dest_reads = c.dest_reads;
    dest_patches = c.dest_patches;
    dest_flushes = c.dest_flushes;
    puts = λ k. subst (λ (w : WireTold). IfSome w.counted (λ c. c.puts < 2 ^ 62 + calls_of_kind (job_of s.job) s.journal (Put k))) (sym (told-same k)) (c.puts k);
    back_puts = subst (λ (w : WireTold). IfSome w.counted (λ c. c.puts < 2 ^ 62 + calls_of_kind (job_of s.job) s.journal AckPut)) (sym back.wire) c.back_puts;
  }

  caused-more : (n a b : ℕ) → AreCaused n a → a ≤ b → AreCaused n b
  caused-more n a b h le = omega (arith, h, le)

  caused-same : FlagsAreCaused (seen_of s) → FlagsAreCaused (seen_of later)
  caused-same c = record {
    source = c.source;
    dest = c.dest;
    wires = λ k. caused-more _ _ _ (c.wires k) (faults-rise k);
    back = caused-more _ _ _ c.back back.faults;
  }

  plans-same : FollowsPlans (seen_of s) → FollowsPlans (seen_of later)
  plans-same p = record {
    source_reads = p.source_reads;
    source_writes = p.source_writes;
    dest_reads = p.dest_reads;
    dest_writes = p.dest_writes;
    flushes = p.flushes;
    puts = λ k. subst (λ (w : WireTold). IfSome w.counted (λ c. FollowsIf c.puts (Put k) c.plan.puts (job_of s.job) s.journal)) (sym (told-same k)) (p.puts k);
    takes = λ k. subst (λ (w : WireTold). IfSome w.counted (λ c. FollowsIf (takes_met c) (Take k) c.plan.takes (job_of s.job) s.journal)) (sym (told-same k)) (p.takes k);
    back_puts = subst (λ (w : WireTold). IfSome w.counted (λ c. FollowsIf c.puts AckPut c.plan.puts (job_of s.job) s.journal)) (sym back.wire) p.back_puts;
    back_takes = subst (λ (w : WireTold). IfSome w.counted (λ c. FollowsIf (takes_met c) AckTake c.plan.takes (job_of s.job) s.journal)) (sym back.wire) p.back_takes;
  }

  pub state-same : IsState s → IsState later
  state-same k = record {
    running = running-same k.running;
    carried = carried-same k.carried;
    source_numbers = k.source_numbers;
    dest_numbers = k.dest_numbers;
    counts = counts-same k.counts;
    caused = caused-same k.caused;
    pieces = pieces-same k.pieces;
    plans = plans-same k.plans;
  }

pub wait-stays : (s t : State) → IsState s → Waited s t → IsState t
wait-stays s t k w = subst IsState (sym w.rest) (state-same s t.streams t.back w.streams w.lanes w.back k)

-- where nothing at all changed
are-still : (ls : List LaneSeen) → AreStill ls ls
are-still [] = tt
are-still (l ∷ ls) = (still-none l, are-still ls)

pub waited-none : (s : State) → Waited s s
waited-none s = record {
  rest = refl;
  streams = refl;
  lanes = are-still s.streams.lanes;
  back = record { counts = refl; gathered = refl; wire = refl; faults = omega arith };
}

-- where a stream among some is still
pub still-set : (ls : List LaneSeen) (k : ℕ) (l : LaneSeen) → IsStill (get_or ls k no_lane) l → AreStill ls (set ls k l)
still-set [] k l h = tt
still-set (x ∷ ls) zero l h = (h, are-still ls)
still-set (x ∷ ls) (suc k) l h = (still-none x, still-set ls k l h)
