-- An event that happened, and a wait, are steps as contracts see them.
use Rattle.std.specs.Prelude.{◌≡◌, ◌≤◌, ℕ, Bool, true, false, List, [], ◌∷◌, ◌++◌, length, map, Option, Some, if◌then◌else◌}
use Rattle.std.proofs.Common.{refl, sym, ap, subst, ◌∙◌, arith, append-nil}
use Rattle.std.proofs.lemmas.List.{length-map}
use Rattle.xv_base.specs.declared.answer.Turn.TheVariants.{Wait as Waits}
use Rattle.xv_model.specs.Guest.{read_bytes}
use Rattle.xv_model.specs.View.{View}
use Rattle.xv_model.specs.Wait.{Event, Why, wait}
use Rattle.xv_model.specs.Effect.{Turn}
use Rattle.xv_model.specs.Step.{Entry, Put, Take, AckPut, AckTake, step, view_by, turn_by, breaks, entry_of, is_flagged, is_wait}
use Rattle.xv_model.specs.Outside.{outside}
use Rattle.xv_wire.specs.Told.{Told as WireTold}
use Rattle.xv_wire.specs.Wire.{Counted as WireCounted}
use Rattle.xv_streams.specs.Streamed.{Streamed, LaneSeen}
use Rattle.xv_streams.specs.Returned.{Returned}
use Rattle.xv_job.specs.Written.{job_of}
use Rattle.xv_core.specs.Seen.{OnWire, wire}
use Rattle.xv_core.specs.State.{State, view, seen_of, on_source, on_dest, on_wire}
use Rattle.xv_core.specs.Happening.{Happened, OneCall}
use Rattle.xv_core.specs.Rising.{BothTold, PutsRise, MeetsRise, Rises, TakesRise}
use Rattle.xv_core.specs.Kept.{IsState}
use Rattle.xv_core.proofs.Stepped.Waited.{IsStill, IsStillBack, AreStill, Waited}
use Rattle.xv_core.specs.Stepped.{IsStep, IsAsBefore, ReadsMore, told_by}
use Rattle.xv_core.proofs.Stepped.Stays.{all-carried}
use Rattle.xv_core.proofs.Counting.Rises.{rises, both-same}
use Rattle.xv_core.proofs.Plans.Rise.{takes-rise}
use Rattle.xv_core.proofs.Stepped.Causes.{flagged-calls, rose}
use Rattle.xv_core.proofs.Stepped.DestKept.{unwritten-kept}
use Rattle.xv_core.proofs.Keeping.Keeps.{source-tells, dest-tells}
use Rattle.xv_core.proofs.Stepped.Numbered.{source-holds, dest-holds}
use Rattle.xv_core.proofs.Stepped.ReadsBehind.{past-reads-none, reads-behind}
use Rattle.xv_core.proofs.Stepped.TakesFind.{finds-some}
use Rattle.xv_core.proofs.Stepped.Waits.{still-map, told-same, faults-rise}

one-entry : (e : Event) (a : Turn) → is_wait a ≡ false → record { event = e; turn = a } ∷ [] ≡ entry_of e a
one-entry e a h = ap (λ (w : Bool). if w then [] else record { event = e; turn = a } ∷ []) (sym h)

pub seen-steps : (s t : State) (e : Event) (a : Turn) → IsState s → Happened s e a t → IsStep (seen_of s) e a (seen_of t)
seen-steps s t e a k h =
    let job = job_of s.job in
    record {
      job = h.job;
      answers = h.answers;
      journal = h.journal ∙ ap (λ (es : List Entry). s.journal ++ es) (one-entry e a h.goes_on);
      waits = λ w. absurd (waited w);
      rises = rises s t e a h k.running k.source_numbers k.dest_numbers;
      takes_rise = takes-rise s t e a h k.running (all-carried job s k.running.parts k.carried) (all-carried job t h.parts h.carried) k.pieces;
      cause = λ flagged. rose (outside job (view s) e) s t (flagged-calls job (view s) e a h.answers flagged) (subst (λ (f : Bool). OneCall (outside job (view s) e) f s t) flagged h.calls);
      unwritten = record { units = λ unit none. unwritten-kept s t e a unit k.running h none };
      reads = reads-behind s t e a k.running h;
      finds = finds-some s t e a k h;
      tells = record {
        source = source-tells (outside job (view s) e) (is_flagged a) (on_source s.source) (on_source t.source) h.calls.source;
        dest = dest-tells (outside job (view s) e) (is_flagged a) (on_dest s.dest) (on_dest t.dest) h.calls.dest;
        source_units = source-holds (outside job (view s) e) (is_flagged a) (on_source s.source) (on_source t.source) h.calls.source;
        dest_units = dest-holds (outside job (view s) e) (is_flagged a) (on_dest s.dest) (on_dest t.dest) h.calls.dest;
        wires = length-map t.streams.lanes on_wire ∙ h.parts.each_stream ∙ sym k.running.parts.each_stream ∙ sym (length-map s.streams.lanes on_wire);
      };
    }
  where
    waited : is_wait a ≡ true → ⊥
    waited w = cc

-- of a wait
module _ (s : State) (x : Streamed) (y : Returned) (same : x ≡ record s.streams { lanes = x.lanes; got = x.got }) (lanes : AreStill s.streams.lanes x.lanes) (back : IsStillBack s.back y) where
  told-none : (o p : Option WireCounted) (R : WireCounted → WireCounted → Type 0) → ((c : WireCounted) → R c c) → p ≡ o → BothTold R o p
  told-none o p R each is = subst (BothTold R o) (sym is) (both-same R o each)

  counted-same : (k : ℕ) → (wire (seen_of (record s { streams = x; back = y })) k).told.counted ≡ (wire (seen_of s) k).told.counted
  counted-same k = ap (λ (w : WireTold). w.counted) (told-same s x y same lanes back k)

  back-same : y.wire.counted ≡ s.back.wire.counted
  back-same = ap (λ (w : WireTold). w.counted) back.wire

  le-refl : (n : ℕ) → n ≤ n
  le-refl n = omega arith

  rises-none : Rises (seen_of s) (seen_of (record s { streams = x; back = y }))
  rises-none = record {
    same_job = refl;
    numbers = record {
      at_source = λ u. refl;
      at_dest = λ u. refl;
      source_calls = both-same _ s.source.told.counted (λ c. record { plan = refl; reads = refl; patches = refl; flushes = refl });
      dest_calls = both-same _ s.dest.told.counted (λ c. record { plan = refl; reads = refl; patches = refl; flushes = refl });
      puts = λ k. told-none _ _ (PutsRise (job_of s.job) s.journal s.journal (Put k)) (λ c. record { plan = refl; puts = refl }) (counted-same k);
      back_puts = told-none _ _ (PutsRise (job_of s.job) s.journal s.journal AckPut) (λ c. record { plan = refl; puts = refl }) back-same;
      source_faults = le-refl s.source.faults;
      dest_faults = le-refl s.dest.faults;
      wire_faults = faults-rise s x y same lanes back;
      back_faults = back.faults;
    };
  }

  takes-none : TakesRise (seen_of s) (seen_of (record s { streams = x; back = y }))
  takes-none = record {
    same_job = refl;
    takes = λ k. told-none _ _ (MeetsRise (job_of s.job) s.journal s.journal (Take k)) (λ c. record { plan = refl; takes = refl }) (counted-same k);
    back_takes = told-none _ _ (MeetsRise (job_of s.job) s.journal s.journal AckTake) (λ c. record { plan = refl; takes = refl }) back-same;
  }

  map-map : (ls : List LaneSeen) → map told_by (map on_wire ls) ≡ map (λ l. told_by (on_wire l)) ls
  map-map [] = refl
  map-map (l ∷ ls) = ap (λ ws. told_by (on_wire l) ∷ ws) (map-map ls)

  wire-still : (l m : LaneSeen) → IsStill l m → told_by (on_wire m) ≡ told_by (on_wire l)
  wire-still l m h =
      ap (λ (g : List ℕ). record (told_by (on_wire m)) { gathered = g }) h.gathered
      ∙ ap (λ (w : WireTold). record (told_by (on_wire m)) { gathered = l.gathered; told = w }) h.wire

  back-still-told : record { gathered = y.gathered; told = y.wire; faults = 0 } ≡ told_by (record { gathered = s.back.gathered; told = s.back.wire; faults = s.back.faults })
  back-still-told =
      ap (λ (g : List ℕ). record { gathered = g; told = y.wire; faults = 0 }) back.gathered
      ∙ ap (λ (w : WireTold). record { gathered = s.back.gathered; told = w; faults = 0 }) back.wire

  as-before : IsAsBefore (seen_of s) (seen_of (record s { streams = x; back = y }))
  as-before = record {
    job = refl;
    journal = refl;
    reads = refl;
    regions = refl;
    outbox = refl;
    held = refl;
    source = refl;
    dest = refl;
    wires = map-map x.lanes ∙ still-map (λ (l : LaneSeen). told_by (on_wire l)) wire-still s.streams.lanes x.lanes lanes ∙ sym (map-map s.streams.lanes);
    back = back-still-told;
  }

  as-many : length (map on_wire x.lanes) ≡ length (map on_wire s.streams.lanes)
  as-many =
      sym (length-map (map on_wire x.lanes) told_by)
      ∙ ap (λ (ws : List OnWire). length ws) as-before.wires
      ∙ length-map (map on_wire s.streams.lanes) told_by

  none-read : (e : Event) (why : Why) → wait (job_of s.job) (view s) e false ≡ Some why → ReadsMore (seen_of s) e (Waits why) (seen_of (record s { streams = x; back = y }))
  none-read e why is =
      let job = job_of s.job in
      let v = view s in
      let stays : step job v e false ≡ v = ap (λ (w : Option Why). view_by w (breaks job v e false) job v e) is in
      let none : read_bytes job (step job v e false).history (length v.history) ≡ [] = ap (λ (u : View). read_bytes job u.history (length v.history)) stays ∙ past-reads-none job v.history in
      record {
        bytes = [];
        behind = sym (append-nil s.reads);
        long = ap (λ (bytes : List ℕ). length bytes) (sym none);
        few = omega arith;
      }

  wait-step : (e : Event) (why : Why) → wait (job_of s.job) (view s) e false ≡ Some why → IsStep (seen_of s) e (Waits why) (seen_of (record s { streams = x; back = y }))
  wait-step e why is = record {
    job = refl;
    answers = sym (ap (λ (w : Option Why). turn_by w (breaks (job_of s.job) (view s) e false) (job_of s.job) (view s) e) is);
    journal = sym (append-nil s.journal);
    waits = λ w. as-before;
    rises = rises-none;
    takes_rise = takes-none;
    cause = λ flagged. absurd (cc);
    unwritten = record { units = λ unit none. refl };
    reads = none-read e why is;
    finds = λ plans flagged. absurd (cc);
    tells = record { source = refl; dest = refl; source_units = refl; dest_units = refl; wires = as-many };
  }

pub wait-seen : (s t : State) (e : Event) (why : Why) → wait (job_of s.job) (view s) e false ≡ Some why → Waited s t → IsStep (seen_of s) e (Waits why) (seen_of t)
wait-seen s t e why is w = subst (λ (z : State). IsStep (seen_of s) e (Waits why) (seen_of z)) (sym w.rest) (wait-step s t.streams t.back w.streams w.lanes w.back e why is)
