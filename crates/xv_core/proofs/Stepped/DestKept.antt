-- A unit of the destination that is not written after an event holds what it held.
use Rattle.std.specs.Prelude.{◌≡◌, ◌<◌, ℕ, ◌==◌, nat_lt, Bool, true, false, List, [], length, set, Option, Some, None, option_map, unwrap_or, is_some, if◌then◌else◌}
use Rattle.std.proofs.Common.{arith, refl, ap, sym, subst, ◌∙◌, inl, inr}
use Rattle.std.proofs.lemmas.Bool.{cases_eq, ne_eqb, eq-eqb, ltb-false, false≢true, or_parts}
use Rattle.std.proofs.lemmas.List.{get_or-set_same, get_or-set_other}
use Rattle.xv_base.specs.declared.event.Event.TheVariants.{Guest, Apply}
use Rattle.xv_device.specs.Device.{DeviceCall, ReadRange, FlushAll, contents_after}
use Rattle.xv_device.specs.Told.{Told}
use Rattle.xv_model.specs.Job.{Job, UnitOp}
use Rattle.xv_model.specs.View.{View, number, is_ready, is_switched, ready_message}
use Rattle.xv_model.specs.Wait.{Event, Why, wait, next_operation, next_aim, is_join}
use Rattle.xv_model.specs.Effect.{Turn, effect, applied_next}
use Rattle.xv_model.specs.Step.{step, view_by, is_flagged}
use Rattle.xv_model.specs.Contents.{unit_content}
use Rattle.xv_model.specs.Invariant.{IsViewOf}
use Rattle.xv_model.specs.Outstanding.{outstanding}
use Rattle.xv_model.specs.Outside.{Outside, NoOutside, ReadSource, WriteSource, ReadDest, WriteDest, FlushDest, PutOn, TakeFrom, PutBack, TakeBack, outside, guest_outside, part_of, is_dest_write}
use Rattle.xv_model.specs.Report.{is_written}
use Rattle.xv_model.proofs.Bags.{ready-outstanding, version-above}
use Rattle.xv_model.proofs.Contents.Messages.{version_in_range}
use Rattle.xv_model.proofs.Contents.Unwritten.{not_switched-before}
use Rattle.xv_model.proofs.GoesOn.{apply_goes}
use Rattle.xv_job.specs.Written.{job_of}
use Rattle.xv_core.specs.Seen.{OnDevice}
use Rattle.xv_core.specs.Calls.{Made, write_call, CallsDest}
use Rattle.xv_core.specs.Keeping.{told_contents}
use Rattle.xv_core.specs.State.{State, view, on_dest, IsRunning}
use Rattle.xv_core.specs.Happening.{Happened}
use Rattle.xv_core.proofs.Keeping.Joined.{view-holds}
use Rattle.xv_core.proofs.Keeping.Keeps.{view-after-own}
use Rattle.xv_core.proofs.Counting.Rises.{went}

-- a call of a device leaves a unit that it does not write
told-kept : (call : DeviceCall) (failed : Bool) (o : Option (List (List ℕ))) (unit : ℕ) → (failed ≡ false → (c : List (List ℕ)) → unit_content (contents_after call c) unit ≡ unit_content c unit) →
    unit_content (unwrap_or (option_map (λ c. if failed then c else contents_after call c) o) []) unit ≡ unit_content (unwrap_or o []) unit
told-kept call failed None unit kept = refl
told-kept call true (Some c) unit kept = refl
told-kept call false (Some c) unit kept = kept refl c

made-kept : (call : DeviceCall) (failed : Bool) (before later : OnDevice) (unit : ℕ) → Made call failed before later → (failed ≡ false → (c : List (List ℕ)) → unit_content (contents_after call c) unit ≡ unit_content c unit) →
    unit_content (told_contents later) unit ≡ unit_content (told_contents before) unit
made-kept call failed before later unit made kept = ap {B = List ℕ} (λ (t : Told). unit_content (unwrap_or t.contents []) unit) made.told ∙ told-kept call failed before.told.contents unit kept

untouched-kept : (before later : OnDevice) (unit : ℕ) → later ≡ before → unit_content (told_contents later) unit ≡ unit_content (told_contents before) unit
untouched-kept before later unit same = ap {B = List ℕ} (λ (d : OnDevice). unit_content (told_contents d) unit) same

write-elsewhere : (patches : Bool) (u offset len : ℕ) (bytes : List ℕ) (unit : ℕ) (c : List (List ℕ)) → (u == unit) ≡ false → unit_content (contents_after (write_call patches (record { unit = u; offset = offset; len = len }) bytes) c) unit ≡ unit_content c unit
write-elsewhere true u offset len bytes unit c other = get_or-set_other c u unit _ [] (λ same. false≢true (sym other ∙ eq-eqb u unit (sym same)))
write-elsewhere false u offset len bytes unit c other = get_or-set_other c u unit bytes [] (λ same. false≢true (sym other ∙ eq-eqb u unit (sym same)))

pub dest-kept : (o : Outside) (failed : Bool) (before later : OnDevice) (unit : ℕ) → CallsDest o failed before later → (failed ≡ false → is_dest_write unit o ≡ false) → unit_content (told_contents later) unit ≡ unit_content (told_contents before) unit
dest-kept NoOutside failed before later unit h other = untouched-kept before later unit h
dest-kept (ReadSource p) failed before later unit h other = untouched-kept before later unit h
dest-kept (WriteSource p) failed before later unit h other = untouched-kept before later unit h
dest-kept (ReadDest p) failed before later unit h other = made-kept (ReadRange p.unit p.offset p.len) failed before later unit h (λ e c. refl)
dest-kept (WriteDest p) failed before later unit h other = made-kept (write_call h.patches p h.bytes) failed before later unit h.made (λ e c. write-elsewhere h.patches p.unit p.offset p.len h.bytes unit c (other e))
dest-kept FlushDest failed before later unit h other = made-kept FlushAll failed before later unit h (λ e c. refl)
dest-kept (PutOn s) failed before later unit h other = untouched-kept before later unit h
dest-kept (TakeFrom s) failed before later unit h other = untouched-kept before later unit h
dest-kept PutBack failed before later unit h other = untouched-kept before later unit h
dest-kept TakeBack failed before later unit h other = untouched-kept before later unit h

-- a guest that is on the source writes no unit of the destination
guest-elsewhere : (queued writes : Bool) (op : UnitOp) (unit : ℕ) → is_dest_write unit (if queued then NoOutside else (if writes then WriteSource (part_of op) else ReadSource (part_of op))) ≡ false
guest-elsewhere true writes op unit = refl
guest-elsewhere false true op unit = refl
guest-elsewhere false false op unit = refl

guest-on-source : (queued switched : Bool) (op : UnitOp) (unit : ℕ) → switched ≡ false → is_dest_write unit (guest_outside queued switched op) ≡ false
guest-on-source queued false op unit off = guest-elsewhere queued (is_some op.write) op unit
guest-on-source queued true op unit off = absurd (cc)

-- the message that is applied goes to another unit than one to which none is
applied-elsewhere : (job : Job) (v : View) (unit : ℕ) → IsViewOf job v → is_ready v.hold ≡ true → number (applied_next v).hold.applied unit ≡ 0 → ((ready_message v.hold).unit.0 == unit) ≡ false
applied-elsewhere job v unit inv ready none = elim (cases_eq unit (ready_message v.hold).unit.0) [
  | inr other ↦ ne_eqb (ready_message v.hold).unit.0 unit (λ same. other (sym same))
  | inl same ↦
      let m = ready_message v.hold in
      let there = ready-outstanding v ready in
      let above = version-above (outstanding v) v.outbox.issued v.hold.applied m.unit.0 m.version inv.versions there in
      let in_range = version_in_range job v m.unit.0 m.version inv there in
      let in_applied : m.unit.0 < length v.hold.applied = let l = inv.lists.applied in omega arith in
      let now : number (set v.hold.applied m.unit.0 m.version) unit ≡ m.version = ap (number (set v.hold.applied m.unit.0 m.version)) same ∙ get_or-set_same v.hold.applied m.unit.0 m.version 0 in_applied in
      let was : number (set v.hold.applied m.unit.0 m.version) unit ≡ 0 = none in
      absurd (omega arith)
]

-- an event after which a unit is not written does not write it
elsewhere : (job : Job) (v : View) (e : Event) (unit : ℕ) → IsViewOf job v → wait job v e false ≡ None → is_switched v.phase ≡ false → number (effect job v e).hold.applied unit ≡ 0 → is_dest_write unit (outside job v e) ≡ false
elsewhere job v (Guest g) unit inv goes off none = guest-on-source (is_join (next_aim job v g.0)) (is_switched v.phase) (next_operation job v g.0) unit off
elsewhere job v Apply unit inv goes off none = applied-elsewhere job v unit inv (apply_goes job v false goes).ready none
elsewhere job v e unit inv goes off none = refl

not-above : (n : ℕ) → nat_lt 0 n ≡ false → n ≡ 0
not-above n e = let le = ltb-false 0 n e in omega arith

-- of an event that happened
pub unwritten-kept : (s t : State) (e : Event) (a : Turn) (unit : ℕ) → IsRunning s → Happened s e a t → is_written (view t) unit ≡ false → unit_content (told_contents (on_dest t.dest)) unit ≡ unit_content (told_contents (on_dest s.dest)) unit
unwritten-kept s t e a unit r h none =
    let job = job_of s.job in
    let v = view s in
    let w = step job v e (is_flagged a) in
    let now : is_written w unit ≡ false = subst (λ (x : View). is_written x unit ≡ false) (view-after-own s t e a h) none in
    let parts = or_parts (is_switched w.phase) (nat_lt 0 (number w.hold.applied unit)) now in
    let goes : wait job v e (is_flagged a) ≡ None = went s t e a h in
    dest-kept (outside job v e) (is_flagged a) (on_dest s.dest) (on_dest t.dest) unit h.calls.dest (λ unflagged.
    let on : wait job v e false ≡ None = subst (λ (f : Bool). wait job v e f ≡ None) unflagged goes in
    let stepped : w ≡ effect job v e = ap (λ (f : Bool). step job v e f) unflagged ∙ ap (λ (y : Option Why). view_by y false job v e) on in
    elsewhere job v e unit (view-holds s r) on (not_switched-before job v e (is_flagged a) parts.0) (sym (ap (λ (x : View). number x.hold.applied unit) stepped) ∙ not-above (number w.hold.applied unit) parts.1))
