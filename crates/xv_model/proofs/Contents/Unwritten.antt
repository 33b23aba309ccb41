-- A destination unit that nothing was applied to stays as it was until the switchover.
use Rattle.std.specs.Prelude.{◌≡◌, ◌<◌, ℕ, suc, ◌+◌, Bool, true, false, nat_lt, List, [], ◌∷◌, length, set, get_or, Option, Some, None, if◌then◌else◌}
use Rattle.std.proofs.Common.{arith, refl, ap, sym, ◌∙◌, inl, inr}
use Rattle.std.proofs.lemmas.Bool.{cases_eq, cases_lt, eqb-true, ltb-true}
use Rattle.std.proofs.lemmas.List.{get_or-set_same, get_or-set_other, set_past}
use Rattle.xv_model.specs.Job.{Job}
use Rattle.xv_model.specs.View.{View, UnitHead, number, no_message, is_next, first_next, ready, ready_message, is_switched}
use Rattle.xv_model.specs.Wait.{Event, Why, wait, next_operation}
use Rattle.xv_model.specs.Effect.{effect, fault_effect, applied_next}
use Rattle.xv_model.specs.Step.{view_by, step, breaks}
use Rattle.xv_model.specs.Outstanding.{is_version}
use Rattle.xv_model.specs.Invariant.{IsViewOf}
use Rattle.xv_model.proofs.Contents.Messages.{count-at, version_in_range, version_same}
use Rattle.xv_model.specs.Contents.{Contents, moves, fault_moves, contents_by, step_contents, unit_content, after_operation, apply_moves}
use Rattle.xv_model.proofs.GoesOn.{ApplyGoes, begin_goes, read_goes, advance_goes, round_goes, page_goes, send_goes, deliver_goes, apply_goes, ack_goes, credit_goes, stun_goes, switch_goes, cancel_goes, running_is_live, stunned_is_live, live_not_switched}
use Rattle.xv_base.specs.declared.event.Event.TheVariants.{Guest, Begin, Read, Advance, Release, Round, Page, Send, Deliver, Apply, Ack, Credit, Stun, Switch, Cancel}

-- the first next message is one
next-first : (applied : List ℕ) (ms : List UnitHead) → first_next applied ms < length ms → is_next applied (get_or ms (first_next applied ms) no_message) ≡ true
next-first applied [] lt = absurd (omega arith)
next-first applied (m ∷ ms) lt = by (is_next applied m) refl lt (next-first applied ms)
  where
    by : (b : Bool) → is_next applied m ≡ b → (if b then 0 else suc (first_next applied ms)) < suc (length ms) → (first_next applied ms < length ms → is_next applied (get_or ms (first_next applied ms) no_message) ≡ true) → is_next applied (get_or (m ∷ ms) (if b then 0 else suc (first_next applied ms)) no_message) ≡ true
    by true e l rest = e
    by false e l rest = rest (omega arith)

-- the message that is applied has a version
some_version : (v : View) → nat_lt (ready v.hold) (length v.hold.held) ≡ true → 0 < (ready_message v.hold).version
some_version v is =
    let e = eqb-true (ready_message v.hold).version (number v.hold.applied (ready_message v.hold).unit.0 + 1) (next-first v.hold.applied v.hold.held (ltb-true (ready v.hold) (length v.hold.held) is)) in
    omega arith

-- a number other than zero was put in no place where zero stands
zero_before : (numbers : List ℕ) (i k new : ℕ) → 0 < new → number (set numbers i new) k ≡ 0 → (number numbers k ≡ 0)
zero_before numbers i k new some none = elim (cases_eq k i) [
  | inr other ↦ sym (get_or-set_other numbers i k new 0 other) ∙ none
  | inl e ↦ elim (cases_lt i (length numbers)) [
    | inl lt ↦ let there : number (set numbers i new) k ≡ new = ap (number (set numbers i new)) e ∙ get_or-set_same numbers i new 0 lt in absurd (omega arith)
    | inr past ↦ ap (λ xs. number xs k) (sym (set_past numbers i new past)) ∙ none
  ]
]

went_none : (job : Job) (v : View) (e : Event) (flag : Bool) (unit : ℕ) → wait job v e flag ≡ None → number (effect job v e).hold.applied unit ≡ 0 → number v.hold.applied unit ≡ 0
went_none job v Apply flag unit goes none = zero_before v.hold.applied (ready_message v.hold).unit.0 unit (ready_message v.hold).version (some_version v (apply_goes job v flag goes).ready) none
went_none job v e flag unit goes none = none

failed_none : (v : View) (e : Event) (unit : ℕ) → number (fault_effect v e).hold.applied unit ≡ 0 → number v.hold.applied unit ≡ 0
failed_none v Apply unit none = none
failed_none v e unit none = none

none_by : (job : Job) (v : View) (e : Event) (flag : Bool) (unit : ℕ) (why : Option Why) (broken : Bool) → wait job v e flag ≡ why → number (view_by why broken job v e).hold.applied unit ≡ 0 → number v.hold.applied unit ≡ 0
none_by job v e flag unit (Some why) broken goes none = none
none_by job v e flag unit None false goes none = went_none job v e flag unit goes none
none_by job v e flag unit None true goes none = failed_none v e unit none

pub none-before : (job : Job) (v : View) (e : Event) (flag : Bool) (unit : ℕ) → number (step job v e flag).hold.applied unit ≡ 0 → number v.hold.applied unit ≡ 0
none-before job v e flag unit none = none_by job v e flag unit (wait job v e flag) (breaks job v e flag) refl none

-- a guest that is on the destination stays there
went_off : (job : Job) (v : View) (e : Event) (flag : Bool) → wait job v e flag ≡ None → is_switched (effect job v e).phase ≡ false → is_switched v.phase ≡ false
went_off job v Stun flag goes off = live_not_switched v.phase (running_is_live v.phase (stun_goes job v flag goes).running)
went_off job v Switch flag goes off = live_not_switched v.phase (stunned_is_live v.phase (switch_goes job v flag goes).stunned)
went_off job v Cancel flag goes off = live_not_switched v.phase (cancel_goes job v flag goes).live
went_off job v e flag goes off = off

failed_off : (job : Job) (v : View) (e : Event) (flag : Bool) → wait job v e flag ≡ None → is_switched (fault_effect v e).phase ≡ false → is_switched v.phase ≡ false
failed_off job v (Guest g) flag goes off = off
failed_off job v (Release d) flag goes off = off
failed_off job v (Begin d) flag goes off = live_not_switched v.phase (running_is_live v.phase (begin_goes job v d flag goes).running)
failed_off job v (Read d) flag goes off = live_not_switched v.phase (running_is_live v.phase (read_goes job v d flag goes).running)
failed_off job v (Advance d) flag goes off = live_not_switched v.phase (running_is_live v.phase (advance_goes job v d flag goes).running)
failed_off job v Round flag goes off = live_not_switched v.phase (running_is_live v.phase (round_goes job v flag goes).running)
failed_off job v Page flag goes off = live_not_switched v.phase (page_goes job v flag goes).live
failed_off job v (Send s) flag goes off = live_not_switched v.phase (send_goes job v s flag goes).live
failed_off job v (Deliver s) flag goes off = live_not_switched v.phase (deliver_goes job v s flag goes).live
failed_off job v Apply flag goes off = live_not_switched v.phase (apply_goes job v flag goes).live
failed_off job v Ack flag goes off = live_not_switched v.phase (ack_goes job v flag goes).live
failed_off job v Credit flag goes off = live_not_switched v.phase (credit_goes job v flag goes).live
failed_off job v Stun flag goes off = live_not_switched v.phase (running_is_live v.phase (stun_goes job v flag goes).running)
failed_off job v Switch flag goes off = live_not_switched v.phase (stunned_is_live v.phase (switch_goes job v flag goes).stunned)
failed_off job v Cancel flag goes off = live_not_switched v.phase (cancel_goes job v flag goes).live

off_by : (job : Job) (v : View) (e : Event) (flag : Bool) (why : Option Why) (broken : Bool) → wait job v e flag ≡ why → is_switched (view_by why broken job v e).phase ≡ false → is_switched v.phase ≡ false
off_by job v e flag (Some why) broken goes off = off
off_by job v e flag None false goes off = went_off job v e flag goes off
off_by job v e flag None true goes off = failed_off job v e flag goes off

pub not_switched-before : (job : Job) (v : View) (e : Event) (flag : Bool) → is_switched (step job v e flag).phase ≡ false → is_switched v.phase ≡ false
not_switched-before job v e flag off = off_by job v e flag (wait job v e flag) (breaks job v e flag) refl off

-- what is applied goes to another unit
applied_other : (job : Job) (v : View) (c : Contents) (unit : ℕ) → IsViewOf job v → ApplyGoes job v → number (applied_next v).hold.applied unit ≡ 0 → unit_content (apply_moves v c).dest unit ≡ unit_content c.dest unit
applied_other job v c unit inv goes none = elim (cases_eq unit (ready_message v.hold).unit.0) [
  | inr other ↦ get_or-set_other c.dest (ready_message v.hold).unit.0 unit (get_or c.held (ready v.hold) []) [] other
  | inl e ↦
      let m = ready_message v.hold in
      let counted = count-at (is_version m.unit.0 m.version) v.hold.held (ready v.hold) (ltb-true (ready v.hold) (length v.hold.held) goes.ready) (version_same m) in
      let in_range = version_in_range job v m.unit.0 m.version inv (omega arith) in
      let in_applied : m.unit.0 < length v.hold.applied = let l = inv.lists.applied in omega arith in
      let now : number (set v.hold.applied m.unit.0 m.version) unit ≡ m.version = ap (number (set v.hold.applied m.unit.0 m.version)) e ∙ get_or-set_same v.hold.applied m.unit.0 m.version 0 in_applied in
      let was : number (set v.hold.applied m.unit.0 m.version) unit ≡ 0 = none in
      let some = some_version v goes.ready in
      absurd (omega arith)
]

went_same : (job : Job) (v : View) (c : Contents) (e : Event) (flag : Bool) (unit : ℕ) → IsViewOf job v → wait job v e flag ≡ None → is_switched (effect job v e).phase ≡ false → number (effect job v e).hold.applied unit ≡ 0 → unit_content (moves job v e c).dest unit ≡ unit_content c.dest unit
went_same job v c (Guest g) flag unit inv goes off none = ap (λ b. unit_content (if b then after_operation (next_operation job v g.0) c.dest else c.dest) unit) off
went_same job v c Apply flag unit inv goes off none = applied_other job v c unit inv (apply_goes job v flag goes) none
went_same job v c e flag unit inv goes off none = refl

failed_same : (e : Event) (c : Contents) (unit : ℕ) → unit_content (fault_moves e c).dest unit ≡ unit_content c.dest unit
failed_same Apply c unit = refl
failed_same e c unit = refl

same_by : (job : Job) (v : View) (c : Contents) (e : Event) (flag : Bool) (unit : ℕ) (why : Option Why) (broken : Bool) → IsViewOf job v → wait job v e flag ≡ why → is_switched (view_by why broken job v e).phase ≡ false → number (view_by why broken job v e).hold.applied unit ≡ 0 → unit_content (contents_by why broken job v e c).dest unit ≡ unit_content c.dest unit
same_by job v c e flag unit (Some why) broken inv goes off none = refl
same_by job v c e flag unit None false inv goes off none = went_same job v c e flag unit inv goes off none
same_by job v c e flag unit None true inv goes off none = failed_same e c unit

pub unwritten-same : (job : Job) (v : View) (c : Contents) (e : Event) (flag : Bool) (unit : ℕ) → IsViewOf job v → is_switched (step job v e flag).phase ≡ false → number (step job v e flag).hold.applied unit ≡ 0 → unit_content (step_contents job v e flag c).dest unit ≡ unit_content c.dest unit
unwritten-same job v c e flag unit inv off none = same_by job v c e flag unit (wait job v e flag) (breaks job v e flag) inv refl off none
