-- A destination unit that no message wrote holds at the end of a run what it held at its start, until the switchover.
use Rattle.std.specs.Prelude.{◌≡◌, ℕ, true, false, List, [], ◌∷◌}
use Rattle.std.specs.List.{list_all}
use Rattle.std.proofs.Common.{refl, ◌∙◌}
use Rattle.std.proofs.lemmas.Bool.{and_parts}
use Rattle.xv_model.specs.Job.{Job, IsGoodJob}
use Rattle.xv_model.specs.View.{View, first_view, number, is_switched}
use Rattle.xv_model.specs.Wait.{fits}
use Rattle.xv_model.specs.Step.{Entry, step, after, run, is_flagged}
use Rattle.xv_model.specs.Invariant.{IsViewOf}
use Rattle.xv_model.specs.Contents.{Contents, first_contents, step_contents, contents_after, unit_content}
use Rattle.xv_model.proofs.First.{first_view-holds}
use Rattle.xv_model.proofs.Kept.{step-holds}
use Rattle.xv_model.proofs.Contents.Unwritten.{none-before, not_switched-before, unwritten-same}

none-at_first : (job : Job) (v : View) (es : List Entry) (unit : ℕ) → number (after job v es).hold.applied unit ≡ 0 → number v.hold.applied unit ≡ 0
none-at_first job v [] unit none = none
none-at_first job v (e ∷ es) unit none = none-before job v e.event (is_flagged e.turn) unit (none-at_first job (step job v e.event (is_flagged e.turn)) es unit none)

off-at_first : (job : Job) (v : View) (es : List Entry) → is_switched (after job v es).phase ≡ false → is_switched v.phase ≡ false
off-at_first job v [] off = off
off-at_first job v (e ∷ es) off = not_switched-before job v e.event (is_flagged e.turn) (off-at_first job (step job v e.event (is_flagged e.turn)) es off)

unwritten-after : (job : Job) (v : View) (c : Contents) (es : List Entry) (unit : ℕ) → IsGoodJob job → list_all (λ (e : Entry). fits job e.event) es ≡ true → IsViewOf job v → is_switched (after job v es).phase ≡ false → number (after job v es).hold.applied unit ≡ 0 →
    unit_content (contents_after job v c es).dest unit ≡ unit_content c.dest unit
unwritten-after job v c [] unit good fit inv off none = refl
unwritten-after job v c (e ∷ es) unit good fit inv off none =
    let flag = is_flagged e.turn in
    let next = step job v e.event flag in
    let parts = and_parts (fits job e.event) (list_all (λ (x : Entry). fits job x.event) es) fit in
    unwritten-after job next (step_contents job v e.event flag c) es unit good parts.1 (step-holds job v e.event flag good parts.0 inv) off none
    ∙ unwritten-same job v c e.event flag unit inv (off-at_first job next es off) (none-at_first job next es unit none)

pub unwritten-run : (job : Job) (dest : List (List ℕ)) (journal : List Entry) (unit : ℕ) → IsGoodJob job → list_all (λ (e : Entry). fits job e.event) journal ≡ true → is_switched (run job journal).phase ≡ false → number (run job journal).hold.applied unit ≡ 0 →
    unit_content (contents_after job (first_view job) (first_contents job dest) journal).dest unit ≡ unit_content dest unit
unwritten-run job dest journal unit good fit off none = unwritten-after job (first_view job) (first_contents job dest) journal unit good fit (first_view-holds job good) off none
