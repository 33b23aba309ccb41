-- A job with a cancel number never switches, and so its source keeps the guest.
use Rattle.std.specs.Prelude.{◌≡◌, ◌<◌, ℕ, true, false, List, length, Option, Some, None, is_some}
use Rattle.std.specs.List.{list_all}
use Rattle.std.proofs.Common.{refl}
use Rattle.xv_model.specs.Job.{Job, IsGoodJob, unit_count}
use Rattle.xv_model.specs.Guest.{content}
use Rattle.xv_model.specs.View.{View, Phase, first_view, is_switched}
use Rattle.xv_model.specs.Wait.{fits, has_cancel}
use Rattle.xv_model.specs.Step.{Entry, run}
use Rattle.xv_model.specs.Invariant.{CancelHolds, IsViewOf}
use Rattle.xv_model.specs.Contents.{Contents, HoldsContents, first_contents, contents_after, unit_content}
use Rattle.xv_model.proofs.First.{first_view-holds}
use Rattle.xv_model.proofs.Kept.{step-holds, run-holds}
use Rattle.xv_model.proofs.Contents.Steps.{contents-first}
use Rattle.xv_model.proofs.Contents.Runs.{contents-run}

never : (cancel : Option ℕ) (p : Phase) (n : ℕ) → CancelHolds cancel p n → is_some cancel ≡ true → is_switched p ≡ false
never None p n holds e = absurd (cc)
never (Some k) p n holds e = holds.never_switched k refl

pub view-never_switched : (job : Job) (v : View) → IsViewOf job v → has_cancel job ≡ true → is_switched v.phase ≡ false
view-never_switched job v inv cancel = never job.config.cancel v.phase (length v.history) inv.cancel cancel

pub run-never_switched : (job : Job) (journal : List Entry) → IsGoodJob job → list_all (λ (e : Entry). fits job e.event) journal ≡ true → has_cancel job ≡ true → is_switched (run job journal).phase ≡ false
run-never_switched job journal good fit cancel = view-never_switched job (run job journal) (run-holds job journal good fit) cancel

pub view-source_kept : (job : Job) (v : View) (c : Contents) (unit : ℕ) → IsViewOf job v → HoldsContents job v c → has_cancel job ≡ true → unit < unit_count job → unit_content c.source unit ≡ content job v.history unit (length v.history)
view-source_kept job v c unit inv holds cancel lt = holds.source_is unit lt (view-never_switched job v inv cancel)

pub run-source_kept : (job : Job) (dest : List (List ℕ)) (journal : List Entry) (unit : ℕ) → IsGoodJob job → length dest ≡ unit_count job → list_all (λ (e : Entry). fits job e.event) journal ≡ true → has_cancel job ≡ true → unit < unit_count job →
    unit_content (contents_after job (first_view job) (first_contents job dest) journal).source unit ≡ content job (run job journal).history unit (length (run job journal).history)
run-source_kept job dest journal unit good same fit cancel lt =
    let holds = (contents-run job journal (first_view job) (first_contents job dest) good (λ v e flag. step-holds job v e flag good) fit (first_view-holds job good) (contents-first job dest good same)).contents in
    view-source_kept job (run job journal) (contents_after job (first_view job) (first_contents job dest) journal) unit (run-holds job journal good fit) holds cancel lt
