-- The numbers of all passes add up to the journal's length.
use Rattle.std.proofs.Common.{◌≡◌, ℕ, ◌+◌, List, [], ◌∷◌, length, sum_by, refl, sym, ap, ◌∙◌, arith}
use Rattle.std.proofs.lemmas.List.Sums.{sum_by-cons}
use Rattle.xv_model.specs.Step.{Entry}
use Rattle.xv_model.proofs.Journal.Kinds.{run-kinds}
use Rattle.xv_job.specs.Written.{job_of}
use Rattle.xv_core.specs.Seen.{Seen}
use Rattle.xv_core.specs.Keeping.{IsKept}
use Rattle.xv_shared.specs.declared.passes.Pass.{Pass}
use Rattle.xv_shared.specs.declared.passes.Pass.TheVariants.{Guest, Other}
use Rattle.xv_shared.specs.Crews.{number, done, queued, faulted, other, sums}
use Rattle.xv_shared.specs.Held.{ByKind, entries}

-- the four numbers together
abbrev together : ByKind → ℕ
together k = k.done + k.queued + k.faulted + k.other

by-pass : {D Q F R : Type 0} (p : Pass D Q F R) → number p ≡ done p + queued p + faulted p + other p
by-pass (Guest p) = omega arith
by-pass (Other p) = omega arith

by-passes : {D Q F R : Type 0} (ps : List (Pass D Q F R)) → sum_by number ps ≡ sum_by done ps + sum_by queued ps + sum_by faulted ps + sum_by other ps
by-passes [] = refl
by-passes (p ∷ ps) = omega (arith, by-pass p, by-passes ps, sum_by-cons number p ps, sum_by-cons done p ps, sum_by-cons queued p ps, sum_by-cons faulted p ps, sum_by-cons other p ps)

pub all-numbers : {D Q F R : Type 0} (m : Seen) (ps : List (Pass D Q F R)) → IsKept m → sums ps ≡ entries m.journal → sum_by number ps ≡ length m.journal
all-numbers m ps k s = by-passes ps ∙ (ap together s ∙ sym (run-kinds (job_of m.job) m.journal k.is_run))

-- A share of no part, into which all parts of its ledger were put, has counted what the book says.
pub settled : (parts amount total parts' amount' total' count sum put got all n : ℕ) → parts ≡ 0 → (parts ≡ 0 → amount ≡ 0) → parts' ≡ parts → amount' ≡ amount → total' ≡ total → put ≡ parts' + count → got ≡ amount' + sum → count ≡ all → (put ≡ all → got ≡ total') → total ≡ n → sum ≡ n
settled parts amount total parts' amount' total' count sum put got all n none backed p a t put_is got_is whole audited counted =
    let zero = backed none in
    let full : put ≡ all = omega (arith, put_is, p, none, whole) in
    let told = audited full in
    omega (arith, got_is, a, zero, told, t, counted)
