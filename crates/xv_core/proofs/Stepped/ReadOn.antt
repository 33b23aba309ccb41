-- What a step reads is what the unmigrated guest reads there, where both devices tell what they hold.
use Rattle.std.specs.Prelude.{◌≡◌, ℕ, ◌&&◌, Bool, true, List, ◌++◌, length, drop}
use Rattle.std.proofs.Common.{sym, ap, subst, ◌∙◌}
use Rattle.std.proofs.Math.Seq.{drop-append_seam}
use Rattle.xv_model.specs.Guest.{read_bytes, reads}
use Rattle.xv_model.specs.View.{View}
use Rattle.xv_model.specs.Wait.{Event}
use Rattle.xv_model.specs.Effect.{Turn}
use Rattle.xv_model.specs.Step.{is_flagged}
use Rattle.xv_job.specs.Written.{Written, job_of}
use Rattle.xv_core.specs.Seen.{Seen, view_of}
use Rattle.xv_core.specs.Stepped.{IsStep}
use Rattle.xv_core.specs.Keeping.{IsKept, tells}
use Rattle.xv_core.proofs.Stepped.After.{view-after}
use Rattle.xv_core.proofs.Stepped.ReadsBehind.{AddsOne, step-adds, reads-more}

longer : (m n : Seen) (e : Event) (a : Turn) → IsStep m e a n → AddsOne (view_of m).history (view_of n).history
longer m n e a s = subst (λ (v : View). AddsOne (view_of m).history v.history) (sym (view-after m n e a s)) (step-adds (job_of m.job) (view_of m) e (is_flagged a))

pub read-on : (m n : Seen) (e : Event) (a : Turn) → IsKept m → IsKept n → (tells m.source && tells m.dest) ≡ true → IsStep m e a n →
    drop (length m.reads) n.reads ≡ read_bytes (job_of m.job) (view_of n).history (length (view_of m).history)
read-on m n e a k l tell s =
    let job = job_of m.job in
    let before = (view_of m).history in
    let after = (view_of n).history in
    let still : (tells n.source && tells n.dest) ≡ true =
    ap (λ (b : Bool). b && tells n.dest) s.tells.source ∙ ap (λ (b : Bool). tells m.source && b) s.tells.dest ∙ tell in
    let later : n.reads ≡ reads job after (length after) = (l.contents still).reads ∙ ap (λ (w : Written). reads (job_of w) after (length after)) s.job in
    let whole : n.reads ≡ m.reads ++ read_bytes job after (length before) =
    later ∙ reads-more job before after (longer m n e a s) ∙ ap (λ (bs : List ℕ). bs ++ read_bytes job after (length before)) (sym (k.contents tell).reads) in
    ap (drop (length m.reads)) whole ∙ drop-append_seam m.reads (read_bytes job after (length before))
