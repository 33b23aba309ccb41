-- A text that is a job's and a script's, taken apart.
use Rattle.std.proofs.Common.{◌≡◌, ℕ, List, ◌++◌, take, drop, Option, Some, sym, ap, ◌∙◌}
use Rattle.std.proofs.lemmas.List.{take-append-drop}
use Rattle.xv_job.specs.JobText.{job_text}
use Rattle.xv_script.proofs.Ends.{one-script}
use Rattle.xv_core.specs.Seen.{Seen}
use Rattle.xv_top.specs.Replay.{input_text}
use Rattle.xv_top.specs.Printed.{PrintsAll, IsOfInput}

pub joined : (text front back : List ℕ) (n : ℕ) → take n text ≡ front → drop n text ≡ back → text ≡ front ++ back
joined text front back n is_front is_back =
    sym (take-append-drop n text) ∙ (ap (λ xs. xs ++ drop n text) is_front ∙ ap (λ xs. front ++ xs) is_back)

-- the lines that were answered are those of the script that was read
pub lines-read : (read : List ℕ) (old new : Option (List ℕ)) (m : Seen) (p : PrintsAll (Some read) old new m) → IsOfInput (Some read) m → read ≡ input_text m.job p.lines
lines-read read old new m p (lines, is) =
    let (front, parts) = p.input in
    let both = one-script m.job lines p.lines front (sym is ∙ parts) in
    is ∙ ap (λ (text : List ℕ). job_text m.job ++ text) both.1
