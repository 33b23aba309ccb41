-- What a replay from the beginning of a job leaves and writes.
use Rattle.std.proofs.Common.{◌≡◌, ℕ, ◌+◌, ◌≤◌, true, List, [], ◌∷◌, ◌++◌, length, take, refl, sym, ap, ◌∙◌, subst, append_assoc, length-append, arith, Option}
use Rattle.std.proofs.lemmas.Bool.{and_parts}
use Rattle.std.proofs.Math.Seq.{take-append-add}
use Rattle.std.proofs.lemmas.List.Folds.{list_all-append}
use Rattle.std.specs.List.{list_all}
use Rattle.xv_io.specs.Io.{TookMore, TookFront}
use Rattle.xv_io.proofs.Took.{took-both, front-first, front-last}
use Rattle.xv_model.specs.Job.{Job}
use Rattle.xv_model.specs.View.{first_view}
use Rattle.xv_model.specs.Step.{Entry, play, is_faithful}
use Rattle.xv_script.specs.Lines.{events_of}
use Rattle.xv_script.specs.Script.{is_in, IsScriptOf}
use Rattle.xv_script.specs.declared.line.Line.{Line}
use Rattle.xv_job.specs.Written.{Written, job_of}
use Rattle.xv_core.specs.Seen.{Seen}
use Rattle.xv_core.specs.Keeping.{IsKept}
use Rattle.xv_parts.specs.Memory.{IsInMemory, begun_in_memory}
use Rattle.xv_top.specs.Playing.{ArePlayed, IsCutShort, AreAnswered}
use Rattle.xv_top.specs.Replay.{transcript, result_text, output_text}
use Rattle.xv_top.specs.Top.{HasRun}
use Rattle.xv_top.specs.declared.command.Form.{Form}
use Rattle.xv_top.proofs.Answered.{answered}
use Rattle.xv_parts.proofs.Staying.{begins}
use Rattle.xv_parts.proofs.Planned.{faithful}
use Rattle.xv_parts.proofs.Holding.{source-writes, dest-writes}
use Rattle.xv_top.proofs.Played.{played-more}
use Rattle.xv_top.proofs.Replayed.{IsReplay, replay-is, transcript-front}

-- a migration that began so is of this job
pub job-begun : (w : Written) (m : Seen) → m ≡ begun_in_memory w → m.job ≡ w
job-begun w m is = ap (λ (x : Seen). x.job) is

pub is-begun : (w : Written) (m : Seen) → m ≡ begun_in_memory w → m ≡ begun_in_memory m.job
is-begun w m is = is ∙ ap begun_in_memory (sym (job-begun w m is))

-- a script was played on a migration that began so
pub replayed : (w : Written) (start m : Seen) (lines : List Line) (text : List ℕ) → start ≡ begun_in_memory w → IsKept start → IsScriptOf (job_of w) lines → ArePlayed start lines m text → IsReplay w (begun_in_memory w) m lines text
replayed w start m lines text is kept script played =
    replay-is w lines (begun_in_memory w) m text refl (begins w (subst IsKept is kept)) script.in_job
    (subst (λ (x : Seen). ArePlayed x lines m text) is played)

pub has-run : (w : Written) (start m : Seen) (lines : List Line) (text : List ℕ) → start ≡ begun_in_memory w → IsKept start → ArePlayed start lines m text → IsReplay w (begun_in_memory w) m lines text → HasRun w lines m
has-run w start m lines text is kept played replay = record {
  begun = subst IsKept is kept;
  played =
      subst (λ (xs : List ℕ). AreAnswered (begun_in_memory w) lines m xs) replay.transcript
      (answered lines (begun_in_memory w) m text (subst (λ (x : Seen). ArePlayed x lines m text) is played));
  of_job = replay.of_job;
  journal = replay.journal;
  faithful = subst (λ (x : Written). is_faithful (job_of x) m.journal ≡ true) replay.of_job (faithful m replay.in_memory);
  kept = replay.in_memory.kept;
  counts = record { source = λ unit there. source-writes m replay.in_memory unit; dest = λ unit there. dest-writes m replay.in_memory unit };
}

-- the transcript was taken, and nothing behind it
pub transcript-taken : (w : Written) (m : Seen) (lines : List Line) (text : List ℕ) (a b c : Option (List ℕ)) → IsReplay w (begun_in_memory w) m lines text → TookMore a b text → c ≡ b → TookMore a c (transcript (job_of w) lines)
transcript-taken w m lines text a b c replay taken stays =
    subst (λ (xs : List ℕ). TookMore a c xs) replay.transcript (subst (λ (t : Option (List ℕ)). TookMore a t text) (sym stays) taken)

-- the report and the image of what it left are those of the script's journal
pub result-of : (form : Form) (w : Written) (m : Seen) (lines : List Line) (text : List ℕ) → IsReplay w (begun_in_memory w) m lines text → result_text form (job_of m.job) m.journal ≡ result_text form (job_of w) (play (job_of w) (events_of lines))
result-of form w m lines text replay =
    ap (λ (x : Written). result_text form (job_of x) m.journal) replay.of_job
    ∙ ap (λ (js : List Entry). result_text form (job_of w) js) replay.journal

-- the transcript was taken, and then the result whole or a front of it
pub output-whole : (form : Form) (w : Written) (m : Seen) (lines : List Line) (text : List ℕ) (a b c : Option (List ℕ)) → IsReplay w (begun_in_memory w) m lines text → TookMore a b text → TookMore b c (result_text form (job_of m.job) m.journal) → TookMore a c (output_text form (job_of w) lines)
output-whole form w m lines text a b c replay played result =
    subst (λ (xs : List ℕ). TookMore a c xs) (ap (λ (xs : List ℕ). xs ++ result_text form (job_of m.job) m.journal) replay.transcript ∙ ap (λ (ys : List ℕ). transcript (job_of w) lines ++ ys) (result-of form w m lines text replay))
    (took-both a b c text (result_text form (job_of m.job) m.journal) played result)

pub output-front : (form : Form) (w : Written) (m : Seen) (lines : List Line) (text : List ℕ) (a b c : Option (List ℕ)) → IsReplay w (begun_in_memory w) m lines text → TookMore a b text → TookFront b c (result_text form (job_of m.job) m.journal) → TookFront a c (output_text form (job_of w) lines)
output-front form w m lines text a b c replay played result =
    front-last a b c text (result_text form (job_of m.job) m.journal) (output_text form (job_of w) lines) played result
    (sym (ap (λ (xs : List ℕ). xs ++ result_text form (job_of m.job) m.journal) replay.transcript ∙ ap (λ (ys : List ℕ). transcript (job_of w) lines ++ ys) (result-of form w m lines text replay)))

-- the lines up to one are in the job where all are
front-in_job : (job : Job) (lines more : List Line) → list_all (is_in job) (lines ++ more) ≡ true → list_all (is_in job) lines ≡ true
front-in_job job lines more all = (and_parts (list_all (is_in job) lines) (list_all (is_in job) more) (sym (list_all-append (is_in job) lines more) ∙ all)).0

-- a text, and a front of a second one, is a front of both
front-of : (text last : List ℕ) (n : ℕ) (a b : Option (List ℕ)) → n ≤ length last → TookMore a b (text ++ take n last) → TookFront a b (text ++ last)
front-of text last n a b within taken = (
  length text + n,
  omega (arith, within, length-append text last),
  subst (λ (xs : List ℕ). TookMore a b xs) (sym (take-append-add text last n)) taken,
)

-- where the output failed at a line, a front of the whole output was taken
front-of_cut : (form : Form) (w : Written) (m : Seen) (lines : List Line) (a b : Option (List ℕ)) → IsInMemory (begun_in_memory w) → IsScriptOf (job_of w) lines → IsCutShort (begun_in_memory w) lines m a b → TookFront a b (output_text form (job_of w) lines)
front-of_cut form w m lines a b inside script cut =
    let job = job_of w in
    let upto = cut.done ++ cut.last ∷ [] in
    let parts : lines ≡ upto ++ cut.behind = cut.parts ∙ sym (append_assoc cut.done (cut.last ∷ []) cut.behind) in
    let fits = front-in_job job upto cut.behind (ap (λ (ls : List Line). list_all (is_in job) ls) (sym parts) ∙ script.in_job) in
    let played = played-more (begun_in_memory w) cut.mid m cut.done cut.last cut.text cut.text_of_last cut.played cut.last_played in
    let replay = replay-is w upto (begun_in_memory w) m (cut.text ++ cut.text_of_last) refl inside fits played in
    let (rest, front) = transcript-front job upto cut.behind (first_view job) [] in
    let result = result_text form job (play job (events_of lines)) in
    let whole : output_text form job lines ≡ (cut.text ++ cut.text_of_last) ++ (rest ++ result) =
    ap (λ (ls : List Line). transcript job ls ++ result) parts
    ∙ (ap (λ (xs : List ℕ). xs ++ result) front
    ∙ (append_assoc (transcript job upto) rest result
    ∙ ap (λ (xs : List ℕ). xs ++ (rest ++ result)) (sym replay.transcript))) in
    front-first a b (cut.text ++ cut.text_of_last) (rest ++ result) (output_text form job lines)
    (front-of cut.text cut.text_of_last cut.front a b cut.within cut.taken) whole

pub cut-front : (form : Form) (w : Written) (start m : Seen) (lines : List Line) (a b : Option (List ℕ)) → start ≡ begun_in_memory w → IsKept start → IsScriptOf (job_of w) lines → IsCutShort start lines m a b → TookFront a b (output_text form (job_of w) lines)
cut-front form w start m lines a b is kept script cut =
    front-of_cut form w m lines a b (begins w (subst IsKept is kept)) script (subst (λ (x : Seen). IsCutShort x lines m a b) is cut)
