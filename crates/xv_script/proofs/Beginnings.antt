-- No text of a script begins that of another, so no input does.
use Rattle.std.proofs.Common.{◌≡◌, ℕ, suc, ◌<◌, ◌≤◌, ◌^◌, true, List, [], ◌∷◌, ◌++◌, length, map, get_or, drop, Option, Some, None, refl, sym, ap, ◌∙◌, subst, arith, append_assoc, append-nil}
use Rattle.std.specs.List.{list_all}
use Rattle.std.proofs.lemmas.Bool.{and_parts}
use Rattle.std.proofs.lemmas.List.{map-append, append_cancel_left}
use Rattle.xv_text.specs.Lines.{lines_of}
use Rattle.xv_text.proofs.Apart.{lines_of-text, lines_of-text_of}
use Rattle.xv_base.specs.declared.unit.DiskShape.{DiskShape}
use Rattle.xv_base.specs.Units.{blocks, blocks_of}
use Rattle.xv_model.specs.Job.{Job, IsGoodJob}
use Rattle.xv_job.specs.Written.{Written, job_of, IsGoodWritten}
use Rattle.xv_job.specs.JobText.{job_text}
use Rattle.xv_job.proofs.Shapes.{sizes_of}
use Rattle.xv_job.proofs.Texts.{one_job}
use Rattle.xv_script.specs.Lines.{script_text}
use Rattle.xv_script.specs.Script.{counts_of, line_in, is_in, IsScriptOf}
use Rattle.xv_script.specs.declared.line.Line.{Line}
use Rattle.xv_script.specs.declared.word.Word.TheVariants.{Stop as StopWord}
use Rattle.xv_script.proofs.Sayings.{AreSmall, word_in, number_in, line_back, line_there, line_fields}
use Rattle.xv_script.proofs.Scripts.{said_well, script_lines, text_of-script_lines, script_lines_plain}

-- disks that each have a block are no more than their blocks
disks_within : (ds : List DiskShape) → ((d : ℕ) → d < length ds → 1 ≤ blocks ds d) → length ds ≤ blocks_of ds
disks_within [] some = omega arith
disks_within (d ∷ ds) some = omega (arith, some 0 (omega arith), disks_within ds (λ k lt. some (suc k) (omega (arith, lt))))

pub small_counts : (job : Job) → IsGoodJob job → AreSmall (counts_of job)
small_counts job good =
    let sizes = sizes_of job.shape good.machine in
    record {
      guests = omega (arith, good.guests.1);
      disks = omega (arith, disks_within job.copy.disks good.some_blocks, good.same_units, sizes.few_units);
      streams = omega (arith, good.streams.1);
      units = omega (arith, good.same_units, sizes.few_units);
    }

-- what each line of a script says, and the last one nothing
abbrev said : List Line → List (Option Line)
said [] = None ∷ []
said (l ∷ ls) = Some l ∷ said ls

lines_say : (job : Job) → AreSmall (counts_of job) → (lines : List Line) → list_all (is_in job) lines ≡ true → map line_in (script_lines lines) ≡ said lines
lines_say job small [] there = ap (λ (found : Option Line). found ∷ []) (said_well job small StopWord 0 (omega arith)).says
lines_say job small (l ∷ ls) there =
    let parts = and_parts (is_in job l) (list_all (is_in job) ls) there in
    let here : line_in (line_fields l) ≡ Some l = (said_well job small (word_in l) (number_in l) (line_there job l parts.0)).says ∙ line_back l in
    ap (λ (found : Option Line). found ∷ map line_in (script_lines ls)) here ∙ ap (λ (more : List (Option Line)). Some l ∷ more) (lines_say job small ls parts.1)

-- lines that say the same as the first of others are these
same_said : (ls ks : List Line) (more : List (Option Line)) → said ls ++ more ≡ said ks → ls ≡ ks
same_said [] [] more is = refl
same_said [] (k ∷ ks) more is = absurd (let apart : None ≡ Some k = ap (λ (os : List (Option Line)). get_or os 0 None) is in cc)
same_said (l ∷ ls) [] more is = absurd (let apart : Some l ≡ None = ap (λ (os : List (Option Line)). get_or os 0 None) is in cc)
same_said (l ∷ ls) (k ∷ ks) more is =
    let both : Some l ≡ Some k = ap (λ (os : List (Option Line)). get_or os 0 None) is in
    let first : l ≡ k = cc in
    ap (λ (x : Line). x ∷ ls) first ∙ ap (λ (xs : List Line). k ∷ xs) (same_said ls ks more (ap (λ (os : List (Option Line)). drop 1 os) is))

nothing_more : (xs rest : List ℕ) → xs ++ rest ≡ xs → rest ≡ []
nothing_more xs rest is = append_cancel_left xs rest [] (is ∙ sym (append-nil xs))

pub one_beginning : (job : Job) (lines others : List Line) (rest : List ℕ) → IsGoodJob job → IsScriptOf job lines → IsScriptOf job others → script_text lines ++ rest ≡ script_text others → (lines ≡ others) × (rest ≡ [])
one_beginning job lines others rest good script other is =
    let small = small_counts job good in
    let front : lines_of (script_text lines ++ rest) ≡ script_lines lines ++ lines_of rest =
    ap (λ (text : List ℕ). lines_of (text ++ rest)) (sym (text_of-script_lines lines)) ∙ lines_of-text (script_lines lines) rest (script_lines_plain job small lines script.in_job) in
    let whole : lines_of (script_text others) ≡ script_lines others =
    ap lines_of (sym (text_of-script_lines others)) ∙ lines_of-text_of (script_lines others) (script_lines_plain job small others other.in_job) in
    let both : script_lines lines ++ lines_of rest ≡ script_lines others = sym front ∙ ap lines_of is ∙ whole in
    let more = map line_in (lines_of rest) in
    let says : map line_in (script_lines lines ++ lines_of rest) ≡ said lines ++ more =
    map-append line_in (script_lines lines) (lines_of rest) ∙ ap (λ (os : List (Option Line)). os ++ more) (lines_say job small lines script.in_job) in
    let same : lines ≡ others = same_said lines others more (sym says ∙ ap (map line_in) both ∙ lines_say job small others other.in_job) in
    (same, nothing_more (script_text lines) rest (is ∙ ap script_text (sym same)))

pub one_job_begins : (v w : Written) (rest : List ℕ) → IsGoodWritten v → IsGoodWritten w → job_text v ++ rest ≡ job_text w → (v ≡ w) × (rest ≡ [])
one_job_begins v w rest good fine is =
    let same : v ≡ w = one_job v w rest [] good fine (is ∙ sym (append-nil (job_text w))) in
    (same, nothing_more (job_text v) rest (is ∙ ap job_text (sym same)))

pub one_input_begins : (v w : Written) (lines others : List Line) (rest : List ℕ) → IsGoodWritten v → IsGoodWritten w → IsScriptOf (job_of v) lines → IsScriptOf (job_of w) others → (job_text v ++ script_text lines) ++ rest ≡ job_text w ++ script_text others → (v ≡ w) × (lines ≡ others) × (rest ≡ [])
one_input_begins v w lines others rest good fine script other is =
    let parts : job_text v ++ (script_text lines ++ rest) ≡ job_text w ++ script_text others = sym (append_assoc (job_text v) (script_text lines) rest) ∙ is in
    let same : v ≡ w = one_job v w (script_text lines ++ rest) (script_text others) good fine parts in
    let scripts : script_text lines ++ rest ≡ script_text others =
    append_cancel_left (job_text w) (script_text lines ++ rest) (script_text others) (ap (λ (x : Written). job_text x ++ (script_text lines ++ rest)) (sym same) ∙ parts) in
    let both = one_beginning (job_of w) lines others rest fine.limits (subst (λ (x : Written). IsScriptOf (job_of x) lines) same script) other scripts in
    (same, both.0, both.1)
