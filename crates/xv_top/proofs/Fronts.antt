-- A proper front of an input that is read is refused, since a line is missing.
use Rattle.std.proofs.Common.{◌≡◌, ◌≢◌, ◌⊎◌, ℕ, ◌+◌, ◌≤◌, Bool, true, false, List, [], ◌∷◌, ◌++◌, length, length-append, length-drop, drop, map, Option, Some, None, refl, sym, ap, ◌∙◌, arith, inl, inr}
use Rattle.std.specs.Prelude.{nat_lt}
use Rattle.std.proofs.lemmas.Bool.{cases_Bool, ltb-false}
use Rattle.std.proofs.lemmas.List.{drop-append-le}
use Rattle.xv_base.specs.declared.text.LineFault.{LineFault}
use Rattle.xv_base.specs.declared.text.LineWhy.{LineWhy}
use Rattle.xv_base.specs.declared.text.LineWhy.TheVariants.{Unended, Limit}
use Rattle.xv_text.specs.declared.limits.TheConstants.{LIMIT_OF_INPUT}
use Rattle.xv_text.specs.Lines.{whole_lines, has_rest, lines_of, fields}
use Rattle.xv_text.specs.Reading.{Reader, first_fault, last_state, line_count, at_line, at_line_or}
use Rattle.xv_text.proofs.Progress.{count_below}
use Rattle.xv_job.specs.Written.{Written, job_of, IsGoodWritten}
use Rattle.xv_job.specs.Draft.{first_draft, job_reader}
use Rattle.xv_job.specs.JobText.{job_lines}
use Rattle.xv_job.proofs.Texts.{job_fault}
use Rattle.xv_script.specs.Lines.{script_text}
use Rattle.xv_script.specs.Script.{first_script, IsScriptOf}
use Rattle.xv_script.specs.declared.line.Line.{Line}
use Rattle.xv_script.proofs.Beginnings.{small_counts}
use Rattle.xv_script.proofs.Scripts.{script_is_read}
use Rattle.xv_handover.specs.Lines.{script_text as handover_text}
use Rattle.xv_handover.specs.Script.{text_fault as handover_text_fault, IsScript}
use Rattle.xv_handover.specs.declared.world.WorldEvent.{WorldEvent}
use Rattle.xv_handover.proofs.Fronts.{cut-in, lines-cut, text-cut, lines-of-cut, some-of-cut, count-of-cut}
use Rattle.xv_handover.proofs.Beginnings.{cut-short as script-cut, script-cut-short as spelled-script-cut}
use Rattle.xv_top.specs.Replay.{input_text}
use Rattle.xv_top.specs.Refused.{input_limit, input_fault, lines_fault, fault_or, too_long_or, script_behind}
use Rattle.xv_top.specs.Handover.{handover_fault}
use Rattle.xv_top.proofs.Refusals.{lt-is_not, job_lines_fault, short-input, lines_fault-behind_job}

-- ---- a text that ends the input
pub one-text-cut : {S : Type 0} (r : Reader S) (s : S) (front rest : List ℕ) → first_fault r true s 1 (lines_of (front ++ rest)) (has_rest (front ++ rest)) ≡ None → rest ≢ [] → first_fault r true s 1 (lines_of front) (has_rest front) ≡ Some (at_line (length (whole_lines front) + 1) Unended)
one-text-cut r s front [] none some = absurd (some refl)
one-text-cut r s front (b ∷ rest) none some =
    text-cut r s 1 (length (whole_lines front) + 1) front (front ++ b ∷ rest) (cut-in front b rest) none (omega arith)

-- ---- a text before another

-- it stands in these lines as it does in them and more
record IsWithin {S : Type 0} (r : Reader S) (s : S) (n : ℕ) (lines more : List (List (List ℕ))) (left : Bool) : Type 0 where
  no_fault : first_fault r false s n lines left ≡ None
  last : last_state r s (lines ++ more) ≡ last_state r s lines
  count : line_count r s (lines ++ more) ≡ line_count r s lines

over : {S : Type 0} (r : Reader S) (s : S) (n : ℕ) (lines more : List (List (List ℕ))) (left : Bool) → r.is_ended s ≡ true → IsWithin r s n lines more left
over r s n [] [] left ended = record { no_fault = rw ended refl; last = refl; count = refl }
over r s n [] (m ∷ more) left ended = record { no_fault = rw ended refl; last = rw ended refl; count = rw ended refl }
over r s n (l ∷ lines) more left ended = record { no_fault = rw ended refl; last = rw ended refl; count = rw ended refl }

goes-on : {S : Type 0} (r : Reader S) (s : S) (n : ℕ) (l : List (List ℕ)) (lines more : List (List (List ℕ))) (left : Bool) → r.is_ended s ≡ false → r.fault s l ≡ None → IsWithin r (r.next s l) (n + 1) lines more left → IsWithin r s n (l ∷ lines) more left
goes-on r s n l lines more left going fine later = record {
  no_fault = rw (going, fine) later.no_fault;
  last = rw going later.last;
  count = rw (going, fine) (ap (λ (k : ℕ). k + 1) later.count);
}

later-none : (n : ℕ) (why : Option LineWhy) (later : Option LineFault) → at_line_or n why later ≡ None → (why ≡ None) × (later ≡ None)
later-none n None later h = (refl, h)
later-none n (Some why) later h = absurd (cc)

-- or a line of it is missing there
within-or-cut : {S : Type 0} (r : Reader S) (s : S) (n m : ℕ) (lines more : List (List (List ℕ))) (rest left : Bool) → first_fault r false s n (lines ++ more) rest ≡ None → m ≡ n + length lines → (first_fault r false s n lines left ≡ Some (at_line m Unended)) ⊎ IsWithin r s n lines more left
within-or-cut r s n m [] more rest left none at = elim (cases_Bool (r.is_ended s)) [
  | inl ended ↦ inr (over r s n [] more left ended)
  | inr going ↦
      let same : n ≡ m = omega (arith, at) in
      inl (rw going (ap (λ (k : ℕ). Some (at_line k Unended)) same))
]
within-or-cut r s n m (l ∷ lines) more rest left none at = elim (cases_Bool (r.is_ended s)) [
  | inl ended ↦ inr (over r s n (l ∷ lines) more left ended)
  | inr going ↦
      let parts = later-none n (r.fault s l) (first_fault r false (r.next s l) (n + 1) (lines ++ more) rest) (rw going at none) in
      elim (within-or-cut r (r.next s l) (n + 1) m lines more rest left parts.1 (omega (arith, at))) [
        | inl cut ↦ inl (rw (going, parts.0) cut)
        | inr within ↦ inr (goes-on r s n l lines more left going parts.0 within)
      ]
]

-- ---- two texts one behind the other
both-none : (a b : Option LineFault) → fault_or a b ≡ None → (a ≡ None) × (b ≡ None)
both-none None b none = (refl, none)
both-none (Some fault) b none = absurd (cc)

drop-within : {S : Type 0} (r : Reader S) (s : S) (lines more : List (List (List ℕ))) → line_count r s (lines ++ more) ≡ line_count r s lines → drop (line_count r s (lines ++ more)) (lines ++ more) ≡ drop (line_count r s lines) lines ++ more
drop-within r s lines more same =
    ap (λ (k : ℕ). drop k (lines ++ more)) same ∙ drop-append-le (line_count r s lines) lines more (count_below r s lines)

two-texts-cut : {S T : Type 0} (first : Reader S) (s : S) (behind : S → Reader T) (t : T) (m : ℕ) (lines more : List (List (List ℕ))) (rest left : Bool)
    → (more ≡ [] → rest ≡ true) → lines_fault first s behind t (lines ++ more) rest ≡ None → m ≡ length lines + 1 → lines_fault first s behind t lines left ≡ Some (at_line m Unended)
two-texts-cut {S = S} first s behind t m lines more rest left some none at =
    let k = line_count first s lines in
    let all = lines ++ more in
    let parts = both-none (first_fault first false s 1 all rest) (first_fault (behind (last_state first s all)) true t (line_count first s all + 1) (drop (line_count first s all) all) rest) none in
    elim (within-or-cut first s 1 m lines more rest left parts.0 (omega (arith, at))) [
      | inl cut ↦ ap (λ (f : Option LineFault). fault_or f (first_fault (behind (last_state first s lines)) true t (k + 1) (drop k lines) left)) cut
      | inr within ↦
          let second : first_fault (behind (last_state first s lines)) true t (k + 1) (drop k lines ++ more) rest ≡ None =
          ap (λ (x : S). first_fault (behind x) true t (k + 1) (drop k lines ++ more) rest) (sym within.last)
          ∙ (ap (λ (n : ℕ). first_fault (behind (last_state first s all)) true t (n + 1) (drop k lines ++ more) rest) (sym within.count)
          ∙ (ap (λ (ls : List (List (List ℕ))). first_fault (behind (last_state first s all)) true t (line_count first s all + 1) ls rest) (sym (drop-within first s lines more within.count))
          ∙ parts.1)) in
          ap (λ (f : Option LineFault). fault_or f (first_fault (behind (last_state first s lines)) true t (k + 1) (drop k lines) left)) within.no_fault
          ∙ lines-cut (behind (last_state first s lines)) t (k + 1) m (drop k lines) more rest left some second (omega (arith, at, count_below first s lines, length-drop k lines))
    ]

-- ---- an input of `replay`
lines-fault-cut : (front rest : List ℕ) → job_lines_fault (lines_of (front ++ rest)) (has_rest (front ++ rest)) ≡ None → rest ≢ [] → job_lines_fault (lines_of front) (has_rest front) ≡ Some (at_line (length (whole_lines front) + 1) Unended)
lines-fault-cut front [] none some = absurd (some refl)
lines-fault-cut front (b ∷ rest) none some =
    let text = front ++ b ∷ rest in
    let cut = cut-in front b rest in
    let whole : job_lines_fault (lines_of front ++ map fields cut.more) (has_rest text) ≡ None =
    ap (λ (ls : List (List (List ℕ))). job_lines_fault ls (has_rest text)) (sym (lines-of-cut front text cut)) ∙ none in
    two-texts-cut job_reader first_draft script_behind first_script (length (whole_lines front) + 1) (lines_of front) (map fields cut.more) (has_rest text) (has_rest front)
    (some-of-cut front text cut) whole (omega (arith, count-of-cut front))

-- what is not refused is not too long
pub short-enough : (bytes : List ℕ) (fault : Option LineFault) → too_long_or bytes fault ≡ None → (length bytes ≤ input_limit) × (fault ≡ None)
short-enough bytes fault none = elim (cases_Bool (nat_lt input_limit (length bytes))) [
  | inl long ↦ let is : Some (at_line 0 (Limit LIMIT_OF_INPUT)) ≡ None = rw long at none in absurd (cc)
  | inr short ↦ (ltb-false input_limit (length bytes) short, rw short at none)
]

pub front-fits : (front rest : List ℕ) → length (front ++ rest) ≤ input_limit → length front ≤ input_limit
front-fits front rest fits = omega (arith, fits, length-append front rest)

-- an input that is not too long has the fault of its lines
pub fits-so : (bytes : List ℕ) (fault : Option LineFault) → length bytes ≤ input_limit → too_long_or bytes fault ≡ fault
fits-so bytes fault fits = rw (lt-is_not input_limit (length bytes) fits) refl

pub input-cut : (front rest : List ℕ) → input_fault (front ++ rest) ≡ None → rest ≢ [] → input_fault front ≡ Some (at_line (length (whole_lines front) + 1) Unended)
input-cut front rest none some =
    let parts = short-enough (front ++ rest) (job_lines_fault (lines_of (front ++ rest)) (has_rest (front ++ rest))) none in
    short-input front (front-fits front rest parts.0) ∙ lines-fault-cut front rest parts.1 some

input-read : (w : Written) (lines : List Line) (text : List ℕ) → IsGoodWritten w → IsScriptOf (job_of w) lines → text ≡ input_text w lines → job_lines_fault (lines_of text) (has_rest text) ≡ None
input-read w lines text good script is =
    lines_fault-behind_job text (script_text lines) w (job_fault w (script_text lines) text good is) good is
    ∙ (script_is_read (job_of w) (small_counts (job_of w) good.limits) (script_text lines) lines (length (job_lines w) + 1) script refl).0

pub spelled-input-cut : (w : Written) (lines : List Line) (front rest : List ℕ) → IsGoodWritten w → IsScriptOf (job_of w) lines → input_text w lines ≡ front ++ rest → rest ≢ [] → length front ≤ input_limit → input_fault front ≡ Some (at_line (length (whole_lines front) + 1) Unended)
spelled-input-cut w lines front rest good script is some fits =
    short-input front fits ∙ lines-fault-cut front rest (input-read w lines (front ++ rest) good script (sym is)) some

-- ---- an input of `handover`
pub handover-cut : (front rest : List ℕ) → handover_fault (front ++ rest) ≡ None → rest ≢ [] → handover_fault front ≡ Some (at_line (length (whole_lines front) + 1) Unended)
handover-cut front rest none some =
    let parts = short-enough (front ++ rest) (handover_text_fault (front ++ rest)) none in
    fits-so front (handover_text_fault front) (front-fits front rest parts.0) ∙ script-cut front rest parts.1 some

pub spelled-handover-cut : (events : List WorldEvent) (front rest : List ℕ) → IsScript events → handover_text events ≡ front ++ rest → rest ≢ [] → length front ≤ input_limit → handover_fault front ≡ Some (at_line (length (whole_lines front) + 1) Unended)
spelled-handover-cut events front rest script is some fits =
    fits-so front (handover_text_fault front) fits ∙ spelled-script-cut events front rest script is some
