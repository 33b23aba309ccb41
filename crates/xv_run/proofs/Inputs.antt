-- Where a text is read as a job alone, what stands behind the job is a fault.
use Rattle.std.proofs.Common.{◌≡◌, ℕ, suc, map, length-drop, ◌+◌, ◌≤◌, ◌==◌, Bool, true, false, List, [], ◌∷◌, ◌++◌, length, take, drop, Option, Some, None, refl, sym, ap, ◌∙◌, arith, append-nil}
use Rattle.std.specs.Prelude.{if◌then◌else◌, ◌<◌, ◌||◌}
use Rattle.std.specs.List.{list_any}
use Rattle.std.proofs.Math.Seq.{drop-append_seam}
use Rattle.std.proofs.lemmas.List.{take-append-drop}
use Rattle.xv_base.specs.declared.text.LineWhy.{LineWhy}
use Rattle.xv_base.specs.declared.text.LineWhy.TheVariants.{Order, Unended}
use Rattle.xv_base.specs.declared.text.LineFault.{LineFault}
use Rattle.xv_text.specs.Lines.{lines_of, has_rest, whole_lines, before_first, fields}
use Rattle.xv_text.specs.Reading.{Reader, first_fault, line_count, at_line, at_line_or, one_more_unless}
use Rattle.xv_job.specs.Written.{Written, IsGoodWritten}
use Rattle.xv_job.specs.Texts.{text_fault}
use Rattle.xv_job.specs.JobText.{job_lines, job_text}
use Rattle.xv_job.specs.Draft.{first_draft, job_reader}
use Rattle.xv_job.proofs.Texts.{job_read, lines_are, rest_is}
use Rattle.xv_top.specs.Refused.{input_limit}
use Rattle.xv_top.proofs.Refusals.{lt-is_not}
use Rattle.xv_run.specs.Refused.{run_fault, IsJob}

-- the fault of what stands behind a text
abbrev pub order_at : ℕ → List (List (List ℕ)) → Bool → Option LineFault
order_at n [] rest = if rest then Some (at_line n Order) else None
order_at n (l ∷ ls) rest = Some (at_line n Order)

-- a fault within a text is one where the text ends the input too
end-by : (b : Bool) (n : ℕ) (rest : Bool) (fault : LineFault) → (if b then None else Some (at_line n Unended)) ≡ Some fault → (if b then (if rest then Some (at_line n Order) else None) else Some (at_line n Unended)) ≡ Some fault
end-by true n rest fault is = absurd (cc)
end-by false n rest fault is = is

why-by : (why : Option LineWhy) (n : ℕ) (a b : Option LineFault) (fault : LineFault) → (a ≡ Some fault → b ≡ Some fault) → at_line_or n why a ≡ Some fault → at_line_or n why b ≡ Some fault
why-by (Some why) n a b fault f is = is
why-by None n a b fault f is = f is

line-by : (e : Bool) (n : ℕ) (a b : Option LineFault) (fault : LineFault) → (a ≡ Some fault → b ≡ Some fault) → (if e then None else a) ≡ Some fault → (if e then Some (at_line n Order) else b) ≡ Some fault
line-by true n a b fault f is = absurd (cc)
line-by false n a b fault f is = f is

within-text : {S : Type 0} (r : Reader S) (s : S) (n : ℕ) (ls : List (List (List ℕ))) (rest : Bool) (fault : LineFault) → first_fault r false s n ls rest ≡ Some fault → first_fault r true s n ls rest ≡ Some fault
within-text r s n [] rest fault is = end-by (r.is_ended s) n rest fault is
within-text r s n (l ∷ ls) rest fault is =
    let later = first_fault r false (r.next s l) (n + 1) ls rest in
    let later_too = first_fault r true (r.next s l) (n + 1) ls rest in
    line-by (r.is_ended s) n (at_line_or n (r.fault s l) later) (at_line_or n (r.fault s l) later_too) fault
    (why-by (r.fault s l) n later later_too fault (within-text r (r.next s l) (n + 1) ls rest fault)) is

-- where the text has none, that of what stands behind it is the first
end-behind : (b : Bool) (n m : ℕ) (rest : Bool) → m ≡ n + 0 → (if b then None else Some (at_line n Unended)) ≡ None → (if b then (if rest then Some (at_line n Order) else None) else Some (at_line n Unended)) ≡ order_at m [] rest
end-behind true n m rest at none =
    let same : n ≡ m = omega (arith, at) in
    ap (λ (k : ℕ). order_at k [] rest) same
end-behind false n m rest at none = absurd (cc)

why-behind : (why : Option LineWhy) (n m k : ℕ) (l : List (List ℕ)) (ls : List (List (List ℕ))) (rest : Bool) (a b : Option LineFault) → m ≡ n + one_more_unless why k → at_line_or n why a ≡ None
    → (a ≡ None → m ≡ (n + 1) + k → b ≡ order_at m (drop k ls) rest) → at_line_or n why b ≡ order_at m (drop (one_more_unless why k) (l ∷ ls)) rest
why-behind (Some why) n m k l ls rest a b at none f = absurd (cc)
why-behind None n m k l ls rest a b at none f =
    let one : k + 1 ≡ suc k = omega arith in
    f none (omega (arith, at)) ∙ ap (λ (j : ℕ). order_at m (drop j (l ∷ ls)) rest) (sym one)

line-behind : (e : Bool) (n m c : ℕ) (l : List (List ℕ)) (ls : List (List (List ℕ))) (rest : Bool) (a b : Option LineFault) → m ≡ n + (if e then 0 else c) → (if e then None else a) ≡ None
    → (a ≡ None → m ≡ n + c → b ≡ order_at m (drop c (l ∷ ls)) rest) → (if e then Some (at_line n Order) else b) ≡ order_at m (drop (if e then 0 else c) (l ∷ ls)) rest
line-behind true n m c l ls rest a b at none f =
    let same : n ≡ m = omega (arith, at) in
    ap (λ (k : ℕ). Some (at_line k Order)) same
line-behind false n m c l ls rest a b at none f = f none at

behind-text : {S : Type 0} (r : Reader S) (s : S) (n m : ℕ) (ls : List (List (List ℕ))) (rest : Bool) → m ≡ n + line_count r s ls → first_fault r false s n ls rest ≡ None → first_fault r true s n ls rest ≡ order_at m (drop (line_count r s ls) ls) rest
behind-text r s n m [] rest at none = end-behind (r.is_ended s) n m rest at none
behind-text r s n m (l ∷ ls) rest at none =
    let later = first_fault r false (r.next s l) (n + 1) ls rest in
    let later_too = first_fault r true (r.next s l) (n + 1) ls rest in
    let k = line_count r (r.next s l) ls in
    line-behind (r.is_ended s) n m (one_more_unless (r.fault s l) k) l ls rest (at_line_or n (r.fault s l) later) (at_line_or n (r.fault s l) later_too) at none
    (λ fine at_why. why-behind (r.fault s l) n m k l ls rest later later_too at_why fine (λ clean there. behind-text r (r.next s l) (n + 1) m ls rest there clean))

-- bytes behind a text are a line or a rest
grow : (n b : ℕ) (items : List (List ℕ)) (rest : Bool) → order_at n (map fields items) false ≡ Some (at_line n Order) → order_at n (map fields (before_first b items)) rest ≡ Some (at_line n Order)
grow n b [] rest is = absurd (cc)
grow n b (item ∷ items) rest is = refl

one-some : (n b : ℕ) (text : List ℕ) (rest feed : Bool) → (b == 10) ≡ feed → (feed || list_any (λ b. b == 10) text) ≡ true → (list_any (λ b. b == 10) text ≡ true → order_at n (lines_of text) false ≡ Some (at_line n Order)) → order_at n (lines_of (b ∷ text)) rest ≡ Some (at_line n Order)
one-some n b text rest true is any behind = rw is refl
one-some n b text rest false is any behind = rw is (grow n b (whole_lines text) rest (behind any))

lines-some : (n : ℕ) (text : List ℕ) (rest : Bool) → list_any (λ b. b == 10) text ≡ true → order_at n (lines_of text) rest ≡ Some (at_line n Order)
lines-some n [] rest any = absurd (cc)
lines-some n (b ∷ text) rest any = one-some n b text rest (b == 10) refl any (lines-some n text false)

some-by : (n b : ℕ) (text : List ℕ) (any : Bool) → list_any (λ b. b == 10) (b ∷ text) ≡ any → order_at n (lines_of (b ∷ text)) (if any then has_rest text else true) ≡ Some (at_line n Order)
some-by n b text true is = lines-some n (b ∷ text) (has_rest text) is
some-by n b text false is = rest-some (lines_of (b ∷ text))
  where
    rest-some : (ls : List (List (List ℕ))) → order_at n ls true ≡ Some (at_line n Order)
    rest-some [] = refl
    rest-some (l ∷ ls) = refl

pub bytes-behind : (n b : ℕ) (text : List ℕ) → order_at n (lines_of (b ∷ text)) (has_rest (b ∷ text)) ≡ Some (at_line n Order)
bytes-behind n b text = some-by n b text (list_any (λ b. b == 10) (b ∷ text)) refl

-- an input that is not too long
abbrev pub alone : List ℕ → Option LineFault
alone bytes = first_fault job_reader true first_draft 1 (lines_of bytes) (has_rest bytes)

pub short-input : (bytes : List ℕ) → length bytes ≤ input_limit → run_fault bytes ≡ alone bytes
short-input bytes within = rw (lt-is_not input_limit (length bytes) within) refl

pub job-fault : (bytes : List ℕ) (fault : LineFault) → length bytes ≤ input_limit → text_fault bytes ≡ Some fault → run_fault bytes ≡ Some fault
job-fault bytes fault within is = short-input bytes within ∙ within-text job_reader first_draft 1 (lines_of bytes) (has_rest bytes) fault is

pub alone-behind : (bytes behind : List ℕ) (w : Written) (line : ℕ) → text_fault bytes ≡ None → IsGoodWritten w → bytes ≡ job_text w ++ behind → line ≡ length (job_lines w) + 1 → alone bytes ≡ order_at line (lines_of behind) (has_rest behind)
alone-behind bytes behind w line none good is at =
    let parts = lines_are w behind bytes good is in
    let read = job_read w behind bytes good is in
    let count : line_count job_reader first_draft (lines_of bytes) ≡ length (job_lines w) = ap (λ (ls : List (List (List ℕ))). line_count job_reader first_draft ls) parts ∙ read.count in
    let cut : drop (line_count job_reader first_draft (lines_of bytes)) (lines_of bytes) ≡ lines_of behind =
    ap (λ n. drop n (lines_of bytes)) count ∙ (ap (λ (ls : List (List (List ℕ))). drop (length (job_lines w)) ls) parts ∙ drop-append_seam (job_lines w) (lines_of behind)) in
    behind-text job_reader first_draft 1 line (lines_of bytes) (has_rest bytes) (omega (arith, at, count)) none
    ∙ (ap (λ (ls : List (List (List ℕ))). order_at line ls (has_rest bytes)) cut
    ∙ ap (λ (r : Bool). order_at line (lines_of behind) r) (rest_is w behind bytes is))

behind-job : (bytes behind : List ℕ) (w : Written) (line : ℕ) → length bytes ≤ input_limit → text_fault bytes ≡ None → IsGoodWritten w → bytes ≡ job_text w ++ behind → line ≡ length (job_lines w) + 1 → run_fault bytes ≡ order_at line (lines_of behind) (has_rest behind)
behind-job bytes behind w line within none good is at = short-input bytes within ∙ alone-behind bytes behind w line none good is at

joined : (text front : List ℕ) (n : ℕ) → take n text ≡ front → text ≡ front ++ drop n text
joined text front n is = sym (take-append-drop n text) ∙ ap (λ xs. xs ++ drop n text) is

behind-some : (bytes behind : List ℕ) (w : Written) (line : ℕ) → length bytes ≤ input_limit → text_fault bytes ≡ None → IsGoodWritten w → bytes ≡ job_text w ++ behind → line ≡ length (job_lines w) + 1 → 0 < length behind → run_fault bytes ≡ Some (at_line line Order)
behind-some bytes [] w line within none good is at some = absurd (let less : 0 < 0 = some in omega (arith, less))
behind-some bytes (b ∷ text) w line within none good is at some = behind-job bytes (b ∷ text) w line within none good is at ∙ bytes-behind line b text

behind-none : (bytes behind : List ℕ) (w : Written) (line : ℕ) → length bytes ≤ input_limit → text_fault bytes ≡ None → IsGoodWritten w → bytes ≡ job_text w ++ behind → line ≡ length (job_lines w) + 1 → length behind ≡ 0 → IsJob bytes w
behind-none bytes (b ∷ text) w line within none good is at few = absurd (let more : suc (length text) ≡ 0 = few in omega (arith, more))
behind-none bytes [] w line within none good is at few = record {
  no_fault = behind-job bytes [] w line within none good is at;
  good = good;
  text = is ∙ append-nil (job_text w);
}

-- a job was read at the front of a text: it is all of it, or what stands behind it is refused
pub job-alone : (text : List ℕ) (w : Written) (n line : ℕ) → length text ≤ input_limit → text_fault text ≡ None → take n text ≡ job_text w → line ≡ length (job_lines w) + 1 → IsGoodWritten w → n ≡ length text → IsJob text w
job-alone text w n line within none front at good whole =
    behind-none text (drop n text) w line within none good (joined text (job_text w) n front) at (omega (arith, whole, length-drop n text))

pub job-followed : (text : List ℕ) (w : Written) (n line : ℕ) → length text ≤ input_limit → text_fault text ≡ None → take n text ≡ job_text w → line ≡ length (job_lines w) + 1 → IsGoodWritten w → n < length text → run_fault text ≡ Some (at_line line Order)
job-followed text w n line within none front at good less =
    behind-some text (drop n text) w line within none good (joined text (job_text w) n front) at (omega (arith, less, length-drop n text))
