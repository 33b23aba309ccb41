-- A text without a fault is the text of a script of the job, and such a text is read as this script.
use Rattle.std.proofs.Common.{◌≡◌, ◌≢◌, ℕ, ◌+◌, ◌<◌, Bool, true, false, List, [], ◌∷◌, ◌++◌, codes, Option, Some, None, Result, Ok, Err, IfOk, refl, sym, ap, ◌∙◌, subst, arith, append_assoc, nat_le}
use Rattle.std.specs.List.{list_all}
use Rattle.std.proofs.lemmas.Bool.{and_from, and_parts, leb-false, lt-leb}
use Rattle.std.proofs.lemmas.List.{append-nil}
use Rattle.xv_base.specs.declared.text.LineFault.{LineFault}
use Rattle.xv_base.specs.declared.text.TextError.{TextError}
use Rattle.xv_base.specs.declared.text.TextError.TheVariants.{Fault, NoMemory}
use Rattle.xv_base.specs.declared.text.LineWhy.{LineWhy}
use Rattle.xv_base.specs.declared.text.LineWhy.TheVariants.{BadWord, OutOfRange}
use Rattle.xv_text.specs.Lines.{has_rest, lines_of, line, text_of}
use Rattle.xv_text.specs.Fields.{fields_fault}
use Rattle.xv_text.specs.Reading.{first_fault, last_state, at_line_or}
use Rattle.xv_text.proofs.Rows.{none_of_both, no_fault_if}
use Rattle.xv_text.proofs.Apart.{ArePlainLines, lines_of-text_of, has_rest-text_of, text_of-lines_of}
use Rattle.xv_text.specs.Reading.{IfFault}
use Rattle.xv_model.specs.Job.{Job}
use Rattle.xv_script.specs.Lines.{line_words, script_text}
use Rattle.xv_script.specs.Words.{spelling, word_of, named, kinds, line_said}
use Rattle.xv_script.specs.Script.{Script, first_script, counts_of, count_of, number_said, range_fault, word_fault, line_fault, line_by, line_in, with_line, script_reader, text_fault, text_lines, is_in, IsScriptOf}
use Rattle.xv_script.specs.declared.counts.Counts.{Counts}
use Rattle.xv_script.specs.declared.line.Line.{Line}
use Rattle.xv_script.specs.declared.word.Word.{Word}
use Rattle.xv_script.specs.declared.word.Word.TheVariants.{Stop as StopWord}
use Rattle.xv_script.proofs.Sayings.{spelled, word_of-spelling, behind, fields_said, text_said, line-fields_said, behind_read, behind_said, AreSmall, said_in, said_in-job, word_in, number_in, line_back, line_there, line_fields, fields_plain}

-- a script that goes on, and one that has stopped
abbrev so_far : List Line → Script
so_far lines = record { lines = lines; stopped = false }

abbrev stopped : List Line → Script
stopped lines = record { lines = lines; stopped = true }

-- a line without a fault: it is the text of what it says, which is in the job
record IsLine (job : Job) (l : List (List ℕ)) (said : Option Line) : Type 0 where
  text : line l ≡ text_said said
  in_job : said_in job said ≡ true

word_sound : (job : Job) (field : List ℕ) (word : Word) (args : List (List ℕ)) → word_of field ≡ Some word
    → word_fault (counts_of job) (Some word) args ≡ None → IsLine job (field ∷ args) (line_said word (number_said word args))
word_sound job field word args is h =
    let a = none_of_both (fields_fault (kinds (named word)) args) (range_fault (counts_of job) word args) h in
    let n = number_said word args in
    let there : n < count_of (counts_of job) (named word) = leb-false (count_of (counts_of job) (named word)) n (no_fault_if _ OutOfRange a.1) in
    record {
      text = ap (λ w. line (w ∷ args)) (spelled field word is) ∙ ap (λ xs. line (spelling word ∷ xs)) (behind_read (named word) args a.0) ∙ line-fields_said word n;
      in_job = said_in-job job word n there;
    }

line_sound_by : (job : Job) (field : List ℕ) (args : List (List ℕ)) (word : Option Word) → word_of field ≡ word
    → word_fault (counts_of job) word args ≡ None → IsLine job (field ∷ args) (line_by word args)
line_sound_by job field args None is h = absurd (cc)
line_sound_by job field args (Some word) is h = word_sound job field word args is h

no_word : word_of [] ≡ None
unfolding word_of
no_word = refl

line_sound : (job : Job) (l : List (List ℕ)) → line_fault (counts_of job) l ≡ None → IsLine job l (line_in l)
line_sound job [] h =
    let P : Option Word → Type 0 = λ w. word_fault (counts_of job) w [] ≡ None in
    let bad : Some BadWord ≡ None = subst P no_word h in
    absurd (cc)
line_sound job (field ∷ args) h = line_sound_by job field args (word_of field) refl h

-- the lines that are left make the end of a script
record IsEnd (job : Job) (ls : List (List (List ℕ))) (rest : Bool) (more : List Line) : Type 0 where
  text : text_of ls ≡ script_text more
  over : rest ≡ false
  in_job : list_all (is_in job) more ≡ true

record Ends (job : Job) (lines : List Line) (ls : List (List (List ℕ))) (rest : Bool) : Type 0 where
  more : List Line
  lines_are : (last_state (script_reader job) (so_far lines) ls).lines ≡ lines ++ more
  is_end : IsEnd job ls rest more

ends_here : (job : Job) (lines : List Line) (n : ℕ) (ls : List (List (List ℕ))) (rest : Bool) → first_fault (script_reader job) true (stopped lines) n ls rest ≡ None → (ls ≡ []) × (rest ≡ false)
ends_here job lines n [] false h = (refl, refl)
ends_here job lines n [] true h = absurd (cc)
ends_here job lines n (l ∷ ls) rest h = absurd (cc)

stop_ends : (job : Job) (lines : List Line) (n : ℕ) (l : List (List ℕ)) (ls : List (List (List ℕ))) (rest : Bool) → line l ≡ codes "stop" ++ 10 ∷ [] → line_in l ≡ None
    → (ls ≡ []) × (rest ≡ false) → Ends job lines (l ∷ ls) rest
stop_ends job lines n l ls rest e said over = record {
  more = [];
  lines_are =
      ap (λ (found : Option Line). (last_state (script_reader job) (with_line (so_far lines) found) ls).lines) said
      ∙ ap (λ (xs : List (List (List ℕ))). (last_state (script_reader job) (stopped lines) xs).lines) over.0
      ∙ sym (append-nil lines);
  is_end = record {
    text = ap (λ (xs : List (List (List ℕ))). line l ++ text_of xs) over.0 ∙ append-nil (line l) ∙ e;
    over = over.1;
    in_job = refl;
  };
}

line_ends : (job : Job) (lines : List Line) (l : List (List ℕ)) (ls : List (List (List ℕ))) (rest : Bool) (x : Line) → line l ≡ text_said (Some x) → line_in l ≡ Some x
    → is_in job x ≡ true → Ends job (lines ++ x ∷ []) ls rest → Ends job lines (l ∷ ls) rest
line_ends job lines l ls rest x text said there k = record {
  more = x ∷ k.more;
  lines_are =
      ap (λ (found : Option Line). (last_state (script_reader job) (with_line (so_far lines) found) ls).lines) said
      ∙ k.lines_are ∙ append_assoc lines (x ∷ []) k.more;
  is_end = record {
    text =
        ap (λ (xs : List ℕ). xs ++ text_of ls) text
        ∙ ap (λ (xs : List ℕ). text_said (Some x) ++ xs) k.is_end.text
        ∙ append_assoc (line_words x) (10 ∷ []) (script_text k.more);
    over = k.is_end.over;
    in_job = and_from (is_in job x) (list_all (is_in job) k.more) there k.is_end.in_job;
  };
}

later_none : (n : ℕ) (why : Option LineWhy) (later : Option LineFault) → at_line_or n why later ≡ None → (why ≡ None) × (later ≡ None)
later_none n None later h = (refl, h)
later_none n (Some why) later h = absurd (cc)

by_line : (job : Job) (lines : List Line) (n : ℕ) (l : List (List ℕ)) (ls : List (List (List ℕ))) (rest : Bool) (said : Option Line) → line_in l ≡ said → IsLine job l said
    → first_fault (script_reader job) true (with_line (so_far lines) said) (n + 1) ls rest ≡ None
    → ((more : List Line) → first_fault (script_reader job) true (so_far more) (n + 1) ls rest ≡ None → Ends job more ls rest)
    → Ends job lines (l ∷ ls) rest
by_line job lines n l ls rest None is h later go_on = stop_ends job lines n l ls rest h.text is (ends_here job lines (n + 1) ls rest later)
by_line job lines n l ls rest (Some x) is h later go_on = line_ends job lines l ls rest x h.text is h.in_job (go_on (lines ++ x ∷ []) later)

sound : (job : Job) (ls : List (List (List ℕ))) (lines : List Line) (n : ℕ) (rest : Bool) → first_fault (script_reader job) true (so_far lines) n ls rest ≡ None → Ends job lines ls rest
sound job [] lines n rest h = absurd (cc)
sound job (l ∷ ls) lines n rest h =
    let a = later_none n (line_fault (counts_of job) l) (first_fault (script_reader job) true (with_line (so_far lines) (line_in l)) (n + 1) ls rest) h in
    by_line job lines n l ls rest (line_in l) refl (line_sound job l a.0) a.1 (λ more k. sound job ls more (n + 1) rest k)

-- a text without a fault
pub record IsRead (job : Job) (text : List ℕ) (lines : List Line) : Type 0 where
  pub spells : text ≡ script_text lines
  pub script : IsScriptOf job lines

pub text_is_script : (job : Job) (text : List ℕ) (first : ℕ) → text_fault (counts_of job) first text ≡ None → IsRead job text (text_lines (counts_of job) text)
text_is_script job text first h =
    let k = sound job (lines_of text) [] first (has_rest text) h in
    let same : text_lines (counts_of job) text ≡ k.more = k.lines_are in
    let P : List Line → Type 0 = λ ls. IsRead job text ls in
    subst P (sym same) (record {
      spells = sym (text_of-lines_of text k.is_end.over) ∙ k.is_end.text;
      script = record { in_job = k.is_end.in_job };
    })

-- the lines of a script, each as its fields
abbrev pub stop_line : List (List ℕ)
stop_line = fields_said StopWord 0

abbrev pub script_lines : List Line → List (List (List ℕ))
script_lines [] = stop_line ∷ []
script_lines (l ∷ ls) = line_fields l ∷ script_lines ls

pub text_of-script_lines : (lines : List Line) → text_of (script_lines lines) ≡ script_text lines
text_of-script_lines [] = refl
text_of-script_lines (l ∷ ls) =
    ap (λ (xs : List ℕ). xs ++ text_of (script_lines ls)) (line-fields_said (word_in l) (number_in l) ∙ ap text_said (line_back l))
    ∙ append_assoc (line_words l) (10 ∷ []) (text_of (script_lines ls))
    ∙ ap (λ (xs : List ℕ). line_words l ++ 10 ∷ xs) (text_of-script_lines ls)

pub script_lines_plain : (job : Job) → AreSmall (counts_of job) → (lines : List Line) → list_all (is_in job) lines ≡ true → ArePlainLines (script_lines lines)
script_lines_plain job small [] h = ((omega arith, fields_plain (counts_of job) StopWord 0 small (omega arith)), tt)
script_lines_plain job small (l ∷ ls) h =
    let a = and_parts (is_in job l) (list_all (is_in job) ls) h in
    ((omega arith, fields_plain (counts_of job) (word_in l) (number_in l) small (line_there job l a.0)), script_lines_plain job small ls a.1)

-- the line of a word with the number of something that is there
pub record IsGone (job : Job) (l : List (List ℕ)) (said : Option Line) : Type 0 where
  pub no_fault : line_fault (counts_of job) l ≡ None
  pub says : line_in l ≡ said

pub said_well : (job : Job) → AreSmall (counts_of job) → (word : Word) (n : ℕ) → n < count_of (counts_of job) (named word)
    → IsGone job (fields_said word n) (line_said word n)
said_well job small word n there =
    let b = behind_said (counts_of job) (named word) n small there in
    let says : number_said word (behind (named word) n) ≡ n = b.says in
    let not_past : nat_le (count_of (counts_of job) (named word)) n ≡ false = lt-leb _ n there in
    let P : Option Word → Type 0 = λ w. word_fault (counts_of job) w (behind (named word) n) ≡ None in
    record {
      no_fault = subst P (sym (word_of-spelling word)) (rw (b.no_fault, says, not_past) refl);
      says = ap (λ (w : Option Word). line_by w (behind (named word) n)) (word_of-spelling word) ∙ ap (line_said word) says;
    }

record Goes (job : Job) (lines : List Line) (n : ℕ) (ls : List (List (List ℕ))) (more : List Line) : Type 0 where
  no_fault : first_fault (script_reader job) true (so_far lines) n ls false ≡ None
  lines_are : (last_state (script_reader job) (so_far lines) ls).lines ≡ lines ++ more

goes_by : (job : Job) (lines : List Line) (n : ℕ) (l : List (List ℕ)) (ls : List (List (List ℕ))) (said : Option Line) → IsGone job l said
    → first_fault (script_reader job) true (so_far lines) n (l ∷ ls) false ≡ first_fault (script_reader job) true (with_line (so_far lines) said) (n + 1) ls false
goes_by job lines n l ls said g =
    ap (λ (why : Option LineWhy). at_line_or n why (first_fault (script_reader job) true (with_line (so_far lines) (line_in l)) (n + 1) ls false)) g.no_fault
    ∙ ap (λ (found : Option Line). first_fault (script_reader job) true (with_line (so_far lines) found) (n + 1) ls false) g.says

goes : (job : Job) → AreSmall (counts_of job) → (more lines : List Line) (n : ℕ) → list_all (is_in job) more ≡ true → Goes job lines n (script_lines more) more
goes job small [] lines n there =
    let g = said_well job small StopWord 0 (omega arith) in
    record {
      no_fault = goes_by job lines n stop_line [] None g;
      lines_are = ap (λ (found : Option Line). (with_line (so_far lines) found).lines) g.says ∙ sym (append-nil lines);
    }
goes job small (x ∷ more) lines n there =
    let a = and_parts (is_in job x) (list_all (is_in job) more) there in
    let P : Option Line → Type 0 = λ found. IsGone job (line_fields x) found in
    let g = subst P (line_back x) (said_well job small (word_in x) (number_in x) (line_there job x a.0)) in
    let k = goes job small more (lines ++ x ∷ []) (n + 1) a.1 in
    record {
      no_fault = goes_by job lines n (line_fields x) (script_lines more) (Some x) g ∙ k.no_fault;
      lines_are =
          ap (λ (found : Option Line). (last_state (script_reader job) (with_line (so_far lines) found) (script_lines more)).lines) g.says
          ∙ k.lines_are ∙ append_assoc lines (x ∷ []) more;
    }

pub script_is_read : (job : Job) → AreSmall (counts_of job) → (text : List ℕ) (lines : List Line) (first : ℕ) → IsScriptOf job lines → text ≡ script_text lines
    → (text_fault (counts_of job) first text ≡ None) × (text_lines (counts_of job) text ≡ lines)
script_is_read job small text lines first h is =
    let g = goes job small lines [] first h.in_job in
    let spelt : text ≡ text_of (script_lines lines) = is ∙ sym (text_of-script_lines lines) in
    let ls : lines_of text ≡ script_lines lines = ap lines_of spelt ∙ lines_of-text_of (script_lines lines) (script_lines_plain job small lines h.in_job) in
    let over : has_rest text ≡ false = ap has_rest spelt ∙ has_rest-text_of (script_lines lines) in (
      ap (λ (xs : List (List (List ℕ))). first_fault (script_reader job) true first_script first xs (has_rest text)) ls
          ∙ ap (λ (b : Bool). first_fault (script_reader job) true first_script first (script_lines lines) b) over
          ∙ g.no_fault,
      ap (λ (xs : List (List (List ℕ))). (last_state (script_reader job) first_script xs).lines) ls ∙ g.lines_are,
    )

-- what follows where a text is read, and where it is refused
if_ok : {A E : Type 0} (P Q R : A → Type 0) (r : Result A E) → IfOk r P → IfOk r Q → ((x : A) → P x → Q x → R x) → IfOk r R
if_ok P Q R (Ok x) p q f = f x p q
if_ok P Q R (Err e) p q f = tt

if_fault : {A : Type 0} (P Q : LineFault → Type 0) (r : Result A TextError) → IfFault r P → ((fault : LineFault) → P fault → Q fault) → IfFault r Q
if_fault P Q (Ok x) p f = tt
if_fault P Q (Err (Fault fault)) p f = f fault p
if_fault P Q (Err NoMemory) p f = tt

pub record Answers {A : Type 0} (job : Job) (first : ℕ) (text : List ℕ) (r : Result A TextError) (items : A → List Line) : Type 0 where
  pub fault : IfFault r (λ fault. text_fault (counts_of job) first text ≡ Some fault)
  pub no_fault : IfOk r (λ x. text_fault (counts_of job) first text ≡ None)
  pub lines : IfOk r (λ x. items x ≡ text_lines (counts_of job) text)
  pub spells : IfOk r (λ x. text ≡ script_text (items x))
  pub script : IfOk r (λ x. IsScriptOf job (items x))
  pub only : IfOk r (λ x. (lines : List Line) → IsScriptOf job lines → text ≡ script_text lines → items x ≡ lines)
  pub refused : IfFault r (λ fault. (lines : List Line) → IsScriptOf job lines → text ≢ script_text lines)

some_none : {X : Type 0} (x : X) (o : Option X) → o ≡ Some x → o ≡ None → ⊥
some_none x o e f = absurd (cc)

pub answers : {A : Type 0} (job : Job) (counts : Counts) (first : ℕ) (text : List ℕ) (r : Result A TextError) (items : A → List Line) → counts ≡ counts_of job → AreSmall counts
    → IfFault r (λ fault. text_fault counts first text ≡ Some fault)
    → IfOk r (λ x. text_fault counts first text ≡ None)
    → IfOk r (λ x. items x ≡ text_lines counts text)
    → Answers job first text r items
answers {A = A} job counts first text r items is small fault none said =
    let T = text_fault (counts_of job) first text in
    let L = text_lines (counts_of job) text in
    let few : AreSmall (counts_of job) = subst AreSmall is small in
    let P : Counts → Type 0 = λ c. IfFault r (λ f. text_fault c first text ≡ Some f) in
    let Q : Counts → Type 0 = λ c. IfOk r (λ x. text_fault c first text ≡ None) in
    let R : Counts → Type 0 = λ c. IfOk r (λ x. items x ≡ text_lines c text) in
    let a = subst P is fault in
    let b = subst Q is none in
    let d = subst R is said in
    let S : A → Type 0 = λ x. T ≡ None in
    let I : A → Type 0 = λ x. items x ≡ L in
    let at : (x : A) → T ≡ None → items x ≡ L → IsRead job text (items x) = λ x n e.
    let V : List Line → Type 0 = λ ls. IsRead job text ls in subst V (sym e) (text_is_script job text first n) in
    record {
      fault = a;
      no_fault = b;
      lines = d;
      spells = if_ok S I (λ x. text ≡ script_text (items x)) r b d (λ x n e. (at x n e).spells);
      script = if_ok S I (λ x. IsScriptOf job (items x)) r b d (λ x n e. (at x n e).script);
      only = if_ok S I (λ x. (lines : List Line) → IsScriptOf job lines → text ≡ script_text lines → items x ≡ lines) r b d
          (λ x n e lines h t. e ∙ (script_is_read job few text lines first h t).1);
      refused = if_fault (λ f. T ≡ Some f) (λ f. (lines : List Line) → IsScriptOf job lines → text ≢ script_text lines) r a
          (λ f e lines h t. some_none f T e (script_is_read job few text lines first h t).0);
    }
