-- A text without a fault is the text of a script, and such a text is read as this script.
use Rattle.std.proofs.Common.{◌≡◌, ◌≢◌, ℕ, ◌+◌, ◌<◌, ◌≤◌, Bool, true, false, List, [], ◌∷◌, ◌++◌, length, length-append, codes, Option, Some, None, Result, Ok, Err, IfOk, refl, sym, ap, ◌∙◌, subst, arith, append_assoc, nat_le}
use Rattle.std.specs.List.{list_all}
use Rattle.std.proofs.lemmas.Bool.{and_from, and_parts, leb-false, lt-leb}
use Rattle.std.proofs.lemmas.List.{append-nil}
use Rattle.xv_base.specs.declared.text.LineFault.{LineFault}
use Rattle.xv_base.specs.declared.text.TextError.{TextError}
use Rattle.xv_base.specs.declared.text.TextError.TheVariants.{Fault, NoMemory}
use Rattle.xv_base.specs.declared.text.LineWhy.{LineWhy}
use Rattle.xv_base.specs.declared.text.LineWhy.TheVariants.{Limit}
use Rattle.xv_text.specs.Lines.{has_rest, lines_of, line, text_of}
use Rattle.xv_text.specs.Reading.{first_fault, last_state, line_count, one_more_unless, at_line_or, IfFault}
use Rattle.xv_text.proofs.Progress.{none_more}
use Rattle.xv_text.proofs.Rows.{none_of_both, no_fault_if}
use Rattle.xv_text.proofs.Apart.{ArePlainLines, lines_of-text_of, has_rest-text_of, text_of-lines_of}
use Rattle.xv_text.specs.declared.limits.TheConstants.{LIMIT_OF_EVENTS}
use Rattle.xv_handover.specs.Lines.{event_words, script_text}
use Rattle.xv_handover.specs.Words.{word_of, args_fault, event_said}
use Rattle.xv_handover.specs.Script.{Script, first_script, event_limit, limit_fault, word_fault, line_fault, event_by, event_in, with_event, reader, text_fault, text_events, is_written, IsScript}
use Rattle.xv_handover.specs.declared.word.Word.{Word}
use Rattle.xv_handover.specs.declared.world.WorldEvent.{WorldEvent}
use Rattle.xv_handover.proofs.Sayings.{event_fields, said_fields, said_written, line-event_fields, word_sound, IsSpelt, event_spelt, stop_spelt}

-- a script that goes on, and one that has stopped
abbrev so_far : List WorldEvent → Script
so_far events = record { events = events; stopped = false }

abbrev stopped : List WorldEvent → Script
stopped events = record { events = events; stopped = true }

-- the text of what a line says
abbrev text_said : Option WorldEvent → List ℕ
text_said None = codes "stop" ++ 10 ∷ []
text_said (Some e) = event_words e ++ 10 ∷ []

line-said_fields : (said : Option WorldEvent) → line (said_fields said) ≡ text_said said
line-said_fields None = refl
line-said_fields (Some e) = line-event_fields e

-- a line without a fault: it is the text of what it says, which can be written and has its place
record IsLine (before : ℕ) (l : List (List ℕ)) (said : Option WorldEvent) : Type 0 where
  text : line l ≡ text_said said
  written : said_written said ≡ true
  in_place : limit_fault before said ≡ None

line_sound_by : (before : ℕ) (field : List ℕ) (args : List (List ℕ)) (word : Option Word) → word_of field ≡ word → word_fault before word args ≡ None → IsLine before (field ∷ args) (event_by word args)
line_sound_by before field args None is h = absurd (cc)
line_sound_by before field args (Some word) is h =
    let a = none_of_both (args_fault word args) _ h in
    let s = word_sound field word args is a.0 in
    record { text = ap line s.spelled ∙ line-said_fields (event_said word args); written = s.written; in_place = a.1 }

line_sound : (before : ℕ) (l : List (List ℕ)) → line_fault before l ≡ None → IsLine before l (event_in l)
line_sound before [] h = absurd (cc)
line_sound before (field ∷ args) h = line_sound_by before field args (word_of field) refl h

-- the lines that are left make the end of a script
record IsEnd (before : ℕ) (ls : List (List (List ℕ))) (rest : Bool) (more : List WorldEvent) : Type 0 where
  text : text_of ls ≡ script_text more
  over : rest ≡ false
  few : before + length more ≤ event_limit
  written : list_all is_written more ≡ true

record Ends (events : List WorldEvent) (ls : List (List (List ℕ))) (rest : Bool) : Type 0 where
  more : List WorldEvent
  events_are : (last_state reader (so_far events) ls).events ≡ events ++ more
  is_end : IsEnd (length events) ls rest more

ends_here : (events : List WorldEvent) (n : ℕ) (ls : List (List (List ℕ))) (rest : Bool) → first_fault reader true (stopped events) n ls rest ≡ None → (ls ≡ []) × (rest ≡ false)
ends_here events n [] false h = (refl, refl)
ends_here events n [] true h = absurd (cc)
ends_here events n (l ∷ ls) rest h = absurd (cc)

stop_ends : (events : List WorldEvent) (l : List (List ℕ)) (ls : List (List (List ℕ))) (rest : Bool) → length events ≤ event_limit → line l ≡ text_said None → event_in l ≡ None
    → (ls ≡ []) × (rest ≡ false) → Ends events (l ∷ ls) rest
stop_ends events l ls rest few e said over = record {
  more = [];
  events_are =
      ap (λ (found : Option WorldEvent). (last_state reader (with_event (so_far events) found) ls).events) said
      ∙ ap (λ (xs : List (List (List ℕ))). (last_state reader (stopped events) xs).events) over.0
      ∙ sym (append-nil events);
  is_end = record {
    text = ap (λ (xs : List (List (List ℕ))). line l ++ text_of xs) over.0 ∙ append-nil (line l) ∙ e;
    over = over.1;
    few = omega arith;
    written = refl;
  };
}

event_ends : (events : List WorldEvent) (l : List (List ℕ)) (ls : List (List (List ℕ))) (rest : Bool) (e : WorldEvent) → line l ≡ text_said (Some e) → event_in l ≡ Some e
    → is_written e ≡ true → Ends (events ++ e ∷ []) ls rest → Ends events (l ∷ ls) rest
event_ends events l ls rest e text said fits k = record {
  more = e ∷ k.more;
  events_are =
      ap (λ (found : Option WorldEvent). (last_state reader (with_event (so_far events) found) ls).events) said
      ∙ k.events_are ∙ append_assoc events (e ∷ []) k.more;
  is_end = record {
    text =
        ap (λ (xs : List ℕ). xs ++ text_of ls) text
        ∙ ap (λ (xs : List ℕ). text_said (Some e) ++ xs) k.is_end.text
        ∙ append_assoc (event_words e) (10 ∷ []) (script_text k.more);
    over = k.is_end.over;
    few = omega (arith, k.is_end.few, length-append events (e ∷ []));
    written = and_from (is_written e) (list_all is_written k.more) fits k.is_end.written;
  };
}

later_none : (n : ℕ) (why : Option LineWhy) (later : Option LineFault) → at_line_or n why later ≡ None → (why ≡ None) × (later ≡ None)
later_none n None later h = (refl, h)
later_none n (Some why) later h = absurd (cc)

has_place : (before : ℕ) (e : WorldEvent) → limit_fault before (Some e) ≡ None → before < event_limit
has_place before e h = leb-false event_limit before (no_fault_if (nat_le event_limit before) (Limit LIMIT_OF_EVENTS) h)

by_line : (events : List WorldEvent) (n : ℕ) (l : List (List ℕ)) (ls : List (List (List ℕ))) (rest : Bool) (said : Option WorldEvent) → length events ≤ event_limit → event_in l ≡ said → IsLine (length events) l said
    → first_fault reader true (with_event (so_far events) said) (n + 1) ls rest ≡ None
    → ((more : List WorldEvent) → length more ≤ event_limit → first_fault reader true (so_far more) (n + 1) ls rest ≡ None → Ends more ls rest)
    → Ends events (l ∷ ls) rest
by_line events n l ls rest None few is h later go_on = stop_ends events l ls rest few h.text is (ends_here events (n + 1) ls rest later)
by_line events n l ls rest (Some e) few is h later go_on =
    let place = has_place (length events) e h.in_place in
    event_ends events l ls rest e h.text is h.written (go_on (events ++ e ∷ []) (omega (arith, place, length-append events (e ∷ []))) later)

sound : (ls : List (List (List ℕ))) (events : List WorldEvent) (n : ℕ) (rest : Bool) → length events ≤ event_limit → first_fault reader true (so_far events) n ls rest ≡ None → Ends events ls rest
sound [] events n rest few h = absurd (cc)
sound (l ∷ ls) events n rest few h =
    let a = later_none n (line_fault (length events) l) (first_fault reader true (with_event (so_far events) (event_in l)) (n + 1) ls rest) h in
    by_line events n l ls rest (event_in l) few refl (line_sound (length events) l a.0) a.1 (λ more f k. sound ls more (n + 1) rest f k)

-- few lines are read
few_by : (events : List WorldEvent) (l : List (List ℕ)) (ls : List (List (List ℕ))) (said : Option WorldEvent) (why : Option LineWhy) → length events ≤ event_limit → event_in l ≡ said → (why ≡ None → limit_fault (length events) said ≡ None)
    → ((more : List WorldEvent) → length more ≤ event_limit → line_count reader (so_far more) ls + length more ≤ event_limit + 1)
    → one_more_unless why (line_count reader (with_event (so_far events) said) ls) + length events ≤ event_limit + 1
few_by events l ls said (Some why) few is placed go_on = omega arith
few_by events l ls None None few is placed go_on = omega (arith, none_more (reader) (stopped events) ls refl)
few_by events l ls (Some e) None few is placed go_on =
    let place = has_place (length events) e (placed refl) in
    omega (arith, go_on (events ++ e ∷ []) (omega (arith, place, length-append events (e ∷ []))), length-append events (e ∷ []))

few_lines : (ls : List (List (List ℕ))) (events : List WorldEvent) → length events ≤ event_limit → line_count reader (so_far events) ls + length events ≤ event_limit + 1
few_lines [] events few = omega arith
few_lines (l ∷ ls) events few =
    few_by events l ls (event_in l) (line_fault (length events) l) few refl (λ none. (line_sound (length events) l none).in_place) (λ more f. few_lines ls more f)

pub text_few : (text : List ℕ) (events : List WorldEvent) → events ≡ [] → line_count reader (so_far events) (lines_of text) ≤ event_limit + 1
text_few text events none = omega (arith, few_lines (lines_of text) events (omega (arith, ap length none)))

-- a text without a fault
record IsRead (text : List ℕ) (events : List WorldEvent) : Type 0 where
  spells : text ≡ script_text events
  script : IsScript events

text_is_script : (text : List ℕ) → text_fault text ≡ None → IsRead text (text_events text)
text_is_script text h =
    let k = sound (lines_of text) [] 1 (has_rest text) (omega arith) h in
    let same : text_events text ≡ k.more = k.events_are in
    let few : length k.more ≤ event_limit = omega (arith, k.is_end.few) in
    let P : List WorldEvent → Type 0 = λ es. IsRead text es in
    subst P (sym same) (record {
      spells = sym (text_of-lines_of text k.is_end.over) ∙ k.is_end.text;
      script = record { few = few; written = k.is_end.written };
    })

-- the lines of a script, each as its fields
abbrev script_lines : List WorldEvent → List (List (List ℕ))
script_lines [] = said_fields None ∷ []
script_lines (e ∷ es) = event_fields e ∷ script_lines es

text_of-script_lines : (events : List WorldEvent) → text_of (script_lines events) ≡ script_text events
text_of-script_lines [] = refl
text_of-script_lines (e ∷ es) =
    ap (λ (xs : List ℕ). xs ++ text_of (script_lines es)) (line-event_fields e)
    ∙ append_assoc (event_words e) (10 ∷ []) (text_of (script_lines es))
    ∙ ap (λ (xs : List ℕ). event_words e ++ 10 ∷ xs) (text_of-script_lines es)

some_fields : (fields : List (List ℕ)) (said : Option WorldEvent) → IsSpelt fields said → 0 < length fields
some_fields fields said s = rw s.is (omega arith)

script_lines_plain : (events : List WorldEvent) → list_all is_written events ≡ true → ArePlainLines (script_lines events)
script_lines_plain [] h = ((omega arith, stop_spelt.plain), tt)
script_lines_plain (e ∷ es) h =
    let a = and_parts (is_written e) (list_all is_written es) h in
    let s = event_spelt e a.0 in
    ((some_fields (event_fields e) (Some e) s, s.plain), script_lines_plain es a.1)

-- the line of an event that has its place, and that of `stop`
record IsGone (before : ℕ) (l : List (List ℕ)) (said : Option WorldEvent) : Type 0 where
  no_fault : line_fault before l ≡ None
  says : event_in l ≡ said

gone : (before : ℕ) (l : List (List ℕ)) (said : Option WorldEvent) → IsSpelt l said → limit_fault before said ≡ None → IsGone before l said
gone before l said s place =
    let P : List (List ℕ) → Type 0 = λ fields. IsGone before fields said in
    let known : word_fault before (word_of s.field) s.args ≡ None = ap (λ (w : Option Word). word_fault before w s.args) s.known ∙ rw (s.no_fault, s.says, place) refl in
    let says : event_by (word_of s.field) s.args ≡ said = ap (λ (w : Option Word). event_by w s.args) s.known ∙ s.says in
    subst P (sym s.is) (record { no_fault = known; says = says })

in_place : (before : ℕ) (e : WorldEvent) → before < event_limit → limit_fault before (Some e) ≡ None
in_place before e h = rw (lt-leb event_limit before h) refl

record Goes (events : List WorldEvent) (n : ℕ) (ls : List (List (List ℕ))) (more : List WorldEvent) : Type 0 where
  no_fault : first_fault reader true (so_far events) n ls false ≡ None
  events_are : (last_state reader (so_far events) ls).events ≡ events ++ more

goes_by : (events : List WorldEvent) (n : ℕ) (l : List (List ℕ)) (ls : List (List (List ℕ))) (said : Option WorldEvent) → IsGone (length events) l said
    → first_fault reader true (so_far events) n (l ∷ ls) false ≡ first_fault reader true (with_event (so_far events) said) (n + 1) ls false
goes_by events n l ls said g =
    ap (λ (why : Option LineWhy). at_line_or n why (first_fault reader true (with_event (so_far events) (event_in l)) (n + 1) ls false)) g.no_fault
    ∙ ap (λ (found : Option WorldEvent). first_fault reader true (with_event (so_far events) found) (n + 1) ls false) g.says

goes : (more events : List WorldEvent) (n : ℕ) → length events + length more ≤ event_limit → list_all is_written more ≡ true → Goes events n (script_lines more) more
goes [] events n few fits =
    let g = gone (length events) (said_fields None) None stop_spelt refl in
    record {
      no_fault = goes_by events n (said_fields None) [] None g;
      events_are = ap (λ (found : Option WorldEvent). (with_event (so_far events) found).events) g.says ∙ sym (append-nil events);
    }
goes (e ∷ more) events n few fits =
    let a = and_parts (is_written e) (list_all is_written more) fits in
    let g = gone (length events) (event_fields e) (Some e) (event_spelt e a.0) (in_place (length events) e (omega arith)) in
    let k = goes more (events ++ e ∷ []) (n + 1) (omega (arith, length-append events (e ∷ []))) a.1 in
    record {
      no_fault = goes_by events n (event_fields e) (script_lines more) (Some e) g ∙ k.no_fault;
      events_are =
          ap (λ (found : Option WorldEvent). (last_state reader (with_event (so_far events) found) (script_lines more)).events) g.says
          ∙ k.events_are ∙ append_assoc events (e ∷ []) more;
    }

pub script_is_read : (text : List ℕ) (events : List WorldEvent) → IsScript events → text ≡ script_text events → (text_fault text ≡ None) × (text_events text ≡ events)
script_is_read text events h is =
    let few : 0 + length events ≤ event_limit = omega (arith, h.few) in
    let g = goes events [] 1 few h.written in
    let spelt : text ≡ text_of (script_lines events) = is ∙ sym (text_of-script_lines events) in
    let ls : lines_of text ≡ script_lines events = ap lines_of spelt ∙ lines_of-text_of (script_lines events) (script_lines_plain events h.written) in
    let over : has_rest text ≡ false = ap has_rest spelt ∙ has_rest-text_of (script_lines events) in (
      ap (λ (xs : List (List (List ℕ))). first_fault reader true first_script 1 xs (has_rest text)) ls
          ∙ ap (λ (b : Bool). first_fault reader true first_script 1 (script_lines events) b) over
          ∙ g.no_fault,
      ap (λ (xs : List (List (List ℕ))). (last_state reader first_script xs).events) ls ∙ g.events_are,
    )

-- what follows where a text is read, and where it is refused
if_ok : {A E : Type 0} (P Q R : A → Type 0) (r : Result A E) → IfOk r P → IfOk r Q → ((x : A) → P x → Q x → R x) → IfOk r R
if_ok P Q R (Ok x) p q f = f x p q
if_ok P Q R (Err e) p q f = tt

if_fault : {A : Type 0} (P Q : LineFault → Type 0) (r : Result A TextError) → IfFault r P → ((fault : LineFault) → P fault → Q fault) → IfFault r Q
if_fault P Q (Ok x) p f = tt
if_fault P Q (Err (Fault fault)) p f = f fault p
if_fault P Q (Err NoMemory) p f = tt

pub record Answers {A : Type 0} (text : List ℕ) (r : Result A TextError) (items : A → List WorldEvent) : Type 0 where
  pub spells : IfOk r (λ x. text ≡ script_text (items x))
  pub script : IfOk r (λ x. IsScript (items x))
  pub only : IfOk r (λ x. (events : List WorldEvent) → IsScript events → text ≡ script_text events → items x ≡ events)
  pub refused : IfFault r (λ fault. (events : List WorldEvent) → IsScript events → text ≢ script_text events)

some_none : {X : Type 0} (x : X) (o : Option X) → o ≡ Some x → o ≡ None → ⊥
some_none x o e f = absurd (cc)

pub answers : {A : Type 0} (text : List ℕ) (r : Result A TextError) (items : A → List WorldEvent)
    → IfFault r (λ fault. text_fault text ≡ Some fault)
    → IfOk r (λ x. text_fault text ≡ None)
    → IfOk r (λ x. items x ≡ text_events text)
    → Answers text r items
answers {A = A} text r items fault none said =
    let S : A → Type 0 = λ x. text_fault text ≡ None in
    let I : A → Type 0 = λ x. items x ≡ text_events text in
    let at : (x : A) → text_fault text ≡ None → items x ≡ text_events text → IsRead text (items x) = λ x n e.
    let V : List WorldEvent → Type 0 = λ es. IsRead text es in subst V (sym e) (text_is_script text n) in
    record {
      spells = if_ok S I (λ x. text ≡ script_text (items x)) r none said (λ x n e. (at x n e).spells);
      script = if_ok S I (λ x. IsScript (items x)) r none said (λ x n e. (at x n e).script);
      only = if_ok S I (λ x. (events : List WorldEvent) → IsScript events → text ≡ script_text events → items x ≡ events) r none said
          (λ x n e events h t. e ∙ (script_is_read text events h t).1);
      refused = if_fault (λ f. text_fault text ≡ Some f) (λ f. (events : List WorldEvent) → IsScript events → text ≢ script_text events) r fault
          (λ f e events h t. some_none f (text_fault text) e (script_is_read text events h t).0);
    }
