-- An operation's line says it, and a line without a fault is the line of the operation that it says.
use Rattle.std.proofs.Common.{◌≡◌, ℕ, zero, suc, ◌<◌, ◌≤◌, ◌^◌, true, List, [], ◌∷◌, length, get_or, codes, Option, Some, None, refl, sym, ap, ◌∙◌, arith, inl, inr, subst}
use Rattle.std.specs.Cmp.Lexicographic.{bytes_decides}
use Rattle.std.proofs.lemmas.Bool.{cases_Bool, le-ltb, ltb-false}
use Rattle.xv_base.specs.Units.{Shape}
use Rattle.xv_text.specs.Fields.{Values, values, fields_fault}
use Rattle.xv_text.specs.Row.{IsRow}
use Rattle.xv_text.proofs.Rows.{none_of_both, no_fault_if, values_row}
use Rattle.xv_text.proofs.Apart.{IsPlain, IsPlainLine}
use Rattle.xv_text.proofs.Spelled.{spelled, has_one_pattern, number_count, pattern_of, spelled-values, values-spelled, fields_fault-spelled, spelled_plain}
use Rattle.xv_trace.specs.declared.op.Op.{Op}
use Rattle.xv_trace.specs.declared.op.Op.TheVariants.{Store, Load, Write, Fetch}
use Rattle.xv_trace.specs.declared.op.Verb.{Verb}
use Rattle.xv_trace.specs.declared.op.Verb.TheVariants.{Store as StoreVerb, Load as LoadVerb, Write as WriteVerb, Fetch as FetchVerb}
use Rattle.xv_trace.specs.Operations.{op_fault, op_count}
use Rattle.xv_trace.specs.Laws.{SaysOp, IsReadBack}
use Rattle.xv_trace.specs.OpText.{verb_of, kinds_of, op_of, op_fields, verb_fault, verb_fault_or, op_line_fault, op_said, op_of_or_none, CanBeSaid, IsGoodOp}
use Rattle.xv_text.specs.Words.{is_spelled}

-- the word of an operation
abbrev pub verb_word : Verb → List ℕ
verb_word StoreVerb = codes "st"
verb_word LoadVerb = codes "ld"
verb_word WriteVerb = codes "wr"
verb_word FetchVerb = codes "rd"

pub word_is : (spelling word : List ℕ) → is_spelled spelling word ≡ true → word ≡ spelling
word_is spelling word h = sym ((bytes_decides spelling word).0 h)

word_of : (word : List ℕ) (verb : Verb) → verb_of word ≡ Some verb → word ≡ verb_word verb
word_of word verb h = elim (cases_Bool (is_spelled (codes "st") word)) [
  | inl store ↦ let e : Some StoreVerb ≡ Some verb = rw store at h in let v : StoreVerb ≡ verb = cc in word_is (codes "st") word store ∙ ap verb_word v
  | inr s ↦ elim (cases_Bool (is_spelled (codes "ld") word)) [
    | inl load ↦ let e : Some LoadVerb ≡ Some verb = rw (s, load) at h in let v : LoadVerb ≡ verb = cc in word_is (codes "ld") word load ∙ ap verb_word v
    | inr l ↦ elim (cases_Bool (is_spelled (codes "wr") word)) [
      | inl write ↦ let e : Some WriteVerb ≡ Some verb = rw (s, l, write) at h in let v : WriteVerb ≡ verb = cc in word_is (codes "wr") word write ∙ ap verb_word v
      | inr w ↦ elim (cases_Bool (is_spelled (codes "rd") word)) [
        | inl fetch ↦ let e : Some FetchVerb ≡ Some verb = rw (s, l, w, fetch) at h in let v : FetchVerb ≡ verb = cc in word_is (codes "rd") word fetch ∙ ap verb_word v
        | inr f ↦ let e : None ≡ Some verb = rw (s, l, w, f) at h in absurd (cc)
      ]
    ]
  ]
]

pub verb_of-word : (verb : Verb) → verb_of (verb_word verb) ≡ Some verb
verb_of-word StoreVerb = refl
verb_of-word LoadVerb = refl
verb_of-word WriteVerb = refl
verb_of-word FetchVerb = refl

-- the fields behind the word of each operation are spelled by their kinds
one_pattern : (verb : Verb) → has_one_pattern (kinds_of verb) ≡ true
one_pattern StoreVerb = refl
one_pattern LoadVerb = refl
one_pattern WriteVerb = refl
one_pattern FetchVerb = refl

fields_of_verb : (verb : Verb) (row : Values) → op_fields (op_of verb row) ≡ verb_word verb ∷ spelled (kinds_of verb) 0 row
fields_of_verb StoreVerb row = refl
fields_of_verb LoadVerb row = refl
fields_of_verb WriteVerb row = refl
fields_of_verb FetchVerb row = refl

-- the parts of the test on a line
pub record IsOpLine (shape : Shape) (room : ℕ) (verb : Verb) (args : List (List ℕ)) : Type 0 where
  pub fields : fields_fault (kinds_of verb) args ≡ None
  pub acts : op_fault shape (op_of verb (values (kinds_of verb) args)) ≡ None
  pub few : op_count (op_of verb (values (kinds_of verb) args)) ≤ room

pub verb_parts : (shape : Shape) (room : ℕ) (verb : Verb) (args : List (List ℕ)) → verb_fault shape room verb args ≡ None → IsOpLine shape room verb args
verb_parts shape room verb args h =
    let a = none_of_both _ _ h in
    let b = none_of_both _ _ a.1 in
    record { fields = a.0; acts = b.0; few = ltb-false _ _ (no_fault_if _ _ b.1) }

pub verb_from : (shape : Shape) (room : ℕ) (verb : Verb) (args : List (List ℕ)) → IsOpLine shape room verb args → verb_fault shape room verb args ≡ None
verb_from shape room verb args l = rw (l.fields, l.acts, le-ltb room _ l.few) refl

-- an operation that a row says can be said
can_be_said : (verb : Verb) (row : Values) → IsRow (kinds_of verb) row → CanBeSaid (op_of verb row)
can_be_said StoreVerb row r = (r.numbers_fit 0, r.numbers_fit 1, r.pattern refl)
can_be_said LoadVerb row r = (r.numbers_fit 0, r.numbers_fit 1)
can_be_said WriteVerb row r = (r.numbers_fit 0, r.numbers_fit 1, r.numbers_fit 2, r.pattern refl)
can_be_said FetchVerb row r = (r.numbers_fit 0, r.numbers_fit 1, r.numbers_fit 2, r.numbers_fit 3)

-- a line without a fault
verb_line : (shape : Shape) (room : ℕ) (verb : Verb) (word : List ℕ) (args : List (List ℕ)) → verb_of word ≡ Some verb → verb_fault shape room verb args ≡ None
    → SaysOp shape room (word ∷ args) (op_of verb (values (kinds_of verb) args))
verb_line shape room verb word args e h =
    let parts = verb_parts shape room verb args h in
    record {
      said = ap (λ v. op_of_or_none v args) e;
      spelled =
          ap (λ w. w ∷ args) (word_of word verb e)
          ∙ ap (λ fs. verb_word verb ∷ fs) (spelled-values (kinds_of verb) args parts.fields (one_pattern verb))
          ∙ sym (fields_of_verb verb (values (kinds_of verb) args));
      good = record { can_be_said = can_be_said verb (values (kinds_of verb) args) (values_row (kinds_of verb) args parts.fields); acts = parts.acts };
      few = parts.few;
    }

word_and_args : (shape : Shape) (room : ℕ) (verb : Option Verb) (word : List ℕ) (args : List (List ℕ)) → verb_of word ≡ verb → verb_fault_or shape room verb args ≡ None
    → (op : Op) × SaysOp shape room (word ∷ args) op
word_and_args shape room None word args e h = absurd (cc)
word_and_args shape room (Some verb) word args e h = (op_of verb (values (kinds_of verb) args), verb_line shape room verb word args e h)

pub says_op : (shape : Shape) (room : ℕ) (fields : List (List ℕ)) → op_line_fault shape room fields ≡ None → (op : Op) × SaysOp shape room fields op
says_op shape room [] h = absurd (cc)
says_op shape room (word ∷ args) h = word_and_args shape room (verb_of word) word args refl h

pub spelled_by : (shape : Shape) (room : ℕ) (fields : List (List ℕ)) (op : Op) → op_line_fault shape room fields ≡ None → op_said fields ≡ op ∷ [] → fields ≡ op_fields op
spelled_by shape room fields op h said =
    let it = says_op shape room fields h in
    let e : it.0 ∷ [] ≡ op ∷ [] = sym it.1.said ∙ said in
    let same : it.0 ≡ op = cc in
    it.1.spelled ∙ ap op_fields same

-- the row of an operation
abbrev pub verb_of_op : Op → Verb
verb_of_op (Store addr len pat) = StoreVerb
verb_of_op (Load addr len) = LoadVerb
verb_of_op (Write disk block count pat) = WriteVerb
verb_of_op (Fetch disk block offset len) = FetchVerb

abbrev row_of : List ℕ → List ℕ → Values
row_of ns p = record { numbers = ns; pattern = p }

abbrev pub op_row : Op → Values
op_row (Store addr len pat) = row_of (addr ∷ len ∷ []) pat
op_row (Load addr len) = row_of (addr ∷ len ∷ []) []
op_row (Write disk block count pat) = row_of (disk ∷ block ∷ count ∷ []) pat
op_row (Fetch disk block offset len) = row_of (disk ∷ block ∷ offset ∷ len ∷ []) []

fields_of_op : (op : Op) → op_fields op ≡ verb_word (verb_of_op op) ∷ spelled (kinds_of (verb_of_op op)) 0 (op_row op)
fields_of_op (Store addr len pat) = refl
fields_of_op (Load addr len) = refl
fields_of_op (Write disk block count pat) = refl
fields_of_op (Fetch disk block offset len) = refl

op_of-row : (op : Op) → op_of (verb_of_op op) (op_row op) ≡ op
op_of-row (Store addr len pat) = refl
op_of-row (Load addr len) = refl
op_of-row (Write disk block count pat) = refl
op_of-row (Fetch disk block offset len) = refl

two_fit : (a b : ℕ) → a < 2 ^ 32 → b < 2 ^ 32 → (i : ℕ) → get_or (a ∷ b ∷ []) i 0 < 2 ^ 32
two_fit a b h k zero = h
two_fit a b h k (suc zero) = k
two_fit a b h k (suc (suc i)) = omega arith

three_fit : (a b c : ℕ) → a < 2 ^ 32 → b < 2 ^ 32 → c < 2 ^ 32 → (i : ℕ) → get_or (a ∷ b ∷ c ∷ []) i 0 < 2 ^ 32
three_fit a b c h k l zero = h
three_fit a b c h k l (suc i) = two_fit b c k l i

four_fit : (a b c d : ℕ) → a < 2 ^ 32 → b < 2 ^ 32 → c < 2 ^ 32 → d < 2 ^ 32 → (i : ℕ) → get_or (a ∷ b ∷ c ∷ d ∷ []) i 0 < 2 ^ 32
four_fit a b c d h k l m zero = h
four_fit a b c d h k l m (suc i) = three_fit b c d k l m i

row_fits : (op : Op) → CanBeSaid op → IsRow (kinds_of (verb_of_op op)) (op_row op)
row_fits (Store addr len pat) h = record { numbers_fit = two_fit addr len h.0 h.1; pattern = λ _. h.2 }
row_fits (Load addr len) h = record { numbers_fit = two_fit addr len h.0 h.1; pattern = λ e. absurd (cc) }
row_fits (Write disk block count pat) h = record { numbers_fit = three_fit disk block count h.0 h.1 h.2; pattern = λ _. h.3 }
row_fits (Fetch disk block offset len) h = record { numbers_fit = four_fit disk block offset len h.0 h.1 h.2 h.3; pattern = λ e. absurd (cc) }

row_counts : (op : Op) → length (op_row op).numbers ≡ number_count (kinds_of (verb_of_op op))
row_counts (Store addr len pat) = refl
row_counts (Load addr len) = refl
row_counts (Write disk block count pat) = refl
row_counts (Fetch disk block offset len) = refl

row_pattern : (op : Op) → pattern_of (kinds_of (verb_of_op op)) (op_row op).pattern ≡ (op_row op).pattern
row_pattern (Store addr len pat) = refl
row_pattern (Load addr len) = refl
row_pattern (Write disk block count pat) = refl
row_pattern (Fetch disk block offset len) = refl

-- what the spelling of an operation's row says
values_of_op : (op : Op) → CanBeSaid op → op_of (verb_of_op op) (values (kinds_of (verb_of_op op)) (spelled (kinds_of (verb_of_op op)) 0 (op_row op))) ≡ op
values_of_op op h =
    ap (op_of (verb_of_op op)) (values-spelled (kinds_of (verb_of_op op)) (op_row op) (row_fits op h) (one_pattern (verb_of_op op)) (row_counts op) (row_pattern op))
    ∙ op_of-row op

said_by_word : (verb : Verb) (args : List (List ℕ)) → op_said (verb_word verb ∷ args) ≡ op_of verb (values (kinds_of verb) args) ∷ []
said_by_word verb args = ap (λ v. op_of_or_none v args) (verb_of-word verb)

pub op_said-op_fields : (op : Op) → CanBeSaid op → op_said (op_fields op) ≡ op ∷ []
op_said-op_fields op h =
    ap op_said (fields_of_op op) ∙ said_by_word (verb_of_op op) (spelled (kinds_of (verb_of_op op)) 0 (op_row op)) ∙ ap (λ o. o ∷ []) (values_of_op op h)

pub op_line_fault-op_fields : (shape : Shape) (room : ℕ) (op : Op) → IsGoodOp shape op → op_count op ≤ room → op_line_fault shape room (op_fields op) ≡ None
op_line_fault-op_fields shape room op good fits =
    let verb = verb_of_op op in
    let args = spelled (kinds_of verb) 0 (op_row op) in
    let same = values_of_op op good.can_be_said in
    ap (op_line_fault shape room) (fields_of_op op)
    ∙ ap (λ v. verb_fault_or shape room v args) (verb_of-word verb)
    ∙ verb_from shape room verb args (record {
      fields = fields_fault-spelled (kinds_of verb) (op_row op) (row_fits op good.can_be_said);
      acts = ap (op_fault shape) same ∙ good.acts;
      few = omega (arith, ap op_count same);
    })

-- an operation's line is plain
word_plain : (verb : Verb) → IsPlain (verb_word verb)
word_plain StoreVerb = record { no_space = refl; no_feed = refl }
word_plain LoadVerb = record { no_space = refl; no_feed = refl }
word_plain WriteVerb = record { no_space = refl; no_feed = refl }
word_plain FetchVerb = record { no_space = refl; no_feed = refl }

pub op_fields_plain : (op : Op) → CanBeSaid op → IsPlainLine (op_fields op)
op_fields_plain op h =
    let P : List (List ℕ) → Type 0 = λ fs. IsPlainLine fs in
    subst P (sym (fields_of_op op)) (omega arith, (word_plain (verb_of_op op), spelled_plain (kinds_of (verb_of_op op)) (op_row op) (row_fits op h)))

pub read_back : (shape : Shape) (room : ℕ) (op : Op) → IsGoodOp shape op → op_count op ≤ room → IsReadBack shape room op
read_back shape room op good few = record {
  no_fault = op_line_fault-op_fields shape room op good few;
  said = op_said-op_fields op good.can_be_said;
}
