-- What fields of each kind say, and how they are written.
use Rattle.std.proofs.Common.{◌≡◌, ℕ, ◌<◌, ◌^◌, List, [], ◌∷◌, length, codes, decimal, Some, None, true, false, Bool, if◌then◌else◌, refl, sym, ap, ◌∙◌, arith}
use Rattle.std.proofs.lemmas.Fmt.{decimal_nonempty}
use Rattle.xv_base.specs.declared.text.LineWhy.{LineWhy}
use Rattle.xv_base.specs.declared.text.LineWhy.TheVariants.{BadNumber, BadHex}
use Rattle.xv_base.specs.Hex.{hex}
use Rattle.xv_base.specs.Units.{Shape}
use Rattle.xv_text.proofs.Rows.{fields_parts, fields_from, values_row}
use Rattle.xv_text.proofs.Spelled.{spelled-values}
use Rattle.xv_text.proofs.Numbers.{number_decimal, number_below, number-decimal, decimal_number}
use Rattle.xv_text.proofs.HexFields.{bytes_hex, bytes_pattern, hex_bytes-hex, hex-is_hex}
use Rattle.xv_job.proofs.Parts.{neither}
use Rattle.xv_text.specs.declared.row.Kind.TheVariants.{Number, Bytes}
use Rattle.xv_text.specs.Fields.{values, number_at, number, is_number, is_hex, is_empty, field_fault, or_else, fields_fault, IsPattern}
use Rattle.xv_trace.specs.declared.op.Op.{Op}
use Rattle.xv_trace.specs.declared.op.Verb.{Verb}
use Rattle.xv_trace.specs.declared.op.Verb.TheVariants.{Store as StoreVerb, Load as LoadVerb, Write as WriteVerb, Fetch as FetchVerb}
use Rattle.xv_trace.specs.declared.op.Op.TheVariants.{Store, Load, Write, Fetch}
use Rattle.xv_trace.specs.OpText.{kinds_of, op_of, op_fields, CanBeSaid, IsGoodOp, tail}
use Rattle.xv_trace.proofs.OpLines.{verb_word, verb_parts, op_said-op_fields, op_line_fault-op_fields}

-- one field
no_test : (b : Bool) (why : LineWhy) → (if b then None else Some why) ≡ None → b ≡ true
no_test true why h = refl
no_test false why h = absurd (cc)

number_there : (field : List ℕ) → field_fault Number field ≡ None → is_number field ≡ true
number_there field h = no_test (is_number field) BadNumber h

bytes_there : (field : List ℕ) → field_fault Bytes field ≡ None → is_hex field ≡ true
bytes_there field h = no_test (is_hex field) BadHex h

-- read: fields without a fault are those that their values are written by
pub nothing : (args : List (List ℕ)) → fields_fault [] args ≡ None → args ≡ []
nothing [] h = refl
nothing (a ∷ args) h = let k = (fields_parts [] (a ∷ args) h).counted in absurd (omega arith)

pub one_number : (args : List (List ℕ)) → fields_fault (Number ∷ []) args ≡ None → (args ≡ decimal (number_at (values (Number ∷ []) args) 0) ∷ []) × (number_at (values (Number ∷ []) args) 0 < 2 ^ 32)
one_number [] h = let k = (fields_parts (Number ∷ []) [] h).counted in absurd (omega arith)
one_number (a ∷ b ∷ args) h = let k = (fields_parts (Number ∷ []) (a ∷ b ∷ args) h).counted in absurd (omega arith)
one_number (a ∷ []) h =
    let is = number_there a (neither (field_fault Number a) None (fields_parts (Number ∷ []) (a ∷ []) h).each).0 in
    (ap (λ (f : List ℕ). f ∷ []) (number_decimal a is), number_below a is)

pub two_numbers : (args : List (List ℕ)) → fields_fault (Number ∷ Number ∷ []) args ≡ None → (args ≡ decimal (number_at (values (Number ∷ Number ∷ []) args) 0) ∷ decimal (number_at (values (Number ∷ Number ∷ []) args) 1) ∷ []) × (number_at (values (Number ∷ Number ∷ []) args) 0 < 2 ^ 32) × (number_at (values (Number ∷ Number ∷ []) args) 1 < 2 ^ 32)
two_numbers [] h = let k = (fields_parts (Number ∷ Number ∷ []) [] h).counted in absurd (omega arith)
two_numbers (a ∷ []) h = let k = (fields_parts (Number ∷ Number ∷ []) (a ∷ []) h).counted in absurd (omega arith)
two_numbers (a ∷ b ∷ c ∷ args) h = let k = (fields_parts (Number ∷ Number ∷ []) (a ∷ b ∷ c ∷ args) h).counted in absurd (omega arith)
two_numbers (a ∷ b ∷ []) h =
    let e = neither (field_fault Number a) (or_else (field_fault Number b) None) (fields_parts (Number ∷ Number ∷ []) (a ∷ b ∷ []) h).each in
    let is_a = number_there a e.0 in
    let is_b = number_there b (neither (field_fault Number b) None e.1).0 in
    (ap (λ (f : List ℕ). f ∷ b ∷ []) (number_decimal a is_a) ∙ ap (λ (f : List ℕ). decimal (number a) ∷ f ∷ []) (number_decimal b is_b), number_below a is_a, number_below b is_b)

pub number_and_bytes : (args : List (List ℕ)) → fields_fault (Number ∷ Bytes ∷ []) args ≡ None → (args ≡ decimal (number_at (values (Number ∷ Bytes ∷ []) args) 0) ∷ hex (values (Number ∷ Bytes ∷ []) args).pattern ∷ []) × (number_at (values (Number ∷ Bytes ∷ []) args) 0 < 2 ^ 32) × IsPattern (values (Number ∷ Bytes ∷ []) args).pattern
number_and_bytes [] h = let k = (fields_parts (Number ∷ Bytes ∷ []) [] h).counted in absurd (omega arith)
number_and_bytes (a ∷ []) h = let k = (fields_parts (Number ∷ Bytes ∷ []) (a ∷ []) h).counted in absurd (omega arith)
number_and_bytes (a ∷ b ∷ c ∷ args) h = let k = (fields_parts (Number ∷ Bytes ∷ []) (a ∷ b ∷ c ∷ args) h).counted in absurd (omega arith)
number_and_bytes (a ∷ b ∷ []) h =
    let e = neither (field_fault Number a) (or_else (field_fault Bytes b) None) (fields_parts (Number ∷ Bytes ∷ []) (a ∷ b ∷ []) h).each in
    let is_a = number_there a e.0 in
    let is_b = bytes_there b (neither (field_fault Bytes b) None e.1).0 in
    (ap (λ (f : List ℕ). f ∷ b ∷ []) (number_decimal a is_a) ∙ ap (λ (f : List ℕ). decimal (number a) ∷ f ∷ []) (bytes_hex b is_b), number_below a is_a, bytes_pattern b is_b)

-- written: what is written is read without a fault, as the same values
not_empty : (bytes : List ℕ) → 0 < length bytes → is_empty bytes ≡ false
not_empty [] h = absurd (omega arith)
not_empty (b ∷ bytes) h = refl

some_digits : (n : ℕ) → n < 2 ^ 32 → is_empty (decimal n) ≡ false
some_digits n h = not_empty (decimal n) (decimal_nonempty n (omega arith))

some_hex : (p : List ℕ) → IsPattern p → is_empty (hex p) ≡ false
some_hex [] h = absurd (omega (arith, h.some))
some_hex (b ∷ p) h = refl

pub says_one : (n : ℕ) → n < 2 ^ 32 → (fields_fault (Number ∷ []) (decimal n ∷ []) ≡ None) × (number_at (values (Number ∷ []) (decimal n ∷ [])) 0 ≡ n)
says_one n h = (
  fields_from (Number ∷ []) (decimal n ∷ []) (record { counted = refl; some = rw (some_digits n h) refl; each = rw (decimal_number n h) refl }),
  number-decimal n h,
)

pub says_two : (m n : ℕ) → m < 2 ^ 32 → n < 2 ^ 32 → (fields_fault (Number ∷ Number ∷ []) (decimal m ∷ decimal n ∷ []) ≡ None) × (number_at (values (Number ∷ Number ∷ []) (decimal m ∷ decimal n ∷ [])) 0 ≡ m) × (number_at (values (Number ∷ Number ∷ []) (decimal m ∷ decimal n ∷ [])) 1 ≡ n)
says_two m n h k = (
  fields_from (Number ∷ Number ∷ []) (decimal m ∷ decimal n ∷ []) (record { counted = refl; some = rw (some_digits m h, some_digits n k) refl; each = rw (decimal_number m h, decimal_number n k) refl }),
  number-decimal m h,
  number-decimal n k,
)

pub says_bytes : (n : ℕ) (p : List ℕ) → n < 2 ^ 32 → IsPattern p → (fields_fault (Number ∷ Bytes ∷ []) (decimal n ∷ hex p ∷ []) ≡ None) × (number_at (values (Number ∷ Bytes ∷ []) (decimal n ∷ hex p ∷ [])) 0 ≡ n) × ((values (Number ∷ Bytes ∷ []) (decimal n ∷ hex p ∷ [])).pattern ≡ p)
says_bytes n p h k = (
  fields_from (Number ∷ Bytes ∷ []) (decimal n ∷ hex p ∷ []) (record { counted = refl; some = rw (some_digits n h, some_hex p k) refl; each = rw (decimal_number n h, hex-is_hex p k) refl }),
  number-decimal n h,
  hex_bytes-hex p k,
)

-- operations
pub op_read : (verb : Verb) (args : List (List ℕ)) → fields_fault (kinds_of verb) args ≡ None → (op_fields (op_of verb (values (kinds_of verb) args)) ≡ verb_word verb ∷ args) × CanBeSaid (op_of verb (values (kinds_of verb) args))
op_read StoreVerb args h =
    let r = values_row (kinds_of StoreVerb) args h in
    (ap (λ (a : List (List ℕ)). codes "st" ∷ a) (sym (spelled-values (kinds_of StoreVerb) args h refl)), (r.numbers_fit 0, r.numbers_fit 1, r.pattern refl))
op_read LoadVerb args h =
    let r = values_row (kinds_of LoadVerb) args h in
    (ap (λ (a : List (List ℕ)). codes "ld" ∷ a) (sym (spelled-values (kinds_of LoadVerb) args h refl)), (r.numbers_fit 0, r.numbers_fit 1))
op_read WriteVerb args h =
    let r = values_row (kinds_of WriteVerb) args h in
    (ap (λ (a : List (List ℕ)). codes "wr" ∷ a) (sym (spelled-values (kinds_of WriteVerb) args h refl)), (r.numbers_fit 0, r.numbers_fit 1, r.numbers_fit 2, r.pattern refl))
op_read FetchVerb args h =
    let r = values_row (kinds_of FetchVerb) args h in
    (ap (λ (a : List (List ℕ)). codes "rd" ∷ a) (sym (spelled-values (kinds_of FetchVerb) args h refl)), (r.numbers_fit 0, r.numbers_fit 1, r.numbers_fit 2, r.numbers_fit 3))

abbrev pub verb_in : Op → Verb
verb_in (Store addr len pat) = StoreVerb
verb_in (Load addr len) = LoadVerb
verb_in (Write disk block count pat) = WriteVerb
verb_in (Fetch disk block offset len) = FetchVerb

same_head : (a b : Op) → a ∷ [] ≡ b ∷ [] → a ≡ b
same_head a b e = cc

pub op_says : (s : Shape) (op : Op) → IsGoodOp s op → (fields_fault (kinds_of (verb_in op)) (tail (op_fields op)) ≡ None) × (op_of (verb_in op) (values (kinds_of (verb_in op)) (tail (op_fields op))) ≡ op)
op_says s (Store addr len pat) g = ((verb_parts s 1 StoreVerb (tail (op_fields (Store addr len pat))) (op_line_fault-op_fields s 1 (Store addr len pat) g (omega arith))).fields, same_head _ _ (op_said-op_fields (Store addr len pat) g.can_be_said))
op_says s (Load addr len) g = ((verb_parts s 1 LoadVerb (tail (op_fields (Load addr len))) (op_line_fault-op_fields s 1 (Load addr len) g (omega arith))).fields, same_head _ _ (op_said-op_fields (Load addr len) g.can_be_said))
op_says s (Write disk block count pat) g = ((verb_parts s count WriteVerb (tail (op_fields (Write disk block count pat))) (op_line_fault-op_fields s count (Write disk block count pat) g (omega arith))).fields, same_head _ _ (op_said-op_fields (Write disk block count pat) g.can_be_said))
op_says s (Fetch disk block offset len) g = ((verb_parts s 1 FetchVerb (tail (op_fields (Fetch disk block offset len))) (op_line_fault-op_fields s 1 (Fetch disk block offset len) g (omega arith))).fields, same_head _ _ (op_said-op_fields (Fetch disk block offset len) g.can_be_said))
