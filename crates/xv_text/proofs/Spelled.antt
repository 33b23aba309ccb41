-- The fields that spell a row, by their kinds.
use Rattle.std.proofs.Common.{◌≡◌, ℕ, suc, ◌+◌, ◌<◌, Bool, true, false, not, List, [], ◌∷◌, length, drop, decimal, None, refl, sym, ap, ◌∙◌, arith, if◌then◌else◌, drop-cons, add-one, add-zero}
use Rattle.std.specs.List.{list_any}
use Rattle.std.proofs.lemmas.Bool.{or_from}
use Rattle.std.proofs.lemmas.Fmt.{decimal_nonempty}
use Rattle.std.proofs.lemmas.List.{drop_all}
use Rattle.xv_base.specs.Hex.{hex}
use Rattle.xv_base.proofs.Hexes.{length-hex}
use Rattle.xv_text.specs.declared.row.Kind.{Kind}
use Rattle.xv_text.specs.declared.row.Kind.TheVariants.{Number, Bytes}
use Rattle.xv_text.specs.Fields.{Values, values, number_at, with_field, number, hex_bytes, kinds_fault, field_fault, fields_fault, is_empty}
use Rattle.xv_text.specs.Row.{is_bytes, IsRow}
use Rattle.xv_text.proofs.Numbers.{number_decimal, decimal_number, number-decimal}
use Rattle.xv_text.proofs.HexFields.{bytes_hex, hex-is_hex, hex_bytes-hex}
use Rattle.xv_text.proofs.Rows.{fields_parts, fields_from, none_of_both, is_number_field, is_hex_field, not_empty}
use Rattle.xv_text.proofs.Apart.{ArePlain, decimal_plain, hex_plain}

-- the fields of these kinds that say a row, its numbers from number i on
abbrev pub spelled : List Kind → ℕ → Values → List (List ℕ)
spelled [] i row = []
spelled (Number ∷ kinds) i row = decimal (number_at row i) ∷ spelled kinds (i + 1) row
spelled (Bytes ∷ kinds) i row = hex row.pattern ∷ spelled kinds i row

-- at most one field is of bytes
abbrev pub has_one_pattern : List Kind → Bool
has_one_pattern [] = true
has_one_pattern (Number ∷ kinds) = has_one_pattern kinds
has_one_pattern (Bytes ∷ kinds) = not (list_any is_bytes kinds)

-- how many are numbers
abbrev pub number_count : List Kind → ℕ
number_count [] = 0
number_count (Number ∷ kinds) = suc (number_count kinds)
number_count (Bytes ∷ kinds) = number_count kinds

-- fields without a fault are the spelling of what they say
no_pattern : (kinds : List Kind) (args : List (List ℕ)) → list_any is_bytes kinds ≡ false → (values kinds args).pattern ≡ []
no_pattern [] args h = refl
no_pattern (k ∷ kinds) [] h = refl
no_pattern (Number ∷ kinds) (f ∷ args) h = no_pattern kinds args h
no_pattern (Bytes ∷ kinds) (f ∷ args) h = absurd (cc)

only_numbers : (kinds : List Kind) → list_any is_bytes kinds ≡ false → has_one_pattern kinds ≡ true
only_numbers [] h = refl
only_numbers (Number ∷ kinds) h = only_numbers kinds h
only_numbers (Bytes ∷ kinds) h = absurd (cc)

is_not : (b : Bool) → not b ≡ true → b ≡ false
is_not true h = absurd (cc)
is_not false h = refl

-- what a row says from number i on is what these fields say
record SaysFrom (kinds : List Kind) (i : ℕ) (row v : Values) : Type 0 where
  numbers : (j : ℕ) → number_at row (i + j) ≡ number_at v j
  pattern : list_any is_bytes kinds ≡ true → row.pattern ≡ v.pattern

spelled_from : (kinds : List Kind) (args : List (List ℕ)) (i : ℕ) (row : Values) → length args ≡ length kinds → kinds_fault kinds args ≡ None → has_one_pattern kinds ≡ true → SaysFrom kinds i row (values kinds args) → args ≡ spelled kinds i row
spelled_from [] [] i row e h one s = refl
spelled_from [] (f ∷ args) i row e h one s = absurd (omega arith)
spelled_from (k ∷ kinds) [] i row e h one s = absurd (omega arith)
spelled_from (Number ∷ kinds) (f ∷ args) i row e h one s =
    let both = none_of_both (field_fault Number f) (kinds_fault kinds args) h in
    let first : f ≡ decimal (number_at row i) = number_decimal f (is_number_field f both.0) ∙ ap decimal (sym (s.numbers 0) ∙ ap (number_at row) (add-zero i)) in
    let later = spelled_from kinds args (i + 1) row (omega arith) both.1 one (record {
      numbers = λ j. let n : i + 1 + j ≡ i + suc j = omega arith in ap (number_at row) n ∙ s.numbers (suc j);
      pattern = s.pattern;
    }) in
    ap (λ x. x ∷ args) first ∙ ap (λ xs. decimal (number_at row i) ∷ xs) later
spelled_from (Bytes ∷ kinds) (f ∷ args) i row e h one s =
    let both = none_of_both (field_fault Bytes f) (kinds_fault kinds args) h in
    let none = is_not (list_any is_bytes kinds) one in
    let said : row.pattern ≡ hex_bytes f = s.pattern refl ∙ ap (λ (p : List ℕ). if is_empty p then hex_bytes f else p) (no_pattern kinds args none) in
    let first : f ≡ hex row.pattern = bytes_hex f (is_hex_field f both.0) ∙ ap hex (sym said) in
    let later = spelled_from kinds args i row (omega arith) both.1 (only_numbers kinds none) (record {
      numbers = s.numbers;
      pattern = λ t. absurd (cc);
    }) in
    ap (λ x. x ∷ args) first ∙ ap (λ xs. hex row.pattern ∷ xs) later

pub spelled-values : (kinds : List Kind) (args : List (List ℕ)) → fields_fault kinds args ≡ None → has_one_pattern kinds ≡ true → args ≡ spelled kinds 0 (values kinds args)
spelled-values kinds args h one =
    let a = fields_parts kinds args h in
    spelled_from kinds args 0 (values kinds args) a.counted a.each one (record {
      numbers = λ j. let n : 0 + j ≡ j = omega arith in ap (number_at (values kinds args)) n;
      pattern = λ _. refl;
    })

-- and the spelling of a row has no fault, is plain, and says the row
length-spelled : (kinds : List Kind) (i : ℕ) (row : Values) → length (spelled kinds i row) ≡ length kinds
length-spelled [] i row = refl
length-spelled (Number ∷ kinds) i row = ap suc (length-spelled kinds (i + 1) row)
length-spelled (Bytes ∷ kinds) i row = ap suc (length-spelled kinds i row)

no_empty_spelled : (kinds : List Kind) (i : ℕ) (row : Values) → IsRow kinds row → list_any is_empty (spelled kinds i row) ≡ false
no_empty_spelled [] i row r = refl
no_empty_spelled (Number ∷ kinds) i row r =
    or_from (is_empty (decimal (number_at row i))) _ (not_empty _ (omega (arith, decimal_nonempty (number_at row i) (omega (arith, r.numbers_fit i)))))
    (no_empty_spelled kinds (i + 1) row (record { numbers_fit = r.numbers_fit; pattern = r.pattern }))
no_empty_spelled (Bytes ∷ kinds) i row r =
    let p = r.pattern refl in
    or_from (is_empty (hex row.pattern)) _ (not_empty _ (omega (arith, length-hex row.pattern, p.some)))
    (no_empty_spelled kinds i row (record { numbers_fit = r.numbers_fit; pattern = λ _. p }))

each_spelled : (kinds : List Kind) (i : ℕ) (row : Values) → IsRow kinds row → kinds_fault kinds (spelled kinds i row) ≡ None
each_spelled [] i row r = refl
each_spelled (Number ∷ kinds) i row r =
    rw (decimal_number (number_at row i) (r.numbers_fit i)) (each_spelled kinds (i + 1) row (record { numbers_fit = r.numbers_fit; pattern = r.pattern }))
each_spelled (Bytes ∷ kinds) i row r =
    let p = r.pattern refl in
    rw (hex-is_hex row.pattern p) (each_spelled kinds i row (record { numbers_fit = r.numbers_fit; pattern = λ _. p }))

pub fields_fault-spelled : (kinds : List Kind) (row : Values) → IsRow kinds row → fields_fault kinds (spelled kinds 0 row) ≡ None
fields_fault-spelled kinds row r = fields_from kinds (spelled kinds 0 row) (record {
  counted = length-spelled kinds 0 row;
  some = no_empty_spelled kinds 0 row r;
  each = each_spelled kinds 0 row r;
})

spelled_plain_from : (kinds : List Kind) (i : ℕ) (row : Values) → IsRow kinds row → ArePlain (spelled kinds i row)
spelled_plain_from [] i row r = tt
spelled_plain_from (Number ∷ kinds) i row r =
    (decimal_plain (number_at row i) (omega (arith, r.numbers_fit i)), spelled_plain_from kinds (i + 1) row (record { numbers_fit = r.numbers_fit; pattern = r.pattern }))
spelled_plain_from (Bytes ∷ kinds) i row r =
    let p = r.pattern refl in
    (hex_plain row.pattern p, spelled_plain_from kinds i row (record { numbers_fit = r.numbers_fit; pattern = λ _. p }))

pub spelled_plain : (kinds : List Kind) (row : Values) → IsRow kinds row → ArePlain (spelled kinds 0 row)
spelled_plain kinds row r = spelled_plain_from kinds 0 row r

-- what the spelling from number i on says
abbrev pub pattern_of : List Kind → List ℕ → List ℕ
pattern_of kinds p = if list_any is_bytes kinds then p else []

abbrev row_of : List ℕ → List ℕ → Values
row_of ns p = record { numbers = ns; pattern = p }

values_from : (kinds : List Kind) (i : ℕ) (row : Values) → IsRow kinds row → has_one_pattern kinds ≡ true → length row.numbers ≡ i + number_count kinds
    → values kinds (spelled kinds i row) ≡ row_of (drop i row.numbers) (pattern_of kinds row.pattern)
values_from [] i row r one e = ap (λ ns. row_of ns []) (sym (drop_all i row.numbers (omega arith)))
values_from (Number ∷ kinds) i row r one e =
    let later = values_from kinds (i + 1) row (record { numbers_fit = r.numbers_fit; pattern = r.pattern }) one (omega arith) in
    let first : number (decimal (number_at row i)) ≡ number_at row i = number-decimal (number_at row i) (r.numbers_fit i) in
    let there : i < length row.numbers = omega arith in
    ap (with_field Number (decimal (number_at row i))) later
    ∙ ap (λ n. row_of (n ∷ drop (i + 1) row.numbers) (pattern_of kinds row.pattern)) first
    ∙ ap (λ ns. row_of ns (pattern_of kinds row.pattern)) (ap (λ k. number_at row i ∷ drop k row.numbers) (add-one i) ∙ sym (drop-cons row.numbers i 0 there))
values_from (Bytes ∷ kinds) i row r one e =
    let p = r.pattern refl in
    let none = is_not (list_any is_bytes kinds) one in
    let later = values_from kinds i row (record { numbers_fit = r.numbers_fit; pattern = λ _. p }) (only_numbers kinds none) (omega arith) in
    let said : pattern_of kinds row.pattern ≡ [] = rw none refl in
    ap (with_field Bytes (hex row.pattern)) (later ∙ ap (row_of (drop i row.numbers)) said)
    ∙ ap (row_of (drop i row.numbers)) (hex_bytes-hex row.pattern p)

pub values-spelled : (kinds : List Kind) (row : Values) → IsRow kinds row → has_one_pattern kinds ≡ true → length row.numbers ≡ number_count kinds
    → pattern_of kinds row.pattern ≡ row.pattern → values kinds (spelled kinds 0 row) ≡ row
values-spelled kinds row r one e p =
    values_from kinds 0 row r one (omega arith) ∙ ap (row_of row.numbers) p
