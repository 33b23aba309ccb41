-- Fields that say a number: decimals below 2^32, each in one spelling.
use Rattle.std.proofs.Common.{◌≡◌, ◌==◌, ℕ, zero, suc, ◌+◌, ◌-◌, ◌^◌, ◌<◌, ◌≤◌, Bool, true, false, ◌&&◌, ◌||◌, not, List, [], ◌∷◌, ◌++◌, length, take, get_or, decimal, nat_lt, refl, sym, ap, ◌∙◌, arith, rules, inl, inr}
use Rattle.std.specs.Char.{is_ascii_digit, digit_value}
use Rattle.std.specs.Str.Parse.{digits_value}
use Rattle.std.specs.List.{list_all}
use Rattle.std.proofs.lemmas.Bool.{and_parts, and_from, or_left, or_right, ltb-true, lt-ltb, eq-eqb, cases_eq, ne_eqb, not_from_false, false_from_ne_true}
use Rattle.std.proofs.lemmas.Bool.Decides.{nat_tests}
use Rattle.std.proofs.lemmas.List.{take_more}
use Rattle.std.proofs.lemmas.Str.Parse.{IsNumeralModel, numerals_by_value}
use Rattle.std.proofs.lemmas.Fmt.{digits_decimal, digits_value-decimal, decimal-digits_value, length-decimal-le, decimal_nonempty, first_decimal, decimal_digit}
use Rattle.xv_text.specs.Fields.{is_number, number}

-- the parts of the test
pub record IsNumber (field : List ℕ) : Type 0 where
  pub some : 0 < length field
  pub digits : list_all is_ascii_digit field ≡ true
  pub first : get_or field 0 0 ≡ 48 → length field ≡ 1
  pub small : digits_value 10 field < 2 ^ 32

first_of_either : (n b : ℕ) → (n == 1 || not (b == 48)) ≡ true → b ≡ 48 → n ≡ 1
first_of_either n b h e = grind (arith, nat_tests)

either_first : (n b : ℕ) → (b ≡ 48 → n ≡ 1) → (n == 1 || not (b == 48)) ≡ true
either_first n b h = elim (cases_eq b 48) [
  | inl e ↦ or_left (n == 1) _ (eq-eqb n 1 (h e))
  | inr ne ↦ or_right (n == 1) _ (not_from_false _ (ne_eqb b 48 ne))
]

-- four tests that all pass
pub all_four : (a b c d : Bool) → (a && b && c && d) ≡ true → (a ≡ true) × (b ≡ true) × (c ≡ true) × (d ≡ true)
all_four true true true true h = (refl, refl, refl, refl)
all_four true true true false h = absurd (cc)
all_four true true false d h = absurd (cc)
all_four true false c d h = absurd (cc)
all_four false b c d h = absurd (cc)

pub from_four : (a b c d : Bool) → a ≡ true → b ≡ true → c ≡ true → d ≡ true → (a && b && c && d) ≡ true
from_four a b c d e f g h = rw (e, f, g, h) refl

pub number_parts : (field : List ℕ) → is_number field ≡ true → IsNumber field
number_parts field h =
    let p = all_four (nat_lt 0 (length field)) (list_all is_ascii_digit field) (length field == 1 || not (get_or field 0 0 == 48)) (nat_lt (digits_value 10 field) (2 ^ 32)) h in
    record {
      some = ltb-true _ _ p.0;
      digits = p.1;
      first = first_of_either (length field) (get_or field 0 0) p.2;
      small = ltb-true _ _ p.3;
    }

pub number_from : (field : List ℕ) → IsNumber field → is_number field ≡ true
number_from field n =
    from_four _ _ _ _ (lt-ltb _ _ n.some) n.digits (either_first (length field) (get_or field 0 0) n.first) (lt-ltb _ _ n.small)

-- digits by the test of std
own : IsNumeralModel (λ ds. list_all is_ascii_digit ds ≡ true) (digits_value 10)
own = numerals_by_value _ (search rules)

-- a field that says a number is the decimal of this number
pub number_decimal : (field : List ℕ) → is_number field ≡ true → field ≡ decimal (number field)
number_decimal field h =
    let a = number_parts field h in
    sym (decimal-digits_value own field a.digits a.some a.first (omega (arith, a.small)))

pub number_below : (field : List ℕ) → is_number field ≡ true → number field < 2 ^ 32
number_below field h = (number_parts field h).small

-- and the decimal of a number below 2^32 is such a field, and says this number
first_zero : (n : ℕ) → n < 2 ^ 64 → get_or (decimal n) 0 0 ≡ 48 → length (decimal n) ≡ 1
first_zero zero h e = ap length (decimal_digit 0 (omega arith))
first_zero (suc n) h e = absurd (omega (arith, first_decimal (suc n) (omega arith) h))

pub decimal_digits : (n : ℕ) → n < 2 ^ 64 → list_all is_ascii_digit (decimal n) ≡ true
decimal_digits n h = digits_decimal own n h

pub number-decimal : (n : ℕ) → n < 2 ^ 32 → number (decimal n) ≡ n
number-decimal n h = digits_value-decimal own n (omega arith)

pub decimal_number : (n : ℕ) → n < 2 ^ 32 → is_number (decimal n) ≡ true
decimal_number n h = number_from (decimal n) (record {
  some = decimal_nonempty n (omega arith);
  digits = decimal_digits n (omega arith);
  first = first_zero n (omega arith);
  small = rw (number-decimal n h) h;
})

-- such a field has at most ten digits
pub number_short : (field : List ℕ) → is_number field ≡ true → length field ≤ 10
number_short field h =
    let below : number field < 2 ^ 32 = number_below field h in
    omega (arith, ap length (number_decimal field h), length-decimal-le 10 (number field) (omega arith) (omega arith) (omega arith))

-- why a field says no number
pub no_number : (field : List ℕ) → (IsNumber field → ⊥) → is_number field ≡ false
no_number field h = false_from_ne_true _ (λ e. h (number_parts field e))

-- digits with one more
all_push : (p : ℕ → Bool) (xs : List ℕ) (y : ℕ) → list_all p xs ≡ true → p y ≡ true → list_all p (xs ++ y ∷ []) ≡ true
all_push p [] y h e = and_from (p y) true e refl
all_push p (x ∷ xs) y h e =
    let a = and_parts (p x) (list_all p xs) h in
    and_from (p x) (list_all p (xs ++ y ∷ [])) a.0 (all_push p xs y a.1 e)

pub all_more : (p : ℕ → Bool) (xs : List ℕ) (i : ℕ) → i < length xs → list_all p (take i xs) ≡ true → p (get_or xs i 0) ≡ true → list_all p (take (i + 1) xs) ≡ true
all_more p xs i lt h e = ap (list_all p) (take_more xs i 0 lt) ∙ all_push p (take i xs) (get_or xs i 0) h e

pub digit_is : (c : ℕ) → is_ascii_digit c ≡ true → (digit_value c ≡ c - 48) × (c - 48 < 10)
digit_is c h = (grind (arith, nat_tests), grind (arith, nat_tests))

-- and neither do more than ten bytes
pub long_number : (field : List ℕ) → 10 < length field → is_number field ≡ false
long_number field h = false_from_ne_true _ (λ e. omega (arith, number_short field e))
