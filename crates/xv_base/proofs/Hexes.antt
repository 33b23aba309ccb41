-- Bytes as hexadecimal digits, piece by piece.
use Rattle.std.proofs.Common.{◌≡◌, ℕ, ◌+◌, ◌*◌, ◌<◌, ◌≤◌, ◌/◌, ◌%◌, List, [], ◌∷◌, ◌++◌, length, take, get_or, refl, ap, sym, ◌∙◌, append_assoc, length-append, arith}
use Rattle.std.proofs.lemmas.List.{take_more, length-take-le}
use Rattle.xv_base.specs.Hex.{hex, hex_digit}

pub hex-append : (xs ys : List ℕ) → hex (xs ++ ys) ≡ hex xs ++ hex ys
hex-append [] ys = refl
hex-append (x ∷ xs) ys = ap (λ zs. hex_digit (x / 16) ∷ hex_digit (x % 16) ∷ zs) (hex-append xs ys)

pub length-hex : (xs : List ℕ) → length (hex xs) ≡ 2 * length xs
length-hex [] = refl
length-hex (x ∷ xs) = omega (arith, length-hex xs)

-- one byte more
pub hex_more : (xs : List ℕ) (i : ℕ) → i < length xs → hex (take (i + 1) xs) ≡ hex (take i xs) ++ hex_digit (get_or xs i 0 / 16) ∷ hex_digit (get_or xs i 0 % 16) ∷ []
hex_more xs i h = ap hex (take_more xs i 0 h) ∙ hex-append (take i xs) (get_or xs i 0 ∷ [])

-- how long a line is behind the digits of the first i bytes
pub length_behind : (line was xs : List ℕ) (i : ℕ) → i ≤ length xs → line ≡ was ++ hex (take i xs) → length line ≡ length was + 2 * i
length_behind line was xs i h e =
    omega (arith, ap length e, length-append was (hex (take i xs)), length-hex (take i xs), length-take-le i xs h)

-- both digits of a byte appended
pub digits_behind : (line was xs one two : List ℕ) (i : ℕ) → i < length xs → line ≡ was ++ hex (take i xs)
    → one ≡ line ++ hex_digit (get_or xs i 0 / 16) ∷ [] → two ≡ one ++ hex_digit (get_or xs i 0 % 16) ∷ [] → two ≡ was ++ hex (take (i + 1) xs)
digits_behind line was xs one two i h e f g =
    g ∙ ap (λ zs. zs ++ hex_digit (get_or xs i 0 % 16) ∷ []) (f ∙ ap (λ zs. zs ++ hex_digit (get_or xs i 0 / 16) ∷ []) e)
    ∙ append_assoc (was ++ hex (take i xs)) _ _ ∙ append_assoc was (hex (take i xs)) _ ∙ ap (λ zs. was ++ zs) (sym (hex_more xs i h))
