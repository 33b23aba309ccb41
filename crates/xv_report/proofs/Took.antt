-- How what several writes take adds up to a text.
use Rattle.std.proofs.Common.{◌≡◌, ℕ, zero, suc, ◌+◌, ◌-◌, ◌<◌, ◌≤◌, List, [], ◌∷◌, ◌++◌, length, take, drop, decimal, get_or, Option, sym, ap, ◌∙◌, subst, arith, append_assoc, append-nil, zero-add, add-zero}
use Rattle.std.proofs.lemmas.List.{take-append-drop, take_more}
use Rattle.std.proofs.lemmas.Grind.{flat_map-append}
use Rattle.std.proofs.Math.Seq.{take-add}
use Rattle.xv_report.specs.Texts.{full_line, unit_line, side_text}
use Rattle.xv_base.specs.Hex.{hex}
use Rattle.xv_base.proofs.Hexes.{hex-append}
use Rattle.std.specs.List.{flat_map, range_with_len}
use Rattle.xv_io.specs.Io.{TookMore, TookFront}
use Rattle.xv_io.proofs.Took.{took-both, front-then, front-whole}

-- the pieces of numbers in a row
pub range_parts : (f : ℕ → List ℕ) (a n m : ℕ) → flat_map f (range_with_len a (n + m)) ≡ flat_map f (range_with_len a n) ++ flat_map f (range_with_len (a + n) m)
range_parts f a zero m =
    ap (λ (k : ℕ). flat_map f (range_with_len a k)) (zero-add m) ∙ ap (λ (k : ℕ). flat_map f (range_with_len k m)) (sym (add-zero a))
range_parts f a (suc n) m =
    let e : suc n + m ≡ suc (n + m) = omega arith in
    let g : a + 1 + n ≡ a + suc n = omega arith in
    ap (λ (k : ℕ). flat_map f (range_with_len a k)) e ∙ ap (λ (zs : List ℕ). f a ++ zs) (range_parts f (a + 1) n m)
    ∙ sym (append_assoc (f a) (flat_map f (range_with_len (a + 1) n)) (flat_map f (range_with_len (a + 1 + n) m)))
    ∙ ap (λ (k : ℕ). (f a ++ flat_map f (range_with_len (a + 1) n)) ++ flat_map f (range_with_len k m)) g

-- one piece more, and what follows it
pub range_next : (f : ℕ → List ℕ) (n : ℕ) → flat_map f (range_with_len 0 (n + 1)) ≡ flat_map f (range_with_len 0 n) ++ f n
range_next f n =
    range_parts f 0 n 1 ∙ ap (λ (k : ℕ). flat_map f (range_with_len 0 n) ++ (f k ++ [])) (zero-add n)
    ∙ ap (λ (zs : List ℕ). flat_map f (range_with_len 0 n) ++ zs) (append-nil (f n))

pub range_rest : (f : ℕ → List ℕ) (n all : ℕ) → n < all → flat_map f (range_with_len 0 all) ≡ flat_map f (range_with_len 0 n) ++ (f n ++ flat_map f (range_with_len (n + 1) (all - n - 1)))
range_rest f n all h =
    let e : all ≡ n + suc (all - n - 1) = omega arith in
    ap (λ (k : ℕ). flat_map f (range_with_len 0 k)) e ∙ range_parts f 0 n (suc (all - n - 1))
    ∙ ap (λ (k : ℕ). flat_map f (range_with_len 0 n) ++ (f k ++ flat_map f (range_with_len (k + 1) (all - n - 1)))) (zero-add n)

-- the digits of the bytes up to a place, and from there to the next
pub hex_next : (bytes : List ℕ) (n next : ℕ) → n ≤ next → next ≤ length bytes → hex (take next bytes) ≡ hex (take n bytes) ++ hex (take (next - n) (drop n bytes))
hex_next bytes n next h k =
    let e : next ≡ n + (next - n) = omega arith in
    ap (λ (i : ℕ). hex (take i bytes)) e ∙ ap hex (take-add n (next - n) bytes) ∙ hex-append (take n bytes) (take (next - n) (drop n bytes))

pub hex_rest : (bytes : List ℕ) (n next : ℕ) → n ≤ next → next ≤ length bytes → hex bytes ≡ hex (take n bytes) ++ (hex (take (next - n) (drop n bytes)) ++ hex (drop next bytes))
hex_rest bytes n next h k =
    ap hex (sym (take-append-drop next bytes)) ∙ hex-append (take next bytes) (drop next bytes)
    ∙ ap (λ (zs : List ℕ). zs ++ hex (drop next bytes)) (hex_next bytes n next h k)
    ∙ append_assoc (hex (take n bytes)) (hex (take (next - n) (drop n bytes))) (hex (drop next bytes))

-- what was taken up to a unit, and one unit more
pub range-took : (f : ℕ → List ℕ) (a b c : Option (List ℕ)) (n : ℕ) → TookMore a b (flat_map f (range_with_len 0 n)) → TookMore b c (f n) → TookMore a c (flat_map f (range_with_len 0 (n + 1)))
range-took f a b c n p q =
    subst (λ (t : List ℕ). TookMore a c t) (sym (range_next f n)) (took-both a b c (flat_map f (range_with_len 0 n)) (f n) p q)

pub range-front : (f : ℕ → List ℕ) (a b c : Option (List ℕ)) (n all : ℕ) → n < all → TookMore a b (flat_map f (range_with_len 0 n)) → TookFront b c (f n) → TookFront a c (flat_map f (range_with_len 0 all))
range-front f a b c n all h p q =
    front-then a b c (flat_map f (range_with_len 0 n)) (f n) (flat_map f (range_with_len 0 all)) p q (flat_map f (range_with_len (n + 1) (all - n - 1))) (range_rest f n all h)

-- a unit's line in three pieces
pub line_parts : (side bytes : List ℕ) (unit : ℕ) → full_line side unit bytes ≡ (side ++ 32 ∷ decimal unit ++ 32 ∷ []) ++ (hex bytes ++ 10 ∷ [])
line_parts side bytes unit =
    append_assoc (side ++ 32 ∷ decimal unit) (32 ∷ hex bytes) (10 ∷ []) ∙ sym (append_assoc (side ++ 32 ∷ decimal unit) (32 ∷ []) (hex bytes ++ 10 ∷ []))

-- the digits of one piece more
pub hex-took : (a b c : Option (List ℕ)) (bytes : List ℕ) (n next : ℕ) (piece : List ℕ) → n ≤ next → next ≤ length bytes → TookMore a b (hex (take n bytes))
    → piece ≡ hex (take (next - n) (drop n bytes)) → TookMore b c piece → TookMore a c (hex (take next bytes))
hex-took a b c bytes n next piece h k p e q =
    subst (λ (t : List ℕ). TookMore a c t) (sym (hex_next bytes n next h k))
    (took-both a b c (hex (take n bytes)) (hex (take (next - n) (drop n bytes))) p (subst (λ (t : List ℕ). TookMore b c t) e q))

pub hex-front : (a b c : Option (List ℕ)) (bytes : List ℕ) (n next : ℕ) (piece : List ℕ) → n ≤ next → next ≤ length bytes → TookMore a b (hex (take n bytes))
    → piece ≡ hex (take (next - n) (drop n bytes)) → TookFront b c piece → TookFront a c (hex bytes)
hex-front a b c bytes n next piece h k p e q =
    front-then a b c (hex (take n bytes)) (hex (take (next - n) (drop n bytes))) (hex bytes) p (subst (λ (t : List ℕ). TookFront b c t) e q) (hex (drop next bytes)) (hex_rest bytes n next h k)

-- the line of each unit of one side
abbrev pub line_of : List ℕ → List (List ℕ) → ℕ → List ℕ
line_of side contents unit = unit_line side unit (get_or contents unit [])

-- the lines of all units were taken
pub side-front : (a b : Option (List ℕ)) (side : List ℕ) (contents : List (List ℕ)) (n : ℕ) → n ≡ length contents → TookMore a b (flat_map (line_of side contents) (range_with_len 0 n)) → TookFront a b (side_text side contents)
side-front a b side contents n e p =
    subst (λ (k : ℕ). TookFront a b (flat_map (line_of side contents) (range_with_len 0 k))) e (front-whole a b (flat_map (line_of side contents) (range_with_len 0 n)) p)

-- the rows of the items up to a place, and one row more
rows_next : {A : Type 0} (f : A → List ℕ) (xs : List A) (n : ℕ) (d : A) → n < length xs → flat_map f (take (n + 1) xs) ≡ flat_map f (take n xs) ++ f (get_or xs n d)
rows_next f xs n d h =
    ap (flat_map f) (take_more xs n d h) ∙ flat_map-append f (take n xs) (get_or xs n d ∷ [])
    ∙ ap (λ (r : List ℕ). flat_map f (take n xs) ++ r) (append-nil (f (get_or xs n d)))

rows_rest : {A : Type 0} (f : A → List ℕ) (xs : List A) (n : ℕ) (d : A) → n < length xs → flat_map f xs ≡ flat_map f (take n xs) ++ (f (get_or xs n d) ++ flat_map f (drop (n + 1) xs))
rows_rest f xs n d h =
    ap (flat_map f) (sym (take-append-drop (n + 1) xs)) ∙ flat_map-append f (take (n + 1) xs) (drop (n + 1) xs)
    ∙ ap (λ (r : List ℕ). r ++ flat_map f (drop (n + 1) xs)) (rows_next f xs n d h)
    ∙ append_assoc (flat_map f (take n xs)) (f (get_or xs n d)) (flat_map f (drop (n + 1) xs))

pub rows-front : {A : Type 0} (f : A → List ℕ) (xs : List A) (a b c : Option (List ℕ)) (n : ℕ) (d : A) → n < length xs → TookMore a b (flat_map f (take n xs)) → TookFront b c (f (get_or xs n d)) → TookFront a c (flat_map f xs)
rows-front f xs a b c n d h p q =
    front-then a b c (flat_map f (take n xs)) (f (get_or xs n d)) (flat_map f xs) p q (flat_map f (drop (n + 1) xs)) (rows_rest f xs n d h)
