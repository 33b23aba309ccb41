-- How what two reads gave adds up.
use Rattle.std.proofs.Common.{◌≡◌, ℕ, ◌+◌, ◌≤◌, List, ◌++◌, length, take, drop, Option, None, Some, option_map, sym, ap, ◌∙◌, append_assoc, length-append, arith}
use Rattle.std.proofs.lemmas.List.{take-append-drop, drop-drop}
use Rattle.xv_io.specs.Io.{GaveFirst, GaveAtMost}

-- one call gives xs and the next ys
pub gave-both : (a b c : Option (List ℕ)) (xs ys : List ℕ) → GaveFirst a b xs → GaveFirst b c ys → GaveFirst a c (xs ++ ys)
gave-both a b None xs ys p q = p ∙ ap (option_map (λ r. xs ++ r)) q
gave-both a b (Some r) xs ys p q = p ∙ ap (option_map (λ r. xs ++ r)) q ∙ ap Some (sym (append_assoc xs ys r))

-- one call gives xs and the next at most so many bytes
pub gave-then : (a b c : Option (List ℕ)) (xs : List ℕ) (room most : ℕ) → GaveFirst a b xs → GaveAtMost room b c → length xs + room ≤ most → GaveAtMost most a c
gave-then a b c xs room most p (ys, q, h) fits = (xs ++ ys, gave-both a b c xs ys p q, omega (arith, length-append xs ys))

-- what is left before a call that gives the first n bytes of it, and what after
pub left_split : (bytes given : List ℕ) (at n : ℕ) → given ≡ take n (drop at bytes) → drop at bytes ≡ given ++ drop (at + n) bytes
left_split bytes given at n e =
    sym (take-append-drop n (drop at bytes)) ∙ ap (λ (xs : List ℕ). xs ++ drop n (drop at bytes)) (sym e) ∙ ap (λ (xs : List ℕ). given ++ xs) (drop-drop n at bytes)
