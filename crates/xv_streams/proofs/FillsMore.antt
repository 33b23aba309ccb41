-- The bytes gathered after one take more.
use Rattle.std.proofs.Common.{◌≡◌, ℕ, ◌+◌, ◌-◌, ◌≤◌, List, ◌++◌, length, take, drop, sym, ap, ◌∙◌, arith, append_assoc}
use Rattle.std.proofs.lemmas.List.{take-append-le, length-take}
use Rattle.std.proofs.Math.Seq.{take-add, take-append-add}
use borrow.Rule.Slice.PartMut.{put_mid, post_of}

-- the buffer holds what was gathered before, then the next bytes; what is behind them is not asked for
pub gathers-more : (have count want m : ℕ) (start now into transit left : List ℕ)
    → have ≤ count → count + m ≤ want → want ≤ length now → m ≤ length into
    → take count now ≡ take have start ++ take (count - have) transit → left ≡ drop (count - have) transit
    → take m into ≡ take m left
    → take (count + m) (put_mid count (want - count) now into) ≡ take have start ++ take (count + m - have) transit
gathers-more have count want m start now into transit left h below room long_enough was l gives =
    let n : ℕ = count - have in
    let long : length (take count now) ≡ count = omega (arith, length-take count now) in
    let written : List ℕ = into ++ post_of count (want - count) now in
    let first : take m written ≡ take m left = take-append-le m into (post_of count (want - count) now) long_enough ∙ gives in
    let split : take (count + m) (take count now ++ written) ≡ take count now ++ take m written =
    ap (λ k. take (k + m) (take count now ++ written)) (sym long) ∙ take-append-add (take count now) written m in
    let more : count + m - have ≡ n + m = omega arith in
    split ∙ (λ i. was i ++ (first ∙ ap (take m) l) i) ∙ append_assoc (take have start) (take n transit) (take m (drop n transit))
    ∙ ap (λ xs. take have start ++ xs) (sym (take-add n m transit) ∙ ap (λ k. take k transit) (sym more))
