-- A crew that has all passes has them after its workers have run.
use Rattle.std.proofs.Common.{◌≡◌, ℕ, ◌+◌, ◌<◌, not, Bool, true, false, cond, List, [], ◌∷◌, length, get_or, take, drop, ◌++◌, sum_by, count_by, refl, sym, ap, ◌∙◌, arith, suc}
use Rattle.std.proofs.lemmas.List.Sums.{sum_by-cons}
use Rattle.std.proofs.lemmas.List.{take-append-le, take_all}
use Rattle.xv_shared.specs.declared.passes.Pass.{Pass}
use Rattle.xv_shared.specs.Crews.{AreAll, is_guest}
use Rattle.xv_shared.specs.Held.{ByKind}
use Rattle.xv_shared.specs.Running.{HaveRun}

-- one where it is so
abbrev weigh : Bool → ℕ
weigh b = cond b 1 0

count-cons : {X : Type 0} (p : X → Bool) (x : X) (xs : List X) → count_by p (x ∷ xs) ≡ weigh (p x) + count_by p xs
count-cons p x xs = sum_by-cons (λ y. cond (p y) 1 0) x xs

-- lists that agree at each place on a test have as many of it
pub same-count : {X : Type 0} (p : X → Bool) (xs ys : List X) → length ys ≡ length xs → ((k : ℕ) (d : X) → k < length xs → p (get_or ys k d) ≡ p (get_or xs k d)) → count_by p ys ≡ count_by p xs
same-count p [] [] l e = refl
same-count p [] (y ∷ ys) l e = absurd (omega (arith, l))
same-count p (x ∷ xs) [] l e = absurd (omega (arith, l))
same-count p (x ∷ xs) (y ∷ ys) l e =
    let here : p y ≡ p x = e 0 x (omega arith) in
    let rest = same-count p xs ys (omega (arith, l)) (λ k d lt. e (suc k) d (omega (arith, lt))) in
    let one : weigh (p y) ≡ weigh (p x) = ap weigh here in
    omega (arith, count-cons p x xs, count-cons p y ys, rest, one)

pub all-stay : {D Q F R : Type 0} (parts : ByKind) (most : ℕ) (before later : List (Pass D Q F R)) → AreAll parts before → HaveRun most before later → AreAll parts later
all-stay parts most before later a h =
    let guests = same-count is_guest before later h.as_many (λ k d lt. (h.each k d lt).kind) in
    let others = same-count (λ p. not (is_guest p)) before later h.as_many (λ k d lt. ap not (h.each k d lt).kind) in
    record { done = guests ∙ a.done; queued = guests ∙ a.queued; faulted = guests ∙ a.faulted; other = others ∙ a.other }

-- a list that is written over another of as many
pub written-over : {X : Type 0} (old new : List X) (n : ℕ) → n ≡ length old → length new ≡ length old → take n (new ++ drop (length new) old) ≡ new
written-over old new n l e = take-append-le n new (drop (length new) old) (omega (arith, l, e)) ∙ take_all n new (omega (arith, l, e))
