-- How what several writes took adds up to a text, or to a front of it.
use Rattle.std.proofs.Common.{◌≡◌, ℕ, suc, ◌+◌, ◌-◌, ◌≤◌, List, [], ◌∷◌, ◌++◌, length, take, drop, Option, None, Some, option_map, refl, sym, ap, ◌∙◌, subst, arith, append_assoc, append-nil, length-append, length-drop, zero-add}
use Rattle.std.proofs.lemmas.List.{length-take, take_rest, take-append-le}
use Rattle.std.proofs.Math.Seq.{take-add}
use Rattle.xv_io.specs.Io.{TookMore, TookFront}

-- one call takes xs and the next ys
pub took-both : (a b c : Option (List ℕ)) (xs ys : List ℕ) → TookMore a b xs → TookMore b c ys → TookMore a c (xs ++ ys)
took-both None b c xs ys p q = q ∙ ap (option_map (λ r. r ++ ys)) p
took-both (Some r) b c xs ys p q = q ∙ ap (option_map (λ r. r ++ ys)) p ∙ ap Some (append_assoc r xs ys)

-- one call takes the first n bytes of a text and the next the m after them
pub took-next : (a b c : Option (List ℕ)) (text : List ℕ) (n m : ℕ)
    → TookMore a b (take n text) → TookMore b c (take m (take (length text - n) (drop n text))) → TookMore a c (take (n + m) text)
took-next a b c text n m p q =
    let rest : TookMore b c (take m (drop n text)) = subst (λ bytes. TookMore b c (take m bytes)) (take_rest text n) q in
    subst (λ bytes. TookMore a c bytes) (sym (take-add n m text)) (took-both a b c (take n text) (take m (drop n text)) p rest)

-- the bytes of a text past the first n are as many as there are
pub next-within : (text : List ℕ) (n m : ℕ) → n ≤ length text → m ≤ length (take (length text - n) (drop n text)) → n + m ≤ length text
next-within text n m h k =
    omega (arith, k, length-take (length text - n) (drop n text), length-drop n text)

-- no bytes
pub took-none : (a : Option (List ℕ)) → TookMore a a []
took-none None = refl
took-none (Some r) = ap Some (sym (append-nil r))

pub front-none : (a : Option (List ℕ)) (xs : List ℕ) → TookFront a a xs
front-none a xs = (0, omega arith, took-none a)

take_over : (xs ys rest : List ℕ) (n : ℕ) → n ≤ length ys → take (length xs + n) (xs ++ (ys ++ rest)) ≡ xs ++ take n ys
take_over [] ys rest n h = ap (λ (k : ℕ). take k (ys ++ rest)) (zero-add n) ∙ take-append-le n ys rest h
take_over (x ∷ xs) ys rest n h =
    let e : length (x ∷ xs) + n ≡ suc (length xs + n) = omega arith in
    ap (λ (k : ℕ). take k (x ∷ (xs ++ (ys ++ rest)))) e ∙ ap (λ (zs : List ℕ). x ∷ zs) (take_over xs ys rest n h)

-- a front of a front, behind what was taken whole
pub front-then : (a b c : Option (List ℕ)) (xs ys text : List ℕ) → TookMore a b xs → TookFront b c ys → (rest : List ℕ) → text ≡ xs ++ (ys ++ rest) → TookFront a c text
front-then a b c xs ys text p (n, h, q) rest e = (
  length xs + n,
  omega (arith, ap length e, length-append xs (ys ++ rest), length-append ys rest),
  subst (λ (t : List ℕ). TookMore a c t) (sym (ap (λ (t : List ℕ). take (length xs + n) t) e ∙ take_over xs ys rest n h)) (took-both a b c xs (take n ys) p q),
)

-- a text that is A ++ B is written by A and then B: what A takes whole and B takes a front of is a front of both
pub front-first : (a b : Option (List ℕ)) (xs rest text : List ℕ) → TookFront a b xs → text ≡ xs ++ rest → TookFront a b text
front-first a b xs rest text h e = front-then a a b [] xs text (took-none a) h rest e

pub front-last : (a b c : Option (List ℕ)) (xs ys text : List ℕ) → TookMore a b xs → TookFront b c ys → text ≡ xs ++ ys → TookFront a c text
front-last a b c xs ys text p h e = front-then a b c xs ys text p h [] (e ∙ ap (λ (zs : List ℕ). xs ++ zs) (sym (append-nil ys)))

-- the same of a text that is equal
pub at_text : (a b : Option (List ℕ)) (xs ys : List ℕ) → xs ≡ ys → TookFront a b xs → TookFront a b ys
at_text a b xs ys e h = subst (λ (t : List ℕ). TookFront a b t) e h

pub took-text : (a b : Option (List ℕ)) (xs ys : List ℕ) → xs ≡ ys → TookMore a b xs → TookMore a b ys
took-text a b xs ys e h = subst (λ (t : List ℕ). TookMore a b t) e h

pub front-whole : (a b : Option (List ℕ)) (xs : List ℕ) → TookMore a b xs → TookFront a b xs
front-whole a b xs p = front-last a b b xs [] xs p (front-none b []) (sym (append-nil xs))
