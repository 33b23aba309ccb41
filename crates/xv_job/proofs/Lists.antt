-- Lists that grow at their end.
use Rattle.std.proofs.Common.{◌≡◌, ℕ, suc, zero, ◌+◌, ◌-◌, ◌<◌, ◌≤◌, Bool, true, List, [], ◌∷◌, ◌++◌, length, take, get_or, sum_by, codes, refl, sym, ap, ◌∙◌, arith, append_assoc}
use Rattle.std.specs.List.{AllByRecursion, list_all, flat_map}
use Rattle.std.proofs.lemmas.List.{append-nil, length-append, map-append}
use Rattle.std.proofs.lemmas.List.Sums.{sum_by-append, sum_by-cons}
use Rattle.std.proofs.lemmas.Bool.{and_parts}
use Rattle.xv_base.specs.declared.pattern.Init.{Init}
use Rattle.xv_trace.specs.declared.op.Op.{Op}
use Rattle.xv_trace.specs.Operations.{op_count, count_all}
use Rattle.xv_trace.specs.OpText.{op_fields}
use Rattle.xv_job.specs.Draft.{after_last, with_op}
use Rattle.xv_job.specs.JobText.{guest_lines}
use Rattle.xv_model.specs.Job.{no_init}

-- what holds of each of a list, and of one more
pub all_push : {X : Type 0} (P : X → Type 0) (xs : List X) (x : X) → AllByRecursion P xs → P x → AllByRecursion P (xs ++ x ∷ [])
all_push P [] x h here = (here, tt)
all_push P (y ∷ xs) x h here = (h.0, all_push P xs x h.1 here)

pub all_at : {X : Type 0} (P : X → Type 0) (xs : List X) (d : X) → AllByRecursion P xs → (i : ℕ) → i < length xs → P (get_or xs i d)
all_at P [] d h i lt = absurd (omega arith)
all_at P (x ∷ xs) d h zero lt = h.0
all_at P (x ∷ xs) d h (suc i) lt = all_at P xs d h.1 i (omega arith)

pub all_of : {X : Type 0} (P : X → Type 0) (xs : List X) (d : X) → ((i : ℕ) → i < length xs → P (get_or xs i d)) → AllByRecursion P xs
all_of P [] d h = tt
all_of P (x ∷ xs) d h = (h 0 (omega arith), all_of P xs d (λ i lt. h (suc i) (omega arith)))

pub tests_push : {X : Type 0} (p : X → Bool) (xs : List X) (x : X) → list_all p xs ≡ true → p x ≡ true → list_all p (xs ++ x ∷ []) ≡ true
tests_push p [] x h here = rw here refl
tests_push p (y ∷ xs) x h here =
    let a = and_parts (p y) (list_all p xs) h in
    rw (a.0, tests_push p xs x a.1 here) refl

-- units that rise
abbrev pub Rises : List Init → Type 0
Rises [] = Unit {0}
Rises (i ∷ []) = Unit {0}
Rises (i ∷ j ∷ more) = (i.unit.0 < j.unit.0) × Rises (j ∷ more)

pub rises_push : (is : List Init) (x : Init) → Rises is → after_last is ≤ x.unit.0 → Rises (is ++ x ∷ [])
rises_push [] x h e = tt
rises_push (i ∷ []) x h e = (omega arith, tt)
rises_push (i ∷ j ∷ more) x h e = (h.0, rises_push (j ∷ more) x h.1 e)

pub rises_next : (is : List Init) (x : Init) (more : List Init) → Rises (is ++ x ∷ more) → after_last is ≤ x.unit.0
rises_next [] x more h = omega arith
rises_next (i ∷ []) x more h = omega (arith, h.0)
rises_next (i ∷ j ∷ is) x more h = rises_next (j ∷ is) x more h.1

first_below : (i : Init) (is : List Init) → Rises (i ∷ is) → (k : ℕ) → k < length is → i.unit.0 < (get_or is k no_init).unit.0
first_below i [] h k lt = absurd (omega arith)
first_below i (j ∷ is) h zero lt = h.0
first_below i (j ∷ is) h (suc k) lt = let below : i.unit.0 < j.unit.0 = h.0 in omega (arith, first_below j is h.1 k (omega arith))

rises_tail : (i : Init) (is : List Init) → Rises (i ∷ is) → Rises is
rises_tail i [] h = tt
rises_tail i (j ∷ is) h = h.1

pub rises_at : (is : List Init) → Rises is → (i j : ℕ) → i < j → j < length is → (get_or is i no_init).unit.0 < (get_or is j no_init).unit.0
rises_at [] h i j lt fits = absurd (omega arith)
rises_at (x ∷ is) h zero zero lt fits = absurd (omega arith)
rises_at (x ∷ is) h zero (suc j) lt fits = first_below x is h j (omega arith)
rises_at (x ∷ is) h (suc i) zero lt fits = absurd (omega arith)
rises_at (x ∷ is) h (suc i) (suc j) lt fits = rises_at is (rises_tail x is h) i j (omega arith) (omega arith)

pub rises_of : (is : List Init) → ((i j : ℕ) → i < j → j < length is → (get_or is i no_init).unit.0 < (get_or is j no_init).unit.0) → Rises is
rises_of [] h = tt
rises_of (i ∷ []) h = tt
rises_of (i ∷ j ∷ is) h = (h 0 1 (omega arith) (omega arith), rises_of (j ∷ is) (λ a b lt fits. h (suc a) (suc b) (omega arith) (omega arith)))

-- a list that is not empty has a last item
pub record HasLast {X : Type 0} (xs : List X) : Type 0 where
  pub front : List X
  pub last : X
  pub whole : xs ≡ front ++ last ∷ []

last_of : {X : Type 0} (x : X) (xs : List X) → HasLast (x ∷ xs)
last_of x [] = record { front = []; last = x; whole = refl }
last_of x (y ∷ xs) = let l = last_of y xs in record { front = x ∷ l.front; last = l.last; whole = ap (λ zs. x ∷ zs) l.whole }

pub has_last : {X : Type 0} (xs : List X) → 1 ≤ length xs → HasLast xs
has_last [] h = absurd (omega arith)
has_last (x ∷ xs) h = last_of x xs

-- one more operation of the last guest
take_front : {X : Type 0} (front : List X) (last : X) → take (length (front ++ last ∷ []) - 1) (front ++ last ∷ []) ≡ front
take_front [] last = refl
take_front (x ∷ front) last =
    let n : length ((x ∷ front) ++ last ∷ []) - 1 ≡ suc (length (front ++ last ∷ []) - 1) = omega (arith, length-append front (last ∷ [])) in
    rw n (ap (λ xs. x ∷ xs) (take_front front last))

pub get_last : {X : Type 0} (front : List X) (last d : X) → get_or (front ++ last ∷ []) (length (front ++ last ∷ []) - 1) d ≡ last
get_last [] last d = refl
get_last (x ∷ front) last d =
    let n : length ((x ∷ front) ++ last ∷ []) - 1 ≡ suc (length (front ++ last ∷ []) - 1) = omega (arith, length-append front (last ∷ [])) in
    rw n (get_last front last d)

pub with_op_is : (front : List (List Op)) (last : List Op) (op : Op) → with_op (front ++ last ∷ []) op ≡ front ++ (last ++ op ∷ []) ∷ []
with_op_is front last op = rw (take_front front last, get_last front last []) refl

pub ops_count : (front : List (List Op)) (last : List Op) (op : Op) → sum_by count_all (front ++ (last ++ op ∷ []) ∷ []) ≡ sum_by count_all (front ++ last ∷ []) + op_count op
ops_count front last op = omega (arith, sum_by-cons count_all (last ++ op ∷ []) [], sum_by-cons count_all last [], sum_by-cons op_count op [], sum_by-append count_all front ((last ++ op ∷ []) ∷ []), sum_by-append count_all front (last ∷ []), sum_by-append op_count last (op ∷ []))

pub ops_lines : (front : List (List Op)) (last : List Op) (op : Op) → flat_map guest_lines (front ++ (last ++ op ∷ []) ∷ []) ≡ flat_map guest_lines (front ++ last ∷ []) ++ op_fields op ∷ []
ops_lines [] last op =
    append-nil (guest_lines (last ++ op ∷ []))
    ∙ ap (λ ls. (codes "guest" ∷ []) ∷ ls) (map-append op_fields last (op ∷ []))
    ∙ ap (λ ls. ls ++ op_fields op ∷ []) (sym (append-nil (guest_lines last)))
ops_lines (x ∷ front) last op = ap (λ ls. guest_lines x ++ ls) (ops_lines front last op) ∙ sym (append_assoc (guest_lines x) (flat_map guest_lines (front ++ last ∷ [])) (op_fields op ∷ []))

pub after_last_push : (is : List Init) (x : Init) → after_last (is ++ x ∷ []) ≡ x.unit.0 + 1
after_last_push [] x = refl
after_last_push (i ∷ []) x = refl
after_last_push (i ∷ j ∷ is) x = after_last_push (j ∷ is) x
