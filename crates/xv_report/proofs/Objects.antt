-- How the object of the workers grows, one worker at a time.
use Rattle.std.proofs.Common.{◌≡◌, ℕ, ◌+◌, ◌<◌, List, [], ◌∷◌, ◌++◌, length, take, get_or, refl, sym, ap, subst, ◌∙◌}
use Rattle.std.proofs.lemmas.List.{take_more}
use Rattle.serde_json.specs.Data.{Members, no_members, put}
use Rattle.xv_report.specs.declared.counts.Count.{Count}
use Rattle.xv_report.specs.Json.{number_value, put_workers}
use Rattle.xv_report.specs.Workers.{worker_name, HasSmallNumber, HaveSmallNumbers}

-- the last worker is put last
put_workers-append : (xs : List Count) (c : Count) (ms : Members) → put_workers (xs ++ c ∷ []) ms ≡ put (worker_name c.worker) (number_value c.steps) (put_workers xs ms)
put_workers-append [] c ms = refl
put_workers-append (x ∷ xs) c ms = put_workers-append xs c (put (worker_name x.worker) (number_value x.steps) ms)

-- the workers up to a place, and one more
pub put_workers-next : (xs : List Count) (n : ℕ) (d : Count) → n < length xs → put_workers (take (n + 1) xs) no_members ≡ put (worker_name (get_or xs n d).worker) (number_value (get_or xs n d).steps) (put_workers (take n xs) no_members)
put_workers-next xs n d h = ap (λ (ys : List Count). put_workers ys no_members) (take_more xs n d h) ∙ put_workers-append (take n xs) (get_or xs n d) no_members

-- one turn of the loop over the workers
pub workers-step : (xs : List Count) (n : ℕ) (d : Count) (name : List ℕ) (before later : Members) → n < length xs → before ≡ put_workers (take n xs) no_members → name ≡ worker_name (get_or xs n d).worker
    → later ≡ put name (number_value (get_or xs n d).steps) before → later ≡ put_workers (take (n + 1) xs) no_members
workers-step xs n d name before later h done named one =
    one ∙ ap (λ (k : List ℕ). put k (number_value (get_or xs n d).steps) before) named
    ∙ ap (λ (ms : Members). put (worker_name (get_or xs n d).worker) (number_value (get_or xs n d).steps) ms) done ∙ sym (put_workers-next xs n d h)

-- the numbers stay small with one worker more
small-append : (xs : List Count) (c : Count) → HaveSmallNumbers xs → HasSmallNumber c.worker → HaveSmallNumbers (xs ++ c ∷ [])
small-append [] c all one = (one, tt)
small-append (x ∷ xs) c all one = (all.0, small-append xs c all.1 one)

pub small-step : (xs : List Count) (n : ℕ) (d : Count) → n < length xs → HaveSmallNumbers (take n xs) → HasSmallNumber (get_or xs n d).worker → HaveSmallNumbers (take (n + 1) xs)
small-step xs n d h all one = subst (λ (ys : List Count). HaveSmallNumbers ys) (sym (take_more xs n d h)) (small-append (take n xs) (get_or xs n d) all one)
