-- The first event that can act, in lists joined and turned.
use Rattle.std.specs.Prelude.{◌≡◌, ◌≤◌, ◌<◌, ℕ, suc, ◌+◌, ◌%◌, Bool, true, false, List, [], ◌∷◌, ◌++◌, length, take, drop, get_or, Option, Some, None, is_none, IfSome, IfNone, IsSomeAnd, if◌then◌else◌}
use Rattle.std.specs.List.{list_all}
use Rattle.std.proofs.Common.{arith, refl, sym, ap, subst, ◌∙◌, inl, inr, length-take, drop-cons}
use Rattle.std.proofs.Math.Seq.{take-length}
use Rattle.std.proofs.lemmas.Bool.{cases_Bool}
use Rattle.std.proofs.lemmas.List.{get_or-take}
use Rattle.std.proofs.lemmas.List.Folds.{list_all_at}
use Rattle.xv_base.specs.declared.event.Event.TheVariants.{Cancel}
use Rattle.xv_model.specs.Job.{Job, IsGoodJob}
use Rattle.xv_model.specs.View.{View}
use Rattle.xv_model.specs.Wait.{Event, wait, fits}
use Rattle.xv_model.specs.Invariant.{IsViewOf}
use Rattle.xv_model.specs.Work.{is_finished}
use Rattle.xv_model.specs.Driver.{driver_events, first_able, from_place, next_event}
use Rattle.xv_model.proofs.Drivers.{all_fit, driver_some}
use Rattle.xv_model.proofs.Finished.{driver_none, none_finished}

-- in the first of two lists, or in the second
able-first-by : (b : Bool) (job : Job) (v : View) (x e : Event) (xs ys : List Event) → (first_able job v xs ≡ Some e → first_able job v (xs ++ ys) ≡ Some e) →
    (if b then Some x else first_able job v xs) ≡ Some e → (if b then Some x else first_able job v (xs ++ ys)) ≡ Some e
able-first-by true job v x e xs ys later h = h
able-first-by false job v x e xs ys later h = later h

pub able-first : (job : Job) (v : View) (xs ys : List Event) (e : Event) → first_able job v xs ≡ Some e → first_able job v (xs ++ ys) ≡ Some e
able-first job v [] ys e h = absurd (cc)
able-first job v (x ∷ xs) ys e h = able-first-by (is_none (wait job v x false)) job v x e xs ys (able-first job v xs ys e) h

able-later-by : (b : Bool) (job : Job) (v : View) (x : Event) (xs ys : List Event) → (first_able job v xs ≡ None → first_able job v (xs ++ ys) ≡ first_able job v ys) →
    (if b then Some x else first_able job v xs) ≡ None → (if b then Some x else first_able job v (xs ++ ys)) ≡ first_able job v ys
able-later-by true job v x xs ys later h = absurd (cc)
able-later-by false job v x xs ys later h = later h

pub able-later : (job : Job) (v : View) (xs ys : List Event) → first_able job v xs ≡ None → first_able job v (xs ++ ys) ≡ first_able job v ys
able-later job v [] ys h = refl
able-later job v (x ∷ xs) ys h = able-later-by (is_none (wait job v x false)) job v x xs ys (able-later job v xs ys) h

-- from a place to the end, and then from the beginning to the place
pub next-behind : (job : Job) (v : View) (n place count : ℕ) (e : Event) → count ≡ length (driver_events job) → place ≡ n % length (driver_events job) → Some e ≡ first_able job v (drop place (take count (driver_events job))) → Some e ≡ next_event job v n
next-behind job v n place count e all turned found =
    let events = driver_events job in
    let whole : take count events ≡ events = ap (λ (k : ℕ). take k events) all ∙ take-length events in
    let behind = found ∙ ap (λ (l : List Event). first_able job v (drop place l)) whole in
    sym (able-first job v (drop place events) (take place events) e (sym behind)) ∙ ap (λ (k : ℕ). first_able job v (from_place events k)) turned

pub next-before : (job : Job) (v : View) (n place count : ℕ) (found : Option Event) → count ≡ length (driver_events job) → place ≡ n % length (driver_events job) → None ≡ first_able job v (drop place (take count (driver_events job))) → found ≡ first_able job v (take place (driver_events job)) → found ≡ next_event job v n
next-before job v n place count found all turned none before =
    let events = driver_events job in
    let whole : take count events ≡ events = ap (λ (k : ℕ). take k events) all ∙ take-length events in
    let behind = none ∙ ap (λ (l : List Event). first_able job v (drop place l)) whole in
    before ∙ sym (able-later job v (drop place events) (take place events) (sym behind)) ∙ ap (λ (k : ℕ). first_able job v (from_place events k)) turned

-- one event after another, up to an end
one_on : (events : List Event) (i end : ℕ) → i < end → end ≤ length events → drop i (take end events) ≡ get_or events i Cancel ∷ drop (i + 1) (take end events)
one_on events i end below within =
    let there : i < length (take end events) = omega (arith, length-take end events) in
    let next : suc i ≡ i + 1 = omega arith in
    drop-cons (take end events) i Cancel there
    ∙ ap (λ (e : Event). e ∷ drop (suc i) (take end events)) (get_or-take end events i Cancel below)
    ∙ ap (λ (k : ℕ). get_or events i Cancel ∷ drop k (take end events)) next

able-cons : (job : Job) (v : View) (e : Event) (es : List Event) (b : Bool) → is_none (wait job v e false) ≡ b → first_able job v (e ∷ es) ≡ (if b then Some e else first_able job v es)
able-cons job v e es b h = ap (λ (t : Bool). if t then Some e else first_able job v es) h

pub able-here : (job : Job) (v : View) (i end : ℕ) (e : Event) (found : Option Event) (can : Bool) → i < end → end ≤ length (driver_events job) → e ≡ get_or (driver_events job) i Cancel → can ≡ is_none (wait job v e false) → can ≡ true →
    found ≡ first_able job v (drop i (take end (driver_events job))) → Some e ≡ found
able-here job v i end e found can below within is says acts so_far =
    let events = driver_events job in
    sym (
    so_far
    ∙ ap (first_able job v) (one_on events i end below within ∙ ap (λ (x : Event). x ∷ drop (i + 1) (take end events)) (sym is))
    ∙ able-cons job v e (drop (i + 1) (take end events)) true (sym says ∙ acts)
    )

pub able-behind : (job : Job) (v : View) (i end : ℕ) (e : Event) (found : Option Event) (can : Bool) → i < end → end ≤ length (driver_events job) → e ≡ get_or (driver_events job) i Cancel → can ≡ is_none (wait job v e false) → can ≡ false →
    found ≡ first_able job v (drop i (take end (driver_events job))) → found ≡ first_able job v (drop (i + 1) (take end (driver_events job)))
able-behind job v i end e found can below within is says waits so_far =
    let events = driver_events job in
    so_far
    ∙ ap (first_able job v) (one_on events i end below within ∙ ap (λ (x : Event). x ∷ drop (i + 1) (take end events)) (sym is))
    ∙ able-cons job v e (drop (i + 1) (take end events)) false (sym says ∙ waits)

-- each event of the list is one of the job's
list_all-at : (test : Event → Bool) (es : List Event) (i : ℕ) (d : Event) → i < length es → list_all test es ≡ true → test (get_or es i d) ≡ true
list_all-at test es i d there all = elim (cases_Bool (test (get_or es i d))) [
  | inl passes ↦ passes
  | inr fails ↦ let none : list_all test es ≡ false = list_all_at test es i d there fails in absurd (cc)
]

pub listed-fits : (job : Job) (i : ℕ) (e : Event) → i < length (driver_events job) → e ≡ get_or (driver_events job) i Cancel → fits job e ≡ true
listed-fits job i e there is = ap (fits job) is ∙ list_all-at (fits job) (driver_events job) i Cancel there (all_fit job)

-- what the next event is, and where there is none
pub record IsNext (job : Job) (v : View) (found : Option Event) : Type 0 where
  pub none : IfNone found (is_finished job v ≡ true)
  pub some : is_finished job v ≡ true → found ≡ None
  pub goes : IfSome found (λ e. fits job e ≡ true) × IfSome found (λ e. wait job v e false ≡ None)

both-of : (P Q : Event → Type 0) (o : Option Event) → IsSomeAnd o (λ e. P e × Q e) → IfSome o P × IfSome o Q
both-of P Q None h = absurd h
both-of P Q (Some e) h = h

neither-of : (P Q : Event → Type 0) (o : Option Event) → o ≡ None → IfSome o P × IfSome o Q
neither-of P Q None h = (tt, tt)
neither-of P Q (Some e) h = absurd (cc)

next-goes : (job : Job) (v : View) (n : ℕ) → IsGoodJob job → IsViewOf job v → IfSome (next_event job v n) (λ e. fits job e ≡ true) × IfSome (next_event job v n) (λ e. wait job v e false ≡ None)
next-goes job v n good inv = elim (cases_Bool (is_finished job v)) [
  | inl done ↦ neither-of (λ e. fits job e ≡ true) (λ e. wait job v e false ≡ None) (next_event job v n) (driver_none job v n done)
  | inr more ↦ both-of (λ e. fits job e ≡ true) (λ e. wait job v e false ≡ None) (next_event job v n) (driver_some job v n good inv more)
]

none-where : (o : Option Event) (P : Type 0) → (o ≡ None → P) → IfNone o P
none-where None P h = h refl
none-where (Some e) P h = tt

pub is-next : (job : Job) (v : View) (n : ℕ) (found : Option Event) → IsGoodJob job → IsViewOf job v → found ≡ next_event job v n → IsNext job v found
is-next job v n found good inv is = subst (IsNext job v) (sym is) (record {
  none = none-where (next_event job v n) (is_finished job v ≡ true) (none_finished job v n good inv);
  some = driver_none job v n;
  goes = next-goes job v n good inv;
})
