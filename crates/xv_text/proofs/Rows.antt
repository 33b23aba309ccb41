-- Fields that are read by their kinds, one after another.
use Rattle.std.proofs.Common.{◌≡◌, ◌==◌, ℕ, zero, suc, ◌+◌, ◌<◌, ◌≤◌, Bool, true, false, not, List, [], ◌∷◌, ◌++◌, length, take, get_or, Option, Some, None, refl, sym, ap, ◌∙◌, arith, append_assoc, if◌then◌else◌, inl, inr, ◌⊎◌, IfNone, ◌^◌, subst}
use Rattle.std.specs.List.{list_any}
use Rattle.std.proofs.lemmas.Bool.{cases_Bool, or_parts, or_from, eq-eqb, eqb-true, not-false, not_from_true}
use Rattle.std.proofs.lemmas.List.{take_more, length-append, take_at, length-take-le, append-nil, take_all}
use Rattle.xv_base.specs.declared.text.LineWhy.{LineWhy}
use Rattle.xv_base.specs.declared.text.LineWhy.TheVariants.{BadNumber, BadHex}
use Rattle.xv_text.specs.declared.row.Kind.{Kind}
use Rattle.xv_text.specs.declared.row.Kind.TheVariants.{Number, Bytes}
use Rattle.xv_text.specs.Fields.{Values, values, with_field, kinds_fault, field_fault, fields_fault, or_else, fault_if, is_empty, hex_bytes, is_hex, is_number, IsPattern, number_at}
use Rattle.xv_text.specs.Row.{with_last, is_bytes, IsRow}
use Rattle.xv_text.proofs.HexFields.{bytes_pattern}
use Rattle.xv_text.proofs.Numbers.{number_below}

-- the first i fields are read: what they say, the first fault among them, and the fields behind them
pub record IsReadTo (kinds : List Kind) (args : List (List ℕ)) (i : ℕ) (row : Values) (fault : Option LineWhy) (rest : List (List ℕ)) : Type 0 where
  pub there : args ≡ take i args ++ rest
  pub counted : length (take i args) ≡ i
  pub some : list_any is_empty (take i args) ≡ false
  pub first : fault ≡ kinds_fault (take i kinds) (take i args)
  pub said : fault ≡ None → row ≡ values (take i kinds) (take i args)
  pub few : length row.numbers ≤ i

-- what a field without a fault is
pub is_number_field : (f : List ℕ) → field_fault Number f ≡ None → is_number f ≡ true
is_number_field f h = elim (cases_Bool (is_number f)) [
  | inl t ↦ t
  | inr e ↦ let bad : Some BadNumber ≡ None = rw e at h in absurd (cc)
]

pub is_hex_field : (f : List ℕ) → field_fault Bytes f ≡ None → is_hex f ≡ true
is_hex_field f h = elim (cases_Bool (is_hex f)) [
  | inl t ↦ t
  | inr e ↦ let bad : Some BadHex ≡ None = rw e at h in absurd (cc)
]

pub not_empty : (bytes : List ℕ) → 1 ≤ length bytes → is_empty bytes ≡ false
not_empty [] h = absurd (omega arith)
not_empty (b ∷ bytes) h = refl

pub or_else_none : (a : Option LineWhy) → or_else a None ≡ a
or_else_none None = refl
or_else_none (Some why) = refl

pub no_fault_if : (b : Bool) (why : LineWhy) → fault_if b why ≡ None → b ≡ false
no_fault_if true why h = absurd (cc)
no_fault_if false why h = refl

-- a list test fails on a list with one item more where it fails on both
any_push : (fs : List (List ℕ)) (f : List ℕ) → list_any is_empty fs ≡ false → is_empty f ≡ false → list_any is_empty (fs ++ f ∷ []) ≡ false
any_push [] f h e = rw e refl
any_push (g ∷ fs) f h e =
    let p = or_parts (is_empty g) (list_any is_empty fs) h in
    or_from (is_empty g) _ p.0 (any_push fs f p.1 e)

or_else-assoc : (a b c : Option LineWhy) → or_else (or_else a b) c ≡ or_else a (or_else b c)
or_else-assoc None b c = refl
or_else-assoc (Some why) b c = refl

-- the first fault of fields with one more
kinds_fault-push : (ks : List Kind) (fs : List (List ℕ)) (k : Kind) (f : List ℕ) → length ks ≡ length fs
    → kinds_fault (ks ++ k ∷ []) (fs ++ f ∷ []) ≡ or_else (kinds_fault ks fs) (field_fault k f)
kinds_fault-push [] [] k f e = or_else_none (field_fault k f)
kinds_fault-push [] (g ∷ fs) k f e = absurd (omega arith)
kinds_fault-push (j ∷ ks) [] k f e = absurd (omega arith)
kinds_fault-push (j ∷ ks) (g ∷ fs) k f e =
    ap (or_else (field_fault j g)) (kinds_fault-push ks fs k f (omega arith)) ∙ sym (or_else-assoc (field_fault j g) (kinds_fault ks fs) (field_fault k f))

-- where bytes are said, there are some
some_bytes : (f : List ℕ) → field_fault Bytes f ≡ None → is_empty (hex_bytes f) ≡ false
some_bytes f h = not_empty (hex_bytes f) (bytes_pattern f (is_hex_field f h)).some

-- what fields say with one more
values-push : (ks : List Kind) (fs : List (List ℕ)) (k : Kind) (f : List ℕ) → length ks ≡ length fs → field_fault k f ≡ None
    → values (ks ++ k ∷ []) (fs ++ f ∷ []) ≡ with_last k f (values ks fs)
values-push [] [] Number f e h = refl
values-push [] [] Bytes f e h = refl
values-push [] (g ∷ fs) k f e h = absurd (omega arith)
values-push (j ∷ ks) [] k f e h = absurd (omega arith)
values-push (Number ∷ ks) (g ∷ fs) Number f e h = ap (with_field Number g) (values-push ks fs Number f (omega arith) h)
values-push (Number ∷ ks) (g ∷ fs) Bytes f e h = ap (with_field Number g) (values-push ks fs Bytes f (omega arith) h)
values-push (Bytes ∷ ks) (g ∷ fs) Number f e h = ap (with_field Bytes g) (values-push ks fs Number f (omega arith) h)
values-push (Bytes ∷ ks) (g ∷ fs) Bytes f e h =
    ap (with_field Bytes g) (values-push ks fs Bytes f (omega arith) h) ∙ rw (some_bytes f h) refl

-- one field more is read
next_fields : (args after : List (List ℕ)) (field : List ℕ) (i : ℕ) → args ≡ take i args ++ field ∷ after → length (take i args) ≡ i
    → (take (i + 1) args ≡ take i args ++ field ∷ []) × (args ≡ take (i + 1) args ++ after)
next_fields args after field i e n =
    let whole : args ≡ (take i args ++ field ∷ []) ++ after = e ∙ sym (append_assoc (take i args) (field ∷ []) after) in
    let count : length (take i args ++ field ∷ []) ≡ i + 1 = omega (arith, n, length-append (take i args) (field ∷ [])) in
    let first : take (i + 1) args ≡ take i args ++ field ∷ [] = ap (take (i + 1)) whole ∙ take_at (take i args ++ field ∷ []) after (i + 1) count in
    (first, whole ∙ ap (λ xs. xs ++ after) (sym first))

pub none_of_both : (a b : Option LineWhy) → or_else a b ≡ None → (a ≡ None) × (b ≡ None)
none_of_both None b h = (refl, h)
none_of_both (Some why) b h = absurd (cc)

said_next : (fault' : Option LineWhy) (P : Type 0) → IfNone fault' P → fault' ≡ None → P
said_next None P h e = h
said_next (Some why) P h e = absurd (cc)

pub read_next : (kinds : List Kind) (args : List (List ℕ)) (i : ℕ) (row : Values) (fault : Option LineWhy) (rest : List (List ℕ))
    (d : Kind) (field : List ℕ) (after : List (List ℕ)) (row' : Values) (fault' : Option LineWhy)
    → IsReadTo kinds args i row fault rest → i < length kinds → rest ≡ field ∷ after → is_empty field ≡ false
    → fault' ≡ or_else fault (field_fault (get_or kinds i d) field) → IfNone fault' (row' ≡ with_last (get_or kinds i d) field row)
    → length row'.numbers ≤ length row.numbers + 1 → IsReadTo kinds args (i + 1) row' fault' after
read_next kinds args i row fault rest d field after row' fault' r lt e some f added few =
    let k = get_or kinds i d in
    let next = next_fields args after field i (r.there ∙ ap (λ xs. take i args ++ xs) e) r.counted in
    let more : take (i + 1) kinds ≡ take i kinds ++ k ∷ [] = take_more kinds i d lt in
    let same : length (take i kinds) ≡ length (take i args) = omega (arith, r.counted, length-take-le i kinds (omega arith)) in
    record {
      there = next.1;
      counted = omega (arith, ap length next.0, length-append (take i args) (field ∷ []), r.counted);
      some = ap (list_any is_empty) next.0 ∙ any_push (take i args) field r.some some;
      first =
          f ∙ ap (λ x. or_else x (field_fault k field)) r.first
          ∙ sym (kinds_fault-push (take i kinds) (take i args) k field same)
          ∙ ap (λ ks. kinds_fault ks (take i args ++ field ∷ [])) (sym more)
          ∙ ap (kinds_fault (take (i + 1) kinds)) (sym next.0);
      said = λ none.
          let both = none_of_both fault (field_fault k field) (sym f ∙ none) in
          said_next fault' _ added none
          ∙ ap (with_last k field) (r.said both.0)
          ∙ sym (values-push (take i kinds) (take i args) k field same both.1)
          ∙ ap (λ ks. values ks (take i args ++ field ∷ [])) (sym more)
          ∙ ap (values (take (i + 1) kinds)) (sym next.0);
      few = omega (arith, few, r.few);
    }

-- what is known of a row
numbers_fit : (kinds : List Kind) (args : List (List ℕ)) → kinds_fault kinds args ≡ None → (i : ℕ) → number_at (values kinds args) i < 2 ^ 32
numbers_fit [] args h i = omega arith
numbers_fit (k ∷ kinds) [] h i = omega arith
numbers_fit (Number ∷ kinds) (f ∷ args) h zero = number_below f (is_number_field f (none_of_both _ _ h).0)
numbers_fit (Number ∷ kinds) (f ∷ args) h (suc i) = numbers_fit kinds args (none_of_both _ _ h).1 i
numbers_fit (Bytes ∷ kinds) (f ∷ args) h i = numbers_fit kinds args (none_of_both _ _ h).1 i

later_or_here : (p q : List ℕ) → IsPattern q → (p ≡ []) ⊎ IsPattern p → IsPattern (if is_empty p then q else p)
later_or_here [] q h l = h
later_or_here (b ∷ p) q h (inl e) = absurd (cc)
later_or_here (b ∷ p) q h (inr g) = g

pattern_or_none : (kinds : List Kind) (args : List (List ℕ)) → kinds_fault kinds args ≡ None → ((values kinds args).pattern ≡ []) ⊎ IsPattern (values kinds args).pattern
pattern_or_none [] args h = inl refl
pattern_or_none (k ∷ kinds) [] h = inl refl
pattern_or_none (Number ∷ kinds) (f ∷ args) h = pattern_or_none kinds args (none_of_both _ _ h).1
pattern_or_none (Bytes ∷ kinds) (f ∷ args) h =
    let both = none_of_both (field_fault Bytes f) (kinds_fault kinds args) h in
    inr (later_or_here (values kinds args).pattern (hex_bytes f) (bytes_pattern f (is_hex_field f both.0)) (pattern_or_none kinds args both.1))

pattern_there : (kinds : List Kind) (args : List (List ℕ)) → length args ≡ length kinds → kinds_fault kinds args ≡ None → list_any is_bytes kinds ≡ true → IsPattern (values kinds args).pattern
pattern_there [] args e h t = absurd (cc)
pattern_there (k ∷ kinds) [] e h t = absurd (omega arith)
pattern_there (Number ∷ kinds) (f ∷ args) e h t = pattern_there kinds args (omega arith) (none_of_both _ _ h).1 t
pattern_there (Bytes ∷ kinds) (f ∷ args) e h t =
    let both = none_of_both (field_fault Bytes f) (kinds_fault kinds args) h in
    later_or_here (values kinds args).pattern (hex_bytes f) (bytes_pattern f (is_hex_field f both.0)) (pattern_or_none kinds args both.1)

-- the parts of the test on fields
pub record AreOfKinds (kinds : List Kind) (args : List (List ℕ)) : Type 0 where
  pub counted : length args ≡ length kinds
  pub some : list_any is_empty args ≡ false
  pub each : kinds_fault kinds args ≡ None

pub fields_parts : (kinds : List Kind) (args : List (List ℕ)) → fields_fault kinds args ≡ None → AreOfKinds kinds args
fields_parts kinds args h =
    let both = none_of_both _ _ h in
    let tests = or_parts (not (length args == length kinds)) (list_any is_empty args) (no_fault_if _ _ both.0) in
    record { counted = eqb-true _ _ (not-false _ tests.0); some = tests.1; each = both.1 }

pub fields_from : (kinds : List Kind) (args : List (List ℕ)) → AreOfKinds kinds args → fields_fault kinds args ≡ None
fields_from kinds args a =
    rw (or_from (not (length args == length kinds)) (list_any is_empty args) (not_from_true _ (eq-eqb _ _ a.counted)) a.some) a.each

pub values_row : (kinds : List Kind) (args : List (List ℕ)) → fields_fault kinds args ≡ None → IsRow kinds (values kinds args)
values_row kinds args h =
    let a = fields_parts kinds args h in
    record { numbers_fit = numbers_fit kinds args a.each; pattern = pattern_there kinds args a.counted a.each }

-- the row when all are read
pub row_read : (kinds : List Kind) (args : List (List ℕ)) (i : ℕ) (row : Values) (fault : Option LineWhy) (rest : List (List ℕ))
    → IsReadTo kinds args i row fault rest → fault ≡ None → i ≡ length kinds → rest ≡ [] → IsRow kinds row
row_read kinds args i row fault rest r none e done =
    let args_is : take i args ≡ args = sym (r.there ∙ ap (λ xs. take i args ++ xs) done ∙ append-nil (take i args)) in
    let kinds_is : take i kinds ≡ kinds = take_all i kinds (omega arith) in
    let both : kinds_fault (take i kinds) (take i args) ≡ kinds_fault kinds args = ap (λ ks. kinds_fault ks (take i args)) kinds_is ∙ ap (kinds_fault kinds) args_is in
    let each : kinds_fault kinds args ≡ None = sym both ∙ sym r.first ∙ none in
    let counted : length args ≡ length kinds = omega (arith, ap length args_is, r.counted) in
    let row_is : values kinds args ≡ row =
    sym (r.said none ∙ ap (λ ks. values ks (take i args)) kinds_is ∙ ap (values kinds) args_is) in
    let P : Values → Type 0 = λ v. IsRow kinds v in
    subst P row_is (record { numbers_fit = numbers_fit kinds args each; pattern = pattern_there kinds args counted each })

pub some_byte : (bytes : List ℕ) → false ≡ (length bytes == 0) → is_empty bytes ≡ false
some_byte [] h = absurd (cc)
some_byte (b ∷ bytes) h = refl
