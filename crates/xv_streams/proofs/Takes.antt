-- Takes one after another are one take of all their bytes.
use Rattle.std.proofs.Common.{◌≡◌, ℕ, ◌+◌, ◌-◌, ◌<◌, ◌≤◌, List, [], ◌∷◌, length, drop, sym, ap, ◌∙◌, arith, refl, subst, Bool, true, false, not, ◌&&◌, eqb, Option, Some, None, inl, inr, ◌⊎◌}
use Rattle.std.specs.Prelude.{if◌then◌else◌, nat_lt, IfSome, option_map}
use Rattle.std.proofs.lemmas.Bool.{lt-ltb, le-ltb, cases_lt, false≢true}
use Rattle.std.proofs.lemmas.Bool.Decides.{eqb_tells}
use Rattle.std.proofs.lemmas.List.{drop-drop}
use Rattle.xv_wire.specs.Wire.{TakeBytes, Counted, left_past, left_after, is_inside, met_past, counted_after, is_planned}
use Rattle.xv_wire.specs.Told.{Told, told_after, CallMade}
use Rattle.xv_wire.proofs.Passing.{left-add, inside-add, left-within, inside-within}
use Rattle.xv_streams.specs.Taking.{first_left, AreOfOnePiece, TakesMade}

-- takes that go on: so many bytes were taken of those that are wanted
pub record Taking (n want : ℕ) (before now : Told) (faults more : ℕ) : Type 0 where
  pub told : now ≡ told_after (TakeBytes n) false before
  pub planned : IfSome before.counted (λ c. AreOfOnePiece want before c → 0 < n → is_planned (TakeBytes 0) before.transit c ≡ false)
  pub never_falls : faults ≤ more

positive : (n : ℕ) → 0 < n → eqb n 0 ≡ false
positive n h = grind (arith, eqb_tells n 0)

none-after : (n : ℕ) (ps : List ℕ) → n ≡ 0 → left_after n ps ≡ ps
none-after n ps e = ap (λ k. left_after k ps) e

left-some : (n : ℕ) (ps : List ℕ) → 0 < n → left_after n ps ≡ left_past n ps
left-some n ps h = ap (λ t. if t then ps else left_past n ps) (positive n h)

none-met : (n : ℕ) (met : Bool) (ps : List ℕ) → n ≡ 0 → met_past n met ps ≡ met
none-met n met ps e = ap (λ k. met_past k met ps) e

some-met : (n : ℕ) (met : Bool) (ps : List ℕ) → 0 < n → met_past n met ps ≡ is_inside n ps
some-met n met ps h = ap (λ t. if t then met else is_inside n ps) (positive n h)

after-add : (n m : ℕ) (ps : List ℕ) → left_after m (left_after n ps) ≡ left_after (n + m) ps
after-add n m ps = elim (cases_lt 0 n) [
  | inl some ↦ elim (cases_lt 0 m) [
    | inl more ↦ ap (left_after m) (left-some n ps some) ∙ left-some m (left_past n ps) more ∙ sym (left-add n m ps) ∙ sym (left-some (n + m) ps (omega arith))
    | inr none ↦ none-after m (left_after n ps) (omega arith) ∙ (let e : n ≡ n + m = omega arith in ap (λ k. left_after k ps) e)
  ]
  | inr zero' ↦ ap (left_after m) (none-after n ps (omega arith)) ∙ (let e : m ≡ n + m = omega arith in ap (λ k. left_after k ps) e)
]

met-add : (n m : ℕ) (met : Bool) (ps : List ℕ) → met_past m (met_past n met ps) (left_after n ps) ≡ met_past (n + m) met ps
met-add n m met ps = elim (cases_lt 0 n) [
  | inl some ↦ elim (cases_lt 0 m) [
    | inl more ↦ some-met m (met_past n met ps) (left_after n ps) more ∙ ap (is_inside m) (left-some n ps some) ∙ sym (inside-add n m ps more) ∙ sym (some-met (n + m) met ps (omega arith))
    | inr none ↦ none-met m (met_past n met ps) (left_after n ps) (omega arith) ∙ (let e : n ≡ n + m = omega arith in ap (λ k. met_past k met ps) e)
  ]
  | inr zero' ↦ (λ i. met_past m (none-met n met ps (omega arith) i) (none-after n ps (omega arith) i)) ∙ (let e : m ≡ n + m = omega arith in ap (λ k. met_past k met ps) e)
]

counted-add : (n m : ℕ) (f : Bool) (c : Counted) → counted_after (TakeBytes m) f (counted_after (TakeBytes n) false c) ≡ counted_after (TakeBytes (n + m)) f c
counted-add n m true c = λ i. record c { left = after-add n m c.left i; met = true }
counted-add n m false c = λ i. record c { left = after-add n m c.left i; met = met-add n m c.met c.left i }

all-counted-add : (n m : ℕ) (f : Bool) (o : Option Counted) → option_map (counted_after (TakeBytes m) f) (option_map (counted_after (TakeBytes n) false) o) ≡ option_map (counted_after (TakeBytes (n + m)) f) o
all-counted-add n m f None = refl
all-counted-add n m f (Some c) = ap Some (counted-add n m f c)

pub told-add : (n m : ℕ) (f : Bool) (t : Told) → told_after (TakeBytes m) f (told_after (TakeBytes n) false t) ≡ told_after (TakeBytes (n + m)) f t
told-add n m f t = λ i. record { capacity = t.capacity; transit = drop-drop m n t.transit i; counted = all-counted-add n m f t.counted i }

none-counted : (o : Option Counted) → option_map (counted_after (TakeBytes 0) false) o ≡ o
none-counted None = refl
none-counted (Some c) = refl

pub told-none : (t : Told) → told_after (TakeBytes 0) false t ≡ t
told-none t = λ i. record { capacity = t.capacity; transit = t.transit; counted = none-counted t.counted i }

-- once the first of the bytes of one piece are taken, no take of the others fails by the plan
not-met : (b x m : Bool) → m ≡ true → ((b && not m) && x) ≡ false
not-met true x m e = ap (λ k. (not k) && x) e
not-met false x m e = refl

met-inside : (n want : ℕ) (left : List ℕ) → 0 < n → n < want → want ≤ first_left left → is_inside n left ≡ true
met-inside n want [] some below one = absurd (omega arith)
met-inside n want (p ∷ ps) some below one = inside-within n p ps (omega arith) ∙ lt-ltb 0 n some

inside-one : (n want : ℕ) (t : Told) (c : Counted) → 0 < n → n < want → n ≤ length t.transit → AreOfOnePiece want t c → is_planned (TakeBytes 0) (drop n t.transit) (counted_after (TakeBytes n) false c) ≡ false
inside-one n want t c some below there one = not-met _ _ (met_past n c.met c.left) (some-met n c.met c.left some ∙ met-inside n want c.left some below (one (omega arith)))

map-some : {A : Type 0} (P Q : A → Type 0) (o : Option A) → ((a : A) → P a → Q a) → IfSome o P → IfSome o Q
map-some P Q None f h = tt
map-some P Q (Some a) f h = f a h

both-some : {A : Type 0} (P Q R : A → Type 0) (o : Option A) → ((a : A) → P a → Q a → R a) → IfSome o P → IfSome o Q → IfSome o R
both-some P Q R None f h k = tt
both-some P Q R (Some a) f h k = f a h k

-- what the plan says of a take that is not the first
later : (n want : ℕ) (b : Bool) (t : Told) (o : Option Counted) → 0 < n → n < want → n ≤ length t.transit
    → IfSome (option_map (counted_after (TakeBytes n) false) o) (λ c. b ≡ is_planned (TakeBytes 0) (drop n t.transit) c)
    → IfSome o (λ c. AreOfOnePiece want t c → b ≡ false)
later n want b t None some below there h = tt
later n want b t (Some c) some below there h = λ one. h ∙ inside-one n want t c some below there one

-- a take by itself says it of the wire as it was
first : (m : ℕ) (b : Bool) (t now : Told) → now ≡ told_after (TakeBytes 0) false t → IfSome now.counted (λ c. b ≡ is_planned (TakeBytes m) now.transit c) → IfSome t.counted (λ c. b ≡ is_planned (TakeBytes 0) t.transit c)
first m b t now e h = subst (λ (s : Told). IfSome s.counted (λ c. b ≡ is_planned (TakeBytes 0) s.transit c)) (e ∙ told-none t) h

after-some : (m n want : ℕ) (b : Bool) (t now : Told) → now ≡ told_after (TakeBytes n) false t → 0 < n → n < want → n ≤ length t.transit
    → IfSome now.counted (λ c. b ≡ is_planned (TakeBytes m) now.transit c) → IfSome t.counted (λ c. AreOfOnePiece want t c → b ≡ false)
after-some m n want b t now e some below there h =
    later n want b t t.counted some below there (subst (λ (s : Told). IfSome s.counted (λ c. b ≡ is_planned (TakeBytes 0) s.transit c)) e h)

zero-is : (n : ℕ) (t now : Told) → now ≡ told_after (TakeBytes n) false t → n ≤ 0 → now ≡ told_after (TakeBytes 0) false t
zero-is n t now e h = let z : n ≡ 0 = omega arith in e ∙ ap (λ k. told_after (TakeBytes k) false t) z

-- whether the first take failed, by the plan
pub whether : (m n want : ℕ) (b : Bool) (t now : Told) (f g : ℕ) → Taking n want t now f g → n < want → n ≤ length t.transit
    → IfSome now.counted (λ c. b ≡ is_planned (TakeBytes m) now.transit c)
    → IfSome t.counted (λ c. AreOfOnePiece want t c → b ≡ is_planned (TakeBytes 0) t.transit c)
whether m n want b t now f g h below there p = elim (cases_lt 0 n) [
  | inl some ↦ both-some (λ c. AreOfOnePiece want t c → 0 < n → is_planned (TakeBytes 0) t.transit c ≡ false) (λ c. AreOfOnePiece want t c → b ≡ false) (λ c. AreOfOnePiece want t c → b ≡ is_planned (TakeBytes 0) t.transit c) t.counted
      (λ c was now'. λ one. now' one ∙ sym (was one some)) h.planned (after-some m n want b t now h.told some below there p)
  | inr none ↦ map-some (λ c. b ≡ is_planned (TakeBytes 0) t.transit c) (λ c. AreOfOnePiece want t c → b ≡ is_planned (TakeBytes 0) t.transit c) t.counted (λ c e. λ one. e)
      (first m b t now (zero-is n t now h.told none) p)
]

-- a take that moves bytes goes on
pub taking-more : (m n want : ℕ) (t now next : Told) (f g k : ℕ) → Taking n want t now f g → n < want → n ≤ length t.transit → CallMade (TakeBytes m) false now next g k → Taking (n + m) want t next f k
taking-more m n want t now next f g k h below there made = record {
  told = made.told ∙ ap (told_after (TakeBytes m) false) h.told ∙ told-add n m false t;
  planned = map-some (λ c. AreOfOnePiece want t c → false ≡ is_planned (TakeBytes 0) t.transit c) (λ c. AreOfOnePiece want t c → 0 < n + m → is_planned (TakeBytes 0) t.transit c ≡ false) t.counted
      (λ c e. λ one some. sym (e one)) (whether m n want false t now f g h below there made.planned);
  never_falls = omega (arith, h.never_falls, made.caused.never_falls);
}

-- some takes that had enough, as a beginning of more
pub go-on : (n want more : ℕ) (t now : Told) (f g : ℕ) → TakesMade n false want t now f g → n ≡ want → want ≤ more → Taking n more t now f g
go-on n want more t now f g h e le = record {
  told = h.told;
  planned = map-some (λ c. AreOfOnePiece want t c → false ≡ (nat_lt 0 want && is_planned (TakeBytes 0) t.transit c)) (λ c. AreOfOnePiece more t c → 0 < n → is_planned (TakeBytes 0) t.transit c ≡ false) t.counted
      (λ c p. λ one some. ap (λ k. k && is_planned (TakeBytes 0) t.transit c) (sym (lt-ltb 0 want (omega arith))) ∙ sym (p (λ there. omega (arith, one there)))) h.planned;
  never_falls = h.caused.never_falls;
}

-- the rest of one piece
rest-left : (n want : ℕ) (left : List ℕ) → 0 < n → n ≤ want → want ≤ first_left left → want - n ≤ first_left (left_after n left)
rest-left n want [] some le one = omega arith
rest-left n want (p ∷ ps) some le one = elim (cases_lt n p) [
  | inl within ↦ omega (arith, ap first_left (left-some n (p ∷ ps) some ∙ left-within n p ps within))
  | inr over ↦ omega arith
]

and-false : (x y : Bool) → y ≡ false → (x && y) ≡ false
and-false true y e = e
and-false false y e = refl

later-takes : (n want : ℕ) (b : Bool) (t : Told) (o : Option Counted) → 0 < n → n ≤ want → n ≤ length t.transit
    → IfSome (option_map (counted_after (TakeBytes n) false) o) (λ c. (0 < length (drop n t.transit) → want - n ≤ first_left c.left) → b ≡ (nat_lt 0 (want - n) && is_planned (TakeBytes 0) (drop n t.transit) c))
    → IfSome o (λ c. AreOfOnePiece want t c → b ≡ false)
later-takes n want b t None some le there h = tt
later-takes n want b t (Some c) some le there h = λ one.
    h (λ more. rest-left n want c.left some le (one (omega arith)))
    ∙ elim (cases_lt n want) [
      | inl below ↦ and-false (nat_lt 0 (want - n)) _ (inside-one n want t c some below there one)
      | inr all ↦ ap (λ k. k && is_planned (TakeBytes 0) (drop n t.transit) (counted_after (TakeBytes n) false c)) (le-ltb 0 (want - n) (omega arith))
    ]

-- takes after takes
pub takes-after : (n m want : ℕ) (b : Bool) (t now next : Told) (f g k : ℕ) → Taking n want t now f g → n ≤ length t.transit → n ≤ want → TakesMade m b (want - n) now next g k → TakesMade (n + m) b want t next f k
takes-after n m want b t now next f g k h there le made = record {
  told = made.told ∙ ap (told_after (TakeBytes m) b) h.told ∙ told-add n m b t;
  planned = elim (cases_lt 0 n) [
    | inl some ↦ both-some (λ c. AreOfOnePiece want t c → 0 < n → is_planned (TakeBytes 0) t.transit c ≡ false) (λ c. AreOfOnePiece want t c → b ≡ false) (λ c. AreOfOnePiece want t c → b ≡ (nat_lt 0 want && is_planned (TakeBytes 0) t.transit c)) t.counted
        (λ c was now'. λ one. now' one ∙ sym (and-false (nat_lt 0 want) _ (was one some))) h.planned
        (later-takes n want b t t.counted some le there (subst (λ (s : Told). IfSome s.counted (λ c. AreOfOnePiece (want - n) s c → b ≡ (nat_lt 0 (want - n) && is_planned (TakeBytes 0) s.transit c))) h.told made.planned))
    | inr none ↦
        let same : now ≡ t = zero-is n t now h.told none ∙ told-none t in
        let all : want - n ≡ want = omega arith in
        subst (λ (w : ℕ). IfSome t.counted (λ c. AreOfOnePiece w t c → b ≡ (nat_lt 0 w && is_planned (TakeBytes 0) t.transit c))) all
        (subst (λ (s : Told). IfSome s.counted (λ c. AreOfOnePiece (want - n) s c → b ≡ (nat_lt 0 (want - n) && is_planned (TakeBytes 0) s.transit c))) same made.planned)
  ];
  early = λ is. omega (arith, made.early is);
  caused = record { cause = omega (arith, h.never_falls, made.caused.cause); never_falls = omega (arith, h.never_falls, made.caused.never_falls) };
}

-- a take that failed, of more bytes than were wanted
pub failed-of-more : (n want more : ℕ) (t now : Told) (f g : ℕ) → TakesMade n true want t now f g → want ≤ more → TakesMade n true more t now f g
failed-of-more n want more t now f g h le = record {
  told = h.told;
  planned = map-some (λ c. AreOfOnePiece want t c → true ≡ (nat_lt 0 want && is_planned (TakeBytes 0) t.transit c)) (λ c. AreOfOnePiece more t c → true ≡ (nat_lt 0 more && is_planned (TakeBytes 0) t.transit c)) t.counted
      (λ c p. λ one. wider (cases_lt 0 want) (is_planned (TakeBytes 0) t.transit c) (p (λ there. omega (arith, one there)))) h.planned;
  early = λ is. omega (arith, h.early is);
  caused = h.caused;
}
  where
    wider : (0 < want) ⊎ (want ≤ 0) → (b : Bool) → true ≡ (nat_lt 0 want && b) → true ≡ (nat_lt 0 more && b)
    wider (inl some) b e = e ∙ (λ i. (lt-ltb 0 want some ∙ sym (lt-ltb 0 more (omega arith))) i && b)
    wider (inr none) b e = absurd (false≢true (sym (e ∙ ap (λ k. k && b) (le-ltb 0 want none))))
