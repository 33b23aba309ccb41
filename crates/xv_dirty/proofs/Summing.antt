-- A level sums up the one below it, and goes on to do so as members come and go.
use Rattle.std.proofs.Common.{◌≡◌, ◌≢◌, ℕ, ◌/◌, ◌*◌, ◌<◌, Bool, true, false, List, length, set, replicate, refl, sym, ap, ◌∙◌, subst, arith, inl, inr}
use Rattle.std.specs.Int.{div_ceil}
use Rattle.std.proofs.lemmas.Bool.{cases_eq, cases_lt, false≢true}
use Rattle.std.proofs.lemmas.List.{length-set, get_or-set_same, get_or-set_other, get_or_past, set_past, length-replicate, get_or-replicate}
use Rattle.xv_dirty.specs.Pages.{member}
use Rattle.xv_dirty.specs.Levels.{IsClear, IsFirst, IsFirstOf, IsEmpty, SumsUp}

-- there is a bit above for each word below
pub bit_above : (upper lower : List Bool) → SumsUp upper lower → (i : ℕ) → i < length lower → i / 64 < length upper
bit_above upper lower s i h = let in' : i / 64 < div_ceil (length lower) 64 = grind arith in omega (arith, s.enough, in')

-- what a change of one bit leaves elsewhere
member-other : (level : List Bool) (i j : ℕ) (b : Bool) → j ≢ i → member (set level i b) j ≡ member level j
member-other level i j b other = get_or-set_other level i j b false other

cleared : (level : List Bool) (i : ℕ) → member (set level i false) i ≡ false
cleared level i = elim (cases_lt i (length level)) [
  | inl below ↦ get_or-set_same level i false false below
  | inr past ↦ ap (λ (l : List Bool). member l i) (set_past level i false past) ∙ get_or_past level i false past
]

-- a change of one bit leaves the other words as clear as they were
clear-other : (level : List Bool) (i w : ℕ) (b : Bool) → w ≢ i / 64 → IsClear level w → IsClear (set level i b) w
clear-other level i w b apart c = record { none = λ j at. member-other level i j b (λ e. apart (sym at ∙ ap (λ k. k / 64) e)) ∙ c.none j at }

clear-before : (level : List Bool) (i w : ℕ) (b : Bool) → w ≢ i / 64 → IsClear (set level i b) w → IsClear level w
clear-before level i w b apart c = record { none = λ j at. sym (member-other level i j b (λ e. apart (sym at ∙ ap (λ k. k / 64) e))) ∙ c.none j at }

-- to clear a bit leaves a clear word clear
clear-still : (level : List Bool) (i w : ℕ) → IsClear level w → IsClear (set level i false) w
clear-still level i w c = record { none = λ j at. elim (cases_eq j i) [ inl same ↦ ap (member (set level i false)) same ∙ cleared level i | inr other ↦ member-other level i j false other ∙ c.none j at ] }

module _ (upper lower : List Bool) (s : SumsUp upper lower) (i : ℕ) (below : i < length lower) where
  pub inserted : SumsUp (set upper (i / 64) true) (set lower i true)
  inserted = record {
    enough = length-set upper (i / 64) true ∙ s.enough ∙ ap (λ n. div_ceil n 64) (sym (length-set lower i true));
    clear = λ w unset. elim (cases_eq w (i / 64)) [
      | inl same ↦ absurd (false≢true (sym unset ∙ ap (member (set upper (i / 64) true)) same ∙ get_or-set_same upper (i / 64) true false (bit_above upper lower s i below)))
      | inr apart ↦ clear-other lower i w true apart (s.clear w (sym (member-other upper (i / 64) w true apart) ∙ unset))
    ];
    unset = λ w clear. elim (cases_eq w (i / 64)) [
      | inl same ↦ absurd (false≢true (sym (clear.none i (sym same)) ∙ get_or-set_same lower i true false below))
      | inr apart ↦ member-other upper (i / 64) w true apart ∙ s.unset w (clear-before lower i w true apart clear)
    ];
  }

  pub removed_last : IsClear (set lower i false) (i / 64) → SumsUp (set upper (i / 64) false) (set lower i false)
  removed_last last = record {
    enough = length-set upper (i / 64) false ∙ s.enough ∙ ap (λ n. div_ceil n 64) (sym (length-set lower i false));
    clear = λ w unset. elim (cases_eq w (i / 64)) [
      | inl same ↦ subst (IsClear (set lower i false)) (sym same) last
      | inr apart ↦ clear-other lower i w false apart (s.clear w (sym (member-other upper (i / 64) w false apart) ∙ unset))
    ];
    unset = λ w clear. elim (cases_eq w (i / 64)) [
      | inl same ↦ ap (member (set upper (i / 64) false)) same ∙ cleared upper (i / 64)
      | inr apart ↦ member-other upper (i / 64) w false apart ∙ s.unset w (clear-before lower i w false apart clear)
    ];
  }

  pub removed_other : ¬ IsClear (set lower i false) (i / 64) → SumsUp upper (set lower i false)
  removed_other more = record {
    enough = s.enough ∙ ap (λ n. div_ceil n 64) (sym (length-set lower i false));
    clear = λ w unset. clear-still lower i w (s.clear w unset);
    unset = λ w clear. elim (cases_eq w (i / 64)) [
      | inl same ↦ absurd (more (subst (IsClear (set lower i false)) same clear))
      | inr apart ↦ s.unset w (clear-before lower i w false apart clear)
    ];
  }

module _ (upper lower : List Bool) (s : SumsUp upper lower) where
  -- a set bit above is of a word that has a member
  pub occupied : (w : ℕ) → member upper w ≡ true → ¬ IsClear lower w
  occupied w there clear = false≢true (sym (s.unset w clear) ∙ there)

  -- the least member of the first word that has one is the least of all
  pub first_below : (w i : ℕ) → IsFirst upper w → IsFirstOf lower w i → IsFirst lower i
  first_below w i f o = record {
    there = o.there;
    first = λ j below. elim (cases_eq (j / 64) w) [
      | inl same ↦ o.first j below same
      | inr other ↦
          let before : j / 64 < w = omega (arith, below, other, o.within) in
          (s.clear (j / 64) (f.first (j / 64) before)).none j refl
    ];
  }

  pub empty_below : IsEmpty upper → IsEmpty lower
  empty_below e = record { none = λ i. (s.clear (i / 64) (e.none (i / 64))).none i refl }

none_there : (n i : ℕ) → member (replicate n false) i ≡ false
none_there n i = elim (cases_lt i n) [
  | inl below ↦ get_or-replicate n i false false below
  | inr past ↦ get_or_past (replicate n false) i false (omega (arith, length-replicate n false, past))
]

-- where all bits below are set, each word has one
pub full_above : (n : ℕ) → SumsUp (replicate (div_ceil n 64) true) (replicate n true)
full_above n = record {
  enough = length-replicate (div_ceil n 64) true ∙ ap (λ k. div_ceil k 64) (sym (length-replicate n true));
  clear = λ w unset. record {
    none = λ i at. elim (cases_lt i n) [
      | inl below ↦
          let in' : w < div_ceil n 64 = grind arith in
          absurd (false≢true (sym unset ∙ get_or-replicate (div_ceil n 64) w true false in'))
      | inr past ↦ get_or_past (replicate n true) i false (omega (arith, length-replicate n true, past))
    ];
  };
  unset = λ w clear. elim (cases_lt w (div_ceil n 64)) [
    | inl below ↦
        let first : w * 64 < n = omega arith in
        absurd (false≢true (sym (clear.none (w * 64) (omega arith)) ∙ get_or-replicate n (w * 64) true false first))
    | inr past ↦ get_or_past (replicate (div_ceil n 64) true) w false (omega (arith, length-replicate (div_ceil n 64) true, past))
  ];
}

-- and where none is, no word has
pub empty_above : (n : ℕ) → SumsUp (replicate (div_ceil n 64) false) (replicate n false)
empty_above n = record {
  enough = length-replicate (div_ceil n 64) false ∙ ap (λ k. div_ceil k 64) (sym (length-replicate n false));
  clear = λ w unset. record { none = λ i at. none_there n i };
  unset = λ w clear. none_there (div_ceil n 64) w;
}
