-- A set keeps its levels and its count as pages come and go.
use Rattle.std.proofs.Common.{◌≡◌, ◌↔◌, IsTrue, ℕ, ◌+◌, ◌-◌, ◌/◌, ◌<◌, ◌^◌, Bool, true, false, cond, List, length, set, replicate, sym, ap, ◌∙◌, subst, arith}
use Rattle.std.specs.Int.{div_ceil}
use Rattle.std.proofs.lemmas.Bool.{false≢true}
use Rattle.std.proofs.lemmas.List.{length-set, length-replicate}
use Rattle.xv_dirty.specs.Pages.{member, members}
use Rattle.xv_dirty.specs.Levels.{IsClear, IsSummed}
use Rattle.xv_dirty.proofs.Members.{one_more, one_less, at_most_all, all_members, no_members}
use Rattle.xv_dirty.proofs.Summing.{bit_above, inserted, removed_last, removed_other, full_above, empty_above}

-- one member more still fits the count
pub room_for_one : (pages words groups : List Bool) (count i : ℕ) → IsSummed pages words groups count → i < length pages → member pages i ≡ false → count + 1 < 2 ^ 32
room_for_one pages words groups count i s below absent =
    omega (arith, s.counted, s.small, one_more pages i below absent, at_most_all (set pages i true), length-set pages i true)

module _ (pages words groups : List Bool) (count i : ℕ) (s : IsSummed pages words groups count) (below : i < length pages) where
  pub with_one : member pages i ≡ false → IsSummed (set pages i true) (set words (i / 64) true) (set groups (i / 64 / 64) true) (count + 1)
  with_one absent = record {
    small = subst (λ (n : ℕ). n < 2 ^ 32) (sym (length-set pages i true)) s.small;
    counted = ap (λ (n : ℕ). n + 1) s.counted ∙ sym (one_more pages i below absent);
    by_words = inserted words pages s.by_words i below;
    by_groups = inserted groups words s.by_groups (i / 64) (bit_above words pages s.by_words i below);
  }

  module _ (there : member pages i ≡ true) where
    small_still : length (set pages i false) < 2 ^ 32
    small_still = subst (λ (n : ℕ). n < 2 ^ 32) (sym (length-set pages i false)) s.small

    counted_still : count - 1 ≡ members (set pages i false)
    counted_still = omega (arith, s.counted, one_less pages i below there)

    pub without_one : ¬ IsClear (set pages i false) (i / 64) → IsSummed (set pages i false) words groups (count - 1)
    without_one more = record {
      small = small_still;
      counted = counted_still;
      by_words = removed_other words pages s.by_words i below more;
      by_groups = s.by_groups;
    }

    pub without_word : IsClear (set pages i false) (i / 64) → ¬ IsClear (set words (i / 64) false) (i / 64 / 64) → IsSummed (set pages i false) (set words (i / 64) false) groups (count - 1)
    without_word last more = record {
      small = small_still;
      counted = counted_still;
      by_words = removed_last words pages s.by_words i below last;
      by_groups = removed_other groups words s.by_groups (i / 64) (bit_above words pages s.by_words i below) more;
    }

    pub without_group : IsClear (set pages i false) (i / 64) → IsClear (set words (i / 64) false) (i / 64 / 64)
        → IsSummed (set pages i false) (set words (i / 64) false) (set groups (i / 64 / 64) false) (count - 1)
    without_group last last_word = record {
      small = small_still;
      counted = counted_still;
      by_words = removed_last words pages s.by_words i below last;
      by_groups = removed_last groups words s.by_groups (i / 64) (bit_above words pages s.by_words i below) last_word;
    }

-- the set of all pages, and the set of none
pub whole_summed : (n : ℕ) (all : Bool) → n < 2 ^ 32 → IsSummed (replicate n all) (replicate (div_ceil n 64) all) (replicate (div_ceil (div_ceil n 64) 64) all) (cond all n 0)
whole_summed n true small = record {
  small = subst (λ (k : ℕ). k < 2 ^ 32) (sym (length-replicate n true)) small;
  counted = sym (all_members n);
  by_words = full_above n;
  by_groups = full_above (div_ceil n 64);
}
whole_summed n false small = record {
  small = subst (λ (k : ℕ). k < 2 ^ 32) (sym (length-replicate n false)) small;
  counted = sym (no_members n);
  by_words = empty_above n;
  by_groups = empty_above (div_ceil n 64);
}

-- what the answer of a removal tells of the word
pub not_last : (new level : List Bool) (w : ℕ) (r : Bool) → new ≡ level → IsTrue r ↔ IsClear new w → r ≡ false → ¬ IsClear level w
not_last new level w r is tells answer clear = false≢true (sym answer ∙ tells.1 (subst (λ (l : List Bool). IsClear l w) (sym is) clear))

pub last : (new level : List Bool) (w : ℕ) (r : Bool) → new ≡ level → IsTrue r ↔ IsClear new w → r ≡ true → IsClear level w
last new level w r is tells answer = subst (λ (l : List Bool). IsClear l w) is (tells.0 answer)
