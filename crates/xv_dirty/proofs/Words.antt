-- Words of 64 bits as a list of truth values.
use Rattle.std.proofs.Common.{◌≡◌, ◌≢◌, ℕ, ◌+◌, ◌*◌, ◌/◌, ◌%◌, ◌^◌, ◌<◌, ◌≤◌, ◌==◌, ◌↔◌, IsTrue, Bool, true, false, List, length, get_or, set, replicate, refl, sym, ap, ap₂, ◌∙◌, subst, arith, inl, inr, eq-eqb}
use Rattle.std.specs.Int.{bit_at, div_ceil}
use Rattle.std.proofs.lemmas.Bool.{cases_eq, cases_lt, false≢true, eqb-true}
use Rattle.std.proofs.lemmas.List.{same_lists, length-set, get_or-set_same, get_or-set_other, get_or_past, get_or_read, length-replicate, get_or-replicate}
use Rattle.std.proofs.lemmas.List.FromFn.{length-map-range_with_len, get_or-map-range_with_len}
use Rattle.std.proofs.lemmas.Nat.Bits.{bit_at-zero, bit_at-lt, bit_at_ones, same_from_bits_below}
use Rattle.xv_dirty.specs.Pages.{member}
use Rattle.xv_dirty.specs.Bits.{has, is_set, bits_of, HasBits}
use Rattle.xv_dirty.specs.Levels.{IsClear, IsFirst, IsFirstOf, IsEmpty}

-- the bits as a list, each at its number
pub length_bits : (ws : List ℕ) (n : ℕ) → length (bits_of ws n) ≡ n
length_bits ws n = length-map-range_with_len (is_set ws) 0 n

bit_below : (ws : List ℕ) (n i : ℕ) (d : Bool) → i < n → get_or (bits_of ws n) i d ≡ is_set ws i
bit_below ws n i d h = get_or-map-range_with_len (is_set ws) 0 n i i d h (omega arith)

-- also past the end, where none is set
pub member_bits : (ws : List ℕ) (n : ℕ) → HasBits ws n → (i : ℕ) → member (bits_of ws n) i ≡ is_set ws i
member_bits ws n h i = elim (cases_lt i n) [
  | inl below ↦ bit_below ws n i false below
  | inr past ↦ get_or_past (bits_of ws n) i false (omega (arith, length_bits ws n)) ∙ sym (h.none_past i past)
]

-- the place of a bit
same_place : (i j : ℕ) → j / 64 ≡ i / 64 → j % 64 ≡ i % 64 → j ≡ i
same_place i j d m = omega arith

-- the word of a bit is there
in_words : (n i : ℕ) → i < n → i / 64 < div_ceil n 64
in_words n i h = grind arith

-- a bit that is not 1 is 0
no_bit : (x i : ℕ) → has x i ≡ false → bit_at x i ≡ 0
no_bit x i h = elim (cases_eq (bit_at x i) 1) [
  | inl one ↦ absurd (false≢true (sym h ∙ ap (λ (b : ℕ). b == 1) one))
  | inr other ↦ omega (arith, bit_at-lt x i, other)
]

-- what is asked of a bit's number, of the words
pub in_range : (ws : List ℕ) (n : ℕ) (now : List Bool) (i : ℕ) → bits_of ws n ≡ now → i < length now → i < n
in_range ws n now i is h = omega (arith, length_bits ws n, ap length is)

pub word_in : (ws : List ℕ) (n : ℕ) (now : List Bool) (i : ℕ) → HasBits ws n → bits_of ws n ≡ now → i < length now → i / 64 < length ws
word_in ws n now i h is l = omega (arith, h.enough, in_words n i (in_range ws n now i is l))

-- a word in which one bit is now `v`, and the others are as they were
pub record Changed (old new bit : ℕ) (v : Bool) : Type 0 where
  pub there : has new bit ≡ v
  pub others : (k : ℕ) → k < 64 → k ≢ bit → has new k ≡ has old k
  pub small : new < 2 ^ 64

module _ (ws : List ℕ) (n i x : ℕ) (v : Bool) (h : HasBits ws n) (below : i < n) (c : Changed (get_or ws (i / 64) 0) x (i % 64) v) where
  in_list : i / 64 < length ws
  in_list = omega (arith, h.enough, in_words n i below)

  -- the bit itself, the others, and so all as a list
  changed-there : is_set (set ws (i / 64) x) i ≡ v
  changed-there = ap (λ (w : ℕ). has w (i % 64)) (get_or-set_same ws (i / 64) x 0 in_list) ∙ c.there

  changed-other : (j : ℕ) → j ≢ i → is_set (set ws (i / 64) x) j ≡ is_set ws j
  changed-other j other = elim (cases_eq (j / 64) (i / 64)) [
    | inl same ↦
        let at : get_or (set ws (i / 64) x) (j / 64) 0 ≡ x = subst (λ (k : ℕ). get_or (set ws (i / 64) x) k 0 ≡ x) (sym same) (get_or-set_same ws (i / 64) x 0 in_list) in
        ap (λ (w : ℕ). has w (j % 64)) at
        ∙ c.others (j % 64) (omega arith) (λ e. other (same_place i j same e))
        ∙ ap (λ (k : ℕ). has (get_or ws k 0) (j % 64)) (sym same)
    | inr apart ↦ ap (λ (w : ℕ). has w (j % 64)) (get_or-set_other ws (i / 64) (j / 64) x 0 apart)
  ]

  pub bits-changed : bits_of (set ws (i / 64) x) n ≡ set (bits_of ws n) i v
  bits-changed = same_lists _ _
      (length_bits (set ws (i / 64) x) n ∙ sym (length-set (bits_of ws n) i v ∙ length_bits ws n))
      (λ j d l.
      let there : j < n = omega (arith, length_bits (set ws (i / 64) x) n) in
      bit_below (set ws (i / 64) x) n j d there ∙ elim (cases_eq j i) [
        | inl same ↦
            ap (is_set (set ws (i / 64) x)) same ∙ changed-there
            ∙ sym (ap (λ (k : ℕ). get_or (set (bits_of ws n) i v) k d) same ∙ get_or-set_same (bits_of ws n) i v d (omega (arith, length_bits ws n)))
        | inr other ↦
            changed-other j other ∙ sym (get_or-set_other (bits_of ws n) i j v d other ∙ bit_below ws n j d there)
      ])

  pub keeps_bits : HasBits (set ws (i / 64) x) n
  keeps_bits = record {
    few = h.few;
    enough = length-set ws (i / 64) x ∙ h.enough;
    small = λ w. elim (cases_eq w (i / 64)) [
      | inl same ↦ subst (λ (y : ℕ). y < 2 ^ 64) (sym (ap (λ (k : ℕ). get_or (set ws (i / 64) x) k 0) same ∙ get_or-set_same ws (i / 64) x 0 in_list)) c.small
      | inr apart ↦ subst (λ (y : ℕ). y < 2 ^ 64) (sym (get_or-set_other ws (i / 64) w x 0 apart)) (h.small w)
    ];
    none_past = λ j past. changed-other j (λ e. absurd (omega (arith, e, past, below))) ∙ h.none_past j past;
  }

-- what a write of one bit does to the bits `now` of the words
pub record Writes (ws : List ℕ) (n : ℕ) (now : List Bool) (i x : ℕ) (v : Bool) : Type 0 where
  pub bits : bits_of (set ws (i / 64) x) n ≡ set now i v
  pub keeps : HasBits (set ws (i / 64) x) n

pub writes : (ws : List ℕ) (n : ℕ) (now : List Bool) (i was x : ℕ) (v : Bool) → HasBits ws n → bits_of ws n ≡ now → i < length now → was ≡ get_or ws (i / 64) was
    → has x (i % 64) ≡ v → ((k : ℕ) → k < 64 → k ≢ i % 64 → has x k ≡ has was k) → x < 2 ^ 64 → Writes ws n now i x v
writes ws n now i was x v h is l read there others small =
    let below = in_range ws n now i is l in
    let old : was ≡ get_or ws (i / 64) 0 = get_or_read ws (i / 64) was (word_in ws n now i h is l) read 0 in
    let c : Changed (get_or ws (i / 64) 0) x (i % 64) v = record {
      there = there;
      others = λ k b other. others k b other ∙ ap (λ (w : ℕ). has w k) old;
      small = small;
    } in
    record {
      bits = bits-changed ws n i x v h below c ∙ ap (λ (b : List Bool). set b i v) is;
      keeps = keeps_bits ws n i x v h below c;
    }

-- what a read of one bit answers
pub reads : (ws : List ℕ) (n : ℕ) (now : List Bool) (i was : ℕ) → HasBits ws n → bits_of ws n ≡ now → i < length now → was ≡ get_or ws (i / 64) was → has was (i % 64) ≡ member now i
reads ws n now i was h is l read =
    ap (λ (w : ℕ). has w (i % 64)) (get_or_read ws (i / 64) was (word_in ws n now i h is l) read 0)
    ∙ sym (ap (λ (b : List Bool). member b i) (sym is) ∙ member_bits ws n h i)

-- a word is 0 where it has no bit, and only there
clear-from_zero : (ws : List ℕ) (n w : ℕ) → HasBits ws n → get_or ws w 0 ≡ 0 → IsClear (bits_of ws n) w
clear-from_zero ws n w h zero' = record { none = λ i at. member_bits ws n h i ∙ ap (λ (k : ℕ). has (get_or ws k 0) (i % 64)) at ∙ ap (λ (x : ℕ). has x (i % 64)) zero' ∙ ap (λ (b : ℕ). b == 1) (bit_at-zero (i % 64)) }

zero-from_clear : (ws : List ℕ) (n w : ℕ) → HasBits ws n → IsClear (bits_of ws n) w → get_or ws w 0 ≡ 0
zero-from_clear ws n w h c = same_from_bits_below 64 (get_or ws w 0) 0 (h.small w) (omega arith) (λ i below.
    let place : (w * 64 + i) / 64 ≡ w = omega arith in
    let bit : (w * 64 + i) % 64 ≡ i = omega arith in
    let unset : is_set ws (w * 64 + i) ≡ false = sym (member_bits ws n h (w * 64 + i)) ∙ c.none (w * 64 + i) place in
    let here : has (get_or ws w 0) i ≡ false = sym (ap₂ (λ (k b : ℕ). has (get_or ws k 0) b) place bit) ∙ unset in
    no_bit (get_or ws w 0) i here ∙ sym (bit_at-zero i))

word_clear : (ws : List ℕ) (n w : ℕ) → HasBits ws n → IsTrue (get_or ws w 0 == 0) ↔ IsClear (bits_of ws n) w
word_clear ws n w h = (λ t. clear-from_zero ws n w h (eqb-true (get_or ws w 0) 0 t), λ c. eq-eqb (get_or ws w 0) 0 (zero-from_clear ws n w h c))

-- a word that was written is 0 exactly where it has no bit left
pub write_clear : (ws : List ℕ) (n i x : ℕ) → i / 64 < length ws → HasBits (set ws (i / 64) x) n → IsTrue (x == 0) ↔ IsClear (bits_of (set ws (i / 64) x) n) (i / 64)
write_clear ws n i x l h =
    subst (λ (y : ℕ). IsTrue (y == 0) ↔ IsClear (bits_of (set ws (i / 64) x) n) (i / 64)) (get_or-set_same ws (i / 64) x 0 l) (word_clear (set ws (i / 64) x) n (i / 64) h)

-- a word that has a bit is not 0, and one that is not 0 has a bit
pub some_bit : (ws : List ℕ) (n : ℕ) (now : List Bool) (w : ℕ) → HasBits ws n → bits_of ws n ≡ now → ¬ IsClear now w → 0 < get_or ws w 0
some_bit ws n now w h is some = elim (cases_eq (get_or ws w 0) 0) [
  | inl none ↦ absurd (some (subst (λ (b : List Bool). IsClear b w) is (clear-from_zero ws n w h none)))
  | inr other ↦ omega (arith, other)
]

pub not_clear : (ws : List ℕ) (n : ℕ) (now : List Bool) (w : ℕ) → HasBits ws n → bits_of ws n ≡ now → get_or ws w 0 ≢ 0 → ¬ IsClear now w
not_clear ws n now w h is some clear = some (zero-from_clear ws n w h (subst (λ (b : List Bool). IsClear b w) (sym is) clear))

pub there_is_word : (ws : List ℕ) (w : ℕ) → 0 < get_or ws w 0 → w < length ws
there_is_word ws w some = elim (cases_lt w (length ws)) [
  | inl below ↦ below
  | inr past ↦ absurd (omega (arith, some, get_or_past ws w 0 past))
]

pub word_read : (ws : List ℕ) (n : ℕ) (now : List Bool) (w x : ℕ) → HasBits ws n → bits_of ws n ≡ now → ¬ IsClear now w → x ≡ get_or ws w x → x ≡ get_or ws w 0
word_read ws n now w x h is some read = get_or_read ws w x (there_is_word ws w (some_bit ws n now w h is some)) read 0

-- the place of a word's bit
bit_place : (w b : ℕ) → b < 64 → ((w * 64 + b) / 64 ≡ w) × ((w * 64 + b) % 64 ≡ b)
bit_place w b h = (omega arith, omega arith)

at_place : (ws : List ℕ) (w b : ℕ) → b < 64 → is_set ws (w * 64 + b) ≡ has (get_or ws w 0) b
at_place ws w b h = let p = bit_place w b h in ap₂ (λ (k i : ℕ). has (get_or ws k 0) i) p.0 p.1

-- a bit that is set is below the number of bits, and the lowest of a word is its least member
pub place_below : (ws : List ℕ) (n w b : ℕ) → HasBits ws n → b < 64 → has (get_or ws w 0) b ≡ true → w * 64 + b < n
place_below ws n w b h small there = elim (cases_lt (w * 64 + b) n) [
  | inl below ↦ below
  | inr past ↦ absurd (false≢true (sym (h.none_past (w * 64 + b) past) ∙ at_place ws w b small ∙ there))
]

pub first_place : (ws : List ℕ) (n : ℕ) (now : List Bool) (w b : ℕ) → HasBits ws n → bits_of ws n ≡ now → b < 64 → has (get_or ws w 0) b ≡ true
    → ((i : ℕ) → i < b → has (get_or ws w 0) i ≡ false) → IsFirstOf now w (w * 64 + b)
first_place ws n now w b h is small there first = subst (λ (l : List Bool). IsFirstOf l w (w * 64 + b)) is (record {
  there = member_bits ws n h (w * 64 + b) ∙ at_place ws w b small ∙ there;
  within = (bit_place w b small).0;
  first = λ i below same.
      let bit : i % 64 < b = omega (arith, below, same) in
      member_bits ws n h i ∙ ap (λ (k : ℕ). has (get_or ws k 0) (i % 64)) same ∙ first (i % 64) bit;
})

-- the lowest bit `b` of a word `x` that has one, as a place among the bits `now`
pub record FoundIn (now : List Bool) (w b : ℕ) : Type 0 where
  pub small : w * 64 + b < 2 ^ 64
  pub within : w * 64 + b < length now
  pub first : IsFirstOf now w (w * 64 + b)

pub found_in : (ws : List ℕ) (n : ℕ) (now : List Bool) (w x b : ℕ) → HasBits ws n → bits_of ws n ≡ now → ¬ IsClear now w → x ≡ get_or ws w x
    → b < 64 → has x b ≡ true → ((i : ℕ) → i < b → has x i ≡ false) → FoundIn now w b
found_in ws n now w x b h is some read small there first =
    let at : x ≡ get_or ws w 0 = word_read ws n now w x h is some read in
    let there' : has (get_or ws w 0) b ≡ true = ap (λ (y : ℕ). has y b) (sym at) ∙ there in
    let below = place_below ws n w b h small there' in
    record {
      small = omega (arith, below, h.few);
      within = omega (arith, below, length_bits ws n, ap length is);
      first = first_place ws n now w b h is small there' (λ i k. ap (λ (y : ℕ). has y i) (sym at) ∙ first i k);
    }

-- words of which no bit is set, and words of which all are, up to a number
abbrev pub zeros : ℕ → List ℕ
zeros k = replicate k 0

zero_in : (k w : ℕ) → get_or (zeros k) w 0 ≡ 0
zero_in k w = elim (cases_lt w k) [
  | inl below ↦ get_or-replicate k w 0 0 below
  | inr past ↦ get_or_past (zeros k) w 0 (let l : length (zeros k) ≡ k = length-replicate {A = ℕ} k 0 in omega (arith, l, past))
]

none_in : (k i : ℕ) → is_set (zeros k) i ≡ false
none_in k i = ap (λ (w : ℕ). has w (i % 64)) (zero_in k (i / 64)) ∙ ap (λ (b : ℕ). b == 1) (bit_at-zero (i % 64))

pub none_set : (k n : ℕ) → bits_of (zeros k) n ≡ replicate n false
none_set k n = same_lists _ _ (length_bits (zeros k) n ∙ sym (length-replicate n false)) (λ i d l.
    let below : i < n = omega (arith, length_bits (zeros k) n) in
    bit_below (zeros k) n i d below ∙ none_in k i ∙ sym (get_or-replicate n i false d below))

pub all_set : (ws : List ℕ) (n : ℕ) → ((i : ℕ) → i < n → is_set ws i ≡ true) → bits_of ws n ≡ replicate n true
all_set ws n all = same_lists _ _ (length_bits ws n ∙ sym (length-replicate n true)) (λ i d l.
    let below : i < n = omega (arith, length_bits ws n) in
    bit_below ws n i d below ∙ all i below ∙ sym (get_or-replicate n i true d below))

-- words that are all ones but for the last, which has the rest
abbrev pub ones : ℕ → List ℕ
ones k = replicate k 18446744073709551615

-- a word of these, and what is past them
one_below : (k w : ℕ) → w < k → get_or (ones k) w 0 ≡ 18446744073709551615
one_below k w below = get_or-replicate k w 18446744073709551615 0 below

one_past : (k w : ℕ) → k ≤ w → get_or (ones k) w 0 ≡ 0
one_past k w past = get_or_past (ones k) w 0 (let l : length (ones k) ≡ k = length-replicate {A = ℕ} k 18446744073709551615 in omega (arith, l, past))

has_one : (i : ℕ) → i < 64 → has 18446744073709551615 i ≡ true
has_one i h = eq-eqb _ _ (bit_at_ones 64 i h)

one_small : (k w : ℕ) → get_or (ones k) w 0 < 2 ^ 64
one_small k w = elim (cases_lt w k) [
  | inl below ↦ omega (arith, one_below k w below)
  | inr past ↦ omega (arith, one_past k w past)
]

no_bits : (i : ℕ) → has 0 i ≡ false
no_bits i = ap (λ (b : ℕ). b == 1) (bit_at-zero i)

-- where no bits are left over for a last word
pub whole_set : (n : ℕ) → n % 64 ≡ 0 → (i : ℕ) → i < n → is_set (ones (div_ceil n 64)) i ≡ true
whole_set n whole i below = ap (λ (w : ℕ). has w (i % 64)) (one_below (div_ceil n 64) (i / 64) (in_words n i below)) ∙ has_one (i % 64) (omega arith)

pub whole_kept : (n : ℕ) → n % 64 ≡ 0 → n < 2 ^ 64 → HasBits (ones (div_ceil n 64)) n
whole_kept n whole few = record {
  few = few;
  enough = length-replicate {A = ℕ} (div_ceil n 64) 18446744073709551615;
  small = one_small (div_ceil n 64);
  none_past = λ i past.
      let after : div_ceil n 64 ≤ i / 64 = omega arith in
      ap (λ (w : ℕ). has w (i % 64)) (one_past (div_ceil n 64) (i / 64) after) ∙ no_bits (i % 64);
}

-- and where there are
module _ (n x : ℕ) (some : n % 64 ≢ 0) (few : n < 2 ^ 64) (small : x < 2 ^ 64) (set_below : (i : ℕ) → i < n % 64 → has x i ≡ true) (none_above : (i : ℕ) → n % 64 ≤ i → has x i ≡ false) where
  one_more : div_ceil n 64 ≡ n / 64 + 1
  one_more = omega (arith, some)

  length_ones : length (ones (div_ceil n 64)) ≡ n / 64 + 1
  length_ones = length-replicate {A = ℕ} (div_ceil n 64) 18446744073709551615 ∙ one_more

  last_there : get_or (set (ones (div_ceil n 64)) (n / 64) x) (n / 64) 0 ≡ x
  last_there = get_or-set_same (ones (div_ceil n 64)) (n / 64) x 0 (omega (arith, length_ones))

  last_other : (w : ℕ) → w ≢ n / 64 → get_or (set (ones (div_ceil n 64)) (n / 64) x) w 0 ≡ get_or (ones (div_ceil n 64)) w 0
  last_other w other = get_or-set_other (ones (div_ceil n 64)) (n / 64) w x 0 other

  pub cut_set : (i : ℕ) → i < n → is_set (set (ones (div_ceil n 64)) (n / 64) x) i ≡ true
  cut_set i below = elim (cases_eq (i / 64) (n / 64)) [
    | inl same ↦
        ap (λ (k : ℕ). has (get_or (set (ones (div_ceil n 64)) (n / 64) x) k 0) (i % 64)) same
        ∙ ap (λ (w : ℕ). has w (i % 64)) last_there
        ∙ set_below (i % 64) (omega (arith, below, same))
    | inr other ↦
        ap (λ (w : ℕ). has w (i % 64)) (last_other (i / 64) other ∙ one_below (div_ceil n 64) (i / 64) (in_words n i below))
        ∙ has_one (i % 64) (omega arith)
  ]

  pub cut_kept : HasBits (set (ones (div_ceil n 64)) (n / 64) x) n
  cut_kept = record {
    few = few;
    enough = length-set (ones (div_ceil n 64)) (n / 64) x ∙ length-replicate {A = ℕ} (div_ceil n 64) 18446744073709551615;
    small = λ w. elim (cases_eq w (n / 64)) [
      | inl same ↦ subst (λ (y : ℕ). y < 2 ^ 64) (sym (ap (λ (k : ℕ). get_or (set (ones (div_ceil n 64)) (n / 64) x) k 0) same ∙ last_there)) small
      | inr other ↦ subst (λ (y : ℕ). y < 2 ^ 64) (sym (last_other w other)) (one_small (div_ceil n 64) w)
    ];
    none_past = λ i past. elim (cases_eq (i / 64) (n / 64)) [
      | inl same ↦
          ap (λ (k : ℕ). has (get_or (set (ones (div_ceil n 64)) (n / 64) x) k 0) (i % 64)) same
          ∙ ap (λ (w : ℕ). has w (i % 64)) last_there
          ∙ none_above (i % 64) (omega (arith, past, same))
      | inr other ↦
          ap (λ (w : ℕ). has w (i % 64)) (last_other (i / 64) other ∙ one_past (div_ceil n 64) (i / 64) (omega (arith, one_more, other, past)))
          ∙ no_bits (i % 64)
    ];
  }

-- the first word that is not 0 has the least bit, and where all are 0 there is none
pub least_of : (ws : List ℕ) (n : ℕ) (now : List Bool) (w r : ℕ) → HasBits ws n → bits_of ws n ≡ now → ((k : ℕ) → k < w → get_or ws k 0 ≡ 0) → IsFirstOf now w r → IsFirst now r
least_of ws n now w r h is none f = record {
  there = f.there;
  first = λ j below. elim (cases_eq (j / 64) w) [
    | inl same ↦ f.first j below same
    | inr other ↦
        let before : j / 64 < w = omega (arith, below, other, f.within) in
        (subst (λ (b : List Bool). IsClear b (j / 64)) is (clear-from_zero ws n (j / 64) h (none (j / 64) before))).none j refl
  ];
}

pub none_of : (ws : List ℕ) (n : ℕ) (now : List Bool) (k : ℕ) → HasBits ws n → bits_of ws n ≡ now → length ws ≤ k → ((w : ℕ) → w < k → get_or ws w 0 ≡ 0) → IsEmpty now
none_of ws n now k h is all none = record {
  none = λ i.
      let zero' : get_or ws (i / 64) 0 ≡ 0 = elim (cases_lt (i / 64) k) [ inl below ↦ none (i / 64) below | inr past ↦ get_or_past ws (i / 64) 0 (omega (arith, all, past)) ] in
      (subst (λ (b : List Bool). IsClear b (i / 64)) is (clear-from_zero ws n (i / 64) h zero')).none i refl;
}
