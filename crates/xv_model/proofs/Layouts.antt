-- Units and their disks and blocks, and which blocks come to lie behind a disk's cursor when it moves.
use Rattle.std.proofs.Common.{◌≡◌, ℕ, zero, suc, ◌+◌, ◌-◌, ◌<◌, ◌≤◌, ◌&&◌, ◌||◌, nat_lt, not, Bool, true, false, if◌then◌else◌, List, [], ◌∷◌, length, map, set, get_or, refl, sym, ap, subst, ◌∙◌, ◌⊎◌, inl, inr, arith}
use Rattle.std.proofs.lemmas.List.{get_or-set_same, get_or-set_other}
use Rattle.std.proofs.lemmas.Bool.{ltb-true, ltb-false, lt-ltb, le-ltb, cases_lt, cases_eq, and_parts, not-true}
use Rattle.xv_base.specs.Units.{Shape, units, is_page, disk_of, block_of, unit_of_block, blocks}
use Rattle.xv_base.specs.Laws.{NumbersBlocks}
use Rattle.xv_base.proofs.Partition.{numbers_blocks}
use Rattle.xv_model.specs.View.{Disk, no_disk, is_behind, member}
use Rattle.xv_model.specs.Effect.{without_region}
use Rattle.xv_model.specs.Invariant.{is_settled, is_behind_block, is_unsent_block}

-- each unit that is no page is one block of one disk, and each such block is one unit
pub numbered : (s : Shape) → NumbersBlocks s
numbered s = numbers_blocks s

-- a page or a block
pub page_below : (s : Shape) (u : ℕ) → is_page s u ≡ true → u < s.pages
page_below s u h = ltb-true u s.pages h

pub page_from : (s : Shape) (u : ℕ) → u < s.pages → is_page s u ≡ true
page_from s u h = lt-ltb u s.pages h

pub block_above : (s : Shape) (u : ℕ) → is_page s u ≡ false → s.pages ≤ u
block_above s u h = ltb-false u s.pages h

pub block_from : (s : Shape) (u : ℕ) → s.pages ≤ u → is_page s u ≡ false
block_from s u h = le-ltb u s.pages h

-- the block that is k after a disk's block number c
pub record IsBlock (s : Shape) (d b u : ℕ) : Type 0 where
  pub in_range : u < units s
  pub no_page : is_page s u ≡ false
  pub disk : disk_of s u ≡ d
  pub block : block_of s u ≡ b

pub is_block : (s : Shape) (d b : ℕ) → d < length s.disks → b < blocks s.disks d → IsBlock s d b (unit_of_block s d b)
is_block s d b h l =
    let n = numbered s in
    record {
      in_range = n.unit_in d b h l;
      no_page = block_from s (unit_of_block s d b) (n.no_page d b);
      disk = n.disk_back d b h l;
      block = n.block_back d b h l;
    }

pub block_after : (s : Shape) (d c k : ℕ) → unit_of_block s d (c + k) ≡ unit_of_block s d c + k
block_after s d c k = omega arith

pub is_block_after : (s : Shape) (d c k : ℕ) → d < length s.disks → c + k < blocks s.disks d → IsBlock s d (c + k) (unit_of_block s d c + k)
is_block_after s d c k h l = subst (IsBlock s d (c + k)) (block_after s d c k) (is_block s d (c + k) h l)

-- a unit's own disk and block
pub unit_back : (s : Shape) (u : ℕ) → is_page s u ≡ false → u < units s → unit_of_block s (disk_of s u) (block_of s u) ≡ u
unit_back s u p l = (numbered s).unit_back u (block_above s u p) l

pub disk_in : (s : Shape) (u : ℕ) → is_page s u ≡ false → u < units s → disk_of s u < length s.disks
disk_in s u p l = (numbered s).disk_in u (block_above s u p) l

pub block_in : (s : Shape) (u : ℕ) → is_page s u ≡ false → u < units s → block_of s u < blocks s.disks (disk_of s u)
block_in s u p l = (numbered s).block_in u (block_above s u p) l

-- the cursor of a unit's disk
abbrev pub cursor_of : Shape → List Disk → ℕ → ℕ
cursor_of s ds u = (get_or ds (disk_of s u) no_disk).cursor

-- what the tests on blocks say
pub record IsBehindBlock (s : Shape) (ds : List Disk) (u : ℕ) : Type 0 where
  pub in_range : u < units s
  pub no_page : is_page s u ≡ false
  pub behind : block_of s u < cursor_of s ds u

pub record IsUnsentBlock (s : Shape) (ds : List Disk) (u : ℕ) : Type 0 where
  pub in_range : u < units s
  pub no_page : is_page s u ≡ false
  pub not_behind : cursor_of s ds u ≤ block_of s u

pub behind_block : (s : Shape) (ds : List Disk) (u : ℕ) → is_behind_block s ds u ≡ true → IsBehindBlock s ds u
behind_block s ds u h =
    let a = and_parts (nat_lt u (units s) && not (is_page s u)) (is_behind (get_or ds (disk_of s u) no_disk) (block_of s u)) h in
    let b = and_parts (nat_lt u (units s)) (not (is_page s u)) a.0 in
    record {
      in_range = ltb-true u (units s) b.0;
      no_page = not-true (is_page s u) b.1;
      behind = ltb-true (block_of s u) (cursor_of s ds u) a.1;
    }

three : (a b c : Bool) → a ≡ true → b ≡ false → c ≡ true → (a && not b && c) ≡ true
three true false true p q r = refl
three true false false p q r = r
three true true c p q r = absurd (cc)
three false b c p q r = absurd (cc)

three_not : (a b c : Bool) → a ≡ true → b ≡ false → c ≡ false → (a && not b && not c) ≡ true
three_not true false false p q r = refl
three_not true false true p q r = sym r
three_not true true c p q r = absurd (cc)
three_not false b c p q r = absurd (cc)

pub behind_block_from : (s : Shape) (ds : List Disk) (u : ℕ) → IsBehindBlock s ds u → is_behind_block s ds u ≡ true
behind_block_from s ds u h =
    three (nat_lt u (units s)) (is_page s u) (is_behind (get_or ds (disk_of s u) no_disk) (block_of s u))
    (lt-ltb u (units s) h.in_range) h.no_page (lt-ltb (block_of s u) (cursor_of s ds u) h.behind)

pub unsent_block : (s : Shape) (ds : List Disk) (u : ℕ) → is_unsent_block s ds u ≡ true → IsUnsentBlock s ds u
unsent_block s ds u h =
    let a = and_parts (nat_lt u (units s) && not (is_page s u)) (not (is_behind (get_or ds (disk_of s u) no_disk) (block_of s u))) h in
    let b = and_parts (nat_lt u (units s)) (not (is_page s u)) a.0 in
    record {
      in_range = ltb-true u (units s) b.0;
      no_page = not-true (is_page s u) b.1;
      not_behind = ltb-false (block_of s u) (cursor_of s ds u) (not-true (is_behind (get_or ds (disk_of s u) no_disk) (block_of s u)) a.1);
    }

pub unsent_block_from : (s : Shape) (ds : List Disk) (u : ℕ) → IsUnsentBlock s ds u → is_unsent_block s ds u ≡ true
unsent_block_from s ds u h =
    three_not (nat_lt u (units s)) (is_page s u) (is_behind (get_or ds (disk_of s u) no_disk) (block_of s u))
    (lt-ltb u (units s) h.in_range) h.no_page (le-ltb (block_of s u) (cursor_of s ds u) h.not_behind)

-- the cursors after a disk is put in the place of another
pub cursor_of-set_other : (s : Shape) (ds : List Disk) (d : ℕ) (new : Disk) (u : ℕ) → (disk_of s u ≡ d → ⊥) → cursor_of s (set ds d new) u ≡ cursor_of s ds u
cursor_of-set_other s ds d new u n = ap (λ x. x.cursor) (get_or-set_other ds d (disk_of s u) new no_disk n)

pub cursor_of-set_same : (s : Shape) (ds : List Disk) (d : ℕ) (new : Disk) (u : ℕ) → d < length ds → disk_of s u ≡ d → cursor_of s (set ds d new) u ≡ new.cursor
cursor_of-set_same s ds d new u l e = ap (λ i. (get_or (set ds d new) i no_disk).cursor) e ∙ ap (λ x. x.cursor) (get_or-set_same ds d new no_disk l)

-- all blocks stay behind when a cursor moves on
pub cursor_of-set_le : (s : Shape) (ds : List Disk) (d : ℕ) (new : Disk) (u : ℕ) → d < length ds → (get_or ds d no_disk).cursor ≤ new.cursor → cursor_of s ds u ≤ cursor_of s (set ds d new) u
cursor_of-set_le s ds d new u l le = elim (cases_eq (disk_of s u) d) [
  | inl e ↦
      let now = cursor_of-set_same s ds d new u l e in
      let old : cursor_of s ds u ≡ (get_or ds d no_disk).cursor = ap (λ i. (get_or ds i no_disk).cursor) e in
      omega arith
  | inr n ↦ let now = cursor_of-set_other s ds d new u n in omega arith
]

-- what comes to lie behind are the blocks from the old cursor on
pub record CameBehind (s : Shape) (ds : List Disk) (d : ℕ) (new : Disk) (u : ℕ) : Type 0 where
  pub k : ℕ
  pub within : (get_or ds d no_disk).cursor + k < new.cursor
  pub unit : u ≡ unit_of_block s d (get_or ds d no_disk).cursor + k
  pub disk : disk_of s u ≡ d
  pub block : block_of s u ≡ (get_or ds d no_disk).cursor + k
  pub in_range : u < units s
  pub no_page : is_page s u ≡ false

pub behind_after : (s : Shape) (ds : List Disk) (d : ℕ) (new : Disk) (u : ℕ) → d < length ds → is_behind_block s (set ds d new) u ≡ true → (is_behind_block s ds u ≡ true) ⊎ CameBehind s ds d new u
behind_after s ds d new u l h =
    let b = behind_block s (set ds d new) u h in
    elim (cases_eq (disk_of s u) d) [
      | inr n ↦
          let now = cursor_of-set_other s ds d new u n in
          inl (behind_block_from s ds u (record { in_range = b.in_range; no_page = b.no_page; behind = omega arith }))
      | inl e ↦ elim (cases_lt (block_of s u) (cursor_of s ds u)) [
        | inl old ↦ inl (behind_block_from s ds u (record { in_range = b.in_range; no_page = b.no_page; behind = old }))
        | inr past ↦
            let now = cursor_of-set_same s ds d new u l e in
            let was : cursor_of s ds u ≡ (get_or ds d no_disk).cursor = ap (λ i. (get_or ds i no_disk).cursor) e in
            let c = (get_or ds d no_disk).cursor in
            let place : block_of s u ≡ c + (block_of s u - c) = omega arith in
            let back = unit_back s u b.no_page b.in_range in
            inr (record {
              k = block_of s u - c;
              within = omega arith;
              unit = sym back ∙ ap (λ i. unit_of_block s i (block_of s u)) e ∙ ap (unit_of_block s d) place ∙ block_after s d c (block_of s u - c);
              disk = e;
              block = place;
              in_range = b.in_range;
              no_page = b.no_page;
            })
      ]
    ]

-- and each of them does, and was not
pub behind_now : (s : Shape) (ds : List Disk) (d : ℕ) (new : Disk) (k : ℕ) → d < length ds → d < length s.disks → new.cursor ≤ blocks s.disks d → (get_or ds d no_disk).cursor + k < new.cursor →
    (is_behind_block s (set ds d new) (unit_of_block s d (get_or ds d no_disk).cursor + k) ≡ true) × (is_unsent_block s ds (unit_of_block s d (get_or ds d no_disk).cursor + k) ≡ true)
behind_now s ds d new k l m le h =
    let c = (get_or ds d no_disk).cursor in
    let u = unit_of_block s d c + k in
    let b = is_block_after s d c k m (omega arith) in
    let now = cursor_of-set_same s ds d new u l b.disk in
    let was : cursor_of s ds u ≡ c = ap (λ i. (get_or ds i no_disk).cursor) b.disk in
    let block = b.block in (
      behind_block_from s (set ds d new) u (record { in_range = b.in_range; no_page = b.no_page; behind = omega arith }),
      unsent_block_from s ds u (record { in_range = b.in_range; no_page = b.no_page; not_behind = omega arith }),
    )

-- a block that is not behind now was not before
pub unsent_before : (s : Shape) (ds : List Disk) (d : ℕ) (new : Disk) (u : ℕ) → d < length ds → (get_or ds d no_disk).cursor ≤ new.cursor → is_unsent_block s (set ds d new) u ≡ true → is_unsent_block s ds u ≡ true
unsent_before s ds d new u l le h =
    let b = unsent_block s (set ds d new) u h in
    let more = cursor_of-set_le s ds d new u l le in
    unsent_block_from s ds u (record { in_range = b.in_range; no_page = b.no_page; not_behind = omega arith })

-- what each item has in common with the one that it replaces stays as it was everywhere
pub kept_by : {X Y : Type 0} (f : X → Y) (xs : List X) (d : ℕ) (new z : X) (i : ℕ) → f new ≡ f (get_or xs d z) → f (get_or (set xs d new) i z) ≡ f (get_or xs i z)
kept_by f [] d new z i e = refl
kept_by f (x ∷ xs) zero new z zero e = e
kept_by f (x ∷ xs) zero new z (suc i) e = refl
kept_by f (x ∷ xs) (suc d) new z zero e = refl
kept_by f (x ∷ xs) (suc d) new z (suc i) e = kept_by f xs d new z i e

-- with the cursors where they were, the same units are behind, not behind, and settled
abbrev pub SameCursors : List Disk → List Disk → Type 0
SameCursors ds ds' = (i : ℕ) → (get_or ds i no_disk).cursor ≡ (get_or ds' i no_disk).cursor

pub cursors_kept : (ds : List Disk) (d : ℕ) (new : Disk) → new.cursor ≡ (get_or ds d no_disk).cursor → SameCursors (set ds d new) ds
cursors_kept ds d new e = λ i. kept_by (λ x. x.cursor) ds d new no_disk i e

pub no_regions : (ds : List Disk) → SameCursors (map without_region ds) ds
no_regions [] i = refl
no_regions (d ∷ ds) zero = refl
no_regions (d ∷ ds) (suc i) = no_regions ds i

pub same_behind : (s : Shape) (ds ds' : List Disk) → SameCursors ds ds' → is_behind_block s ds ≡ is_behind_block s ds'
same_behind s ds ds' e = λ i u. ap (λ c. nat_lt u (units s) && not (is_page s u) && nat_lt (block_of s u) c) (e (disk_of s u)) i

pub same_unsent : (s : Shape) (ds ds' : List Disk) → SameCursors ds ds' → is_unsent_block s ds ≡ is_unsent_block s ds'
same_unsent s ds ds' e = λ i u. ap (λ c. nat_lt u (units s) && not (is_page s u) && not (nat_lt (block_of s u) c)) (e (disk_of s u)) i

pub same_settled : (s : Shape) (ds ds' : List Disk) (dirty to_send : List Bool) → SameCursors ds ds' → is_settled s ds dirty to_send ≡ is_settled s ds' dirty to_send
same_settled s ds ds' dirty to_send e = λ i u.
    ap (λ c. nat_lt u (units s) && (if is_page s u then not (member dirty u || member to_send u) else nat_lt (block_of s u) c)) (e (disk_of s u)) i

settled_by : (a p d t b : Bool) → (a && (if p then not (d || t) else b)) ≡ true → ((p ≡ true) × (d ≡ false) × (t ≡ false)) ⊎ ((a && not p && b) ≡ true)
settled_by true true false false b h = inl (refl, refl, refl)
settled_by true true false true b h = absurd (cc)
settled_by true true true t b h = absurd (cc)
settled_by true false d t b h = inr h
settled_by false p d t b h = absurd (cc)

page_by : (a p d t b : Bool) → a ≡ true → p ≡ true → d ≡ false → t ≡ false → (a && (if p then not (d || t) else b)) ≡ true
page_by true true false false b h i j k = refl
page_by true true false true b h i j k = absurd (cc)
page_by true true true t b h i j k = absurd (cc)
page_by true false d t b h i j k = absurd (cc)
page_by false p d t b h i j k = absurd (cc)

block_by : (a p d t b : Bool) → (a && not p && b) ≡ true → (a && (if p then not (d || t) else b)) ≡ true
block_by true false d t b h = h
block_by true true d t b h = absurd (cc)
block_by false p d t b h = absurd (cc)

-- a settled unit is a page in neither set, or a block that is behind
pub settled_cases : (s : Shape) (ds : List Disk) (dirty to_send : List Bool) (u : ℕ) → is_settled s ds dirty to_send u ≡ true →
    ((is_page s u ≡ true) × (member dirty u ≡ false) × (member to_send u ≡ false)) ⊎ (is_behind_block s ds u ≡ true)
settled_cases s ds dirty to_send u h =
    settled_by (nat_lt u (units s)) (is_page s u) (member dirty u) (member to_send u) (is_behind (get_or ds (disk_of s u) no_disk) (block_of s u)) h

pub settled_page : (s : Shape) (ds : List Disk) (dirty to_send : List Bool) (u : ℕ) → u < units s → is_page s u ≡ true → member dirty u ≡ false → member to_send u ≡ false → is_settled s ds dirty to_send u ≡ true
settled_page s ds dirty to_send u l p q r =
    page_by (nat_lt u (units s)) (is_page s u) (member dirty u) (member to_send u) (is_behind (get_or ds (disk_of s u) no_disk) (block_of s u)) (lt-ltb u (units s) l) p q r

pub settled_block : (s : Shape) (ds : List Disk) (dirty to_send : List Bool) (u : ℕ) → is_behind_block s ds u ≡ true → is_settled s ds dirty to_send u ≡ true
settled_block s ds dirty to_send u h =
    block_by (nat_lt u (units s)) (is_page s u) (member dirty u) (member to_send u) (is_behind (get_or ds (disk_of s u) no_disk) (block_of s u)) h
