-- The machine as its lines are read: good so far, and good as a part of a good whole.
use Rattle.std.proofs.Common.{◌≡◌, ℕ, ◌+◌, ◌^◌, ◌<◌, ◌≤◌, Bool, true, false, not, ◌||◌, List, [], ◌∷◌, ◌++◌, length, Option, Some, None, nat_eq, nat_lt, nat_le, refl, sym, ap, ◌∙◌, subst, arith}
use Rattle.std.proofs.lemmas.List.{length-append}
use Rattle.std.proofs.lemmas.Bool.Decides.{nat_tests}
use Rattle.xv_base.specs.declared.unit.DiskShape.{DiskShape}
use Rattle.xv_base.specs.declared.layout.LayoutFault.{LayoutFault}
use Rattle.xv_base.specs.declared.layout.LayoutFault.TheVariants.{BadSize, TooManyUnits, TooManyBytes}
use Rattle.xv_base.specs.Units.{Shape, shape_of, blocks, blocks_of, bytes_of, units, all_bytes}
use Rattle.xv_base.specs.Layout as layout
use Rattle.xv_base.specs.Layout.{is_unit_size, first_of, layout_fault, IsGood, IsWithinLimits}
use Rattle.xv_text.specs.Fields.{or_else}
use Rattle.xv_job.specs.Draft.{outside, size_fault, shape_fault, with_pages, with_disk, pages_fault, disk_fault}
use Rattle.xv_job.specs.Held.{limit_of}
use Rattle.xv_job.specs.Written.{Written}
use Rattle.xv_job.proofs.Parts.{neither, both_none, not_there, no_no, inside, within}

-- where neither of two is a fault
first_none : (a b : Option LayoutFault) → first_of a b ≡ None → (a ≡ None) × (b ≡ None)
first_none (Some f) b h = absurd (cc)
first_none None b h = (refl, h)

if_none : (b : Bool) (f : LayoutFault) → layout.fault_if b f ≡ None → b ≡ false
if_none true f h = absurd (cc)
if_none false f h = refl

-- disks whose sizes are good, and one more
pub sizes_push : (n : ℕ) (ds : List DiskShape) (d : DiskShape) → layout.disk_fault n ds ≡ None → is_unit_size d.block_size ≡ true → layout.disk_fault n (ds ++ d ∷ []) ≡ None
sizes_push n [] d h good = rw good refl
sizes_push n (e ∷ ds) d h good =
    let a = first_none (layout.fault_if (not (is_unit_size e.block_size)) (BadSize n)) (layout.disk_fault (n + 1) ds) h in
    rw (a.0, sizes_push (n + 1) ds d a.1 good) refl

pub sizes_front : (n : ℕ) (ds more : List DiskShape) → layout.disk_fault n (ds ++ more) ≡ None → layout.disk_fault n ds ≡ None
sizes_front n [] more h = refl
sizes_front n (e ∷ ds) more h =
    let a = first_none (layout.fault_if (not (is_unit_size e.block_size)) (BadSize n)) (layout.disk_fault (n + 1) (ds ++ more)) h in
    rw (a.0, sizes_front (n + 1) ds more a.1) refl

pub size_next : (n : ℕ) (ds : List DiskShape) (d : DiskShape) (more : List DiskShape) → layout.disk_fault n (ds ++ d ∷ more) ≡ None → is_unit_size d.block_size ≡ true
size_next n [] d more h = no_no _ (if_none _ _ (first_none _ _ h).0)
size_next n (e ∷ ds) d more h = size_next (n + 1) ds d more (first_none _ _ h).1

-- sums over disks
pub blocks_append : (ds es : List DiskShape) → blocks_of (ds ++ es) ≡ blocks_of ds + blocks_of es
blocks_append [] es = omega arith
blocks_append (d ∷ ds) es = omega (arith, blocks_append ds es)

pub bytes_append : (ds es : List DiskShape) → bytes_of (ds ++ es) ≡ bytes_of ds + bytes_of es
bytes_append [] es = omega arith
bytes_append (d ∷ ds) es = omega (arith, bytes_append ds es)

-- what a good shape's tests have found
pub record HasSizes (s : Shape) : Type 0 where
  pub some_page : 0 < s.pages
  pub page_size : is_unit_size s.page_size ≡ true
  pub block_sizes : layout.disk_fault 1 s.disks ≡ None
  pub few_disks : length s.disks ≤ 4
  pub few_units : units s ≤ 2 ^ 20
  pub few_bytes : all_bytes s ≤ 2 ^ 29

not_zero : (n : ℕ) → nat_eq n 0 ≡ false → 0 < n
not_zero n h = grind (arith, nat_tests)

pub not_above : (n m : ℕ) → nat_lt m n ≡ false → n ≤ m
not_above n m h = grind (arith, nat_tests)

pub above_not : (n m : ℕ) → n ≤ m → nat_lt m n ≡ false
above_not n m h = grind (arith, nat_tests)

not_least : (n m : ℕ) → nat_le m n ≡ false → n < m
not_least n m h = grind (arith, nat_tests)

least_not : (n m : ℕ) → n < m → nat_le m n ≡ false
least_not n m h = grind (arith, nat_tests)

zero_not : (n : ℕ) → 0 < n → nat_eq n 0 ≡ false
zero_not n h = grind (arith, nat_tests)

pub sizes_of : (s : Shape) → IsGood s → HasSizes s
sizes_of s g =
    let a = first_none _ _ g.no_fault in
    let b = first_none _ _ a.1 in
    let d = first_none _ _ b.1 in
    let e = first_none _ _ d.1 in
    record {
      some_page = not_zero s.pages (if_none _ _ a.0);
      page_size = no_no _ (if_none _ _ b.0);
      block_sizes = d.0;
      few_disks = g.few_disks;
      few_units = not_above _ _ (if_none _ _ e.0);
      few_bytes = not_above _ _ (if_none _ _ e.1);
    }

pub good_of : (s : Shape) → HasSizes s → IsGood s
good_of s h = record {
  no_fault = rw (zero_not s.pages h.some_page, h.page_size, h.block_sizes, above_not (units s) (2 ^ 20) h.few_units, above_not (all_bytes s) (2 ^ 29) h.few_bytes) refl;
  few_disks = h.few_disks;
}

-- the tests of the shape on a line
pub record IsSized (s : Shape) (size : ℕ) : Type 0 where
  pub size_is : is_unit_size size ≡ true
  pub few_units : units s ≤ 2 ^ 20
  pub few_bytes : all_bytes s ≤ 2 ^ 29

pub sized : (s : Shape) (size : ℕ) → or_else (size_fault size) (shape_fault s) ≡ None → IsSized s size
sized s size h =
    let a = neither (size_fault size) (shape_fault s) h in
    let b = neither (outside 6 1 (2 ^ 20) (units s)) _ a.1 in
    record {
      size_is = no_no _ (not_there _ _ a.0);
      few_units = (inside 6 1 (2 ^ 20) (units s) b.0).1;
      few_bytes = not_above _ _ (not_there _ _ b.1);
    }

pub is_sized : (s : Shape) (size : ℕ) → 1 ≤ units s → IsSized s size → or_else (size_fault size) (shape_fault s) ≡ None
is_sized s size some h = rw (h.size_is, within 6 1 (2 ^ 20) (units s) some h.few_units, above_not (all_bytes s) (2 ^ 29) h.few_bytes) refl

-- the line of the pages
pub pages_good : (w : Written) (pages size : ℕ) → w.shape.disks ≡ [] → pages_fault w pages size ≡ None → IsGood (with_pages w.shape pages size)
pages_good w pages size none h =
    let a = neither (outside 2 1 (2 ^ 20) pages) _ h in
    let b = sized (with_pages w.shape pages size) size a.1 in
    let c = inside 2 1 (2 ^ 20) pages a.0 in
    good_of (with_pages w.shape pages size) (record {
      some_page = omega (arith, c.0);
      page_size = b.size_is;
      block_sizes = rw none refl;
      few_disks = rw none (omega arith);
      few_units = b.few_units;
      few_bytes = b.few_bytes;
    })

-- a front of the disks
pub front_good : (pages size : ℕ) (ds more : List DiskShape) → IsGood (shape_of pages size (ds ++ more)) → IsGood (shape_of pages size ds)
front_good pages size ds more g =
    let h = sizes_of (shape_of pages size (ds ++ more)) g in
    good_of (shape_of pages size ds) (record {
      some_page = h.some_page;
      page_size = h.page_size;
      block_sizes = sizes_front 1 ds more h.block_sizes;
      few_disks = omega (arith, h.few_disks, length-append ds more);
      few_units = omega (arith, h.few_units, blocks_append ds more);
      few_bytes = omega (arith, h.few_bytes, bytes_append ds more);
    })

pub pages_pass : (w : Written) (pages size : ℕ) → w.shape.disks ≡ [] → IsGood (shape_of pages size []) → pages_fault w pages size ≡ None
pages_pass w pages size none g =
    let h = sizes_of (shape_of pages size []) g in
    let e : with_pages w.shape pages size ≡ shape_of pages size [] = ap (λ (ds : List DiskShape). shape_of pages size ds) none in
    let P : Shape → Type 0 = λ s. or_else (size_fault size) (shape_fault s) ≡ None in
    let rest = subst P (sym e) (is_sized (shape_of pages size []) size (omega (arith, h.some_page)) (record { size_is = h.page_size; few_units = h.few_units; few_bytes = h.few_bytes })) in
    both_none (outside 2 1 (2 ^ 20) pages) (or_else (size_fault size) (shape_fault (with_pages w.shape pages size))) (within 2 1 (2 ^ 20) pages (omega (arith, h.some_page)) (omega (arith, h.few_units))) rest

-- the line of a disk
pub record IsDisk (s : Shape) (blocks size : ℕ) : Type 0 where
  pub good : IsGood (with_disk s blocks size)
  pub some : 1 ≤ blocks

pub disk_good : (w : Written) (blocks size : ℕ) → IsGood w.shape → disk_fault w blocks size ≡ None → IsDisk w.shape blocks size
disk_good w blocks size g h =
    let before = sizes_of w.shape g in
    let a = neither _ _ h in
    let b = neither (outside 5 1 (2 ^ 20) blocks) _ a.1 in
    let c = sized (with_disk w.shape blocks size) size b.1 in
    let few : length w.shape.disks < 4 = not_least _ _ (not_there _ _ a.0) in
    record {
      some = (inside 5 1 (2 ^ 20) blocks b.0).0;
      good = good_of (with_disk w.shape blocks size) (record {
        some_page = before.some_page;
        page_size = before.page_size;
        block_sizes = sizes_push 1 w.shape.disks (record { blocks = blocks; block_size = size }) before.block_sizes c.size_is;
        few_disks = omega (arith, length-append w.shape.disks (record { blocks = blocks; block_size = size } ∷ []));
        few_units = c.few_units;
        few_bytes = c.few_bytes;
      });
    }

pub disk_passes : (w : Written) (d : DiskShape) (more : List DiskShape) → IsGood (shape_of w.shape.pages w.shape.page_size (w.shape.disks ++ d ∷ more)) → 1 ≤ d.blocks → disk_fault w d.blocks d.block_size ≡ None
disk_passes w d more g some =
    let ds = w.shape.disks in
    let h = sizes_of (shape_of w.shape.pages w.shape.page_size (ds ++ d ∷ more)) g in
    let few : length ds < 4 = omega (arith, h.few_disks, length-append ds (d ∷ more)) in
    let us = blocks_append ds (d ∷ more) in
    let bs = bytes_append ds (d ∷ more) in
    rw (
      least_not (length ds) 4 few,
      within 5 1 (2 ^ 20) d.blocks some (omega (arith, h.few_units, us)),
      is_sized (with_disk w.shape d.blocks d.block_size) d.block_size (omega (arith, h.some_page))
          (record {
            size_is = size_next 1 ds d more h.block_sizes;
            few_units = omega (arith, h.few_units, us, blocks_append ds (d ∷ []));
            few_bytes = omega (arith, h.few_bytes, bs, bytes_append ds (d ∷ []));
          }),
    ) refl

-- the layout of a shape with a disk more, and what is wrong with its numbers
pub with_disk_is : (s : Shape) (d : DiskShape) (p z : ℕ) (ds : List DiskShape) → p ≡ s.pages → z ≡ s.page_size → ds ≡ s.disks ++ d ∷ [] → shape_of p z ds ≡ with_disk s d.blocks d.block_size
with_disk_is s d p z ds e f g = rw (e, f, g) refl

pub disk_fits : (s : Shape) (d : DiskShape) (t : Shape) → t ≡ with_disk s d.blocks d.block_size → IsGood t → or_else (size_fault d.block_size) (shape_fault (with_disk s d.blocks d.block_size)) ≡ None
disk_fits s d t e g =
    let P : Shape → Type 0 = λ x. IsGood x in
    let h = sizes_of (with_disk s d.blocks d.block_size) (subst P e g) in
    is_sized (with_disk s d.blocks d.block_size) d.block_size (omega (arith, h.some_page)) (record { size_is = size_next 1 s.disks d [] h.block_sizes; few_units = h.few_units; few_bytes = h.few_bytes })

second_of : (a b r : Option LayoutFault) → a ≡ None → b ≡ r → first_of a b ≡ r
second_of a b r e f = rw (e, f) refl

bad_size : (n : ℕ) (ds : List DiskShape) (d : DiskShape) → layout.disk_fault n ds ≡ None → is_unit_size d.block_size ≡ false → (k : ℕ) × (layout.disk_fault n (ds ++ d ∷ []) ≡ Some (BadSize k))
bad_size n [] d h bad = (n, rw bad refl)
bad_size n (e ∷ ds) d h bad =
    let a = first_none (layout.fault_if (not (is_unit_size e.block_size)) (BadSize n)) (layout.disk_fault (n + 1) ds) h in
    let later = bad_size (n + 1) ds d a.1 bad in
    (later.0, second_of (layout.fault_if (not (is_unit_size e.block_size)) (BadSize n)) (layout.disk_fault (n + 1) (ds ++ d ∷ [])) (Some (BadSize later.0)) a.0 later.1)

some_fault : (a b : LayoutFault) → ◌≡◌ {A = Option LayoutFault} (Some a) (Some b) → a ≡ b
some_fault a b e = cc

or_true : (b : Bool) → (b || true) ≡ true
or_true true = refl
or_true false = refl

-- the tests of a layout behind those of its pages and of its first disks
last_tests : (s : Shape) (d : DiskShape) → IsGood s → layout_fault (with_disk s d.blocks d.block_size) ≡ first_of (layout.disk_fault 1 (s.disks ++ record { blocks = d.blocks; block_size = d.block_size } ∷ [])) (first_of (layout.fault_if (nat_lt (2 ^ 20) (units (with_disk s d.blocks d.block_size))) TooManyUnits) (layout.fault_if (nat_lt (2 ^ 29) (all_bytes (with_disk s d.blocks d.block_size))) TooManyBytes))
last_tests s d g =
    let h = sizes_of s g in
    rw (zero_not s.pages h.some_page, h.page_size) refl

units_some : (s : Shape) → IsGood s → (b z : ℕ) → 1 ≤ units (with_disk s b z)
units_some s g b z = let h = (sizes_of s g).some_page in omega arith

size_case : (s : Shape) (d : DiskShape) (fault : LayoutFault) → IsGood s → layout_fault (with_disk s d.blocks d.block_size) ≡ Some fault → (size many over : Bool) → is_unit_size d.block_size ≡ size → nat_lt (2 ^ 20) (units (with_disk s d.blocks d.block_size)) ≡ many → nat_lt (2 ^ 29) (all_bytes (with_disk s d.blocks d.block_size)) ≡ over → or_else (size_fault d.block_size) (shape_fault (with_disk s d.blocks d.block_size)) ≡ Some (limit_of fault)
size_case s d fault g e false many over a b c =
    let k = bad_size 1 s.disks d (sizes_of s g).block_sizes a in
    let t = sym (last_tests s d g) ∙ e in
    let f : Some (BadSize k.0) ≡ Some fault = (rw k.1 at t) in
    rw (a, ← some_fault (BadSize k.0) fault f) refl
size_case s d fault g e true true over a b c =
    let k = sizes_push 1 s.disks d (sizes_of s g).block_sizes a in
    let t = sym (last_tests s d g) ∙ e in
    let f : Some TooManyUnits ≡ Some fault = (rw (k, b) at t) in
    rw (a, b, or_true, ← some_fault TooManyUnits fault f) refl
size_case s d fault g e true false true a b c =
    let k = sizes_push 1 s.disks d (sizes_of s g).block_sizes a in
    let t = sym (last_tests s d g) ∙ e in
    let f : Some TooManyBytes ≡ Some fault = (rw (k, b, c) at t) in
    let few = not_above (units (with_disk s d.blocks d.block_size)) (2 ^ 20) b in
    rw (a, within 6 1 (2 ^ 20) (units (with_disk s d.blocks d.block_size)) (units_some s g d.blocks d.block_size) few, c, ← some_fault TooManyBytes fault f) refl
size_case s d fault g e true false false a b c =
    let k = sizes_push 1 s.disks d (sizes_of s g).block_sizes a in
    let t = sym (last_tests s d g) ∙ e in
    let f : None ≡ Some fault = (rw (k, b, c) at t) in
    absurd (cc)

pub disk_refused : (s : Shape) (d : DiskShape) (t : Shape) (fault : LayoutFault) → t ≡ with_disk s d.blocks d.block_size → IsGood s → layout_fault t ≡ Some fault → or_else (size_fault d.block_size) (shape_fault (with_disk s d.blocks d.block_size)) ≡ Some (limit_of fault)
disk_refused s d t fault e g h = size_case s d fault g (ap layout_fault (sym e) ∙ h) (is_unit_size d.block_size) (nat_lt (2 ^ 20) (units (with_disk s d.blocks d.block_size))) (nat_lt (2 ^ 29) (all_bytes (with_disk s d.blocks d.block_size))) refl refl refl
