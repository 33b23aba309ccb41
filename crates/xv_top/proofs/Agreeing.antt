-- The guests' owner holds what the unmigrated guest leaves, so all units agree.
use Rattle.std.specs.Prelude.{cond, count_by, ◌||◌, nat_lt, if◌then◌else◌}
use Rattle.std.specs.List.{range_with_len}
use Rattle.std.specs.Str.{bytes_eq}
use mir.Val.{bool_byte}
use Rattle.std.proofs.Common.{◌≡◌, ℕ, zero, suc, ◌+◌, ◌-◌, ◌<◌, ◌≤◌, Bool, true, false, List, length, refl, sym, ap, ◌∙◌, subst, arith}
use Rattle.std.proofs.lemmas.Slice.Eq.{bytes_eq-Decides}
use Rattle.std.proofs.lemmas.List.Sums.{sum_by-cons}
use Rattle.xv_base.specs.Units.{Shape, units}
use Rattle.xv_base.specs.declared.operation.Ended.{Ended}
use Rattle.xv_device.specs.Memory.{Device}
use Rattle.xv_model.specs.Job.{unit_count}
use Rattle.xv_model.specs.Guest.{content}
use Rattle.xv_model.specs.View.{number, is_switched}
use Rattle.xv_model.specs.Contents.{unit_content}
use Rattle.xv_model.specs.Report.{dest_length, is_written}
use Rattle.xv_job.specs.Written.{Written, job_of}
use Rattle.xv_guest.specs.Plain.{Plain, IsUnmigrated}
use Rattle.xv_core.specs.Seen.{Seen, view_of}
use Rattle.xv_core.specs.Keeping.{told_contents}
use Rattle.xv_parts.specs.Memory.{IsInMemory}
use Rattle.xv_parts.proofs.Reading.{holds}
use Rattle.xv_top.specs.Driven.{agreeing, AreTheGuests}

-- whether two sides hold the same bytes of a unit
abbrev pub agrees : List (List ℕ) → List (List ℕ) → ℕ → Bool
agrees xs ys unit = bytes_eq (unit_content xs unit) (unit_content ys unit)

-- how many of the numbers from one on pass, where the first is told
abbrev passes : (ℕ → Bool) → ℕ → ℕ
passes p unit = cond (p unit) 1 0

pub passes-more : (p : ℕ → Bool) (unit all : ℕ) → unit < all → count_by p (range_with_len unit (all - unit)) ≡ passes p unit + count_by p (range_with_len (unit + 1) (all - (unit + 1)))
passes-more p unit all lt =
    let e : all - unit ≡ suc (all - (unit + 1)) = omega arith in
    ap (λ (n : ℕ). count_by p (range_with_len unit n)) e ∙ sum_by-cons (passes p) unit (range_with_len (unit + 1) (all - (unit + 1)))

-- one unit more is compared
pub one-compared : (xs ys : List (List ℕ)) (x y : List ℕ) (unit all count one whole : ℕ) (b : Bool) → unit < all → x ≡ unit_content xs unit → y ≡ unit_content ys unit → b ≡ bytes_eq x y → one ≡ bool_byte b →
    count + count_by (agrees xs ys) (range_with_len unit (all - unit)) ≡ whole → count + one + count_by (agrees xs ys) (range_with_len (unit + 1) (all - (unit + 1))) ≡ whole
one-compared xs ys x y unit all count one whole b lt left right same is so_far =
    let b_is : b ≡ agrees xs ys unit = same ∙ ap (λ (z : List ℕ). bytes_eq z y) left ∙ ap (bytes_eq (unit_content xs unit)) right in
    let one_is : one ≡ passes (agrees xs ys) unit = is ∙ as-passes b ∙ ap (λ (c : Bool). cond c 1 0) b_is in
    omega (arith, so_far, one_is, passes-more (agrees xs ys) unit all lt)
  where
    as-passes : (c : Bool) → bool_byte c ≡ cond c 1 0
    as-passes true = refl
    as-passes false = refl

pub one-at_most : (one : ℕ) (b : Bool) → one ≡ bool_byte b → one ≤ 1
one-at_most one true is = omega (arith, is)
one-at_most one false is = omega (arith, is)

-- all pass where each does
pub all-pass : (p : ℕ → Bool) (first n : ℕ) → ((unit : ℕ) → unit < first + n → p unit ≡ true) → count_by p (range_with_len first n) ≡ n
all-pass p first zero each = refl
all-pass p first (suc n) each =
    let here : passes p first ≡ 1 = ap (λ (b : Bool). cond b 1 0) (each first (omega arith)) in
    omega (arith, here, sum_by-cons (passes p) first (range_with_len (first + 1) n), all-pass p (first + 1) n (λ unit lt. each unit (omega arith)))

pub all-agree : (units : ℕ) (xs ys : List (List ℕ)) → ((unit : ℕ) → unit < units → unit_content xs unit ≡ unit_content ys unit) → agreeing units xs ys ≡ units
all-agree units xs ys same =
    all-pass (agrees xs ys) 0 units
    (λ unit lt. (bytes_eq-Decides (unit_content xs unit) (unit_content ys unit)).1 (same unit (omega arith)))

-- the destination holds it from the switchover on
pub dest-guests : (m : Seen) → IsInMemory m → is_switched (view_of m).phase ≡ true → AreTheGuests m (told_contents m.dest)
dest-guests m inside gone = record {
  each = λ unit lt.
      let v = view_of m in
      let there : is_written v unit ≡ true = ap (λ (b : Bool). b || nat_lt 0 (number v.hold.applied unit)) gone in
      let whole : dest_length v unit ≡ length v.history = ap (λ (b : Bool). if b then length v.history else number v.hold.recorded unit) gone in
      (holds m inside).dest unit lt there ∙ ap (content (job_of m.job) v.history unit) whole;
}

pub unmigrated-as : (w x : Written) (before after : List Ended) (plain : Plain) → w ≡ x → before ≡ after → IsUnmigrated (job_of w) before plain → IsUnmigrated (job_of x) after plain
unmigrated-as w x before after plain of_job of_history is =
    subst (λ (v : Written). IsUnmigrated (job_of v) after plain) of_job (subst (λ (h : List Ended). IsUnmigrated (job_of w) h plain) of_history is)

-- so it agrees with the unmigrated guest in all units
pub agree-all : (m : Seen) (d : Device) (plain : Plain) → d.shape ≡ m.job.shape → AreTheGuests m d.contents → IsUnmigrated (job_of m.job) (view_of m).history plain → agreeing (units d.shape) d.contents plain.contents ≡ unit_count (job_of m.job)
agree-all m d plain shape guests unmigrated =
    let n = unit_count (job_of m.job) in
    ap (λ (s : Shape). agreeing (units s) d.contents plain.contents) shape
    ∙ all-agree n d.contents plain.contents (λ unit lt. guests.each unit lt ∙ sym (unmigrated.contents_are unit lt))
