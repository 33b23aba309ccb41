-- One entry more of a group, and that it fits the bytes.
use Rattle.std.proofs.Common.{◌≡◌, ℕ, zero, suc, ◌+◌, ◌-◌, ◌<◌, ◌≤◌, List, length, get_or, drop, sym, ap, ◌∙◌, arith, Bool, true, false, not, eqb, ltb, Some, None}
use Rattle.std.specs.Prelude.{if◌then◌else◌}
use Rattle.std.proofs.lemmas.Bool.{ltb-true, ltb-false}
use Rattle.std.proofs.lemmas.List.{drop-drop}
use Rattle.xv_base.specs.Units.{Shape, units, size}
use Rattle.xv_frame.specs.declared.groups.GroupFault.{GroupFault}
use Rattle.xv_frame.specs.declared.groups.GroupFault.TheVariants as group
use Rattle.xv_frame.specs.Fields.{word_at, zero_at}
use Rattle.xv_frame.specs.Faults.{content_fault, entry_fault, entries_fault, first_of}
use Rattle.xv_frame.specs.Reading.{entry_size, is_marked}
use Rattle.xv_frame.proofs.WhatTestsSay.{no-fault, not-false}

more : (s : Shape) (n : ℕ) (b : List ℕ) → 0 < n → entries_fault s n b ≡ first_of (entry_fault s b) (entries_fault s (n - 1) (drop (entry_size s b) b))
more s zero b h = absurd (omega arith)
more s (suc n) b h = let e : suc n - 1 ≡ n = omega arith in ap (λ k. first_of (entry_fault s b) (entries_fault s k (drop (entry_size s b) b))) (sym e)

pub one-more : (s : Shape) (n at : ℕ) (b : List ℕ) → 0 < n → entry_fault s (drop at b) ≡ None → entries_fault s (n - 1) (drop (at + entry_size s (drop at b)) b) ≡ entries_fault s n (drop at b)
one-more s n at b h none =
    ap (entries_fault s (n - 1)) (sym (drop-drop (entry_size s (drop at b)) at b))
    ∙ ap (λ f. first_of f (entries_fault s (n - 1) (drop (entry_size s (drop at b)) (drop at b)))) (sym none) ∙ sym (more s n (drop at b) h)

pub first-found : (s : Shape) (n : ℕ) (b : List ℕ) (f : GroupFault) → 0 < n → entry_fault s b ≡ Some f → Some f ≡ entries_fault s n b
first-found s n b f h e = ap (λ x. first_of x (entries_fault s (n - 1) (drop (entry_size s b) b))) (sym e) ∙ sym (more s n b h)
