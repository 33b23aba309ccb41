use Rattle.std.proofs.Common.{◌≡◌, ℕ, ◌+◌, ◌-◌, ◌≤◌, List, length, drop, ap, ◌∙◌, arith, subst, length-drop, Some, None}
use Rattle.std.specs.Prelude.{if◌then◌else◌}
use Rattle.std.proofs.lemmas.List.{take_rest}
use Rattle.xv_base.specs.Units.{size}
use Rattle.xv_frame.specs.Faults.{entry_fault, entries_fault}
use Rattle.xv_frame.specs.Reading.{entry_size, entry_numbers, is_marked}
use Rattle.xv_frame.proofs.EntryFits.{one-more, first-found}
use Rattle.xv_frame.proofs.groups.entries_fault.Goals as goal

pub returns-in-Err : goal.returns-in-Err
returns-in-Err c =
    let s = c.args.layout.now in
    let found : entry_fault s (drop c.loop-left.at c.args.bytes.now) ≡ Some c.in-Err.fault =
    subst (λ (b : List ℕ). entry_fault s b ≡ Some c.in-Err.fault) (take_rest c.args.bytes.now c.loop-left.at) c.in-Err.ensures.fault in
    first-found s c.loop-left.left _ _ c.loop-left-test.true found ∙ c.loop-left.invariant.ahead

pub loop-left-preserved : goal.loop-left-preserved
loop-left-preserved c =
    let s = c.args.layout.now in
    let all = c.args.bytes.now in
    let b : List ℕ = drop c.loop-left.at all in
    let none : entry_fault s b ≡ None = subst (λ (x : List ℕ). entry_fault s x ≡ None) (take_rest all c.loop-left.at) c.in-Ok.ensures.sound in
    let fits : entry_size s b ≤ length b = subst (λ (x : List ℕ). entry_size s x ≤ length x) (take_rest all c.loop-left.at) c.in-Ok.ensures.fits in
    let zero : c.in-Ok.entry.zero ≡ is_marked b = subst (λ (x : List ℕ). c.in-Ok.entry.zero ≡ is_marked x) (take_rest all c.loop-left.at) c.in-Ok.ensures.zero in
    let head : c.in-Ok.entry.head ≡ entry_numbers b = subst (λ (x : List ℕ). c.in-Ok.entry.head ≡ entry_numbers x) (take_rest all c.loop-left.at) c.in-Ok.ensures.head in
    let long : c.entry_size-at.result ≡ entry_size s b = c.entry_size-at.ensures ∙ (λ i. if zero i then 20 else 20 + size s ((head i).unit.0)) in
    record {
      within = omega (arith, long, fits, length-drop c.loop-left.at all, c.loop-left.invariant.within);
      ahead = ap (λ (k : ℕ). entries_fault s (c.loop-left.left - 1) (drop (c.loop-left.at + k) all)) long
          ∙ one-more s c.loop-left.left c.loop-left.at all c.loop-left-test.true none ∙ c.loop-left.invariant.ahead;
    }
