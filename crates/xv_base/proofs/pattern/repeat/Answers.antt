use Rattle.std.proofs.Common.{◌≡◌, ◌+◌, ◌-◌, ◌<◌, ◌%◌, ◌⊎◌, ◌++◌, inl, inr, length, take, min, sym, ap, ◌∙◌, arith}
use Rattle.std.proofs.Math.Nat.{mod_self}
use Rattle.std.proofs.lemmas.Bool.{cases_lt}
use Rattle.std.proofs.lemmas.List.{take-take}
use Rattle.xv_base.specs.Pattern.{repeated}
use Rattle.xv_base.proofs.Patterns.{filled-one, mod-again, repeated_again, repeated_once}
use Rattle.xv_base.proofs.pattern.repeat.Goals as goal

pub returns-in-len1 : goal.returns-in-len1
returns-in-len1 c =
    let one : length c.args.bytes.now ≡ 1 = omega arith in
    c.fill.ensures.after (λ y h. h) ∙ filled-one c.args.bytes.now (length c.args.into.now) one

pub loop-done-init : goal.loop-done-init
loop-done-init c =
    let b = c.args.bytes.now in
    let i = c.begin_repeat-done.new.into in
    let r = c.begin_repeat-done.result in
    let count : r ≡ min (length b) (length i) = omega (arith, c.begin_repeat-done.ensures.count, c.begin_repeat-done.ensures.size) in
    let whole : (r % length b ≡ 0) ⊎ (r ≡ length i) = elim (cases_lt (length i) (length b)) [
      | inl short ↦ inr (omega (arith, count))
      | inr long ↦ inl (ap (λ k. k % length b) (omega (arith, count)) ∙ mod_self (length b))
    ] in (
      c.begin_repeat-done.ensures.begun ∙ sym (repeated_once b r (omega (arith, count))),
      omega (arith, count),
      c.begin_repeat-done.ensures.size,
      omega (arith, count),
      whole,
    )

pub loop-done-preserved : goal.loop-done-preserved
loop-done-preserved c =
    let b = c.args.bytes.now in
    let i = c.loop-done.into in
    let n = c.loop-done.done in
    let m = c.copy_on-done.result in
    let kept = c.loop-done.invariant in
    let more : n < length i = c.loop-done-test.true in
    let count : m ≡ min n (length i - n) = c.copy_on-done.ensures.count in
    let size : length c.copy_on-done.new.into ≡ length i = c.copy_on-done.ensures.size in
    let whole : n % length b ≡ 0 = elim kept.4 [
      | inl h ↦ h
      | inr h ↦ absurd (omega (arith, h, more))
    ] in
    let again : take m i ≡ take m (repeated b n) = sym (take-take m n i (omega (arith, count))) ∙ ap (take m) kept.0 in
    let filled : take (n + m) c.copy_on-done.new.into ≡ repeated b (n + m) =
    c.copy_on-done.ensures.copied ∙ ap (λ front. front ++ take m i) kept.0 ∙ ap (λ back. repeated b n ++ back) again
    ∙ sym (repeated_again b n m whole (omega (arith, count))) in
    let ends : ((n + m) % length b ≡ 0) ⊎ (n + m ≡ length c.copy_on-done.new.into) = elim (cases_lt (length i - n) n) [
      | inl last ↦ inr (omega (arith, count, size, more))
      | inr room ↦ inl (ap (λ k. (n + k) % length b) (omega (arith, count)) ∙ mod-again n n (length b) whole ∙ whole)
    ] in
    (filled, omega (arith, count, size, more), size ∙ kept.2, omega (arith, size, kept.3), ends)
