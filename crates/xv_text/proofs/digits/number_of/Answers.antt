use Rattle.std.proofs.Common.{◌≡◌, length, arith}
use Rattle.std.proofs.lemmas.Bool.Decides.{nat_tests}
use Rattle.xv_text.proofs.Numbers.{no_number, long_number}
use Rattle.xv_text.proofs.digits.number_of.Goals as goal
use Rattle.xv_text.proofs.digits.number_of.Goals.{then-is_empty-via-then-is_empty, then-is_empty-via-else-is_empty+then-field-gt10}

pub returns-then-is_empty-clause-none : goal.returns-then-is_empty-clause-none
returns-then-is_empty-clause-none c = elim c.then-is_empty.branch [
  | then-is_empty-via-then-is_empty w ↦
      let none : length c.args.field.now ≡ 0 = grind (arith, nat_tests) in
      no_number c.args.field.now (λ n. omega (arith, n.some))
  | then-is_empty-via-else-is_empty+then-field-gt10 w ↦ long_number c.args.field.now w.if-field-gt10.true
]
