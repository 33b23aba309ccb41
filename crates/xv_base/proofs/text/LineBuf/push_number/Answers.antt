use Rattle.std.proofs.Common.{length, decimal, arith, ap, length-append}
use Rattle.std.proofs.lemmas.Fmt.{length-decimal-le}
use Rattle.xv_base.proofs.text.LineBuf.push_number.Goals as goal

pub push_digits-requires : goal.push_digits-requires
push_digits-requires c = omega (arith, c.requires, length-decimal-le 10 c.args.n (omega arith) (omega arith) (omega arith))

pub returns-clause-few : goal.returns-clause-few
returns-clause-few c =
    omega (arith, ap length c.push_digits.ensures, length-append c.args.self.now (decimal c.args.n), length-decimal-le 10 c.args.n (omega arith) (omega arith) (omega arith))
