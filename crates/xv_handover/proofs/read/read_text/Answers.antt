use Rattle.std.proofs.Common.{◌≡◌, [], arith}
use Rattle.std.proofs.lemmas.Grind.{common_steps}
use Rattle.xv_handover.proofs.Scripts.{text_few}
use Rattle.xv_handover.proofs.read.read_text.Goals as goal

pub read_lines-requires-clause-numbered : goal.read_lines-requires-clause-numbered
read_lines-requires-clause-numbered c =
    let none : c.new.result.items ≡ [] = grind (arith, common_steps) in
    omega (arith, text_few c.args.text.now c.new.result.items none)
