use Rattle.std.proofs.Common.{◌≡◌, ◌∙◌, true, false, sym, arith}
use Rattle.std.specs.Prelude.{Ok}
use Rattle.std.proofs.lemmas.Bool.Decides.{Decides-eqb}
use Rattle.std.proofs.lemmas.Slice.Eq.{slice_eq-Decides}
use Rattle.std.proofs.lemmas.Fmt.{parse-decimal}
use Rattle.xv_top.proofs.Numbers.{spelled-word}
use Rattle.xv_top.proofs.command.number_of.Goals as goal

pub returns-in_default-clause-none : goal.returns-in_default-clause-none
returns-in_default-clause-none c = λ n below is.
    let parsed = parse-decimal 16 n c.args.word.now c.parse.result below (omega (arith, below)) is c.parse.ensures.value.0 in
    absurd (let impossible = sym c.in_default.is ∙ parsed in cc)

pub returns-else-eq-clause-none : goal.returns-else-eq-clause-none
returns-else-eq-clause-none c = λ n below is.
    let parsed = parse-decimal 16 n c.args.word.now c.parse.result below (omega (arith, below)) is c.parse.ensures.value.0 in
    let number : c.in-Ok.number ≡ n = (let same : Ok c.in-Ok.number ≡ Ok n = sym c.in-Ok.is ∙ parsed in cc) in
    let spelled = spelled-word c.new-spelled.result c.push_number.new.self c.args.word.now c.from.result c.in-Ok.number n c.new-spelled.ensures c.push_number.ensures.exactly c.from.ensures number is in
    let equal = (slice_eq-Decides Decides-eqb c.bytes.result.now c.as_bytes.result.now c.eq.result c.eq.ensures).1 (c.bytes.ensures.exactly ∙ spelled ∙ sym c.as_bytes.ensures.value) in
    absurd (let impossible : false ≡ true = sym c.if-eq.false ∙ equal in cc)
