use Rattle.xv_text.proofs.Cuts.{fields-cut, fields-none}
use Rattle.xv_text.proofs.fields.first_field.Goals as goal

pub returns-in-Some : goal.returns-in-Some
returns-in-Some c = fields-cut c.args.line.now c.in-Some.first.now c.in-Some.rest.now c.in-Some.ensures.found

pub returns-in-None : goal.returns-in-None
returns-in-None c = fields-none c.args.line.now c.in-None.ensures.none
