use Rattle.xv_text.proofs.Cuts.{cut_at_place, cut_at_none}
use Rattle.xv_text.proofs.lines.cut_at.Goals as goal

pub returns-in-Some-clause-found : goal.returns-in-Some-clause-found
returns-in-Some-clause-found c = cut_at_place c.args.byte c.args.bytes.now c.in-Some.place (cc)

pub returns-in-None-clause-none : goal.returns-in-None-clause-none
returns-in-None-clause-none c = cut_at_none c.args.byte c.args.bytes.now (cc)
