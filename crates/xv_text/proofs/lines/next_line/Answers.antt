use Rattle.xv_text.proofs.Cuts.{whole_lines-cut, whole_lines-none, has_rest-cut, if_some, if_none}
use Rattle.xv_text.proofs.lines.next_line.Goals as goal

pub returns-clause-first : goal.returns-clause-first
returns-clause-first c = if_some _ _ c.cut_at.result c.cut_at.ensures.found (λ found h. whole_lines-cut c.args.text.now found.0.now found.1.now h)

pub returns-clause-rest : goal.returns-clause-rest
returns-clause-rest c = if_some _ _ c.cut_at.result c.cut_at.ensures.found (λ found h. has_rest-cut c.args.text.now found.0.now found.1.now h)

pub returns-clause-no_line : goal.returns-clause-no_line
returns-clause-no_line c = if_none _ _ c.cut_at.result c.cut_at.ensures.none (whole_lines-none c.args.text.now)
