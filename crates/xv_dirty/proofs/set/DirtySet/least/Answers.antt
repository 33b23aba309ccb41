use Rattle.std.proofs.Common.{sym, ap, ◌∙◌}
use Rattle.xv_dirty.specs.Pages.{least}
use Rattle.xv_dirty.proofs.Members.{least-first, least-none}
use Rattle.xv_dirty.proofs.Summing.{first_below, empty_below}
use Rattle.xv_dirty.proofs.set.DirtySet.least.Goals as goal

pub returns-in_default-clause-exactly : goal.returns-in_default-clause-exactly
returns-in_default-clause-exactly c =
    let words = empty_below _ _ c.self.invariant.by_groups c.in_default.ensures in
    let pages = empty_below _ _ c.self.invariant.by_words words in
    sym (ap least (sym c.self.view_is) ∙ least-none _ pages)

pub returns-clause-exactly : goal.returns-clause-exactly
returns-clause-exactly c =
    let word = first_below _ _ c.self.invariant.by_groups _ _ c.in-Some.ensures c.first_of-word.ensures.first in
    let page = first_below _ _ c.self.invariant.by_words _ _ word c.first_of-page.ensures.first in
    sym (ap least (sym c.self.view_is) ∙ least-first _ _ page)
