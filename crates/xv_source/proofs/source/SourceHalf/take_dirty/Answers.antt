use Rattle.std.proofs.Common.{sym, ap, ◌∙◌}
use Rattle.xv_model.specs.View.{members, is_empty_set}
use Rattle.xv_source.specs.Half.{Source}
use Rattle.xv_source.proofs.PageSets.{members_counted, none_members}
use Rattle.xv_source.proofs.source.SourceHalf.take_dirty.Goals as goal

pub take_into-requires-clause-none : goal.take_into-requires-clause-none
take_into-requires-clause-none g c = none_members c.self.inside.to_send (ap (λ (h : Source). is_empty_set h.to_send) c.self.view_is ∙ c.requires)

pub returns-clause-count : goal.returns-clause-count
returns-clause-count g c = c.count-count.ensures ∙ sym (members_counted c.self.inside.dirty) ∙ ap (λ (h : Source). members h.dirty) c.self.view_is
