use Rattle.std.specs.Prelude.{◌≡◌, false}
use Rattle.std.proofs.Common.{ap, ◌∙◌}
use Rattle.xv_model.specs.View.{least, is_empty_set}
use Rattle.xv_model.proofs.GoesOn.{page_goes}
use Rattle.xv_source.specs.Half.{Source}
use Rattle.xv_source.specs.Waits.{plain_job, plain_view}
use Rattle.xv_source.proofs.PageSets.{least_found}
use Rattle.xv_source.proofs.source.SourceHalf.least_page.Goals as goal

pub unreachable-requires : goal.unreachable-requires
unreachable-requires g c =
    let s = c.self.inside.to_send in
    let some : is_empty_set s ≡ false = ap (λ (h : Source). is_empty_set h.to_send) c.self.view_is ∙ (page_goes (plain_job false c.args.self.now) (plain_view c.args.self.now) false c.requires).some_to_send in
    cc (least_found s some, c.least.ensures.exactly, c.in-None.is)

pub returns-clause-exactly : goal.returns-clause-exactly
returns-clause-exactly g c =
    let s = c.self.inside.to_send in
    let some : is_empty_set s ≡ false = ap (λ (h : Source). is_empty_set h.to_send) c.self.view_is ∙ (page_goes (plain_job false c.args.self.now) (plain_view c.args.self.now) false c.requires).some_to_send in
    let same : c.in-Some.page ≡ least s = cc (least_found s some, c.least.ensures.exactly, c.in-Some.is) in
    same ∙ ap (λ (h : Source). least h.to_send) c.self.view_is
