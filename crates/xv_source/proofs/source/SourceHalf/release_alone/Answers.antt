use Rattle.xv_model.specs.Step.{is_flagged}
use Rattle.xv_source.proofs.Releasing.{released-alone}
use Rattle.xv_source.proofs.source.SourceHalf.release_alone.Goals as goal

pub returns-clause-step : goal.returns-clause-step
returns-clause-step g c = λ job v allows over on_source front_is.
    released-alone (is_flagged c.release_unmirrored.result) job v c.args.disk c.release_unmirrored.result c.args.self.now c.release_unmirrored.new.self c.args.op.now allows over front_is c.requires.legal
    c.release_unmirrored.ensures.acted c.release_unmirrored.ensures.answer
