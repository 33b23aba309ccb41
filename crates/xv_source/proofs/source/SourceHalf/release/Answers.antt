use Rattle.std.proofs.Common.{sym}
use Rattle.xv_model.specs.Step.{is_flagged}
use Rattle.xv_source.proofs.Releasing.{released-mirrored}
use Rattle.xv_source.proofs.source.SourceHalf.release.Goals as goal

pub returns-clause-step : goal.returns-clause-step
returns-clause-step g c = λ job v allows running front_is is_length.
    released-mirrored (is_flagged c.release_mirrored.result) job v c.args.disk c.release_mirrored.result c.args.self.now c.release_mirrored.new.self c.args.op.now c.args.length allows running
    (sym c.in_default.ensures) front_is is_length
    c.requires.legal c.requires.front c.requires.block c.release_mirrored.ensures.acted c.release_mirrored.ensures.answer
