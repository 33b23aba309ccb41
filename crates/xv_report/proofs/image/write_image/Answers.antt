use Rattle.std.proofs.Common.{codes, refl}
use Rattle.xv_report.specs.Texts.{side_text}
use Rattle.xv_io.proofs.Took.{front-last}
use Rattle.xv_report.proofs.image.write_image.Goals as goal

pub returns-clause-front : goal.returns-clause-front
returns-clause-front g c =
    front-last _ _ _ (side_text (codes "src") c.args.source.now.contents) (side_text (codes "dst") c.args.dest.now.contents) _ c.in_ok-write_side.ensures.whole c.write_side-2.ensures.front refl
