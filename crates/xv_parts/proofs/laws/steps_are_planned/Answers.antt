use Rattle.xv_parts.proofs.Planned.{answered-as, left-as, called-as}
use Rattle.xv_parts.proofs.laws.steps_are_planned.Goals as goal

pub returns : goal.returns
returns c = record {
  answer = λ m n e a h fit s kept. answered-as m n e a h s kept;
  view = λ m n e a h fit s kept. left-as m n e a h s kept;
  calls = λ m n e a h fit s kept. called-as m n e a h s kept;
}
