use Rattle.xv_model.proofs.Bound.Driven.{driven-ends, driven-within}
use Rattle.xv_model.proofs.bound_laws.driven_runs_end.Goals as goal

pub returns : goal.returns
returns c = record {
  fitting = λ job good. (driven-ends job good).fitting;
  runs = λ job good. (driven-ends job good).runs;
  faithful = λ job good. (driven-ends job good).faithful;
  finished = λ job good. (driven-ends job good).finished;
  within = driven-within;
}
