use Rattle.std.proofs.Common.{ap}
use Rattle.xv_model.specs.Story.{Story}
use Rattle.xv_model.proofs.Story.Runs.{story-is, story-queue, story-written}
use Rattle.xv_model.proofs.story_laws.stories_agree_with_runs.Goals as goal

pub returns : goal.returns
returns c = record {
  history = λ job journal runs. ap (λ (s : Story). s.history) (story-is job journal runs);
  queues = λ job journal d runs. story-queue job journal d runs;
  written = λ job journal unit runs. story-written job journal unit runs;
  stun = λ job journal runs. ap (λ (s : Story). s.stun) (story-is job journal runs);
  switched = λ job journal runs. ap (λ (s : Story). s.switched) (story-is job journal runs);
}
