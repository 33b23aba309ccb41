use Rattle.std.proofs.Common.{◌∙◌}
use Rattle.xv_job.specs.Written.{job_of}
use Rattle.xv_shared.proofs.Mustered.{first-all}
use Rattle.xv_shared.proofs.shared.Shared.new.Goals as goal

pub returns-in-Ok-clause-all : goal.returns-in-Ok-clause-all
returns-in-Ok-clause-all g c =
    first-all (job_of g.D.Named.origin.job) _ _ _ _ _ (c.share.ensures.passes ∙ c.in-Ok.ensures.passes) c.requires.done.2 c.requires.queued.2 c.requires.faulted.2 c.requires.other.2
