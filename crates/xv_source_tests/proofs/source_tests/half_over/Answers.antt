use Rattle.xv_source_tests.proofs.Stays.{fresh-uncopied}
use Rattle.xv_source_tests.proofs.source_tests.half_over.Goals as goal

pub returns-in-Ok-clause-new : goal.returns-in-Ok-clause-new
returns-in-Ok-clause-new c = fresh-uncopied _ _ _ _ c.in-Ok.half c.in-Ok.ensures.half
