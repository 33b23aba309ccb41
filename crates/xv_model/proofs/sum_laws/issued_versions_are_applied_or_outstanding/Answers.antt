use Rattle.xv_model.proofs.Sums.Versions.{issued-sum, probe-sum}
use Rattle.xv_model.proofs.sum_laws.issued_versions_are_applied_or_outstanding.Goals as goal

pub returns : goal.returns
returns c = record { probe = probe-sum; bag = issued-sum }
