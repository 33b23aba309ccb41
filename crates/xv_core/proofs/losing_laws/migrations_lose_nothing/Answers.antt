use Rattle.xv_core.proofs.Losing.{loses-nothing}
use Rattle.xv_core.proofs.losing_laws.migrations_lose_nothing.Goals as goal

pub returns : goal.returns
returns c = loses-nothing
