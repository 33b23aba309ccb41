use Rattle.xv_trace.proofs.Programs.{program_back}
use Rattle.xv_trace.proofs.laws.programs_are_read_back.Goals as goal

pub returns : goal.returns
returns c = program_back
