use Rattle.xv_trace.proofs.Programs.{says_program}
use Rattle.xv_trace.proofs.laws.texts_say_programs.Goals as goal

pub returns : goal.returns
returns c = says_program
