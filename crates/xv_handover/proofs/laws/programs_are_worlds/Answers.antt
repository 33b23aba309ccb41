use Rattle.xv_handover.proofs.Programs.{program_is_world, program_is_sound}
use Rattle.xv_handover.proofs.laws.programs_are_worlds.Goals as goal

pub returns : goal.returns
returns c = record { world = program_is_world; sound = program_is_sound }
