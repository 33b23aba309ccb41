-- The codes of the statuses.
use Rattle.std.specs.Prelude.{ℕ}
use Rattle.xv_base.specs.declared.status.Status.{Status}
use Rattle.xv_base.specs.declared.status.Status.TheVariants.{Fine, BadWords, BadInput, ReadFault, WriteFault, NoMemory, Failed, Cancelled, FileFault}

-- what the process ends with
abbrev pub status_code : Status → ℕ
status_code Fine = 0
status_code BadWords = 1
status_code BadInput = 2
status_code ReadFault = 3
status_code WriteFault = 4
status_code NoMemory = 5
status_code Failed = 6
status_code Cancelled = 7
status_code FileFault = 8
