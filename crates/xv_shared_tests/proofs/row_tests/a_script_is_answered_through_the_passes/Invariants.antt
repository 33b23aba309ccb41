use Rattle.xv_shared_tests.proofs.row_tests.a_script_is_answered_through_the_passes.Given as goal

abbrev pub ghosts-played-D-Named : goal.ghosts-played-D-Named
ghosts-played-D-Named g a = record { origin = a.machine }

abbrev pub ghosts-played-D-Ledger : goal.ghosts-played-D-Ledger
ghosts-played-D-Ledger g a = record { name = a.blanks.done.name; parts = a.blanks.done.parts }

abbrev pub ghosts-played-Q-Ledger : goal.ghosts-played-Q-Ledger
ghosts-played-Q-Ledger g a = record { name = a.blanks.queued.name; parts = a.blanks.queued.parts }

abbrev pub ghosts-played-F-Ledger : goal.ghosts-played-F-Ledger
ghosts-played-F-Ledger g a = record { name = a.blanks.faulted.name; parts = a.blanks.faulted.parts }

abbrev pub ghosts-played-R-Ledger : goal.ghosts-played-R-Ledger
ghosts-played-R-Ledger g a = record { name = a.blanks.other.name; parts = a.blanks.other.parts }
