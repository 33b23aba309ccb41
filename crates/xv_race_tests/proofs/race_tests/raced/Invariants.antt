use Rattle.xv_race_tests.proofs.race_tests.raced.Given as goal

abbrev pub ghosts-run-D-Named : goal.ghosts-run-D-Named
ghosts-run-D-Named g a = record { origin = a.machine }

abbrev pub ghosts-run-D-Ledger : goal.ghosts-run-D-Ledger
ghosts-run-D-Ledger g a = record { name = a.blanks.done.name; parts = a.blanks.done.parts }

abbrev pub ghosts-run-Q-Ledger : goal.ghosts-run-Q-Ledger
ghosts-run-Q-Ledger g a = record { name = a.blanks.queued.name; parts = a.blanks.queued.parts }

abbrev pub ghosts-run-F-Ledger : goal.ghosts-run-F-Ledger
ghosts-run-F-Ledger g a = record { name = a.blanks.faulted.name; parts = a.blanks.faulted.parts }

abbrev pub ghosts-run-R-Ledger : goal.ghosts-run-R-Ledger
ghosts-run-R-Ledger g a = record { name = a.blanks.other.name; parts = a.blanks.other.parts }
