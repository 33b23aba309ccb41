use Rattle.xv_shared_tests.proofs.reader_tests.no_number_falls_while_the_workers_run.Given as goal

abbrev pub ghosts-ran-D-Named : goal.ghosts-ran-D-Named
ghosts-ran-D-Named g a = record { origin = a.machine }

abbrev pub ghosts-ran-D-Ledger : goal.ghosts-ran-D-Ledger
ghosts-ran-D-Ledger g a = record { name = a.blanks.done.name; parts = a.blanks.done.parts }

abbrev pub ghosts-ran-Q-Ledger : goal.ghosts-ran-Q-Ledger
ghosts-ran-Q-Ledger g a = record { name = a.blanks.queued.name; parts = a.blanks.queued.parts }

abbrev pub ghosts-ran-F-Ledger : goal.ghosts-ran-F-Ledger
ghosts-ran-F-Ledger g a = record { name = a.blanks.faulted.name; parts = a.blanks.faulted.parts }

abbrev pub ghosts-ran-R-Ledger : goal.ghosts-ran-R-Ledger
ghosts-ran-R-Ledger g a = record { name = a.blanks.other.name; parts = a.blanks.other.parts }
