use Rattle.xv_run.proofs.running.run_job.Given as goal

abbrev pub ghosts-run_shared-D-Named : goal.ghosts-run_shared-D-Named
ghosts-run_shared-D-Named g a = record { origin = a.machine }

abbrev pub ghosts-run_shared-D-Ledger : goal.ghosts-run_shared-D-Ledger
ghosts-run_shared-D-Ledger g a = record { name = a.blanks.done.name; parts = a.blanks.done.parts }

abbrev pub ghosts-run_shared-Q-Ledger : goal.ghosts-run_shared-Q-Ledger
ghosts-run_shared-Q-Ledger g a = record { name = a.blanks.queued.name; parts = a.blanks.queued.parts }

abbrev pub ghosts-run_shared-F-Ledger : goal.ghosts-run_shared-F-Ledger
ghosts-run_shared-F-Ledger g a = record { name = a.blanks.faulted.name; parts = a.blanks.faulted.parts }

abbrev pub ghosts-run_shared-R-Ledger : goal.ghosts-run_shared-R-Ledger
ghosts-run_shared-R-Ledger g a = record { name = a.blanks.other.name; parts = a.blanks.other.parts }
