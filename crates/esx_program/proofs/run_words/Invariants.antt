use Rattle.esx_program.proofs.run_words.Given as goal

abbrev pub ghosts-run_counted-Files-Ledger : goal.ghosts-run_counted-Files-Ledger
ghosts-run_counted-Files-Ledger g a = record { name = a.calls_file.name; parts = a.calls_file.parts }

abbrev pub ghosts-run_counted-In-Ledger : goal.ghosts-run_counted-In-Ledger
ghosts-run_counted-In-Ledger g a = record { name = a.calls_in.name; parts = a.calls_in.parts }

abbrev pub ghosts-run_counted-Told-Ledger : goal.ghosts-run_counted-Told-Ledger
ghosts-run_counted-Told-Ledger g a = record { name = a.calls_told.name; parts = a.calls_told.parts }

abbrev pub ghosts-run_counted-Out-Ledger : goal.ghosts-run_counted-Out-Ledger
ghosts-run_counted-Out-Ledger g a = record { name = a.calls_out.name; parts = a.calls_out.parts }
