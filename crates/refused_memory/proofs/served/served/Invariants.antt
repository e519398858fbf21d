use Rattle.refused_memory.proofs.served.served.Given as goal

abbrev pub ghosts-served_counted-I-Ledger : goal.ghosts-served_counted-I-Ledger
ghosts-served_counted-I-Ledger a = record { name = a.calls_in.name; parts = a.calls_in.parts }

abbrev pub ghosts-served_counted-O-Ledger : goal.ghosts-served_counted-O-Ledger
ghosts-served_counted-O-Ledger a = record { name = a.calls_out.name; parts = a.calls_out.parts }
