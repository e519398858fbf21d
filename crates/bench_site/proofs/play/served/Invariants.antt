use Rattle.bench_site.proofs.play.served.Given as goal

abbrev pub ghosts-answers-L-Ledger : goal.ghosts-answers-L-Ledger
ghosts-answers-L-Ledger a = record { name = a.reads.name; parts = a.reads.parts }

abbrev pub ghosts-answers-M-Ledger : goal.ghosts-answers-M-Ledger
ghosts-answers-M-Ledger a = record { name = a.writes.name; parts = a.writes.parts }
