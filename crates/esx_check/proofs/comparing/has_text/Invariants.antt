use Rattle.esx_check.proofs.comparing.has_text.Given as goal

abbrev pub ghosts-compared-T-Wanted : goal.ghosts-compared-T-Wanted
ghosts-compared-T-Wanted a = record { text = a.text.now }

abbrev pub ghosts-compared-L-Ledger : goal.ghosts-compared-L-Ledger
ghosts-compared-L-Ledger a = record { name = a.blank.name; parts = a.blank.parts }
