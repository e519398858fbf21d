use Rattle.esx_told.proofs.spelled.push_line.Given as goal

abbrev pub ghosts-hold_reply : goal.ghosts-hold_reply
ghosts-hold_reply a = record { name = a.blank.name; parts = a.blank.parts }
