use Rattle.esx_told.proofs.adding.add_line.Given as goal

abbrev pub ghosts-text_with : goal.ghosts-text_with
ghosts-text_with a = record { name = a.blank.name; parts = a.blank.parts }
