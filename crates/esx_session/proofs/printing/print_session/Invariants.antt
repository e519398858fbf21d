use Rattle.esx_session.proofs.printing.print_session.Given as goal

abbrev pub ghosts-session_bytes : goal.ghosts-session_bytes
ghosts-session_bytes a = record { name = a.blank.name; parts = a.blank.parts }
