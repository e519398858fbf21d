use Rattle.esx_program.proofs.migrating.tell_console.Given as goal

abbrev pub ghosts-session_buffered : goal.ghosts-session_buffered
ghosts-session_buffered g a = record { name = a.blank.name; parts = a.blank.parts }
