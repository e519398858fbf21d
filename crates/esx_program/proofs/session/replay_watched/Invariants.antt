use Rattle.esx_program.proofs.session.replay_watched.Given as goal

abbrev pub ghosts-replay_buffered : goal.ghosts-replay_buffered
ghosts-replay_buffered g a = record { name = a.blank.name; parts = a.blank.parts }
