use Rattle.esx_words.proofs.printing.print_command.Given as goal

abbrev pub ghosts-call_bytes : goal.ghosts-call_bytes
ghosts-call_bytes a = record { name = a.blank.name; parts = a.blank.parts }
