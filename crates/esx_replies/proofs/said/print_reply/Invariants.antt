use Rattle.esx_replies.proofs.said.print_reply.Given as goal

abbrev pub ghosts-reply_bytes : goal.ghosts-reply_bytes
ghosts-reply_bytes a = record { name = a.blank.name; parts = a.blank.parts }
