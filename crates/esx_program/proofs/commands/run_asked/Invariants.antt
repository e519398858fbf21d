use Rattle.std.proofs.Common.{false}
use Rattle.esx_program.proofs.commands.run_asked.Given as goal

abbrev pub ghosts-serve_file-T-Telling : goal.ghosts-serve_file-T-Telling
ghosts-serve_file-T-Telling g a = record { questions = false }

abbrev pub ghosts-serve_file-L-Ledger : goal.ghosts-serve_file-L-Ledger
ghosts-serve_file-L-Ledger g a = record { name = a.blank.name; parts = a.blank.parts }
