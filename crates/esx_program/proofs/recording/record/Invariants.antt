use Rattle.std.proofs.Common.{true}
use Rattle.esx_program.proofs.recording.record.Given as goal

abbrev pub ghosts-make_quietly-B-Before : goal.ghosts-make_quietly-B-Before
ghosts-make_quietly-B-Before g a = record { taken = g.E.Sink.contents a.errors }

abbrev pub ghosts-make_quietly-K-Ledger : goal.ghosts-make_quietly-K-Ledger
ghosts-make_quietly-K-Ledger g a = record { name = a.calls.name; parts = a.calls.parts }

abbrev pub ghosts-make_quietly-T-Telling : goal.ghosts-make_quietly-T-Telling
ghosts-make_quietly-T-Telling g a = record { questions = true }

abbrev pub ghosts-make_quietly-L-Ledger : goal.ghosts-make_quietly-L-Ledger
ghosts-make_quietly-L-Ledger g a = record { name = a.blank.name; parts = a.blank.parts }
