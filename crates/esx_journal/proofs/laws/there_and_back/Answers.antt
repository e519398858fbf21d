use Rattle.std.proofs.Common.{◌∷◌, [], arith}
use Rattle.std.proofs.lemmas.List.Sums.{sum_by-cons}
use Rattle.esx_journal.specs.Turns.{Undo, back, forward}
use Rattle.esx_journal.proofs.Reaching.{reached_steady}
use Rattle.esx_journal.proofs.Turning.{undo_turned, redo_leads_home}
use Rattle.esx_journal.proofs.laws.there_and_back.Goals as goal

pub returns : goal.returns
returns c = λ k h after count r e.
    let s = reached_steady k h r in
    let backs = sum_by-cons back (Undo count) [] in
    let forwards = sum_by-cons forward (Undo count) [] in
    redo_leads_home h after (Undo count ∷ []) count s.tree s.walk s.way (undo_turned count h after e) (omega arith)
