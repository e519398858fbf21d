-- Worked examples, by computation: calls from the opening on, each with what is said: which of several refusals is told.
use Rattle.std.specs.Prelude.{[], ◌∷◌, true, false}
use Rattle.std.proofs.Common.{refl}
use Rattle.esx_types.specs.declared.level.Level.TheVariants as levels
use Rattle.esx_events.specs.declared.event.Event.TheVariants as events
use Rattle.esx_events.specs.declared.event.Answer.TheVariants as answers
use Rattle.esx_events.specs.declared.event.Refusal.TheVariants as refusals
use Rattle.esx_events.specs.declared.call.Call.TheVariants as calls
use Rattle.esx_events.specs.declared.call.Said.TheVariants as said
use Rattle.esx_model.proofs.rows.Replies.{site, spec, reserved}
use Rattle.esx_model.proofs.rows.Told.{told_of, AreTold}

-- Of several refusals of an admission the first is told, and each number of a machine has its range.
pub admissions_refused : AreTold (site 20 16 8 75 6 4 2 1 16777216) (
    (calls.Do (events.Admit 0 (spec 2 6 1 1000 0)), said.Done (answers.Admitted (reserved 3 20 4 8))) ∷
    (calls.Do (events.Admit 0 (spec 0 4 1 1000 0)), said.Refused refusals.VmThere) ∷
    (calls.Do (events.Admit 1 (spec 21 20 1 1000 0)), said.Refused refusals.BadSpec) ∷
    (calls.Do (events.Admit 1 (spec 19 40 1 1000 0)), said.Refused refusals.NoMemoryReserve) ∷
    (calls.Do (events.Admit 1 (spec 2 65537 1 1000 0)), said.Refused refusals.BadSpec) ∷
    (calls.Do (events.Admit 1 (spec 1 4 0 1000 0)), said.Refused refusals.BadSpec) ∷
    (calls.Do (events.Admit 1 (spec 1 4 1 0 0)), said.Refused refusals.BadSpec) ∷
    (calls.Do (events.Admit 1 (spec 1 4 1 1048577 0)), said.Refused refusals.BadSpec) ∷
    (calls.Do (events.Admit 1 (spec 1 4 1 1000 4)), said.Refused refusals.BadSpec) ∷
    (calls.Do (events.Admit 1 (spec 1 4 1048577 1000 0)), said.Refused refusals.BadSpec) ∷
    (calls.Do (events.Admit 1 (spec 1 4 1 1048576 3)), said.Done (answers.Admitted (reserved 5 20 7 8))) ∷
    (calls.Do (events.Admit 2 (spec 1 1 1 1 0)), said.Done (answers.Admitted (reserved 7 20 7 8))) ∷ [])
unfolding told_of
admissions_refused = refl

-- What only a running machine does, it is refused before it runs and after it stopped, whatever the page.
pub only_when_running : AreTold (site 20 16 8 75 6 4 2 1 16777216) (
    (calls.Do (events.Admit 0 (spec 2 6 2 1000 1)), said.Done (answers.Admitted (reserved 4 20 4 8))) ∷
    (calls.Do (events.Start 0), said.Done (answers.Started false 0 1 2)) ∷
    (calls.Do (events.Read 0 9 0 1), said.Refused refusals.NotRunning) ∷
    (calls.Do (events.Write 0 9 0 (1 ∷ [])), said.Refused refusals.NotRunning) ∷
    (calls.Do (events.Ask 0), said.Refused refusals.NotRunning) ∷
    (calls.Do (events.Lend 0 9), said.Refused refusals.NotRunning) ∷
    (calls.Do (events.TakeBack 0 9), said.Refused refusals.NotRunning) ∷
    (calls.Do (events.Sample 0 0 (1 ∷ [])), said.Refused refusals.NotRunning) ∷
    (calls.Do (events.Scan 0 9), said.Refused refusals.NotRunning) ∷
    (calls.Do (events.Replace 0 9 0), said.Refused refusals.NotRunning) ∷
    (calls.Advise 0 9, said.Refused refusals.NotRunning) ∷
    (calls.Do (events.DropPage 0 9), said.Refused refusals.NotNeeded) ∷
    (calls.Do (events.Gone 0), said.Refused refusals.NotNeeded) ∷
    (calls.Do (events.SwapOut 0 0), said.Refused (refusals.NotNow levels.High)) ∷
    (calls.Do (events.Start 0), said.Done (answers.Started true 1 2 2)) ∷
    (calls.Do (events.DropPage 0 9), said.Refused refusals.NotNeeded) ∷
    (calls.Do (events.Stop 0), said.Done answers.Done) ∷
    (calls.Do (events.Start 0), said.Refused refusals.NotRunning) ∷
    (calls.Do (events.Stop 0), said.Refused refusals.NotRunning) ∷
    (calls.Do (events.Read 0 0 0 1), said.Refused refusals.NotRunning) ∷
    (calls.Do (events.Ask 0), said.Refused refusals.NotRunning) ∷
    (calls.Do (events.Lend 0 0), said.Refused refusals.NotRunning) ∷
    (calls.Do (events.TakeBack 0 0), said.Refused refusals.NotRunning) ∷
    (calls.Do (events.Sample 0 1 (1 ∷ [])), said.Refused refusals.NotRunning) ∷
    (calls.Do (events.Scan 0 0), said.Refused refusals.NotRunning) ∷
    (calls.Do (events.Replace 0 0 0), said.Refused refusals.NotRunning) ∷
    (calls.Advise 0 0, said.Refused refusals.NotRunning) ∷
    (calls.Do (events.Gone 0), said.Done (answers.GivenBack 1)) ∷
    (calls.Do (events.Gone 0), said.Done answers.Gone) ∷ [])
unfolding told_of
only_when_running = refl

-- A machine that is not there, and a page that it does not have.
pub no_machine_no_page : AreTold (site 20 16 8 75 6 4 2 1 16777216) (
    (calls.Do (events.Admit 0 (spec 2 6 1 1000 0)), said.Done (answers.Admitted (reserved 3 20 4 8))) ∷
    (calls.Do (events.Start 0), said.Done (answers.Started true 0 1 1)) ∷
    (calls.Do (events.Start 1), said.Refused refusals.NoVm) ∷
    (calls.Do (events.Read 1 9 0 1), said.Refused refusals.NoVm) ∷
    (calls.Do (events.Write 1 9 0 (1 ∷ [])), said.Refused refusals.NoVm) ∷
    (calls.Do (events.Ask 1), said.Refused refusals.NoVm) ∷
    (calls.Do (events.Lend 1 9), said.Refused refusals.NoVm) ∷
    (calls.Do (events.TakeBack 1 9), said.Refused refusals.NoVm) ∷
    (calls.Do (events.Sample 1 0 (1 ∷ [])), said.Refused refusals.NoVm) ∷
    (calls.Do (events.Scan 1 9), said.Refused refusals.NoVm) ∷
    (calls.Do (events.SwapOut 1 0), said.Refused refusals.NoVm) ∷
    (calls.Do (events.Replace 1 9 0), said.Refused refusals.NoVm) ∷
    (calls.Do (events.SetShares 1 0), said.Refused refusals.NoVm) ∷
    (calls.Do (events.Stop 1), said.Refused refusals.NoVm) ∷
    (calls.Do (events.DropPage 1 9), said.Refused refusals.NoVm) ∷
    (calls.Do (events.Gone 1), said.Refused refusals.NoVm) ∷
    (calls.OfVm 1, said.Refused refusals.NoVm) ∷
    (calls.OfPage 1 9, said.Refused refusals.NoVm) ∷
    (calls.Advise 1 9, said.Refused refusals.NoVm) ∷
    (calls.Do (events.Write 0 6 0 (1 ∷ [])), said.Refused refusals.OutOfRange) ∷
    (calls.Do (events.Lend 0 6), said.Refused refusals.OutOfRange) ∷
    (calls.Do (events.TakeBack 0 6), said.Refused refusals.OutOfRange) ∷
    (calls.Do (events.Scan 0 6), said.Refused refusals.OutOfRange) ∷
    (calls.Do (events.Replace 0 6 0), said.Refused refusals.OutOfRange) ∷
    (calls.OfPage 0 6, said.Refused refusals.OutOfRange) ∷
    (calls.Advise 0 6, said.Refused refusals.OutOfRange) ∷
    (calls.Do (events.Stop 0), said.Done answers.Done) ∷
    (calls.Do (events.DropPage 0 6), said.Refused refusals.OutOfRange) ∷ [])
unfolding told_of
no_machine_no_page = refl

-- No frame is free for the overhead of a machine that was admitted; one that never started goes at once.
pub start_without_a_frame : AreTold (site 8 16 8 75 6 4 2 1 16777216) (
    (calls.Do (events.Admit 0 (spec 1 8 1 1000 0)), said.Done (answers.Admitted (reserved 2 8 7 8))) ∷
    (calls.Do (events.Start 0), said.Done (answers.Started true 0 1 1)) ∷
    (calls.Do (events.Read 0 0 0 1), said.Done (answers.Bytes (0 ∷ []))) ∷
    (calls.Do (events.Read 0 1 0 1), said.Done (answers.Bytes (0 ∷ []))) ∷
    (calls.Do (events.Read 0 2 0 1), said.Done (answers.Bytes (0 ∷ []))) ∷
    (calls.Do (events.Read 0 3 0 1), said.Done (answers.Bytes (0 ∷ []))) ∷
    (calls.Do (events.Read 0 4 0 1), said.Done (answers.Bytes (0 ∷ []))) ∷
    (calls.Do (events.Read 0 5 0 1), said.Done (answers.Bytes (0 ∷ []))) ∷
    (calls.Do (events.Read 0 6 0 1), said.Done (answers.Bytes (0 ∷ []))) ∷
    (calls.Do (events.Admit 1 (spec 1 1 1 1000 0)), said.Done (answers.Admitted (reserved 4 8 7 8))) ∷
    (calls.Do (events.Start 1), said.Refused refusals.Short) ∷
    (calls.Do (events.Stop 1), said.Done answers.Done) ∷
    (calls.Do (events.Gone 1), said.Done answers.Gone) ∷
    (calls.OfVm 1, said.Refused refusals.NoVm) ∷
    (calls.Do (events.Admit 1 (spec 1 1 1 1000 0)), said.Done (answers.Admitted (reserved 4 8 7 8))) ∷ [])
unfolding told_of
start_without_a_frame = refl
