-- Worked examples, by computation: calls of a console from the opening on, each with its reply.
use Rattle.std.specs.Prelude.{[], ◌∷◌, true, false}
use Rattle.std.proofs.Common.{refl}
use Rattle.esx_types.specs.declared.level.Level.TheVariants as levels
use Rattle.esx_types.specs.declared.vm.VmState.TheVariants as vm_states
use Rattle.esx_events.specs.declared.event.Event.TheVariants as events
use Rattle.esx_events.specs.declared.event.Answer.TheVariants as answers
use Rattle.esx_events.specs.declared.event.Refusal.TheVariants as refusals
use Rattle.esx_events.specs.declared.call.Call.TheVariants as calls
use Rattle.esx_events.specs.declared.call.Said.TheVariants as said
use Rattle.esx_events.specs.declared.call.PageState.TheVariants as states
use Rattle.esx_model.proofs.rows.Replies.{site, spec, reserved, sum, stand, table_row, reply, replies_of, AreAnswered}

-- An opened site.
pub empty_site : AreAnswered (site 20 16 8 75 6 4 2 1 16777216) (
    (calls.Sum, reply 0 (said.Sum (sum 0 0 0 20 levels.High))) ∷ [])
unfolding replies_of
empty_site = refl

-- A machine comes, starts and reads.
pub first_machine : AreAnswered (site 20 16 8 75 6 4 2 1 16777216) (
    (calls.Do (events.Admit 0 (spec 2 6 1 1000 0)), reply 0 (said.Done (answers.Admitted (reserved 3 20 4 8)))) ∷
    (calls.Do (events.Start 0), reply 0 (said.Done (answers.Started true 0 1 1))) ∷
    (calls.Do (events.Read 0 0 0 16), reply 0 (said.Done (answers.Bytes (0 ∷ 0 ∷ 0 ∷ 0 ∷ 0 ∷ 0 ∷ 0 ∷ 0 ∷ 0 ∷ 0 ∷ 0 ∷ 0 ∷ 0 ∷ 0 ∷ 0 ∷ 0 ∷ [])))) ∷
    (calls.OfPage 0 0, reply 0 (said.Page (states.Private 1))) ∷
    (calls.Sum, reply 0 (said.Sum (sum 1 1 0 18 levels.High))) ∷ [])
unfolding replies_of
first_machine = refl

-- Machines that are not admitted, and one that is.
pub reserves : AreAnswered (site 20 16 8 75 6 4 2 1 16777216) (
    (calls.Do (events.Admit 0 (spec 2 6 1 1000 0)), reply 0 (said.Done (answers.Admitted (reserved 3 20 4 8)))) ∷
    (calls.Do (events.Start 0), reply 0 (said.Done (answers.Started true 0 1 1))) ∷
    (calls.Do (events.Read 0 0 0 16), reply 0 (said.Done (answers.Bytes (0 ∷ 0 ∷ 0 ∷ 0 ∷ 0 ∷ 0 ∷ 0 ∷ 0 ∷ 0 ∷ 0 ∷ 0 ∷ 0 ∷ 0 ∷ 0 ∷ 0 ∷ 0 ∷ [])))) ∷
    (calls.OfPage 0 0, reply 0 (said.Page (states.Private 1))) ∷
    (calls.Sum, reply 0 (said.Sum (sum 1 1 0 18 levels.High))) ∷
    (calls.Do (events.Admit 1 (spec 0 4 1 1000 0)), reply 0 (said.Refused refusals.BadSpec)) ∷
    (calls.Do (events.Admit 1 (spec 19 19 1 1000 0)), reply 0 (said.Refused refusals.NoMemoryReserve)) ∷
    (calls.Do (events.Admit 1 (spec 1 6 1 1000 0)), reply 0 (said.Refused refusals.NoSwapReserve)) ∷
    (calls.Do (events.Admit 1 (spec 16 20 1 1000 0)), reply 0 (said.Done (answers.Admitted (reserved 20 20 8 8)))) ∷ [])
unfolding replies_of
reserves = refl

-- Accesses at the end of a page and past it.
pub access_in_range : AreAnswered (site 20 16 8 75 6 4 2 1 16777216) (
    (calls.Do (events.Admit 0 (spec 2 6 1 1000 0)), reply 0 (said.Done (answers.Admitted (reserved 3 20 4 8)))) ∷
    (calls.Do (events.Start 0), reply 0 (said.Done (answers.Started true 0 1 1))) ∷
    (calls.Do (events.Read 0 0 0 16), reply 0 (said.Done (answers.Bytes (0 ∷ 0 ∷ 0 ∷ 0 ∷ 0 ∷ 0 ∷ 0 ∷ 0 ∷ 0 ∷ 0 ∷ 0 ∷ 0 ∷ 0 ∷ 0 ∷ 0 ∷ 0 ∷ [])))) ∷
    (calls.OfPage 0 0, reply 0 (said.Page (states.Private 1))) ∷
    (calls.Sum, reply 0 (said.Sum (sum 1 1 0 18 levels.High))) ∷
    (calls.Do (events.Read 0 0 15 1), reply 0 (said.Done (answers.Bytes (0 ∷ [])))) ∷
    (calls.Do (events.Read 0 0 15 2), reply 0 (said.Refused refusals.OutOfRange)) ∷
    (calls.Do (events.Read 0 6 0 1), reply 0 (said.Refused refusals.OutOfRange)) ∷ [])
unfolding replies_of
access_in_range = refl

-- What comes twice.
pub twice : AreAnswered (site 20 16 8 75 6 4 2 1 16777216) (
    (calls.Do (events.Admit 0 (spec 2 6 1 1000 0)), reply 0 (said.Done (answers.Admitted (reserved 3 20 4 8)))) ∷
    (calls.Do (events.Start 0), reply 0 (said.Done (answers.Started true 0 1 1))) ∷
    (calls.Do (events.Read 0 0 0 16), reply 0 (said.Done (answers.Bytes (0 ∷ 0 ∷ 0 ∷ 0 ∷ 0 ∷ 0 ∷ 0 ∷ 0 ∷ 0 ∷ 0 ∷ 0 ∷ 0 ∷ 0 ∷ 0 ∷ 0 ∷ 0 ∷ [])))) ∷
    (calls.OfPage 0 0, reply 0 (said.Page (states.Private 1))) ∷
    (calls.Sum, reply 0 (said.Sum (sum 1 1 0 18 levels.High))) ∷
    (calls.Do (events.Admit 0 (spec 2 6 1 1000 0)), reply 0 (said.Refused refusals.VmThere)) ∷
    (calls.Do (events.Start 0), reply 0 (said.Refused refusals.NotNeeded)) ∷ [])
unfolding replies_of
twice = refl

-- A machine stops and goes.
pub leaving : AreAnswered (site 20 16 8 75 6 4 2 1 16777216) (
    (calls.Do (events.Admit 0 (spec 2 6 1 1000 0)), reply 0 (said.Done (answers.Admitted (reserved 3 20 4 8)))) ∷
    (calls.Do (events.Start 0), reply 0 (said.Done (answers.Started true 0 1 1))) ∷
    (calls.Do (events.Read 0 0 0 16), reply 0 (said.Done (answers.Bytes (0 ∷ 0 ∷ 0 ∷ 0 ∷ 0 ∷ 0 ∷ 0 ∷ 0 ∷ 0 ∷ 0 ∷ 0 ∷ 0 ∷ 0 ∷ 0 ∷ 0 ∷ 0 ∷ [])))) ∷
    (calls.OfPage 0 0, reply 0 (said.Page (states.Private 1))) ∷
    (calls.Sum, reply 0 (said.Sum (sum 1 1 0 18 levels.High))) ∷
    (calls.Do (events.Gone 0), reply 0 (said.Refused refusals.NotNeeded)) ∷
    (calls.Do (events.Stop 0), reply 0 (said.Done answers.Done)) ∷
    (calls.Do (events.Stop 0), reply 0 (said.Refused refusals.NotRunning)) ∷
    (calls.Do (events.Read 0 0 0 1), reply 0 (said.Refused refusals.NotRunning)) ∷
    (calls.Do (events.Gone 0), reply 0 (said.Refused refusals.PagesLeft)) ∷
    (calls.Do (events.DropPage 0 6), reply 0 (said.Refused refusals.OutOfRange)) ∷
    (calls.Do (events.DropPage 0 1), reply 0 (said.Refused refusals.NotNeeded)) ∷
    (calls.Do (events.DropPage 0 0), reply 0 (said.Done answers.Done)) ∷
    (calls.Do (events.Gone 0), reply 0 (said.Done answers.Gone)) ∷
    (calls.Do (events.Start 0), reply 0 (said.Refused refusals.NoVm)) ∷
    (calls.Sum, reply 0 (said.Sum (sum 0 0 0 20 levels.High))) ∷
    (calls.Undo 3, reply 1 (said.Stand (stand 3 3))) ∷
    (calls.OfPage 0 0, reply 1 (said.Page (states.Private 1))) ∷ [])
unfolding replies_of
leaving = refl

-- The table.
pub table : AreAnswered (site 20 16 8 75 6 4 2 1 16777216) (
    (calls.Do (events.Admit 0 (spec 2 6 1 1000 0)), reply 0 (said.Done (answers.Admitted (reserved 3 20 4 8)))) ∷
    (calls.Do (events.Start 0), reply 0 (said.Done (answers.Started true 0 1 1))) ∷
    (calls.Do (events.Read 0 0 0 16), reply 0 (said.Done (answers.Bytes (0 ∷ 0 ∷ 0 ∷ 0 ∷ 0 ∷ 0 ∷ 0 ∷ 0 ∷ 0 ∷ 0 ∷ 0 ∷ 0 ∷ 0 ∷ 0 ∷ 0 ∷ 0 ∷ [])))) ∷
    (calls.OfPage 0 0, reply 0 (said.Page (states.Private 1))) ∷
    (calls.Sum, reply 0 (said.Sum (sum 1 1 0 18 levels.High))) ∷
    (calls.Table, reply 0 (said.Table (table_row 0 vm_states.Running 2 6 6 1 0 0 1000 65536 ∷ []) (sum 1 1 0 18 levels.High))) ∷ [])
unfolding replies_of
table = refl

-- Overhead frames are given back, the one taken last first.
pub overhead_given_back : AreAnswered (site 8 16 8 75 6 4 2 1 16777216) (
    (calls.Do (events.Admit 0 (spec 1 2 3 1000 0)), reply 0 (said.Done (answers.Admitted (reserved 4 8 1 8)))) ∷
    (calls.Do (events.Start 0), reply 0 (said.Done (answers.Started false 0 1 3))) ∷
    (calls.Do (events.Start 0), reply 0 (said.Done (answers.Started false 1 2 3))) ∷
    (calls.Do (events.Start 0), reply 0 (said.Done (answers.Started true 2 3 3))) ∷
    (calls.Do (events.Read 0 0 0 1), reply 0 (said.Done (answers.Bytes (0 ∷ [])))) ∷
    (calls.Do (events.Stop 0), reply 0 (said.Done answers.Done)) ∷
    (calls.Do (events.Gone 0), reply 0 (said.Refused refusals.PagesLeft)) ∷
    (calls.Do (events.DropPage 0 0), reply 0 (said.Done answers.Done)) ∷
    (calls.Do (events.Gone 0), reply 0 (said.Done (answers.GivenBack 2))) ∷
    (calls.Do (events.Gone 0), reply 0 (said.Done (answers.GivenBack 1))) ∷
    (calls.Do (events.Admit 1 (spec 1 1 2 1000 0)), reply 0 (said.Done (answers.Admitted (reserved 7 8 1 8)))) ∷
    (calls.Do (events.Start 1), reply 0 (said.Done (answers.Started false 1 1 2))) ∷
    (calls.Do (events.Gone 0), reply 0 (said.Done answers.Gone)) ∷
    (calls.Do (events.Start 1), reply 0 (said.Done (answers.Started true 0 2 2))) ∷
    (calls.Sum, reply 0 (said.Sum (sum 2 0 0 6 levels.High))) ∷ [])
unfolding replies_of
overhead_given_back = refl
