-- Worked examples, by computation: calls from the opening on, each with what is said: what pages hold and where they are.
use Rattle.std.specs.Prelude.{[], ◌∷◌, true}
use Rattle.std.proofs.Common.{refl}
use Rattle.esx_types.specs.declared.level.Level.TheVariants as levels
use Rattle.esx_types.specs.declared.vm.VmState.TheVariants as vm_states
use Rattle.esx_events.specs.declared.event.Event.TheVariants as events
use Rattle.esx_events.specs.declared.event.Answer.TheVariants as answers
use Rattle.esx_events.specs.declared.event.Scanned.TheVariants as scanned
use Rattle.esx_events.specs.declared.event.Refusal.TheVariants as refusals
use Rattle.esx_events.specs.declared.call.Call.TheVariants as calls
use Rattle.esx_events.specs.declared.call.Said.TheVariants as said
use Rattle.esx_events.specs.declared.call.PageState.TheVariants as states
use Rattle.esx_events.specs.declared.call.Help.TheVariants as helps
use Rattle.esx_model.proofs.rows.Replies.{site, spec, reserved, sum, table_row}
use Rattle.esx_model.proofs.rows.Told.{told_of, AreTold}

-- A write changes its bytes alone; a page that was out has its bytes again when it is read or written, and its slot is free.
pub bytes_stay : AreTold (site 8 16 8 75 6 4 2 1 16777216) (
    (calls.Do (events.Admit 0 (spec 1 7 1 1000 0)), said.Done (answers.Admitted (reserved 2 8 6 8))) ∷
    (calls.Do (events.Start 0), said.Done (answers.Started true 0 1 1)) ∷
    (calls.Do (events.Write 0 0 0 (1 ∷ 2 ∷ 3 ∷ 4 ∷ [])), said.Done answers.Done) ∷
    (calls.Do (events.Write 0 0 1 (170 ∷ 187 ∷ [])), said.Done answers.Done) ∷
    (calls.Do (events.Read 0 0 0 16), said.Done (answers.Bytes (1 ∷ 170 ∷ 187 ∷ 4 ∷ 0 ∷ 0 ∷ 0 ∷ 0 ∷ 0 ∷ 0 ∷ 0 ∷ 0 ∷ 0 ∷ 0 ∷ 0 ∷ 0 ∷ []))) ∷
    (calls.Do (events.Read 0 0 2 2), said.Done (answers.Bytes (187 ∷ 4 ∷ []))) ∷
    (calls.Do (events.Read 0 0 0 0), said.Refused refusals.OutOfRange) ∷
    (calls.Do (events.Read 0 0 0 17), said.Refused refusals.OutOfRange) ∷
    (calls.Do (events.Write 0 1 0 (5 ∷ [])), said.Done answers.Done) ∷
    (calls.Do (events.Read 0 2 0 1), said.Done (answers.Bytes (0 ∷ []))) ∷
    (calls.Do (events.Read 0 3 0 1), said.Done (answers.Bytes (0 ∷ []))) ∷
    (calls.Do (events.Read 0 4 0 1), said.Done (answers.Bytes (0 ∷ []))) ∷
    (calls.Do events.Rebalance, said.Done (answers.Rebalanced 3 3)) ∷
    (calls.Do (events.SwapOut 0 0), said.Done (answers.PagedOut 0 0)) ∷
    (calls.Do (events.SwapOut 0 0), said.Done (answers.PagedOut 1 1)) ∷
    (calls.OfPage 0 0, said.Page (states.Out 0)) ∷
    (calls.OfPage 0 1, said.Page (states.Out 1)) ∷
    (calls.Do (events.Write 0 0 4 (204 ∷ [])), said.Done answers.Done) ∷
    (calls.Do (events.Read 0 0 0 8), said.Done (answers.Bytes (1 ∷ 170 ∷ 187 ∷ 4 ∷ 204 ∷ 0 ∷ 0 ∷ 0 ∷ []))) ∷
    (calls.OfPage 0 0, said.Page (states.Private 1)) ∷
    (calls.Do (events.Read 0 1 0 2), said.Done (answers.Bytes (5 ∷ 0 ∷ []))) ∷
    (calls.OfPage 0 1, said.Page (states.Private 2)) ∷
    (calls.Table, said.Table (table_row 0 vm_states.Running 1 7 2 5 0 0 1000 65536 ∷ []) (sum 1 5 0 2 levels.Soft)) ∷
    (calls.Do events.Rebalance, said.Done (answers.Rebalanced 3 3)) ∷
    (calls.Do (events.SwapOut 0 0), said.Done (answers.PagedOut 0 0)) ∷
    (calls.Do (events.SwapOut 0 1), said.Done (answers.PagedOut 2 1)) ∷
    (calls.OfPage 0 0, said.Page (states.Out 0)) ∷ [])
unfolding told_of
bytes_stay = refl

-- Of the slots that no page is in the least is taken, also where a later one is full.
pub slots_least : AreTold (site 8 16 8 75 6 4 2 1 16777216) (
    (calls.Do (events.Admit 0 (spec 1 8 1 1000 0)), said.Done (answers.Admitted (reserved 2 8 7 8))) ∷
    (calls.Do (events.Start 0), said.Done (answers.Started true 0 1 1)) ∷
    (calls.Do (events.Read 0 0 0 1), said.Done (answers.Bytes (0 ∷ []))) ∷
    (calls.Do (events.Read 0 1 0 1), said.Done (answers.Bytes (0 ∷ []))) ∷
    (calls.Do (events.Read 0 2 0 1), said.Done (answers.Bytes (0 ∷ []))) ∷
    (calls.Do (events.Read 0 3 0 1), said.Done (answers.Bytes (0 ∷ []))) ∷
    (calls.Do (events.Read 0 4 0 1), said.Done (answers.Bytes (0 ∷ []))) ∷
    (calls.Do events.Rebalance, said.Done (answers.Rebalanced 3 3)) ∷
    (calls.Do (events.SwapOut 0 0), said.Done (answers.PagedOut 0 0)) ∷
    (calls.Do (events.SwapOut 0 0), said.Done (answers.PagedOut 1 1)) ∷
    (calls.Do (events.Write 0 0 0 (1 ∷ [])), said.Done answers.Done) ∷
    (calls.Do (events.SwapOut 0 3), said.Done (answers.PagedOut 4 0)) ∷
    (calls.OfPage 0 1, said.Page (states.Out 1)) ∷
    (calls.OfPage 0 4, said.Page (states.Out 0)) ∷
    (calls.Table, said.Table (table_row 0 vm_states.Running 1 8 2 3 0 2 1000 65536 ∷ []) (sum 1 3 0 4 levels.Soft)) ∷ [])
unfolding told_of
slots_least = refl

-- At Low a machine above its target waits with each access, also to a page in a frame; what is out of range is told first.
pub held_in_its_frame : AreTold (site 8 16 8 75 6 4 2 1 16777216) (
    (calls.Do (events.Admit 0 (spec 1 8 1 1000 0)), said.Done (answers.Admitted (reserved 2 8 7 8))) ∷
    (calls.Do (events.Start 0), said.Done (answers.Started true 0 1 1)) ∷
    (calls.Do (events.Read 0 0 0 1), said.Done (answers.Bytes (0 ∷ []))) ∷
    (calls.Do (events.Read 0 1 0 1), said.Done (answers.Bytes (0 ∷ []))) ∷
    (calls.Do (events.Read 0 2 0 1), said.Done (answers.Bytes (0 ∷ []))) ∷
    (calls.Do (events.Read 0 3 0 1), said.Done (answers.Bytes (0 ∷ []))) ∷
    (calls.Do (events.Read 0 4 0 1), said.Done (answers.Bytes (0 ∷ []))) ∷
    (calls.Do (events.Read 0 5 0 1), said.Done (answers.Bytes (0 ∷ []))) ∷
    (calls.Do (events.Read 0 6 0 1), said.Done (answers.Bytes (0 ∷ []))) ∷
    (calls.Do events.Rebalance, said.Done (answers.Rebalanced 5 5)) ∷
    (calls.Do (events.Read 0 0 0 1), said.Refused refusals.Held) ∷
    (calls.Do (events.Write 0 0 0 (1 ∷ [])), said.Refused refusals.Held) ∷
    (calls.Do (events.Write 0 8 0 (1 ∷ [])), said.Refused refusals.OutOfRange) ∷
    (calls.Do (events.Read 0 0 16 1), said.Refused refusals.OutOfRange) ∷
    (calls.Advise 0 0, said.Help (helps.SwapOut 0)) ∷ [])
unfolding told_of
held_in_its_frame = refl

-- A page is scanned twice, shared with one of its machine and with a third; a page that is shared leaves no hint behind, and the last to be written no key.
pub shared_again : AreTold (site 20 16 8 75 6 4 2 1 16777216) (
    (calls.Do (events.Admit 0 (spec 2 8 1 1000 0)), said.Done (answers.Admitted (reserved 3 20 6 8))) ∷
    (calls.Do (events.Start 0), said.Done (answers.Started true 0 1 1)) ∷
    (calls.Do (events.Write 0 0 0 (42 ∷ [])), said.Done answers.Done) ∷
    (calls.Do (events.Write 0 1 0 (42 ∷ [])), said.Done answers.Done) ∷
    (calls.Do (events.Scan 0 0), said.Done (answers.Looked scanned.Hinted)) ∷
    (calls.Do (events.Scan 0 0), said.Done (answers.Looked scanned.Hinted)) ∷
    (calls.Do (events.Scan 0 1), said.Done (answers.Looked (scanned.Shared 1 2))) ∷
    (calls.Do (events.Scan 0 1), said.Done (answers.Looked scanned.Already)) ∷
    (calls.Do (events.Write 0 2 0 (42 ∷ [])), said.Done answers.Done) ∷
    (calls.Do (events.Scan 0 2), said.Done (answers.Looked (scanned.Shared 1 3))) ∷
    (calls.Do (events.Write 0 3 0 (43 ∷ [])), said.Done answers.Done) ∷
    (calls.Do (events.Scan 0 3), said.Done (answers.Looked scanned.Hinted)) ∷
    (calls.Do (events.Write 0 3 0 (42 ∷ [])), said.Done answers.Done) ∷
    (calls.Do (events.Scan 0 3), said.Done (answers.Looked (scanned.Shared 1 4))) ∷
    (calls.Do (events.Write 0 4 0 (43 ∷ [])), said.Done answers.Done) ∷
    (calls.Do (events.Scan 0 4), said.Done (answers.Looked scanned.Hinted)) ∷
    (calls.OfPage 0 3, said.Page (states.Shared 1 4)) ∷
    (calls.Sum, said.Sum (sum 1 1 1 17 levels.High)) ∷
    (calls.Do (events.Write 0 0 0 (1 ∷ [])), said.Done answers.Done) ∷
    (calls.Do (events.Write 0 1 0 (2 ∷ [])), said.Done answers.Done) ∷
    (calls.Do (events.Write 0 2 0 (3 ∷ [])), said.Done answers.Done) ∷
    (calls.OfPage 0 3, said.Page (states.Shared 1 1)) ∷
    (calls.Do (events.Write 0 3 0 (4 ∷ [])), said.Done answers.Done) ∷
    (calls.OfPage 0 3, said.Page (states.Private 1)) ∷
    (calls.Do (events.Write 0 5 0 (42 ∷ [])), said.Done answers.Done) ∷
    (calls.Do (events.Scan 0 5), said.Done (answers.Looked scanned.Hinted)) ∷
    (calls.OfPage 0 5, said.Page (states.Hinted 6)) ∷ [])
unfolding told_of
shared_again = refl

-- Where no frame is free, a page in a frame with others may be read and not written.
pub copy_without_a_frame : AreTold (site 8 16 8 75 6 4 2 1 16777216) (
    (calls.Do (events.Admit 0 (spec 1 8 1 1000 0)), said.Done (answers.Admitted (reserved 2 8 7 8))) ∷
    (calls.Do (events.Start 0), said.Done (answers.Started true 0 1 1)) ∷
    (calls.Do (events.Write 0 0 0 (42 ∷ [])), said.Done answers.Done) ∷
    (calls.Do (events.Write 0 1 0 (42 ∷ [])), said.Done answers.Done) ∷
    (calls.Do (events.Scan 0 0), said.Done (answers.Looked scanned.Hinted)) ∷
    (calls.Do (events.Scan 0 1), said.Done (answers.Looked (scanned.Shared 1 2))) ∷
    (calls.Do (events.Read 0 2 0 1), said.Done (answers.Bytes (0 ∷ []))) ∷
    (calls.Do (events.Read 0 3 0 1), said.Done (answers.Bytes (0 ∷ []))) ∷
    (calls.Do (events.Read 0 4 0 1), said.Done (answers.Bytes (0 ∷ []))) ∷
    (calls.Do (events.Read 0 5 0 1), said.Done (answers.Bytes (0 ∷ []))) ∷
    (calls.Do (events.Read 0 6 0 1), said.Done (answers.Bytes (0 ∷ []))) ∷
    (calls.Do (events.Read 0 7 0 1), said.Done (answers.Bytes (0 ∷ []))) ∷
    (calls.Do (events.Read 0 1 0 1), said.Done (answers.Bytes (42 ∷ []))) ∷
    (calls.Do (events.Write 0 1 0 (43 ∷ [])), said.Refused refusals.Short) ∷
    (calls.Advise 0 1, said.Help helps.Rebalance) ∷
    (calls.Sum, said.Sum (sum 1 6 1 0 levels.Low)) ∷ [])
unfolding told_of
copy_without_a_frame = refl

-- A page that leaves joins a frame that is shared already; one that was shared goes to a slot.
pub shared_frame_in_place_of_paging : AreTold (site 8 16 8 75 6 4 2 1 16777216) (
    (calls.Do (events.Admit 0 (spec 1 7 1 1000 0)), said.Done (answers.Admitted (reserved 2 8 6 8))) ∷
    (calls.Do (events.Start 0), said.Done (answers.Started true 0 1 1)) ∷
    (calls.Do (events.Write 0 0 0 (42 ∷ [])), said.Done answers.Done) ∷
    (calls.Do (events.Write 0 1 0 (42 ∷ [])), said.Done answers.Done) ∷
    (calls.Do (events.Scan 0 0), said.Done (answers.Looked scanned.Hinted)) ∷
    (calls.Do (events.Scan 0 1), said.Done (answers.Looked (scanned.Shared 1 2))) ∷
    (calls.Do (events.Write 0 2 0 (42 ∷ [])), said.Done answers.Done) ∷
    (calls.Do (events.Read 0 3 0 1), said.Done (answers.Bytes (0 ∷ []))) ∷
    (calls.Do (events.Read 0 4 0 1), said.Done (answers.Bytes (0 ∷ []))) ∷
    (calls.Do (events.Read 0 5 0 1), said.Done (answers.Bytes (0 ∷ []))) ∷
    (calls.Do events.Rebalance, said.Done (answers.Rebalanced 3 3)) ∷
    (calls.Do (events.SwapOut 0 2), said.Done (answers.SharedOut 2 1)) ∷
    (calls.OfPage 0 2, said.Page (states.Shared 1 3)) ∷
    (calls.Do (events.SwapOut 0 1), said.Done (answers.PagedOut 1 0)) ∷
    (calls.OfPage 0 0, said.Page (states.Shared 1 2)) ∷
    (calls.OfPage 0 1, said.Page (states.Out 0)) ∷
    (calls.Do (events.Read 0 1 0 1), said.Done (answers.Bytes (42 ∷ []))) ∷
    (calls.Sum, said.Sum (sum 1 4 1 2 levels.Soft)) ∷ [])
unfolding told_of
shared_frame_in_place_of_paging = refl
