-- Worked examples, by computation: calls of a console from the opening on, each with its reply.
use Rattle.std.specs.Prelude.{[], ◌∷◌, true}
use Rattle.std.proofs.Common.{refl}
use Rattle.esx_types.specs.declared.level.Level.TheVariants as levels
use Rattle.esx_events.specs.declared.event.Event.TheVariants as events
use Rattle.esx_events.specs.declared.event.Answer.TheVariants as answers
use Rattle.esx_events.specs.declared.event.Scanned.TheVariants as scanned
use Rattle.esx_events.specs.declared.event.Refusal.TheVariants as refusals
use Rattle.esx_events.specs.declared.call.Call.TheVariants as calls
use Rattle.esx_events.specs.declared.call.Said.TheVariants as said
use Rattle.esx_events.specs.declared.call.PageState.TheVariants as states
use Rattle.esx_model.proofs.rows.Replies.{site, spec, reserved, sum, stand, reply, replies_of, AreAnswered}

-- Two pages are shared, and each of them is written; a third is shared in between.
pub copy_on_write : AreAnswered (site 20 16 8 75 6 4 2 1 16777216) (
    (calls.Do (events.Admit 0 (spec 2 6 1 1000 0)), reply 0 (said.Done (answers.Admitted (reserved 3 20 4 8)))) ∷
    (calls.Do (events.Start 0), reply 0 (said.Done (answers.Started true 0 1 1))) ∷
    (calls.Do (events.Read 0 0 0 16), reply 0 (said.Done (answers.Bytes (0 ∷ 0 ∷ 0 ∷ 0 ∷ 0 ∷ 0 ∷ 0 ∷ 0 ∷ 0 ∷ 0 ∷ 0 ∷ 0 ∷ 0 ∷ 0 ∷ 0 ∷ 0 ∷ [])))) ∷
    (calls.OfPage 0 0, reply 0 (said.Page (states.Private 1))) ∷
    (calls.Sum, reply 0 (said.Sum (sum 1 1 0 18 levels.High))) ∷
    (calls.Do (events.Admit 1 (spec 2 6 1 1000 0)), reply 0 (said.Done (answers.Admitted (reserved 6 20 8 8)))) ∷
    (calls.Do (events.Start 1), reply 0 (said.Done (answers.Started true 2 1 1))) ∷
    (calls.Do (events.Write 0 1 0 (42 ∷ [])), reply 0 (said.Done answers.Done)) ∷
    (calls.Do (events.Write 1 0 0 (42 ∷ [])), reply 0 (said.Done answers.Done)) ∷
    (calls.Do (events.Scan 0 1), reply 0 (said.Done (answers.Looked scanned.Hinted))) ∷
    (calls.Do (events.Scan 1 0), reply 0 (said.Done (answers.Looked (scanned.Shared 3 2)))) ∷
    (calls.Sum, reply 0 (said.Sum (sum 2 1 1 16 levels.High))) ∷
    (calls.Do (events.Write 1 0 0 (43 ∷ [])), reply 0 (said.Done answers.Done)) ∷
    (calls.OfPage 1 0, reply 0 (said.Page (states.Private 4))) ∷
    (calls.OfPage 0 1, reply 0 (said.Page (states.Shared 3 1))) ∷
    (calls.Do (events.Read 0 1 0 1), reply 0 (said.Done (answers.Bytes (42 ∷ [])))) ∷
    (calls.Do (events.Write 1 1 0 (42 ∷ [])), reply 0 (said.Done answers.Done)) ∷
    (calls.Do (events.Scan 1 1), reply 0 (said.Done (answers.Looked (scanned.Shared 3 2)))) ∷
    (calls.Do (events.Write 1 1 0 (44 ∷ [])), reply 0 (said.Done answers.Done)) ∷
    (calls.OfPage 1 1, reply 0 (said.Page (states.Private 5))) ∷
    (calls.Do (events.Write 0 1 0 (45 ∷ [])), reply 0 (said.Done answers.Done)) ∷
    (calls.OfPage 0 1, reply 0 (said.Page (states.Private 3))) ∷ [])
unfolding replies_of
copy_on_write = refl

-- Sharing is undone and done again.
pub undo_of_sharing : AreAnswered (site 20 16 8 75 6 4 2 1 16777216) (
    (calls.Do (events.Admit 0 (spec 2 6 1 1000 0)), reply 0 (said.Done (answers.Admitted (reserved 3 20 4 8)))) ∷
    (calls.Do (events.Start 0), reply 0 (said.Done (answers.Started true 0 1 1))) ∷
    (calls.Do (events.Read 0 0 0 16), reply 0 (said.Done (answers.Bytes (0 ∷ 0 ∷ 0 ∷ 0 ∷ 0 ∷ 0 ∷ 0 ∷ 0 ∷ 0 ∷ 0 ∷ 0 ∷ 0 ∷ 0 ∷ 0 ∷ 0 ∷ 0 ∷ [])))) ∷
    (calls.OfPage 0 0, reply 0 (said.Page (states.Private 1))) ∷
    (calls.Sum, reply 0 (said.Sum (sum 1 1 0 18 levels.High))) ∷
    (calls.Do (events.Admit 1 (spec 2 6 1 1000 0)), reply 0 (said.Done (answers.Admitted (reserved 6 20 8 8)))) ∷
    (calls.Do (events.Start 1), reply 0 (said.Done (answers.Started true 2 1 1))) ∷
    (calls.Do (events.Write 0 1 0 (42 ∷ [])), reply 0 (said.Done answers.Done)) ∷
    (calls.Do (events.Write 1 0 0 (42 ∷ [])), reply 0 (said.Done answers.Done)) ∷
    (calls.Do (events.Scan 0 1), reply 0 (said.Done (answers.Looked scanned.Hinted))) ∷
    (calls.Do (events.Scan 1 0), reply 0 (said.Done (answers.Looked (scanned.Shared 3 2)))) ∷
    (calls.Sum, reply 0 (said.Sum (sum 2 1 1 16 levels.High))) ∷
    (calls.Do (events.Write 1 0 0 (43 ∷ [])), reply 0 (said.Done answers.Done)) ∷
    (calls.OfPage 1 0, reply 0 (said.Page (states.Private 4))) ∷
    (calls.OfPage 0 1, reply 0 (said.Page (states.Shared 3 1))) ∷
    (calls.Do (events.Read 0 1 0 1), reply 0 (said.Done (answers.Bytes (42 ∷ [])))) ∷
    (calls.Undo 3, reply 1 (said.Stand (stand 8 8))) ∷
    (calls.Sum, reply 1 (said.Sum (sum 2 3 0 15 levels.High))) ∷
    (calls.Redo 3, reply 2 (said.Stand (stand 11 11))) ∷
    (calls.Sum, reply 2 (said.Sum (sum 2 2 1 15 levels.High))) ∷
    (calls.OfPage 1 0, reply 2 (said.Page (states.Private 4))) ∷ [])
unfolding replies_of
undo_of_sharing = refl

-- A hint whose page has changed.
pub stale_hint : AreAnswered (site 20 16 8 75 6 4 2 1 16777216) (
    (calls.Do (events.Admit 0 (spec 2 6 1 1000 0)), reply 0 (said.Done (answers.Admitted (reserved 3 20 4 8)))) ∷
    (calls.Do (events.Start 0), reply 0 (said.Done (answers.Started true 0 1 1))) ∷
    (calls.Do (events.Read 0 0 0 16), reply 0 (said.Done (answers.Bytes (0 ∷ 0 ∷ 0 ∷ 0 ∷ 0 ∷ 0 ∷ 0 ∷ 0 ∷ 0 ∷ 0 ∷ 0 ∷ 0 ∷ 0 ∷ 0 ∷ 0 ∷ 0 ∷ [])))) ∷
    (calls.OfPage 0 0, reply 0 (said.Page (states.Private 1))) ∷
    (calls.Sum, reply 0 (said.Sum (sum 1 1 0 18 levels.High))) ∷
    (calls.Do (events.Write 0 1 0 (42 ∷ [])), reply 0 (said.Done answers.Done)) ∷
    (calls.Do (events.Scan 0 1), reply 0 (said.Done (answers.Looked scanned.Hinted))) ∷
    (calls.Do (events.Write 0 1 0 (43 ∷ [])), reply 0 (said.Done answers.Done)) ∷
    (calls.Do (events.Write 0 2 0 (42 ∷ [])), reply 0 (said.Done answers.Done)) ∷
    (calls.Do (events.Scan 0 2), reply 0 (said.Done (answers.Looked scanned.Stale))) ∷
    (calls.OfPage 0 1, reply 0 (said.Page (states.Private 2))) ∷
    (calls.OfPage 0 2, reply 0 (said.Page (states.Hinted 3))) ∷ [])
unfolding replies_of
stale_hint = refl

-- A page that is nowhere has no content to share.
pub untouched : AreAnswered (site 20 16 8 75 6 4 2 1 16777216) (
    (calls.Do (events.Admit 0 (spec 2 6 1 1000 0)), reply 0 (said.Done (answers.Admitted (reserved 3 20 4 8)))) ∷
    (calls.Do (events.Start 0), reply 0 (said.Done (answers.Started true 0 1 1))) ∷
    (calls.Do (events.Read 0 0 0 16), reply 0 (said.Done (answers.Bytes (0 ∷ 0 ∷ 0 ∷ 0 ∷ 0 ∷ 0 ∷ 0 ∷ 0 ∷ 0 ∷ 0 ∷ 0 ∷ 0 ∷ 0 ∷ 0 ∷ 0 ∷ 0 ∷ [])))) ∷
    (calls.OfPage 0 0, reply 0 (said.Page (states.Private 1))) ∷
    (calls.Sum, reply 0 (said.Sum (sum 1 1 0 18 levels.High))) ∷
    (calls.Do (events.Scan 0 1), reply 0 (said.Refused refusals.NotResident)) ∷ [])
unfolding replies_of
untouched = refl

-- A page that can be shared is not paged out.
pub shared_in_place_of_paging : AreAnswered (site 8 16 8 75 6 4 2 1 16777216) (
    (calls.Do (events.Admit 0 (spec 1 6 1 1000 0)), reply 0 (said.Done (answers.Admitted (reserved 2 8 5 8)))) ∷
    (calls.Do (events.Admit 1 (spec 1 4 1 1000 0)), reply 0 (said.Done (answers.Admitted (reserved 4 8 8 8)))) ∷
    (calls.Do (events.Start 0), reply 0 (said.Done (answers.Started true 0 1 1))) ∷
    (calls.Do (events.Start 1), reply 0 (said.Done (answers.Started true 1 1 1))) ∷
    (calls.Do (events.Write 0 0 0 (42 ∷ [])), reply 0 (said.Done answers.Done)) ∷
    (calls.Do (events.Write 1 0 0 (42 ∷ [])), reply 0 (said.Done answers.Done)) ∷
    (calls.Do (events.Scan 1 0), reply 0 (said.Done (answers.Looked scanned.Hinted))) ∷
    (calls.Do (events.Read 0 1 0 1), reply 0 (said.Done (answers.Bytes (0 ∷ [])))) ∷
    (calls.Do (events.Read 0 2 0 1), reply 0 (said.Done (answers.Bytes (0 ∷ [])))) ∷
    (calls.Do events.Rebalance, reply 0 (said.Done (answers.Rebalanced 3 2))) ∷
    (calls.Do (events.SwapOut 0 0), reply 0 (said.Done (answers.SharedOut 0 3))) ∷
    (calls.Sum, reply 0 (said.Sum (sum 2 2 1 3 levels.Soft))) ∷
    (calls.Do (events.SwapOut 0 0), reply 0 (said.Done (answers.PagedOut 0 0))) ∷
    (calls.OfPage 1 0, reply 0 (said.Page (states.Shared 3 1))) ∷
    (calls.Undo 2, reply 1 (said.Stand (stand 10 10))) ∷
    (calls.Sum, reply 1 (said.Sum (sum 2 4 0 2 levels.Soft))) ∷
    (calls.OfPage 1 0, reply 1 (said.Page (states.Hinted 3))) ∷
    (calls.Redo 2, reply 2 (said.Stand (stand 12 12))) ∷
    (calls.OfPage 0 0, reply 2 (said.Page (states.Out 0))) ∷ [])
unfolding replies_of
shared_in_place_of_paging = refl

-- Of a look that does not end in sharing nothing remains where the page is paged out.
pub paging_leaves_hints : AreAnswered (site 8 16 8 75 6 4 2 1 16777216) (
    (calls.Do (events.Admit 0 (spec 1 8 1 1000 0)), reply 0 (said.Done (answers.Admitted (reserved 2 8 7 8)))) ∷
    (calls.Do (events.Start 0), reply 0 (said.Done (answers.Started true 0 1 1))) ∷
    (calls.Do (events.Write 0 0 0 (42 ∷ [])), reply 0 (said.Done answers.Done)) ∷
    (calls.Do (events.Scan 0 0), reply 0 (said.Done (answers.Looked scanned.Hinted))) ∷
    (calls.Do (events.Write 0 0 0 (43 ∷ [])), reply 0 (said.Done answers.Done)) ∷
    (calls.Do (events.Write 0 1 0 (42 ∷ [])), reply 0 (said.Done answers.Done)) ∷
    (calls.Do (events.Read 0 2 0 1), reply 0 (said.Done (answers.Bytes (0 ∷ [])))) ∷
    (calls.Do (events.Read 0 3 0 1), reply 0 (said.Done (answers.Bytes (0 ∷ [])))) ∷
    (calls.Do (events.Read 0 4 0 1), reply 0 (said.Done (answers.Bytes (0 ∷ [])))) ∷
    (calls.Do events.Rebalance, reply 0 (said.Done (answers.Rebalanced 3 3))) ∷
    (calls.Do (events.SwapOut 0 1), reply 0 (said.Done (answers.PagedOut 1 0))) ∷
    (calls.OfPage 0 0, reply 0 (said.Page (states.Hinted 1))) ∷
    (calls.OfPage 0 1, reply 0 (said.Page (states.Out 0))) ∷
    (calls.Do (events.Scan 0 0), reply 0 (said.Done (answers.Looked scanned.Hinted))) ∷
    (calls.OfPage 0 0, reply 0 (said.Page (states.Hinted 1))) ∷ [])
unfolding replies_of
paging_leaves_hints = refl
