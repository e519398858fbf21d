-- Worked examples, by computation: calls from the opening on, each with what is said: contents whose keys agree in their upper 32 bits.
use Rattle.std.specs.Prelude.{ℕ, List, [], ◌∷◌, true}
use Rattle.std.proofs.Common.{refl}
use Rattle.esx_types.specs.declared.level.Level.TheVariants as levels
use Rattle.esx_events.specs.declared.event.Event.TheVariants as events
use Rattle.esx_events.specs.declared.event.Answer.TheVariants as answers
use Rattle.esx_events.specs.declared.event.Scanned.TheVariants as scanned
use Rattle.esx_events.specs.declared.call.Call.TheVariants as calls
use Rattle.esx_events.specs.declared.call.Said.TheVariants as said
use Rattle.esx_events.specs.declared.call.PageState.TheVariants as states
use Rattle.esx_model.proofs.rows.Replies.{site, spec, reserved, sum}
use Rattle.esx_model.proofs.rows.Told.{told_of, AreTold}

-- Two pages of 16 bytes, found by trying: the numbers 38184 and 59135 in eight bytes, highest first, and zeros.
abbrev first_content : List ℕ
first_content = 0 ∷ 0 ∷ 0 ∷ 0 ∷ 0 ∷ 0 ∷ 149 ∷ 40 ∷ 0 ∷ 0 ∷ 0 ∷ 0 ∷ 0 ∷ 0 ∷ 0 ∷ 0 ∷ []

abbrev second_content : List ℕ
second_content = 0 ∷ 0 ∷ 0 ∷ 0 ∷ 0 ∷ 0 ∷ 230 ∷ 255 ∷ 0 ∷ 0 ∷ 0 ∷ 0 ∷ 0 ∷ 0 ∷ 0 ∷ 0 ∷ []

-- The hint of another content under the same upper bits is a clash, and not shared.
pub short_match : AreTold (site 20 16 8 75 6 4 2 1 16777216) (
    (calls.Do (events.Admit 0 (spec 2 6 1 1000 0)), said.Done (answers.Admitted (reserved 3 20 4 8))) ∷
    (calls.Do (events.Start 0), said.Done (answers.Started true 0 1 1)) ∷
    (calls.Do (events.Write 0 0 0 first_content), said.Done answers.Done) ∷
    (calls.Do (events.Write 0 1 0 second_content), said.Done answers.Done) ∷
    (calls.Do (events.Scan 0 0), said.Done (answers.Looked scanned.Hinted)) ∷
    (calls.Do (events.Scan 0 1), said.Done (answers.Looked scanned.Clash)) ∷
    (calls.OfPage 0 0, said.Page (states.Hinted 1)) ∷
    (calls.OfPage 0 1, said.Page (states.Private 2)) ∷ [])
unfolding told_of
short_match = refl

-- A hint is stale where its page has other upper bits by now, whatever its key was; a clash leaves the hint that the page has under other upper bits.
pub short_stale : AreTold (site 20 16 8 75 6 4 2 1 16777216) (
    (calls.Do (events.Admit 0 (spec 2 6 1 1000 0)), said.Done (answers.Admitted (reserved 3 20 4 8))) ∷
    (calls.Do (events.Start 0), said.Done (answers.Started true 0 1 1)) ∷
    (calls.Do (events.Write 0 0 0 first_content), said.Done answers.Done) ∷
    (calls.Do (events.Scan 0 0), said.Done (answers.Looked scanned.Hinted)) ∷
    (calls.Do (events.Write 0 0 0 (42 ∷ [])), said.Done answers.Done) ∷
    (calls.Do (events.Write 0 1 0 second_content), said.Done answers.Done) ∷
    (calls.Do (events.Scan 0 1), said.Done (answers.Looked scanned.Stale)) ∷
    (calls.OfPage 0 0, said.Page (states.Private 1)) ∷
    (calls.OfPage 0 1, said.Page (states.Hinted 2)) ∷
    (calls.Do (events.Write 0 2 0 first_content), said.Done answers.Done) ∷
    (calls.Do (events.Scan 0 2), said.Done (answers.Looked scanned.Clash)) ∷
    (calls.Do (events.Scan 0 0), said.Done (answers.Looked scanned.Hinted)) ∷
    (calls.OfPage 0 0, said.Page (states.Hinted 1)) ∷
    (calls.OfPage 0 1, said.Page (states.Hinted 2)) ∷
    (calls.Do (events.Write 0 0 0 (0 ∷ [])), said.Done answers.Done) ∷
    (calls.OfPage 0 0, said.Page (states.Hinted 1)) ∷
    (calls.Do (events.Scan 0 0), said.Done (answers.Looked scanned.Clash)) ∷
    (calls.OfPage 0 0, said.Page (states.Hinted 1)) ∷
    (calls.OfPage 0 1, said.Page (states.Hinted 2)) ∷ [])
unfolding told_of
short_stale = refl

-- A page whose content became one of the same upper bits keeps its hint, which is not stale: it clashes with the content that it was made of, and is shared with the one that it has.
pub short_rewritten : AreTold (site 20 16 8 75 6 4 2 1 16777216) (
    (calls.Do (events.Admit 0 (spec 2 6 1 1000 0)), said.Done (answers.Admitted (reserved 3 20 4 8))) ∷
    (calls.Do (events.Start 0), said.Done (answers.Started true 0 1 1)) ∷
    (calls.Do (events.Write 0 0 0 first_content), said.Done answers.Done) ∷
    (calls.Do (events.Scan 0 0), said.Done (answers.Looked scanned.Hinted)) ∷
    (calls.Do (events.Write 0 0 0 second_content), said.Done answers.Done) ∷
    (calls.OfPage 0 0, said.Page (states.Hinted 1)) ∷
    (calls.Do (events.Scan 0 0), said.Done (answers.Looked scanned.Hinted)) ∷
    (calls.Do (events.Write 0 0 0 first_content), said.Done answers.Done) ∷
    (calls.Do (events.Write 0 0 0 second_content), said.Done answers.Done) ∷
    (calls.Do (events.Write 0 1 0 first_content), said.Done answers.Done) ∷
    (calls.Do (events.Scan 0 1), said.Done (answers.Looked scanned.Clash)) ∷
    (calls.OfPage 0 0, said.Page (states.Hinted 1)) ∷
    (calls.OfPage 0 1, said.Page (states.Private 2)) ∷
    (calls.Do (events.Write 0 2 0 second_content), said.Done answers.Done) ∷
    (calls.Do (events.Scan 0 2), said.Done (answers.Looked (scanned.Shared 1 2))) ∷
    (calls.Do (events.Scan 0 1), said.Done (answers.Looked scanned.Hinted)) ∷
    (calls.Do (events.Write 0 3 0 first_content), said.Done answers.Done) ∷
    (calls.Do (events.Scan 0 3), said.Done (answers.Looked (scanned.Shared 2 2))) ∷
    (calls.Do (events.Scan 0 2), said.Done (answers.Looked scanned.Already)) ∷
    (calls.Sum, said.Sum (sum 1 0 2 17 levels.High)) ∷ [])
unfolding told_of
short_rewritten = refl

-- A page that clashes is paged out.
pub short_goes_out : AreTold (site 8 16 8 75 6 4 2 1 16777216) (
    (calls.Do (events.Admit 0 (spec 1 6 1 1000 0)), said.Done (answers.Admitted (reserved 2 8 5 8))) ∷
    (calls.Do (events.Admit 1 (spec 1 4 1 1000 0)), said.Done (answers.Admitted (reserved 4 8 8 8))) ∷
    (calls.Do (events.Start 0), said.Done (answers.Started true 0 1 1)) ∷
    (calls.Do (events.Start 1), said.Done (answers.Started true 1 1 1)) ∷
    (calls.Do (events.Write 0 0 0 first_content), said.Done answers.Done) ∷
    (calls.Do (events.Write 1 0 0 second_content), said.Done answers.Done) ∷
    (calls.Do (events.Scan 1 0), said.Done (answers.Looked scanned.Hinted)) ∷
    (calls.Do (events.Read 0 1 0 1), said.Done (answers.Bytes (0 ∷ []))) ∷
    (calls.Do (events.Read 0 2 0 1), said.Done (answers.Bytes (0 ∷ []))) ∷
    (calls.Do events.Rebalance, said.Done (answers.Rebalanced 3 2)) ∷
    (calls.Do (events.SwapOut 0 0), said.Done (answers.PagedOut 0 0)) ∷
    (calls.OfPage 1 0, said.Page (states.Hinted 3)) ∷
    (calls.Sum, said.Sum (sum 2 3 0 3 levels.Soft)) ∷ [])
unfolding told_of
short_goes_out = refl
