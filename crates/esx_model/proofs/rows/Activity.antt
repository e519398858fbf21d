-- Worked examples, by computation: calls of a console from the opening on, each with its reply.
use Rattle.std.specs.Prelude.{[], ◌∷◌, true}
use Rattle.std.proofs.Common.{refl}
use Rattle.esx_types.specs.declared.level.Level.TheVariants as levels
use Rattle.esx_events.specs.declared.event.Event.TheVariants as events
use Rattle.esx_events.specs.declared.event.Answer.TheVariants as answers
use Rattle.esx_events.specs.declared.event.Refusal.TheVariants as refusals
use Rattle.esx_events.specs.declared.call.Call.TheVariants as calls
use Rattle.esx_events.specs.declared.call.Said.TheVariants as said
use Rattle.esx_events.specs.declared.call.PageState.TheVariants as states
use Rattle.esx_model.proofs.rows.Replies.{site, spec, reserved, sum, activity, reply, replies_of, AreAnswered}

-- Sample periods and averages.
pub periods : AreAnswered (site 20 16 8 75 6 4 2 1 16777216) (
    (calls.Do (events.Admit 0 (spec 2 6 1 1000 0)), reply 0 (said.Done (answers.Admitted (reserved 3 20 4 8)))) ∷
    (calls.Do (events.Start 0), reply 0 (said.Done (answers.Started true 0 1 1))) ∷
    (calls.Do (events.Read 0 0 0 16), reply 0 (said.Done (answers.Bytes (0 ∷ 0 ∷ 0 ∷ 0 ∷ 0 ∷ 0 ∷ 0 ∷ 0 ∷ 0 ∷ 0 ∷ 0 ∷ 0 ∷ 0 ∷ 0 ∷ 0 ∷ 0 ∷ [])))) ∷
    (calls.OfPage 0 0, reply 0 (said.Page (states.Private 1))) ∷
    (calls.Sum, reply 0 (said.Sum (sum 1 1 0 18 levels.High))) ∷
    (calls.Do (events.Sample 0 2 (0 ∷ 1 ∷ 2 ∷ 3 ∷ [])), reply 0 (said.Done (answers.Opened 2 4))) ∷
    (calls.Do (events.Read 0 0 0 1), reply 0 (said.Done (answers.Bytes (0 ∷ [])))) ∷
    (calls.OfVm 0, reply 0 (said.Activity (activity 65536 65536 65536 1 2 1 4))) ∷
    (calls.Do (events.Read 0 0 0 1), reply 0 (said.Done (answers.Bytes (0 ∷ [])))) ∷
    (calls.OfVm 0, reply 0 (said.Activity (activity 59392 40960 59392 0 0 0 0))) ∷
    (calls.Do (events.Sample 0 1 (0 ∷ 6 ∷ [])), reply 0 (said.Done (answers.Opened 1 2))) ∷
    (calls.Do (events.Read 0 0 0 1), reply 0 (said.Done (answers.Bytes (0 ∷ [])))) ∷
    (calls.OfVm 0, reply 0 (said.Activity (activity 60160 53248 60160 0 0 0 0))) ∷ [])
unfolding replies_of
periods = refl

-- Samples that are refused.
pub bad_samples : AreAnswered (site 20 16 8 75 6 4 2 1 16777216) (
    (calls.Do (events.Admit 0 (spec 2 6 1 1000 0)), reply 0 (said.Done (answers.Admitted (reserved 3 20 4 8)))) ∷
    (calls.Do (events.Start 0), reply 0 (said.Done (answers.Started true 0 1 1))) ∷
    (calls.Do (events.Read 0 0 0 16), reply 0 (said.Done (answers.Bytes (0 ∷ 0 ∷ 0 ∷ 0 ∷ 0 ∷ 0 ∷ 0 ∷ 0 ∷ 0 ∷ 0 ∷ 0 ∷ 0 ∷ 0 ∷ 0 ∷ 0 ∷ 0 ∷ [])))) ∷
    (calls.OfPage 0 0, reply 0 (said.Page (states.Private 1))) ∷
    (calls.Sum, reply 0 (said.Sum (sum 1 1 0 18 levels.High))) ∷
    (calls.Do (events.Sample 0 0 (1 ∷ [])), reply 0 (said.Refused refusals.BadWords)) ∷
    (calls.Do (events.Sample 0 2 ([])), reply 0 (said.Refused refusals.BadWords)) ∷
    (calls.Do (events.Sample 0 2 (0 ∷ [])), reply 0 (said.Done (answers.Opened 2 1))) ∷
    (calls.Do (events.Sample 0 2 (0 ∷ [])), reply 0 (said.Refused refusals.SampleOpen)) ∷ [])
unfolding replies_of
bad_samples = refl

-- Taxes and shares that are refused.
pub tax_and_shares : AreAnswered (site 20 16 8 75 6 4 2 1 16777216) (
    (calls.Do (events.Admit 0 (spec 2 6 1 1000 0)), reply 0 (said.Done (answers.Admitted (reserved 3 20 4 8)))) ∷
    (calls.Do (events.Start 0), reply 0 (said.Done (answers.Started true 0 1 1))) ∷
    (calls.Do (events.Read 0 0 0 16), reply 0 (said.Done (answers.Bytes (0 ∷ 0 ∷ 0 ∷ 0 ∷ 0 ∷ 0 ∷ 0 ∷ 0 ∷ 0 ∷ 0 ∷ 0 ∷ 0 ∷ 0 ∷ 0 ∷ 0 ∷ 0 ∷ [])))) ∷
    (calls.OfPage 0 0, reply 0 (said.Page (states.Private 1))) ∷
    (calls.Sum, reply 0 (said.Sum (sum 1 1 0 18 levels.High))) ∷
    (calls.Do (events.SetTax 100), reply 0 (said.Refused refusals.BadSpec)) ∷
    (calls.Do (events.SetShares 0 0), reply 0 (said.Refused refusals.BadSpec)) ∷
    (calls.Do (events.SetShares 9 1), reply 0 (said.Refused refusals.NoVm)) ∷ [])
unfolding replies_of
tax_and_shares = refl
