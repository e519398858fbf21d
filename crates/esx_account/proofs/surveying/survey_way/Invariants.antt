use Rattle.std.proofs.Common.{◌≤◌, ◌+◌, List, length, map, take, drop}
use Rattle.esx_events.specs.declared.event.Event.{Event}
use Rattle.esx_survey.specs.Surveys.{IsSurvey}
use Rattle.esx_account.specs.Surveying.{IsWay, met_of, NeverFall}
use Rattle.esx_account.proofs.surveying.survey_way.Given as goal

abbrev pub invariant-loop-at : goal.invariant-loop-at
invariant-loop-at l = record {
  survey : (es : List Event) → IsWay l.fn.site l.requests l.waypoints l.mets es → IsSurvey l.fn.site (take l._at es) (map met_of (take l.told l.mets)) l.survey;
  later : (es : List Event) → IsWay l.fn.site l.requests l.waypoints l.mets es → NeverFall (l._at + 1) (drop l.told l.mets);
  within : l.told ≤ length l.mets;
}
