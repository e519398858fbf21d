use Rattle.std.proofs.Common.{List, length, map, take, drop}
use Rattle.esx_types.specs.declared.config.Config.{Config}
use Rattle.esx_events.specs.declared.event.Event.{Event}
use Rattle.esx_survey.specs.Surveys.{IsSurvey}
use Rattle.esx_account.specs.Surveying.{met_of, NeverFall}
use Rattle.esx_account.proofs.surveying.refuse_here.Given as goal

abbrev pub invariant-loop-next : goal.invariant-loop-next
invariant-loop-next l = record {
  told : (site : Config) (es : List Event) → IsSurvey site es (map met_of (take l.first l.mets)) l.fn.survey → IsSurvey site es (map met_of (take l.next l.mets)) l.survey;
  later : (site : Config) (es : List Event) → IsSurvey site es (map met_of (take l.first l.mets)) l.fn.survey → NeverFall (length es) (drop l.first l.mets) → NeverFall (length es) (drop l.next l.mets);
}
