-- What a survey is of, and how it goes on.
use Rattle.std.specs.Prelude.{◌≢◌, ◌<◌, ◌≤◌, List, [], ◌∷◌, ◌++◌, length, Result, Ok, Err}
use Rattle.esx_types.specs.declared.config.Config.{Config}
use Rattle.esx_types.specs.declared.config.TheConstants.{MAX_NODES}
use Rattle.esx_events.specs.declared.event.Answer.{Answer}
use Rattle.esx_events.specs.declared.event.Event.{Event}
use Rattle.esx_events.specs.declared.event.Refusal.{Refusal}
use Rattle.esx_events.specs.declared.event.Refusal.TheVariants.{OutOfMemory}
use Rattle.esx_story.specs.Moments.{moments}
use Rattle.esx_story.specs.Waits.{Met}
use Rattle.esx_walk.specs.Walks.{Walked, IsWalk, IsAnswered, IsRefused}
use Rattle.esx_sums.specs.Accounts.{IsSums}
use Rattle.esx_sums.specs.Sums.{Sums}

-- a walk, and sums
pub record Surveyed : Type 0 where
  pub walk : Walked
  pub sums : Sums

-- The survey is of this path of a site, on which these calls were refused: its walk went the path, and its sums are of it.
pub record IsSurvey (c : Config) (es : List Event) (mets : List Met) (s : Surveyed) : Type 0 where
  pub walk : IsWalk c es mets s.walk
  pub sums : IsSums c (moments c es) mets s.sums

-- It is of some path, which may have one more event.
pub record MaySurvey (s : Surveyed) : Type 0 where
  pub config : Config
  pub events : List Event
  pub mets : List Met
  pub survey : IsSurvey config events mets s
  pub short : length events < MAX_NODES

-- It is of some path, on which one more call may be refused.
pub record MayRefuse (s : Surveyed) : Type 0 where
  pub config : Config
  pub events : List Event
  pub mets : List Met
  pub survey : IsSurvey config events mets s
  pub few : length mets < 4294967295

-- It is of some path, which has no more events than a journal may have nodes.
pub record IsAlong (s : Surveyed) : Type 0 where
  pub config : Config
  pub events : List Event
  pub mets : List Met
  pub survey : IsSurvey config events mets s
  pub short : length events ≤ MAX_NODES

-- What a survey gives that is to make one more event, and where it is then.
abbrev pub SurveyedOn : Config → List Event → List Met → Event → Result Answer Refusal → Surveyed → Type 0
SurveyedOn c es mets e (Ok answer) s = IsSurvey c (es ++ e ∷ []) mets s × IsAnswered c es e answer
SurveyedOn c es mets e (Err refusal) s = IsSurvey c es mets s × (refusal ≢ OutOfMemory → IsRefused c es e refusal)
