-- An event that was made and is to be counted.
use Rattle.std.specs.Prelude.{◌≡◌, List, Ok}
use Rattle.esx_types.specs.declared.config.Config.{Config}
use Rattle.esx_events.specs.declared.event.Answer.{Answer}
use Rattle.esx_events.specs.declared.event.Event.{Event}
use Rattle.esx_model.specs.declared.scene.Scene.{Scene}
use Rattle.esx_model.specs.Replay.{next, run}
use Rattle.esx_model.specs.Show.{shown}
use Rattle.esx_model.specs.event.Paging.{compared}
use Rattle.esx_model.specs.event.Sharing.{found_by}
use Rattle.esx_model.specs.sound.Sound.{IsSound}
use Rattle.esx_story.specs.Readings.{named_page, said_before}
use Rattle.esx_walk.specs.Walks.{Walked}
use Rattle.esx_sums.specs.declared.sums.Sums.{Sums}
use Rattle.esx_sums.specs.Kept.{sums_of}
use Rattle.esx_survey.specs.declared.before.Before.{Before}
use Rattle.esx_survey.specs.Surveys.{Surveyed}

abbrev pub surveyed : Walked → Sums → Surveyed
surveyed walk sums = record { walk = walk; sums = sums_of sums }

-- The event was accepted where the path leads, in scene t, with this answer, and led to scene u; and this was read before it.
pub record IsMade (c : Config) (es : List Event) (t u : Scene) (e : Event) (answer : Answer) (before : Before) : Type 0 where
  pub runs : run c es ≡ Ok t
  pub sound : IsSound c t.site
  pub goes : next c t e ≡ Ok (answer, u)
  pub page : before.page ≡ said_before (shown c t) (named_page e)
  pub equal : before.equal ≡ found_by t.site (compared t.site e)
