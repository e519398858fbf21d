use Rattle.std.proofs.Common.{◌≡◌, List, length, subst}
use Rattle.esx_types.specs.declared.config.Config.{Config}
use Rattle.esx_events.specs.declared.event.Event.{Event}
use Rattle.esx_story.specs.Waits.{Met}
use Rattle.esx_survey.specs.Surveys.{Surveyed, IsSurvey}
use Rattle.esx_survey.proofs.survey.Survey.events.Goals as goal

pub returns : goal.returns
returns c =
    let P : Surveyed → Type 0 = λ x. (site : Config) (es : List Event) (mets : List Met) → IsSurvey site es mets x → c.events.result ≡ length es in
    subst P c.self.view_is (λ site es mets survey. c.events.ensures site es mets survey.walk)
