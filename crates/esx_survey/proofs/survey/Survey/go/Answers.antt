use Rattle.std.proofs.Common.{List, refl, sym, subst}
use Rattle.esx_types.specs.declared.config.Config.{Config}
use Rattle.esx_events.specs.declared.event.Event.{Event}
use Rattle.esx_story.specs.Waits.{Met}
use Rattle.esx_sums.specs.Sums.{Sums}
use Rattle.esx_survey.specs.Counting.{surveyed}
use Rattle.esx_survey.specs.Surveys.{Surveyed, IsSurvey, MaySurvey, SurveyedOn}
use Rattle.esx_survey.proofs.survey.Survey.go.Goals as goal

pub make-requires-clause-short : goal.make-requires-clause-short
make-requires-clause-short c =
    let P : Sums → Type 0 = λ x. MaySurvey (record { walk = c.self.inside.walk; sums = x }) in
    subst P (sym c.take_room.ensures.same) (subst MaySurvey (sym c.self.view_is) c.requires.short)

pub returns-in-Ok : goal.returns-in-Ok
returns-in-Ok c =
    let P : Surveyed → Type 0 = λ x. (site : Config) (es : List Event) (mets : List Met) → IsSurvey site es mets x → SurveyedOn site es mets c.args.event.now c.make.result (surveyed c.make.new.walk c.make.new.sums) in
    let Q : Sums → Type 0 = λ x. P (record { walk = c.self.inside.walk; sums = x }) in
    subst P c.self.view_is (subst Q c.take_room.ensures.same c.make.ensures)

pub returns-in-Err : goal.returns-in-Err
returns-in-Err c =
    let P : Surveyed → Type 0 = λ x. (site : Config) (es : List Event) (mets : List Met) → IsSurvey site es mets x → IsSurvey site es mets (surveyed c.self.inside.walk c.take_room.new.self) in
    let Q : Sums → Type 0 = λ x. P (record { walk = c.self.inside.walk; sums = x }) in
    let stays = subst P c.self.view_is (subst Q c.take_room.ensures.same (λ site es mets survey. survey)) in
    λ site es mets survey. (stays site es mets survey, λ no. absurd (no refl))
