use Rattle.std.proofs.Common.{◌≡◌, List, sym, subst, ap, ◌∙◌}
use Rattle.esx_types.specs.declared.config.Config.{Config}
use Rattle.esx_events.specs.declared.event.Event.{Event}
use Rattle.esx_model.specs.declared.scene.Scene.{Scene}
use Rattle.esx_machine.specs.Machine.{Kept, Shows}
use Rattle.esx_story.specs.declared.story.Loss.{Loss}
use Rattle.esx_story.specs.Moments.{moments}
use Rattle.esx_story.specs.Story.{told}
use Rattle.esx_story.specs.Waits.{Met}
use Rattle.esx_sums.specs.Rows.{guests}
use Rattle.esx_sums.specs.Sums.{all_present}
use Rattle.esx_survey.specs.Counting.{surveyed}
use Rattle.esx_survey.specs.Surveys.{Surveyed, IsSurvey, IsAlong}
use Rattle.esx_survey.proofs.Along.{end_is}
use Rattle.esx_survey.proofs.Surveying.{few_losses}
use Rattle.esx_survey.proofs.survey.Survey.guests.Goals as goal

pub guests-requires : goal.guests-requires
guests-requires c =
    let is = subst IsAlong (sym c.self.view_is) c.requires.along in
    record { few = few_losses (surveyed c.self.inside.walk c.self.inside.sums) c.losses.result.now is (c.losses.ensures.told is.config is.events is.mets is.survey.walk) }

pub returns : goal.returns
returns c =
    let P : Surveyed → Type 0 = λ x. (site : Config) (es : List Event) (mets : List Met) → IsSurvey site es mets x → c.in_ok-rows.rows.items ≡ guests site (moments site es) mets (told site (moments site es) mets) in
    subst P c.self.view_is (λ site es mets survey. (let walk = survey.walk in
    let Q : Kept → Type 0 = λ k. Shows k walk.scene in
    let stands = c.all_present-present.ensures walk.scene (subst Q (sym c.machine.ensures) walk.shows) ∙ ap (λ (t : Scene). all_present t.site) (sym (end_is site es walk.scene walk.runs)) in
    c.in_ok-rows.ensures site (moments site es) mets survey.sums stands ∙ ap (λ (ls : List Loss). guests site (moments site es) mets ls) (c.losses.ensures.told site es mets walk)))
