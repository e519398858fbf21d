use Rattle.std.proofs.Common.{ℕ, Option, List, [], ◌∷◌, ◌++◌, length, refl, sym, subst}
use Rattle.esx_types.specs.declared.config.Config.{Config}
use Rattle.esx_events.specs.declared.event.Event.{Event}
use Rattle.esx_story.specs.Moments.{moments}
use Rattle.esx_story.specs.Waits.{Met}
use Rattle.esx_walk.specs.Walks.{IsWalk}
use Rattle.esx_survey.specs.Counting.{surveyed}
use Rattle.esx_survey.specs.Surveys.{Surveyed, IsSurvey, MayRefuse}
use Rattle.esx_survey.proofs.Surveying.{moments_long, patient_sums}
use Rattle.esx_survey.proofs.survey.Survey.refuse.Goals as goal

pub refuse-requires : goal.refuse-requires
refuse-requires c =
    let may = subst MayRefuse (sym c.self.view_is) c.requires.few in
    record { few = record { config = may.config; events = may.events; mets = may.mets; walk = may.survey.walk; few = may.few } }

pub refuse-requires-2 : goal.refuse-requires-2
refuse-requires-2 c = record { few = patient_sums (surveyed c.self.inside.walk c.self.inside.sums) (subst MayRefuse (sym c.self.view_is) c.requires.few) }

pub returns : goal.returns
returns c =
    let w = c.self.inside.walk in
    let P : Surveyed → Type 0 = λ x. (site : Config) (es : List Event) (mets : List Met) → IsSurvey site es mets x
    → IsSurvey site es (mets ++ record { at = length es; access = c.args.access; refusal = c.args.refusal } ∷ []) (surveyed c.refuse.new.self c.refuse-2.new.self) in
    subst P c.self.view_is (λ site es mets survey. (
    let m : Met = record { at = length es; access = c.args.access; refusal = c.args.refusal } in
    let Q : Option (ℕ × ℕ) → Type 0 = λ o. IsWalk site es (mets ++ record { at = length es; access = o; refusal = c.args.refusal } ∷ []) c.refuse.new.self in
    record {
      walk = subst Q c.copy.ensures (c.refuse.ensures site es mets survey.walk);
      sums = c.refuse-2.ensures site (moments site es) mets m survey.sums (sym (moments_long site es mets w survey.walk), refl, refl);
    }))
