use Rattle.std.proofs.Common.{List, sym, subst, ◌∙◌}
use Rattle.esx_types.specs.declared.config.Config.{Config}
use Rattle.esx_events.specs.declared.event.Event.{Event}
use Rattle.esx_story.specs.declared.story.Loss.{Loss}
use Rattle.esx_story.specs.Moments.{moments}
use Rattle.esx_story.specs.Waits.{Met}
use Rattle.esx_walk.specs.Complete.{AreAllLosses, AreRising, AreGood}
use Rattle.esx_walk.specs.Walks.{Walked, IsWalk}
use Rattle.esx_walk.proofs.Complete.{all_told, rising_losses}
use Rattle.esx_walk.proofs.Good.{good_losses}
use Rattle.esx_walk.proofs.walk.Walk.losses.Goals as goal

pub returns-clause-all : goal.returns-clause-all
returns-clause-all c =
    let P : Walked → Type 0 = λ w. (site : Config) (es : List Event) (mets : List Met) → IsWalk site es mets w → AreAllLosses (moments site es) c.losses.result.now in
    subst P c.self.view_is (λ site es mets walk. (let Q : List Loss → Type 0 = AreAllLosses (moments site es) in
    subst Q (sym (c.losses.ensures ∙ walk.account.losses)) (all_told site es mets walk.scene walk.good walk.runs)))

pub returns-clause-rising : goal.returns-clause-rising
returns-clause-rising c =
    let P : Walked → Type 0 = λ w. (site : Config) (es : List Event) (mets : List Met) → IsWalk site es mets w → AreRising c.losses.result.now in
    subst P c.self.view_is (λ site es mets walk. subst AreRising (sym (c.losses.ensures ∙ walk.account.losses)) (rising_losses site es mets walk.scene walk.good walk.runs))

pub returns-clause-good : goal.returns-clause-good
returns-clause-good c =
    let P : Walked → Type 0 = λ w. (site : Config) (es : List Event) (mets : List Met) → IsWalk site es mets w → AreGood c.losses.result.now in
    subst P c.self.view_is (λ site es mets walk. subst AreGood (sym (c.losses.ensures ∙ walk.account.losses)) (good_losses site es mets walk.scene walk.good walk.runs))
