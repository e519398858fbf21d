use Rattle.std.proofs.Common.{◌≡◌, List, subst, ◌∙◌}
use Rattle.esx_types.specs.declared.config.Config.{Config}
use Rattle.esx_events.specs.declared.event.Event.{Event}
use Rattle.esx_story.specs.Moments.{moments}
use Rattle.esx_figures.specs.Steps.{steps}
use Rattle.esx_watch.specs.Watches.{Watched, IsWatch}
use Rattle.esx_watch.proofs.watch.Watch.steps.Goals as goal

pub returns : goal.returns
returns c =
    let P : Watched → Type 0 = λ w. (site : Config) (es : List Event) → IsWatch site es w → c.steps.result.now ≡ steps site (moments site es) in
    subst P c.self.view_is (λ site es watch. c.steps.ensures ∙ watch.log.steps)
