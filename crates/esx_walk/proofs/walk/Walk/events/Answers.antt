use Rattle.std.proofs.Common.{◌≡◌, List, length, subst, ◌∙◌}
use Rattle.esx_types.specs.declared.config.Config.{Config}
use Rattle.esx_events.specs.declared.event.Event.{Event}
use Rattle.esx_story.specs.Waits.{Met}
use Rattle.esx_walk.specs.Kept.{account_of}
use Rattle.esx_walk.specs.Walks.{Walked, IsWalk}
use Rattle.esx_walk.proofs.Walking.{moments_long}
use Rattle.esx_walk.proofs.walk.Walk.events.Goals as goal

pub returns : goal.returns
returns c =
    let w : Walked = record { machine = c.self.inside.machine; account = account_of c.self.inside.account } in
    let P : Walked → Type 0 = λ x. (site : Config) (es : List Event) (mets : List Met) → IsWalk site es mets x → c.events.result ≡ length es in
    subst P c.self.view_is (λ site es mets walk. c.events.ensures ∙ walk.account.events ∙ moments_long site es mets w walk)
