use Rattle.std.proofs.Common.{List, [], ◌∷◌, ◌++◌, length, refl, sym, subst}
use Rattle.esx_types.specs.declared.config.Config.{Config}
use Rattle.esx_events.specs.declared.event.Event.{Event}
use Rattle.esx_story.specs.Moments.{moments}
use Rattle.esx_story.specs.Waits.{Met}
use Rattle.esx_walk.specs.Kept.{account_of}
use Rattle.esx_walk.specs.Walks.{Walked, IsWalk}
use Rattle.esx_walk.proofs.Walking.{moments_long, walk_refused}
use Rattle.esx_walk.proofs.walk.Walk.refuse.Goals as goal

pub returns : goal.returns
returns c =
    let w : Walked = record { machine = c.self.inside.machine; account = account_of c.self.inside.account } in
    let v : Walked = record { machine = c.self.inside.machine; account = account_of c.refuse.new.self } in
    let P : Walked → Type 0 = λ x. (site : Config) (es : List Event) (mets : List Met) → IsWalk site es mets x
    → IsWalk site es (mets ++ record { at = length es; access = c.args.access; refusal = c.args.refusal } ∷ []) v in
    subst P c.self.view_is (λ site es mets walk. (let m : Met = record { at = length es; access = c.args.access; refusal = c.args.refusal } in
    walk_refused site es mets m w v walk refl (c.refuse.ensures site (moments site es) mets m walk.scene.site walk.account (sym (moments_long site es mets w walk), refl, refl))))
