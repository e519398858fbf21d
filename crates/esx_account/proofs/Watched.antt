-- A watch goes on along a way.
use Rattle.std.proofs.Common.{◌≡◌, ℕ, ◌+◌, ◌<◌, List, [], ◌∷◌, ◌++◌, length, take, get_or, subst, Some}
use Rattle.esx_types.specs.declared.config.Config.{Config}
use Rattle.esx_events.specs.declared.event.Event.{Event}
use Rattle.esx_session.specs.declared.session.Request.{Request}
use Rattle.esx_paths.specs.declared.way.Waypoint.{Waypoint}
use Rattle.esx_paths.specs.declared.mets.Met.{Met}
use Rattle.esx_watch.specs.Watches.{Watched, IsWatch}
use Rattle.esx_account.specs.Asking.{event_asked}
use Rattle.esx_account.specs.Surveying.{IsWay}
use Rattle.esx_account.proofs.Asked.{event_is}
use Rattle.esx_account.proofs.Front.{one_more}

-- one more event of a way was watched
pub watched_more : (site : Config) (requests : List Request) (waypoints : List Waypoint) (mets : List Met) (es : List Event) (at : ℕ) (d : Waypoint) (e : Event) (w : Watched)
    → IsWay site requests waypoints mets es → at < length waypoints → event_asked requests (get_or waypoints at d).call ≡ Some e → IsWatch site (take at es ++ e ∷ []) w → IsWatch site (take (at + 1) es) w
watched_more site requests waypoints mets es at d e w way below asked watch =
    let P : List Event → Type 0 = λ xs. IsWatch site xs w in
    subst P (one_more es at e (event_is requests waypoints es at d e way.events below asked)) watch
