-- The greatest memory so far, and with one more event.
use Rattle.std.proofs.Common.{◌≡◌, ℕ, ◌+◌, ◌<◌, List, [], ◌∷◌, ◌++◌, length, take, get_or, max, refl, sym, ◌∙◌, ap, arith, Option, Some, None}
use Rattle.esx_events.specs.declared.event.Event.{Event}
use Rattle.esx_session.specs.declared.session.Request.{Request}
use Rattle.esx_paths.specs.declared.way.Waypoint.{Waypoint}
use Rattle.esx_account.specs.Asking.{event_asked}
use Rattle.esx_account.specs.Pages.{admitted_with, greater, most_pages}
use Rattle.esx_account.specs.Surveying.{AreEvents}
use Rattle.esx_account.proofs.Asked.{event_is}
use Rattle.esx_account.proofs.Front.{one_more}

greater_none : (o : Option ℕ) → greater o None ≡ o
greater_none None = refl
greater_none (Some most) = refl

greater_grouped : (o p q : Option ℕ) → greater (greater o p) q ≡ greater o (greater p q)
greater_grouped None p q = refl
greater_grouped (Some most) None q = refl
greater_grouped (Some most) (Some next) None = refl
greater_grouped (Some most) (Some next) (Some last) = (let same : max (max most next) last ≡ max most (max next last) = omega arith in ap (λ n. Some n) same)

most_more : (n : ℕ) (es : List Event) (e : Event) → most_pages n (es ++ e ∷ []) ≡ greater (most_pages n es) (admitted_with n e)
most_more n [] e = greater_none (admitted_with n e)
most_more n (x ∷ es) e = ap (greater (admitted_with n x)) (most_more n es e) ∙ sym (greater_grouped (admitted_with n x) (most_pages n es) (admitted_with n e))

-- one more event of a path was looked at
pub one_more_asked : (requests : List Request) (waypoints : List Waypoint) (es : List Event) (at : ℕ) (d : Waypoint) (e : Event) (n : ℕ) → AreEvents requests waypoints es → at < length waypoints
    → event_asked requests (get_or waypoints at d).call ≡ Some e → greater (most_pages n (take at es)) (admitted_with n e) ≡ most_pages n (take (at + 1) es)
one_more_asked requests waypoints es at d e n events below asked =
    sym (most_more n (take at es) e) ∙ ap (most_pages n) (one_more es at e (event_is requests waypoints es at d e events below asked))
