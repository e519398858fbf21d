use Rattle.std.proofs.Common.{◌≡◌, List, take}
use Rattle.esx_events.specs.declared.event.Event.{Event}
use Rattle.esx_account.specs.Pages.{most_pages}
use Rattle.esx_account.specs.Surveying.{AreEvents}
use Rattle.esx_account.proofs.pages.most_asked.Given as goal

abbrev pub invariant-loop-at : goal.invariant-loop-at
invariant-loop-at l = (es : List Event) → AreEvents l.requests l.waypoints es → l.most ≡ most_pages l.vm (take l._at es)
