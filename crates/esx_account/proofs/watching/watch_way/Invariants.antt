use Rattle.std.proofs.Common.{List, take}
use Rattle.esx_events.specs.declared.event.Event.{Event}
use Rattle.esx_paths.specs.declared.mets.Met.{Met}
use Rattle.esx_watch.specs.Watches.{IsWatch}
use Rattle.esx_account.specs.Surveying.{IsWay}
use Rattle.esx_account.proofs.watching.watch_way.Given as goal

abbrev pub invariant-loop-at : goal.invariant-loop-at
invariant-loop-at l = (es : List Event) (mets : List Met) → IsWay l.fn.site l.requests l.waypoints mets es → IsWatch l.fn.site (take l._at es) l.watch
