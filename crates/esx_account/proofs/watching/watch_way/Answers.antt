use Rattle.std.proofs.Common.{◌≡◌, ◌+◌, List, length, take, subst, arith}
use Rattle.std.proofs.lemmas.List.{take_all, length-take-le}
use Rattle.std.proofs.lemmas.Option.{slice_get_within}
use Rattle.esx_events.specs.declared.event.Event.{Event}
use Rattle.esx_session.specs.declared.session.Request.{Request}
use Rattle.esx_paths.specs.declared.way.Waypoint.{Waypoint}
use Rattle.esx_watch.specs.Watches.{IsWatch}
use Rattle.esx_account.proofs.Asked.{event_is_asked, event_is}
use Rattle.esx_account.proofs.Front.{front_leads}
use Rattle.esx_account.proofs.Watched.{watched_more}
use Rattle.esx_account.proofs.Ways.{way_long}
use Rattle.esx_account.proofs.watching.watch_way.Goals as goal

-- stands for a waypoint where there is none
abbrev none : Waypoint
none = record { node = 0; call = 0; caller = 0 }

pub event_asked-requires : goal.event_asked-requires
event_asked-requires c = event_is_asked c.args.requests.now c.args.waypoints.now c.requires.way.0 c.loop-at._at none c.requires.way.2.events c.loop-at-test.true

pub go-requires : goal.go-requires
go-requires c =
    let requests : List Request = c.args.requests.now in
    let waypoints : List Waypoint = c.args.waypoints.now in
    let es : List Event = c.requires.way.0 in
    let way = c.requires.way.2 in
    let at = c.loop-at._at in
    let e : Event = c.event_asked.result.now in
    let there = event_is requests waypoints es at none e way.events c.loop-at-test.true c.event_asked.ensures in
    let leads = front_leads c.args.site es at e way.scene there way.runs in
    let within = slice_get_within es at e there in
    let front = length-take-le at es (omega arith) in
    let most = way.short in
    record {
      config = c.args.site;
      events = take at es;
      watch = c.loop-at.invariant es c.requires.way.1 way;
      short = omega arith;
      scene = leads.scene;
      runs = leads.runs;
    }

pub loop-at-preserved : goal.loop-at-preserved
loop-at-preserved c = λ es mets way.
    watched_more c.args.site c.args.requests.now c.args.waypoints.now mets es c.loop-at._at none c.event_asked.result.now c.go.new.watch way c.loop-at-test.true c.event_asked.ensures
    (c.in_ok-go.ensures c.args.site (take c.loop-at._at es) (c.loop-at.invariant es mets way))

pub returns : goal.returns
returns c = λ es mets way. (
    let long = way_long c.args.site c.args.requests.now c.args.waypoints.now mets es way in
    let P : List Event → Type 0 = λ xs. IsWatch c.args.site xs c.loop-at.watch in
    subst P (take_all c.loop-at._at es (omega arith)) (c.loop-at.invariant es mets way))
