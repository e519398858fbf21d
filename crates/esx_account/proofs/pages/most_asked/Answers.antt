use Rattle.std.proofs.Common.{ℕ, List, take, ◌∙◌, ap, arith, Option}
use Rattle.std.proofs.lemmas.List.{take_all}
use Rattle.esx_events.specs.declared.event.Event.{Event}
use Rattle.esx_session.specs.declared.session.Request.{Request}
use Rattle.esx_paths.specs.declared.way.Waypoint.{Waypoint}
use Rattle.esx_account.specs.Pages.{greater, most_pages}
use Rattle.esx_account.proofs.Asked.{event_is_asked}
use Rattle.esx_account.proofs.MostPages.{one_more_asked}
use Rattle.esx_account.proofs.Ways.{events_long}
use Rattle.esx_account.proofs.pages.most_asked.Goals as goal

-- stands for a waypoint where there is none
abbrev none : Waypoint
none = record { node = 0; call = 0; caller = 0 }

pub event_asked-event-requires : goal.event_asked-event-requires
event_asked-event-requires c = event_is_asked c.args.requests.now c.args.waypoints.now c.requires.0 c.loop-at._at none c.requires.1 c.loop-at-test.true

pub loop-at-preserved : goal.loop-at-preserved
loop-at-preserved c = λ es events. (
    let requests : List Request = c.args.requests.now in
    let waypoints : List Waypoint = c.args.waypoints.now in
    let e : Event = c.event_asked-event.result.now in
    let most : Option ℕ = most_pages c.args.vm (take c.loop-at._at es) in
    c.greater-most.ensures
    ∙ ap (λ (o : Option ℕ). greater o c.admitted_with.result) (c.loop-at.invariant es events)
    ∙ ap (greater most) c.admitted_with.ensures
    ∙ one_more_asked requests waypoints es c.loop-at._at none e c.args.vm events c.loop-at-test.true c.event_asked-event.ensures)

pub returns : goal.returns
returns c = λ es events. (
    let long = events_long c.args.requests.now c.args.waypoints.now es events in
    c.loop-at.invariant es events ∙ ap (most_pages c.args.vm) (take_all c.loop-at._at es (omega arith)))
