use Rattle.std.proofs.Common.{◌≡◌, ◌∙◌, ℕ, ◌+◌, ◌++◌, ◌∷◌, List, [], length, map, take, get_or, sym, ap, subst, arith}
use Rattle.std.proofs.lemmas.List.{take_all, length-take-le}
use Rattle.std.proofs.lemmas.Option.{slice_get_within}
use Rattle.esx_events.specs.declared.event.Event.{Event}
use Rattle.esx_session.specs.declared.session.Request.{Request}
use Rattle.esx_story.specs.Moments.{moments}
use Rattle.esx_passages.specs.Passages.{in_order, passings}
use Rattle.esx_course.specs.Courses.{IsCourse}
use Rattle.esx_paths.specs.declared.way.Waypoint.{Waypoint}
use Rattle.esx_paths.specs.declared.mets.Met.{Met}
use Rattle.esx_report.specs.declared.changes.ChangeLine.{ChangeLine}
use Rattle.esx_account.specs.Coursing.{change_line, AreChangesOf}
use Rattle.esx_account.proofs.Asked.{event_is_asked, event_is}
use Rattle.esx_account.proofs.Coursed.{told_more, none_told}
use Rattle.esx_account.proofs.Front.{front_leads, one_more}
use Rattle.esx_account.proofs.Ways.{way_long}
use Rattle.esx_account.proofs.coursing.course_way.Goals as goal

-- stands for a waypoint where there is none
abbrev none : Waypoint
none = record { node = 0; call = 0; caller = 0 }

pub event_asked-event-requires : goal.event_asked-event-requires
event_asked-event-requires c = event_is_asked c.args.requests.now c.args.waypoints.now c.requires.way.1 c.loop-at.at none c.requires.way.2.events c.loop-at-test.true

pub go_on-requires : goal.go_on-requires
go_on-requires c =
    let requests : List Request = c.args.requests.now in
    let waypoints : List Waypoint = c.args.waypoints.now in
    let es : List Event = c.requires.way.1 in
    let way = c.requires.way.2 in
    let at = c.loop-at.at in
    let e : Event = c.event_asked-event.result.now in
    let there = event_is requests waypoints es at none e way.events c.loop-at-test.true c.event_asked-event.ensures in
    let leads = front_leads c.args.site es at e way.scene there way.runs in
    let within = slice_get_within es at e there in
    let front = length-take-le at es (omega arith) in
    let most = way.short in
    record {
      site = c.args.site;
      events = take at es;
      course = c.loop-at.invariant.course c.requires.way.0 es way;
      short = omega arith;
      scene = leads.scene;
      runs = leads.runs;
    }

pub overflow_cast-at : goal.overflow_cast-at
overflow_cast-at c =
    let way = c.requires.way.2 in
    let many = way_long c.args.site c.args.requests.now c.args.waypoints.now c.requires.way.0 c.requires.way.1 way in
    let most = way.short in
    let below = c.loop-at-test.true in
    omega (arith, many, most, below)

pub overflow_add-at : goal.overflow_add-at
overflow_add-at c =
    let way = c.requires.way.2 in
    let many = way_long c.args.site c.args.requests.now c.args.waypoints.now c.requires.way.0 c.requires.way.1 way in
    let most = way.short in
    let below = c.loop-at-test.true in
    omega (arith, many, most, below)

pub loop-at-init : goal.loop-at-init
loop-at-init c = record {
  course = λ mets es way. c.in_ok-course.ensures;
  lines = λ mets es way. (let P : List ChangeLine → Type 0 = AreChangesOf c.args.waypoints.now (passings (moments c.args.site [])) in
      subst P (sym c.new-lines.ensures.items) (none_told c.args.site c.args.waypoints.now));
}

pub loop-at-preserved : goal.loop-at-preserved
loop-at-preserved c =
    let requests : List Request = c.args.requests.now in
    let waypoints : List Waypoint = c.args.waypoints.now in
    let site = c.args.site in
    let at = c.loop-at.at in
    let e : Event = c.event_asked-event.result.now in
    record {
      course = λ mets es way. (
          let there = event_is requests waypoints es at none e way.events c.loop-at-test.true c.event_asked-event.ensures in
          let P : List Event → Type 0 = λ xs. IsCourse site xs c.go_on.new.course in
          subst P (one_more es at e there) (c.in_ok-go_on.ensures site (take at es) (c.loop-at.invariant.course mets es way)).0);
      lines = λ mets es way. (
          let there = event_is requests waypoints es at none e way.events c.loop-at-test.true c.event_asked-event.ensures in
          let within = slice_get_within es at e there in
          let many = way_long site requests waypoints mets es way in
          let front : length (take at es) ≡ at = length-take-le at es (omega arith) in
          let moved = (c.in_ok-go_on.ensures site (take at es) (c.loop-at.invariant.course mets es way)).1 in
          let old : List ChangeLine = c.loop-at.lines.items in
          let new : List ChangeLine = c.go_on.new.lines.items in
          let at_front : new ≡ old ++ map (change_line (length (take at es) + 1) (get_or waypoints (length (take at es)) none)) (in_order moved.0) =
          moved.2 ∙ ap (λ k. old ++ map (change_line (k + 1) (get_or waypoints k none)) (in_order moved.0)) (sym front) in
          let P : List Event → Type 0 = λ xs. AreChangesOf waypoints (passings (moments site xs)) new in
          let told = told_more site (take at es) e moved.1.0 moved.0 waypoints none old new moved.1.1 (c.loop-at.invariant.lines mets es way) (omega (arith, within, many, front)) at_front in
          subst P (one_more es at e there) told);
    }

pub returns : goal.returns
returns c = λ mets es way. (
    let site = c.args.site in
    let many = way_long site c.args.requests.now c.args.waypoints.now mets es way in
    let P : List Event → Type 0 = λ xs. AreChangesOf c.args.waypoints.now (passings (moments site xs)) c.loop-at.lines.items in
    subst P (take_all c.loop-at.at es (omega arith)) (c.loop-at.invariant.lines mets es way))
