use Rattle.std.proofs.Common.{List, IfOk, refl, subst, arith}
use Rattle.esx_events.specs.declared.event.Event.{Event}
use Rattle.esx_model.specs.Tree.{path}
use Rattle.esx_model.specs.Console.{history}
use Rattle.esx_session.specs.declared.session.Entry.{Entry}
use Rattle.esx_story.specs.Moments.{moments}
use Rattle.esx_check.specs.Again.{made}
use Rattle.esx_passages.specs.Passages.{passings}
use Rattle.esx_paths.specs.declared.way.Waypoint.{Waypoint}
use Rattle.esx_account.specs.Coursing.{AreChangesOf}
use Rattle.esx_account.proofs.Ways.{way_of, passed_on}
use Rattle.esx_account.proofs.coursing.course_script.Goals as goal

pub course_way-requires-clause-way : goal.course_way-requires-clause-way
course_way-requires-clause-way c =
    let site = c.args.script.now.site in
    let told = c.args.path.now in
    let entries : List Entry = c.requires.path.0 in
    let es : List Event = path (history (made site entries)).nodes told.node in
    let way = way_of site entries c.args.script.now.requests told c.requires.site (omega arith) c.requires.path.1 in
    (told.mets, es, passed_on site c.args.script.now.requests c.as_slice.result.now told.waypoints c.as_slice-2.result.now told.mets told.mets es c.as_slice.ensures c.as_slice-2.ensures refl way)

pub returns : goal.returns
returns c = λ entries is. (
    let site = c.args.script.now.site in
    let told = c.args.path.now in
    let es : List Event = path (history (made site entries)).nodes told.node in
    let way = way_of site entries c.args.script.now.requests told c.requires.site (omega arith) is in
    let here = passed_on site c.args.script.now.requests c.as_slice.result.now told.waypoints c.as_slice-2.result.now told.mets told.mets es c.as_slice.ensures c.as_slice-2.ensures refl way in
    let P : List Waypoint → Type 0 = λ ws. IfOk c.course_way.result (λ lines. AreChangesOf ws (passings (moments site es)) lines.items) in
    subst P c.as_slice-2.ensures (c.course_way.ensures told.mets es here))
