use Rattle.std.proofs.Common.{List}
use Rattle.esx_session.specs.declared.session.Entry.{Entry}
use Rattle.esx_account.specs.Surveying.{events_to}
use Rattle.esx_account.proofs.Ways.{path_events, events_passed_on}
use Rattle.esx_account.proofs.pages.most_pages.Goals as goal

pub most_asked-requires : goal.most_asked-requires
most_asked-requires c =
    let script = c.args.script.now in
    let told = c.args.path.now in
    let entries : List Entry = c.requires.0 in (
      events_to script.site entries told,
      events_passed_on script.requests c.as_slice.result.now told.waypoints c.as_slice-2.result.now (events_to script.site entries told)
          c.as_slice.ensures c.as_slice-2.ensures (path_events script.site entries script.requests told c.requires.1),
    )

pub returns : goal.returns
returns c = λ entries is. (
    let script = c.args.script.now in
    let told = c.args.path.now in
    c.most_asked.ensures (events_to script.site entries told) (events_passed_on script.requests c.as_slice.result.now told.waypoints c.as_slice-2.result.now (events_to script.site entries told)
    c.as_slice.ensures c.as_slice-2.ensures (path_events script.site entries script.requests told is)))
