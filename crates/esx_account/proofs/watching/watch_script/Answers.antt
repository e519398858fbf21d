use Rattle.std.proofs.Common.{List, arith, refl}
use Rattle.esx_session.specs.declared.session.Entry.{Entry}
use Rattle.esx_account.specs.Surveying.{events_to}
use Rattle.esx_account.proofs.Ways.{way_of, passed_on}
use Rattle.esx_account.proofs.watching.watch_script.Goals as goal

pub watch_way-requires-clause-way : goal.watch_way-requires-clause-way
watch_way-requires-clause-way c =
    let site = c.args.script.now.site in
    let told = c.args.path.now in
    let entries : List Entry = c.requires.path.0 in
    let es = events_to site entries told in
    let way = way_of site entries c.args.script.now.requests told c.requires.site (omega arith) c.requires.path.1 in
    (es, told.mets, passed_on site c.args.script.now.requests c.as_slice.result.now told.waypoints c.as_slice-2.result.now told.mets told.mets es c.as_slice.ensures c.as_slice-2.ensures refl way)

pub returns : goal.returns
returns c = λ entries is. (
    let site = c.args.script.now.site in
    let told = c.args.path.now in
    let es = events_to site entries told in
    let way = way_of site entries c.args.script.now.requests told c.requires.site (omega arith) is in
    c.watch_way.ensures es told.mets (passed_on site c.args.script.now.requests c.as_slice.result.now told.waypoints c.as_slice-2.result.now told.mets told.mets es c.as_slice.ensures c.as_slice-2.ensures refl way))
