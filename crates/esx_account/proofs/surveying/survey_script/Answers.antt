use Rattle.std.proofs.Common.{List, map, subst, arith, IfOk}
use Rattle.esx_events.specs.declared.event.Event.{Event}
use Rattle.esx_model.specs.Tree.{path}
use Rattle.esx_model.specs.Console.{history}
use Rattle.esx_session.specs.declared.session.Entry.{Entry}
use Rattle.esx_check.specs.Again.{made}
use Rattle.esx_survey.specs.Surveys.{IsSurvey}
use Rattle.esx_paths.specs.declared.mets.Met.{Met}
use Rattle.esx_account.specs.Surveying.{met_of}
use Rattle.esx_account.proofs.Ways.{way_of, passed_on, along_long, goes_along}
use Rattle.esx_account.proofs.surveying.survey_script.Goals as goal

pub survey_way-requires-clause-way : goal.survey_way-requires-clause-way
survey_way-requires-clause-way c =
    let site = c.args.script.now.site in
    let told = c.args.path.now in
    let entries : List Entry = c.requires.path.0 in
    let es : List Event = path (history (made site entries)).nodes told.node in
    let way = way_of site entries c.args.script.now.requests told c.requires.site (omega arith) c.requires.path.1 in
    (es, passed_on site c.args.script.now.requests c.as_slice.result.now told.waypoints c.as_slice-2.result.now told.mets c.as_slice-3.result.now es c.as_slice.ensures c.as_slice-2.ensures c.as_slice-3.ensures way)

pub returns-clause-surveys : goal.returns-clause-surveys
returns-clause-surveys c = λ entries is. (
    let site = c.args.script.now.site in
    let told = c.args.path.now in
    let es : List Event = path (history (made site entries)).nodes told.node in
    let way = way_of site entries c.args.script.now.requests told c.requires.site (omega arith) is in
    let here = passed_on site c.args.script.now.requests c.as_slice.result.now told.waypoints c.as_slice-2.result.now told.mets c.as_slice-3.result.now es c.as_slice.ensures c.as_slice-2.ensures c.as_slice-3.ensures way in
    let P : List Met → Type 0 = λ ms. IfOk c.survey_way.result (λ w. IsSurvey site es (map met_of ms) w) in
    subst P c.as_slice-3.ensures (c.survey_way.ensures es here))

pub returns-clause-along : goal.returns-clause-along
returns-clause-along c =
    let site = c.args.script.now.site in
    let told = c.args.path.now in
    let entries : List Entry = c.requires.path.0 in
    let es : List Event = path (history (made site entries)).nodes told.node in
    let way = way_of site entries c.args.script.now.requests told c.requires.site (omega arith) c.requires.path.1 in
    let here = passed_on site c.args.script.now.requests c.as_slice.result.now told.waypoints c.as_slice-2.result.now told.mets c.as_slice-3.result.now es c.as_slice.ensures c.as_slice-2.ensures c.as_slice-3.ensures way in
    goes_along site es (map met_of c.as_slice-3.result.now) told.waypoints c.survey_way.result (along_long site entries c.args.script.now.requests told c.requires.path.1) (c.survey_way.ensures es here)
