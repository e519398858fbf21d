use Rattle.std.proofs.Common.{List, sym, subst}
use Rattle.esx_types.specs.declared.config.Config.{Config}
use Rattle.esx_types.specs.Ranges.{IsConfig}
use Rattle.esx_session.specs.declared.session.Entry.{Entry}
use Rattle.esx_account.specs.Surveying.{SurveysPath}
use Rattle.esx_account.proofs.Texts.{is_path, is_path_there}
use Rattle.esx_account.proofs.text.survey_text.Goals as goal

pub script_of-requires : goal.script_of-requires
script_of-requires c = (c.requires.0, c.requires.1, c.requires.2.reads)

pub survey_script-requires-clause-site : goal.survey_script-requires-clause-site
survey_script-requires-clause-site c =
    let site : Config = c.requires.0 in
    let reads = c.requires.2.reads in
    subst IsConfig (sym (c.in_ok-script.ensures.site site c.requires.1 reads)) reads.opened

pub survey_script-requires-clause-path : goal.survey_script-requires-clause-path
survey_script-requires-clause-path c =
    let site : Config = c.requires.0 in
    let entries : List Entry = c.requires.1 in
    let is = c.requires.2 in
    let ensures = c.in_ok-script.ensures in
    (entries, is_path_there c.args.text.now site c.in_ok-script.script.site entries c.in_ok-script.script.requests c.args.path.now (ensures.site site entries is.reads) (ensures.calls site entries is.reads) is)

pub returns-clause-site : goal.returns-clause-site
returns-clause-site c = λ site entries is. c.in_ok-script.ensures.site site entries is.reads

pub returns-clause-calls : goal.returns-clause-calls
returns-clause-calls c = λ site entries is. is_path c.args.text.now site entries c.in_ok-script.script.requests c.args.path.now (c.in_ok-script.ensures.calls site entries is.reads) is

pub returns-clause-surveys : goal.returns-clause-surveys
returns-clause-surveys c = λ site entries is. (
    let ensures = c.in_ok-script.ensures in
    let same = ensures.site site entries is.reads in
    let there = is_path_there c.args.text.now site c.in_ok-script.script.site entries c.in_ok-script.script.requests c.args.path.now same (ensures.calls site entries is.reads) is in
    let P : Config → Type 0 = λ s. SurveysPath s entries c.args.path.now c.in_ok-survey.survey in
    subst P same (c.in_ok-survey.ensures.surveys entries there))

pub returns-clause-along : goal.returns-clause-along
returns-clause-along c = c.in_ok-survey.ensures.along
