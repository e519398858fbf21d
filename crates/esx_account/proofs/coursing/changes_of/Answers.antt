use Rattle.std.proofs.Common.{List, IfOk, sym, subst}
use Rattle.esx_types.specs.declared.config.Config.{Config}
use Rattle.esx_types.specs.Ranges.{IsConfig}
use Rattle.esx_session.specs.declared.session.Entry.{Entry}
use Rattle.esx_account.specs.Coursing.{AreChangesTo}
use Rattle.esx_account.proofs.Texts.{is_path_there}
use Rattle.esx_account.proofs.coursing.changes_of.Goals as goal

pub script_of-requires : goal.script_of-requires
script_of-requires c = (c.requires.0, c.requires.1, c.requires.2.reads)

pub course_script-requires-clause-site : goal.course_script-requires-clause-site
course_script-requires-clause-site c =
    let site : Config = c.requires.0 in
    let reads = c.requires.2.reads in
    subst IsConfig (sym (c.in_ok-script.ensures.site site c.requires.1 reads)) reads.opened

pub course_script-requires-clause-path : goal.course_script-requires-clause-path
course_script-requires-clause-path c =
    let site : Config = c.requires.0 in
    let entries : List Entry = c.requires.1 in
    let is = c.requires.2 in
    let ensures = c.in_ok-script.ensures in
    (entries, is_path_there c.args.text.now site c.in_ok-script.script.site entries c.in_ok-script.script.requests c.args.path.now (ensures.site site entries is.reads) (ensures.calls site entries is.reads) is)

pub returns : goal.returns
returns c = λ site entries is. (
    let ensures = c.in_ok-script.ensures in
    let same = ensures.site site entries is.reads in
    let there = is_path_there c.args.text.now site c.in_ok-script.script.site entries c.in_ok-script.script.requests c.args.path.now same (ensures.calls site entries is.reads) is in
    let P : Config → Type 0 = λ s. IfOk c.course_script.result (λ lines. AreChangesTo s entries c.args.path.now lines.items) in
    subst P same (c.course_script.ensures entries there))
