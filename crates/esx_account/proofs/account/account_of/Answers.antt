use Rattle.std.proofs.Common.{List, sym, subst, IfOk}
use Rattle.esx_types.specs.declared.config.Config.{Config}
use Rattle.esx_types.specs.Ranges.{IsConfig}
use Rattle.esx_session.specs.declared.session.Entry.{Entry}
use Rattle.esx_account.specs.Account.{IsAccountOf}
use Rattle.esx_account.specs.Surveying.{IsPathOf, SurveysPath}
use Rattle.esx_account.proofs.account.account_of.Goals as goal

pub gathered-requires-clause-site : goal.gathered-requires-clause-site
gathered-requires-clause-site c =
    let site : Config = c.requires.0 in
    let is = c.requires.2 in
    subst IsConfig (sym (c.in_ok-script.ensures.site site c.requires.1 is)) is.reads.opened

pub gathered-requires-clause-path : goal.gathered-requires-clause-path
gathered-requires-clause-path c =
    let site : Config = c.requires.0 in
    let entries : List Entry = c.requires.1 in
    let is = c.requires.2 in
    let ensures = c.in_ok-script.ensures in
    let same = sym (ensures.site site entries is) in
    let Calls : Config → Type 0 = λ there. IsPathOf there entries c.in_ok-script.script.requests c.args.path.now in
    let Surveys : Config → Type 0 = λ there. SurveysPath there entries c.args.path.now c.in_ok-script.survey in
    (entries, subst Calls same (ensures.calls site entries is), subst Surveys same (ensures.surveys site entries is))

pub returns : goal.returns
returns c = λ site entries is. (
    let ensures = c.in_ok-script.ensures in
    let same = ensures.site site entries is in
    let Calls : Config → Type 0 = λ there. IsPathOf there entries c.in_ok-script.script.requests c.args.path.now in
    let Surveys : Config → Type 0 = λ there. SurveysPath there entries c.args.path.now c.in_ok-script.survey in
    let Told : Config → Type 0 = λ there. IfOk c.gathered.result (λ a. IsAccountOf there entries c.args.path.now a) in
    subst Told same (c.gathered.ensures entries (subst Calls (sym same) (ensures.calls site entries is)) (subst Surveys (sym same) (ensures.surveys site entries is))))
