use Rattle.std.proofs.Common.{sym, subst}
use Rattle.esx_account.specs.Lines.{AreAsked}
use Rattle.esx_report.specs.Losses.{AreGoodLines}
use Rattle.esx_reports.proofs.asking.why_asked.Goals as goal

pub whys_of-requires-clause-asked : goal.whys_of-requires-clause-asked
whys_of-requires-clause-asked c =
    let requests = c.args.account.now.script.requests in
    let all = subst (AreAsked requests) (sym c.as_slice.ensures) c.requires.2.asked in
    subst (AreAsked requests) (sym c.as_slice-2.ensures.value) (c.in_ok-lines.ensures.asked requests all)

pub whys_of-requires-clause-good : goal.whys_of-requires-clause-good
whys_of-requires-clause-good c =
    let all = subst AreGoodLines (sym c.as_slice.ensures) c.requires.2.good in
    subst AreGoodLines (sym c.as_slice-2.ensures.value) (c.in_ok-lines.ensures.good all)
