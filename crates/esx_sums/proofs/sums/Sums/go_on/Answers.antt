use Rattle.esx_sums.specs.Kept.{sums_of}
use Rattle.esx_sums.proofs.Few.{short_few, short_site, short_levels}
use Rattle.esx_sums.proofs.Going.{goes_on}
use Rattle.esx_sums.proofs.sums.Sums.go_on.Goals as goal

pub step-requires-clause-few : goal.step-requires-clause-few
step-requires-clause-few c = short_few (sums_of c.args.self.now) c.requires.short

pub step-requires-clause-site : goal.step-requires-clause-site
step-requires-clause-site c = short_site (sums_of c.args.self.now) c.requires.short

pub step-requires-clause-levels : goal.step-requires-clause-levels
step-requires-clause-levels c = short_levels (sums_of c.args.self.now) c.requires.short

pub returns : goal.returns
returns c = λ config ms mets x is nexts.
    goes_on config ms mets x (sums_of c.args.self.now) _ c.args.event.now c.args.answer.now c.args.changes.now c.args.sum.now c.args.present.now c.step.ensures.whole c.requires.small c.step.ensures.revoked is nexts
