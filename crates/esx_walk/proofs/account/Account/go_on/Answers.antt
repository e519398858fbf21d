use Rattle.esx_walk.specs.Kept.{account_of}
use Rattle.esx_walk.proofs.Going.{goes_on}
use Rattle.esx_walk.proofs.Few.{short_few, short_losses, short_events}
use Rattle.esx_walk.proofs.account.Account.go_on.Goals as goal

pub step-requires-clause-short : goal.step-requires-clause-short
step-requires-clause-short c = short_events (account_of c.args.self.now) c.requires.short

pub step-requires-clause-losses : goal.step-requires-clause-losses
step-requires-clause-losses c = short_losses (account_of c.args.self.now) c.requires.short

pub step-requires-clause-lives : goal.step-requires-clause-lives
step-requires-clause-lives c = short_few (account_of c.args.self.now) c.requires.short

pub returns : goal.returns
returns c = λ config ms mets x account nexts.
    goes_on config ms mets x (account_of c.args.self.now) _ c.args.event.now c.args.answer.now c.args.seen c.args.given.now c.args.lost.now c.args.gained.now c.step.ensures account nexts
