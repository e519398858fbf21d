use Rattle.std.proofs.Common.{◌∙◌, sym}
use Rattle.esx_tables.specs.Sampled.{marks_of}
use Rattle.esx_tables.proofs.Summed.{unnamed}
use Rattle.esx_tables.proofs.period.OpenPeriod.may_sample.Goals as goal

pub returns-then-self : goal.returns-then-self
returns-then-self c = λ no. rw (← c.self.view_is) (unnamed c.self.inside.summary (marks_of c.self.inside.row) c.args.page (c.self.invariant c.if-self.true) (sym c.may_name.ensures ∙ no))
