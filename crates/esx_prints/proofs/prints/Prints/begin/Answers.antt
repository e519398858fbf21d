use Rattle.std.proofs.Common.{sym, subst}
use Rattle.esx_prints.specs.Prints.{Covers}
use Rattle.esx_prints.proofs.prints.Prints.begin.Goals as goal

pub returns-then-self-places-2-clause-covers : goal.returns-then-self-places-2-clause-covers
returns-then-self-places-2-clause-covers c = λ counts contents covers. c.begin_anew.ensures.covers counts contents (subst (Covers counts contents) (sym c.self.view_is) covers)
