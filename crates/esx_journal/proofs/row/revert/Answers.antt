use Rattle.esx_journal.proofs.row.revert.Goals as goal

pub returns : goal.returns
returns c = λ there trades. (c.flip.ensures there trades).0
