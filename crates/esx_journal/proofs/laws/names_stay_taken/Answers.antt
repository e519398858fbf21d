use Rattle.std.proofs.Common.{sym}
use Rattle.esx_journal.proofs.Reaching.{named_is}
use Rattle.esx_journal.proofs.Visiting.{taken_after, names_kept}
use Rattle.esx_journal.proofs.laws.names_stay_taken.Goals as goal

pub returns-clause-given : goal.returns-clause-given
returns-clause-given c = taken_after

pub returns-clause-pruned : goal.returns-clause-pruned
returns-clause-pruned c = names_kept

pub returns-clause-added : goal.returns-clause-added
returns-clause-added c = λ h after name e. sym (named_is h after name e).1
