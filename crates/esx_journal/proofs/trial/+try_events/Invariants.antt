use Rattle.std.proofs.Common.{◌-◌, length}
use Rattle.esx_journal.proofs.trial.+try_events.Given as goal

abbrev pub decreases-try_events : goal.decreases-try_events
decreases-try_events l = length l.events.now - l.at
