use Rattle.esx_model.proofs.Epochs.{event_within, path_within, each_within, shown_within}
use Rattle.esx_model.proofs.laws.epochs_are_counted.Goals as goal

pub returns-clause-event : goal.returns-clause-event
returns-clause-event c = event_within

pub returns-clause-path : goal.returns-clause-path
returns-clause-path c = path_within

pub returns-clause-each : goal.returns-clause-each
returns-clause-each c = each_within

pub returns-clause-shown : goal.returns-clause-shown
returns-clause-shown c = shown_within
