use Rattle.esx_report.proofs.EndLemmas.{loss_ends, guest_ends}
use Rattle.esx_report.proofs.laws.rows_end_in_no_blank.Goals as goal

pub returns-clause-losses : goal.returns-clause-losses
returns-clause-losses c = loss_ends

pub returns-clause-guests : goal.returns-clause-guests
returns-clause-guests c = guest_ends
