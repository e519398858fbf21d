use Rattle.std.proofs.Common.{refl}
use Rattle.esx_report.specs.Losses.{loss_fields}
use Rattle.esx_report.specs.Guests.{guest_fields}
use Rattle.esx_report.specs.Steps.{step_fields}
use Rattle.esx_report.proofs.CommaLemmas.{fields_of_row}
use Rattle.esx_report.proofs.laws.rows_are_as_wide_as_their_heads.Goals as goal

pub returns-clause-losses : goal.returns-clause-losses
returns-clause-losses c = λ line. fields_of_row 28 (loss_fields line) refl

pub returns-clause-guests : goal.returns-clause-guests
returns-clause-guests c = λ guest. fields_of_row 26 (guest_fields guest) refl

pub returns-clause-steps : goal.returns-clause-steps
returns-clause-steps c = λ row. fields_of_row 14 (step_fields row) refl
