use Rattle.std.proofs.Common.{refl}
use Rattle.esx_report.specs.Changes.{change_fields}
use Rattle.esx_report.proofs.CommaLemmas.{fields_of_row}
use Rattle.esx_report.proofs.laws.changes_are_as_wide_as_their_head.Goals as goal

pub returns : goal.returns
returns c = λ line. fields_of_row 10 (change_fields line) refl
