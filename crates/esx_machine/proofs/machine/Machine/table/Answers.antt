use Rattle.std.proofs.Common.{◌≡◌, subst}
use Rattle.std.specs.Result.{IfOk}
use Rattle.esx_model.specs.Readings.{table_of}
use Rattle.esx_machine.specs.Machine.{Kept, book_in}
use Rattle.esx_machine.proofs.Read.{lines_told}
use Rattle.esx_machine.proofs.Readable.{kept_readable}
use Rattle.esx_machine.proofs.machine.Machine.table.Goals as goal

pub table_of-requires : goal.table_of-requires
table_of-requires c =
    let k : Kept = record { config = c.self.inside.thresholds; level = c.self.inside.level; tables = c.self.inside.tables } in
    kept_readable k c.self.invariant

pub returns : goal.returns
returns c =
    let k : Kept = record { config = c.self.inside.thresholds; level = c.self.inside.level; tables = c.self.inside.tables } in
    let P : Kept → Type 0 = λ x. IfOk c.table_of.result (λ rows. rows ≡ table_of (book_in x)) in
    subst P c.self.view_is (lines_told k.tables k.level c.table_of.result c.table_of.ensures)
