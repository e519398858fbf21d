use Rattle.std.proofs.Common.{◌≡◌, sym, ◌∙◌, subst}
use Rattle.esx_model.specs.Readings.{activity}
use Rattle.esx_machine.specs.Machine.{Kept, book_in}
use Rattle.esx_machine.proofs.Read.{activity_read}
use Rattle.esx_machine.proofs.Readable.{kept_readable}
use Rattle.esx_machine.proofs.machine.Machine.of_vm.Goals as goal

pub activity-requires : goal.activity-requires
activity-requires c =
    let k : Kept = record { config = c.self.inside.thresholds; level = c.self.inside.level; tables = c.self.inside.tables } in
    kept_readable k c.self.invariant

pub returns : goal.returns
returns c =
    let P : Kept → Type 0 = λ x. c.activity.result ≡ activity (book_in x) c.args.vm in
    subst P c.self.view_is (c.activity.ensures ∙ sym (activity_read c.self.inside.tables c.self.inside.level c.args.vm))
