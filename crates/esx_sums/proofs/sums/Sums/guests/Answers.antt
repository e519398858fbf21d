use Rattle.std.proofs.Common.{ap, ◌∙◌}
use Rattle.std.specs.Prelude.{List}
use Rattle.esx_types.specs.declared.config.TheConstants.{VM_NUMBERS}
use Rattle.esx_sums.specs.declared.tally.Over.{Over}
use Rattle.esx_sums.specs.Kept.{sums_of}
use Rattle.esx_sums.specs.Rows.{of_each, machine_rows}
use Rattle.esx_sums.proofs.RowsMade.{rows_are}
use Rattle.esx_sums.proofs.sums.Sums.guests.Goals as goal

pub returns : goal.returns
returns c = λ config ms mets is stands.
    c.in_ok-rows.ensures
    ∙ ap (λ (past : List Over). of_each (machine_rows c.args.self.now.lives past c.args.present.now c.args.losses.now) VM_NUMBERS) c.as_slice.ensures.value
    ∙ rows_are config ms mets (sums_of c.args.self.now) c.args.present.now c.args.losses.now is stands
