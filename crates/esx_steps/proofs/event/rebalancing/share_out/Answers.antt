use Rattle.std.proofs.Common.{sym, ◌∙◌, subst}
use Rattle.esx_formulas.specs.Ratio.{AreRows}
use Rattle.esx_steps.proofs.Rows.{rows_fit}
use Rattle.esx_steps.proofs.event.rebalancing.share_out.Goals as goal

pub targets-requires : goal.targets-requires
targets-requires c = record { rows = subst AreRows (sym (c.as_slice-2.ensures.value ∙ c.in_ok-rows.ensures)) (rows_fit c.args.config.now c.args.site c.requires.sound) }
