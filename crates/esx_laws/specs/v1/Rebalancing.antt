-- Targets of version 1: by its ratio, at the site's tax.
use Rattle.std.specs.Prelude.{min, map, option_map, sum_by, Ok}
use Rattle.esx_types.specs.declared.config.Config.{Config}
use Rattle.esx_types.specs.declared.level.Level.{Level}
use Rattle.esx_types.specs.declared.level.Level.TheVariants.{High, Soft, Hard, Low}
use Rattle.esx_events.specs.declared.event.Answer.TheVariants as answers
use Rattle.esx_model.specs.declared.scene.Site.{Site}
use Rattle.esx_formulas.specs.Targets.{spare}
use Rattle.esx_formulas.specs.v1.Targets.{targets_of}
use Rattle.esx_model.specs.event.Outcome.{Outcome}
use Rattle.esx_model.specs.event.Rebalancing.{rows_of, min_of, with_targets, at_max, need}

abbrev pub share_out : Config → Site → Outcome
share_out c s = Ok (
  answers.Rebalanced (need c s) (min (need c s) (sum_by spare (rows_of min_of s))),
  record s { vms = with_targets s.vms (targets_of s.tau (rows_of min_of s) (need c s)) },
)

unfoldable pub rebalance : Config → Site → Level → Outcome
rebalance c s High = Ok (answers.Rebalanced 0 0, record s { vms = map (option_map at_max) s.vms })
rebalance c s Soft = share_out c s
rebalance c s Hard = share_out c s
rebalance c s Low = share_out c s
