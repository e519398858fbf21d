-- The plan of each event.
use Rattle.esx_types.specs.declared.config.Config.{Config}
use Rattle.esx_types.specs.Ranges.{IsConfig}
use Rattle.esx_types.specs.declared.level.Level.{Level}
use Rattle.esx_events.specs.declared.event.Event.{Event}
use Rattle.esx_events.specs.declared.event.Event.TheVariants.{Admit, Start, Read, Write, Ask, Lend, TakeBack, Sample, Rebalance, Scan, SwapOut, Replace, SetShares, SetTax, SetVmTax, Stop, DropPage, Gone}
use Rattle.esx_model.specs.declared.tables.Tables.{Tables}
use Rattle.esx_changes.specs.Planned.{Planned}
use Rattle.esx_plans.specs.plan.Admission.{admit_plan}
use Rattle.esx_plans.specs.plan.Starting.{start_plan}
use Rattle.esx_changes.specs.Counted.{ArePeriodsOpen}
use Rattle.esx_access.specs.Access.{read_plan, write_plan}
use Rattle.esx_plans.specs.plan.Balloon.{ask_plan, lend_plan, take_back_plan}
use Rattle.esx_plans.specs.plan.Sampling.{sample_plan}
use Rattle.esx_plans.specs.plan.Ratios.{HaveRatios}
use Rattle.esx_plans.specs.plan.Rebalancing.{rebalance_plan, tax_plan, vm_tax_plan, shares_plan}
use Rattle.esx_sharing.specs.Sharing.{HasCounts, scan_plan}
use Rattle.esx_sharing.specs.Paging.{swap_out_plan}
use Rattle.esx_access.specs.Replacing.{replace_plan}
use Rattle.esx_plans.specs.plan.Leaving.{stop_plan, drop_plan, gone_plan}

-- What plans rest on: the site's numbers are in their ranges, and so is what its tables tell of machines and of shared frames.
pub record ArePlannable (c : Config) (t : Tables) : Type 0 where
  pub config : IsConfig c
  pub ratios : HaveRatios t
  pub periods : ArePeriodsOpen t
  pub counts : HasCounts t

-- the plan of an event on these tables at a level
abbrev pub plan_of : Config → Tables → Level → Event → Planned
plan_of c t level (Admit n spec) = admit_plan c t n spec
plan_of c t level (Start n) = start_plan t n
plan_of c t level (Read n page at len) = read_plan c t level n page at len
plan_of c t level (Write n page at new) = write_plan c t level n page at new
plan_of c t level (Ask n) = ask_plan t n
plan_of c t level (Lend n page) = lend_plan t n page
plan_of c t level (TakeBack n page) = take_back_plan t n page
plan_of c t level (Sample n len words) = sample_plan t n len words
plan_of c t level Rebalance = rebalance_plan c t level
plan_of c t level (Scan n page) = scan_plan t n page
plan_of c t level (SwapOut n word) = swap_out_plan t level n word
plan_of c t level (Replace n page word) = replace_plan c t n page word
plan_of c t level (SetShares n shares) = shares_plan t n shares
plan_of c t level (SetTax tau) = tax_plan tau
plan_of c t level (SetVmTax n tau) = vm_tax_plan t n tau
plan_of c t level (Stop n) = stop_plan t n
plan_of c t level (DropPage n page) = drop_plan t n page
plan_of c t level (Gone n) = gone_plan t n
