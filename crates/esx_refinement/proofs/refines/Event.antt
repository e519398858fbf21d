-- The plan of each event does to the tables of a sound site what the event does to the site.
use Rattle.esx_types.specs.declared.config.Config.{Config}
use Rattle.esx_types.specs.Ranges.{IsConfig}
use Rattle.esx_types.specs.declared.level.Level.{Level}
use Rattle.esx_events.specs.declared.event.Event.{Event}
use Rattle.esx_events.specs.declared.event.Event.TheVariants.{Admit, Start, Read, Write, Ask, Lend, TakeBack, Sample, Rebalance, Scan, SwapOut, Replace, SetShares, SetTax, SetVmTax, Stop, DropPage, Gone}
use Rattle.esx_model.specs.declared.scene.Site.{Site}
use Rattle.esx_model.specs.Step.{step}
use Rattle.esx_model.specs.Tables.{tables_of}
use Rattle.esx_model.specs.sound.Sound.{IsSound, NamesVm}
use Rattle.esx_refinement.specs.Refinement.{Refines}
use Rattle.esx_plans.specs.plan.Event.{ArePlannable, plan_of}
use Rattle.esx_refinement.proofs.refines.Admission.{admit_refines}
use Rattle.esx_refinement.proofs.refines.Starting.{start_refines}
use Rattle.esx_refinement.proofs.Periods.{periods_open}
use Rattle.esx_refinement.proofs.Countable.{counts_fit}
use Rattle.esx_refinement.proofs.refines.Access.{read_refines, write_refines}
use Rattle.esx_refinement.proofs.refines.Balloon.{ask_refines, lend_refines, take_back_refines}
use Rattle.esx_refinement.proofs.refines.Sampling.{sample_refines}
use Rattle.esx_refinement.proofs.refines.Rebalancing.{has_ratios, rebalance_refines, tax_refines, vm_tax_refines, shares_refines}
use Rattle.esx_refinement.proofs.refines.Sharing.{scan_refines}
use Rattle.esx_refinement.proofs.refines.Paging.{swap_out_refines}
use Rattle.esx_refinement.proofs.refines.Replacing.{replace_refines}
use Rattle.esx_refinement.proofs.refines.Leaving.{stop_refines, drop_refines, gone_refines}

-- the tables of a sound site can be planned on
pub plannable : (c : Config) (s : Site) → IsConfig c → IsSound c s → ArePlannable c (tables_of c s)
plannable c s config sound = record { config = config; ratios = has_ratios c s sound; periods = periods_open c s sound; counts = counts_fit c s sound }

pub plan_refines : (c : Config) (s : Site) (level : Level) (e : Event) → IsSound c s → NamesVm e → Refines c s (plan_of c (tables_of c s) level e) (step c s level e)
plan_refines c s level (Admit n spec) sound named = admit_refines c s n spec sound named
plan_refines c s level (Start n) sound named = start_refines c s n sound
plan_refines c s level (Read n page at len) sound named = read_refines c s level n page at len sound
plan_refines c s level (Write n page at new) sound named = write_refines c s level n page at new sound
plan_refines c s level (Ask n) sound named = ask_refines c s n
plan_refines c s level (Lend n page) sound named = lend_refines c s n page sound
plan_refines c s level (TakeBack n page) sound named = take_back_refines c s n page sound
plan_refines c s level (Sample n len words) sound named = sample_refines c s n len words
plan_refines c s level Rebalance sound named = rebalance_refines c s level
plan_refines c s level (Scan n page) sound named = scan_refines c s n page sound
plan_refines c s level (SwapOut n word) sound named = swap_out_refines c s level n word sound
plan_refines c s level (Replace n page word) sound named = replace_refines c s n page word sound
plan_refines c s level (SetShares n shares) sound named = shares_refines c s n shares
plan_refines c s level (SetTax tau) sound named = tax_refines c s tau
plan_refines c s level (SetVmTax n tau) sound named = vm_tax_refines c s n tau
plan_refines c s level (Stop n) sound named = stop_refines c s n
plan_refines c s level (DropPage n page) sound named = drop_refines c s n page sound
plan_refines c s level (Gone n) sound named = gone_refines c s n sound
