-- The changes of each event are small in both forms.
use Rattle.std.proofs.Common.{◌≡◌, List, subst, Ok}
use Rattle.esx_types.specs.declared.config.Config.{Config}
use Rattle.esx_types.specs.declared.level.Level.{Level}
use Rattle.esx_events.specs.declared.event.Answer.{Answer}
use Rattle.esx_events.specs.declared.event.Event.{Event}
use Rattle.esx_events.specs.declared.event.Event.TheVariants.{Admit, Start, Read, Write, Ask, Lend, TakeBack, Sample, Rebalance, Scan, SwapOut, Replace, SetShares, SetTax, SetVmTax, Stop, DropPage, Gone}
use Rattle.esx_model.specs.declared.tables.Tables.{Tables}
use Rattle.esx_tables.specs.declared.change.Change.{Change}
use Rattle.esx_tables.specs.Changes.{exchanged}
use Rattle.esx_changes.specs.Planned.{Planned}
use Rattle.esx_plans.specs.plan.Event.{plan_of}
use Rattle.esx_records.specs.Small.{machines_moved, IsSmall}
use Rattle.esx_records.proofs.Modest.{PlansModest, small}
use Rattle.esx_records.proofs.Stocks.{AreStocked}
use Rattle.esx_records.proofs.plans.Admission.{admit_small}
use Rattle.esx_records.proofs.plans.Starting.{start_small}
use Rattle.esx_records.proofs.plans.Access.{read_small, write_small}
use Rattle.esx_records.proofs.plans.Balloon.{ask_small, lend_small, take_back_small}
use Rattle.esx_records.proofs.plans.Sampling.{sample_small}
use Rattle.esx_records.proofs.plans.Rebalancing.{rebalance_small, tax_small, vm_tax_small, shares_small}
use Rattle.esx_records.proofs.plans.Sharing.{scan_small}
use Rattle.esx_records.proofs.plans.Paging.{swap_out_small}
use Rattle.esx_records.proofs.plans.Replacing.{replace_small}
use Rattle.esx_records.proofs.plans.Leaving.{stop_small, drop_small, gone_small}

modest : (c : Config) (t : Tables) (level : Level) (e : Event) → AreStocked c t → PlansModest c (machines_moved e) (plan_of c t level e)
modest c t level (Admit n spec) s = admit_small c t n spec
modest c t level (Start n) s = start_small c t n
modest c t level (Read n page at len) s = read_small c t level n page at len s
modest c t level (Write n page at new) s = write_small c t level n page at new s
modest c t level (Ask n) s = ask_small c t n
modest c t level (Lend n page) s = lend_small c t n page
modest c t level (TakeBack n page) s = take_back_small c t n page
modest c t level (Sample n len words) s = sample_small c t n len words
modest c t level Rebalance s = rebalance_small c t level s
modest c t level (Scan n page) s = scan_small c t n page
modest c t level (SwapOut n word) s = swap_out_small c t level n word s
modest c t level (Replace n page word) s = replace_small c t n page word
modest c t level (SetShares n shares) s = shares_small c t n shares
modest c t level (SetTax tau) s = tax_small c tau
modest c t level (SetVmTax n tau) s = vm_tax_small c t n tau
modest c t level (Stop n) s = stop_small c t n
modest c t level (DropPage n page) s = drop_small c t n page
modest c t level (Gone n) s = gone_small c t n

pub plan_small : (c : Config) (t : Tables) (level : Level) (e : Event) (p : Answer × List Change) → AreStocked c t → plan_of c t level e ≡ Ok p
    → IsSmall c (machines_moved e) p.1 × IsSmall c (machines_moved e) (exchanged t p.1).1
plan_small c t level e p s planned =
    let P : Planned → Type 0 = PlansModest c (machines_moved e) in
    small c t (machines_moved e) p.1 s.pages s.few (subst P planned (modest c t level e s))
