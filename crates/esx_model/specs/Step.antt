-- What an event does, and what it answers, or the first refusal that applies.
use Rattle.esx_types.specs.declared.config.Config.{Config}
use Rattle.esx_types.specs.declared.level.Level.{Level}
use Rattle.esx_events.specs.declared.event.Event.{Event}
use Rattle.esx_events.specs.declared.event.Event.TheVariants.{Admit, Start, Read, Write, Ask, Lend, TakeBack, Sample, Rebalance, Scan, SwapOut, Replace, SetShares, SetTax, SetVmTax, Stop, DropPage, Gone}
use Rattle.esx_model.specs.declared.scene.Site.{Site}
use Rattle.esx_model.specs.event.Outcome.{Outcome}
use Rattle.esx_model.specs.event.Admission.{admit}
use Rattle.esx_model.specs.event.Starting.{start}
use Rattle.esx_model.specs.event.Access.{read, write}
use Rattle.esx_model.specs.event.Balloon.{ask, lend, take_back}
use Rattle.esx_model.specs.event.Sampling.{sample}
use Rattle.esx_model.specs.event.Rebalancing.{rebalance, set_shares, set_tax, set_vm_tax}
use Rattle.esx_model.specs.event.Sharing.{scan}
use Rattle.esx_model.specs.event.Paging.{swap_out, replace}
use Rattle.esx_model.specs.event.Leaving.{stop, drop_page, gone}

abbrev pub step : Config → Site → Level → Event → Outcome
step c s level (Admit n spec) = admit c s n spec
step c s level (Start n) = start c s n
step c s level (Read n page at len) = read c s level n page at len
step c s level (Write n page at new) = write c s level n page at new
step c s level (Ask n) = ask s n
step c s level (Lend n page) = lend s n page
step c s level (TakeBack n page) = take_back s n page
step c s level (Sample n len words) = sample s n len words
step c s level Rebalance = rebalance c s level
step c s level (Scan n page) = scan c s n page
step c s level (SwapOut n word) = swap_out c s level n word
step c s level (Replace n page word) = replace c s n page word
step c s level (SetShares n shares) = set_shares s n shares
step c s level (SetTax tau) = set_tax s tau
step c s level (SetVmTax n tau) = set_vm_tax s n tau
step c s level (Stop n) = stop s n
step c s level (DropPage n page) = drop_page s n page
step c s level (Gone n) = gone s n
