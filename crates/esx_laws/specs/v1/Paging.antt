-- A page that leaves is shared where version 1's look finds its bytes.
use Rattle.std.specs.Prelude.{ℕ, Option, Some, None, Err}
use Rattle.esx_types.specs.declared.config.Config.{Config}
use Rattle.esx_types.specs.declared.level.Level.{Level}
use Rattle.esx_events.specs.declared.event.Refusal.TheVariants.{AtTarget}
use Rattle.esx_model.specs.declared.scene.Vm.{Vm}
use Rattle.esx_model.specs.declared.scene.Site.{Site}
use Rattle.esx_model.specs.Places.{contents}
use Rattle.esx_model.specs.Site.{vm_at, place_at}
use Rattle.esx_model.specs.event.Outcome.{Outcome, at_vm, unless, standing}
use Rattle.esx_model.specs.event.Paging.{victim, swap_out_gate, leave_by}
use Rattle.esx_laws.specs.v1.Sharing.{look}

abbrev pub leave : Config → Site → ℕ → Vm → Option ℕ → Outcome
leave c s n v None = Err AtTarget
leave c s n v (Some page) = leave_by c s n page (contents c (place_at v page)) (look s n page (place_at v page))

unfoldable pub swap_out : Config → Site → Level → ℕ → ℕ → Outcome
swap_out c s level n word = at_vm (vm_at s n) (λ v. unless (swap_out_gate level (standing v)) (leave c s n v (victim v word)))
