-- What lets a write to a page go on.
use Rattle.std.specs.Prelude.{◌≡◌, ℕ, Bool, true, false, ◌&&◌, not, is_some, Option, Some, None, if◌then◌else◌, Result, Ok, Err}
use Rattle.std.specs.List.{list_any}
use Rattle.esx_types.specs.declared.config.Config.{Config}
use Rattle.esx_events.specs.declared.call.Help.{Help}
use Rattle.esx_events.specs.declared.call.Help.TheVariants as helps
use Rattle.esx_events.specs.declared.event.Event.{Event}
use Rattle.esx_events.specs.declared.event.Event.TheVariants as events
use Rattle.esx_events.specs.declared.event.Refusal.{Refusal}
use Rattle.esx_events.specs.declared.event.Refusal.TheVariants.{NoVm}
use Rattle.esx_model.specs.declared.scene.Vm.{Vm}
use Rattle.esx_model.specs.declared.scene.Scene.{Scene}
use Rattle.esx_formulas.specs.Ratio.{Claim}
use Rattle.esx_formulas.specs.Targets.{first_claim}
use Rattle.esx_model.specs.Site.{vm_at, place_at}
use Rattle.esx_model.specs.event.Outcome.{unless, standing, page_gate}
use Rattle.esx_model.specs.event.Access.{is_blocked, write_frame}
use Rattle.esx_model.specs.event.Rebalancing.{rows_of}
use Rattle.esx_model.specs.event.Paging.{is_above_min}

-- a write to a page of that machine would be accepted
abbrev pub can_write : Config → Scene → Vm → ℕ → Bool
can_write c t v page = not (is_blocked t.level (standing v)) && is_some (write_frame c t.site (place_at v page))

-- of the machines above their target, the one whose ratio comes first pages out; without one, targets are set anew while they can be
abbrev pub help_by : Bool → Option Claim → Help
help_by above_min (Some a) = helps.SwapOut a.vm
help_by true None = helps.Rebalance
help_by false None = helps.Replace

abbrev pub target_of : Vm → ℕ
target_of v = v.target

abbrev pub help_for : Config → Scene → Vm → ℕ → Help
help_for c t v page = if can_write c t v page then helps.Go else help_by (list_any is_above_min t.site.vms) (first_claim (rows_of target_of t.site))

abbrev pub help_at : Config → Scene → Option Vm → ℕ → Result Help Refusal
help_at c t None page = Err NoVm
help_at c t (Some v) page = unless (page_gate (standing v) page) (Ok (help_for c t v page))

unfoldable pub advice : Config → Scene → ℕ → ℕ → Result Help Refusal
advice c t n page = help_at c t (vm_at t.site n) page

-- the event that an advice for a page of machine n names, with some word if it takes one
abbrev pub IsNamedBy : ℕ → ℕ → Help → Event → Type 0
IsNamedBy n page helps.Go e = ⊥
IsNamedBy n page (helps.SwapOut m) e = (word : ℕ) × (e ≡ events.SwapOut m word)
IsNamedBy n page helps.Rebalance e = e ≡ events.Rebalance
IsNamedBy n page helps.Replace e = (word : ℕ) × (e ≡ events.Replace n page word)
