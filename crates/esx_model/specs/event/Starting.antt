-- A machine takes its overhead frames, one at a time.
use Rattle.std.specs.Prelude.{ℕ, ◌+◌, not, nat_lt, [], ◌∷◌, ◌++◌, length, Option, Some, None, if◌then◌else◌, Ok, Err}
use Rattle.esx_types.specs.declared.config.Config.{Config}
use Rattle.esx_events.specs.declared.event.Answer.TheVariants as answers
use Rattle.esx_events.specs.declared.event.Refusal.TheVariants.{NotRunning, NotNeeded, Short}
use Rattle.esx_types.specs.declared.vm.VmState.TheVariants.{Starting, Running}
use Rattle.esx_model.specs.declared.scene.Vm.{Vm}
use Rattle.esx_model.specs.declared.scene.Site.{Site}
use Rattle.esx_model.specs.Site.{least_free, vm_at, with_vm}
use Rattle.esx_model.specs.event.Outcome.{Outcome, Gate, at_vm, unless, standing, is_running, is_stopping}
use Rattle.esx_model.specs.declared.look.Standing.{Standing}

abbrev pub start_gate : Standing → Gate
start_gate m = (is_running m.state, NotNeeded) ∷ (is_stopping m.state, NotRunning) ∷ []

-- the machine with one more overhead frame; with all of them it runs
abbrev pub with_overhead : Vm → ℕ → Vm
with_overhead v f = record v { overhead = v.overhead ++ f ∷ []; state = if nat_lt (length v.overhead + 1) v.spec.overhead then Starting else Running }

abbrev pub take_overhead : Site → ℕ → Vm → Option ℕ → Outcome
take_overhead s n v None = Err Short
take_overhead s n v (Some f) =
    Ok (answers.Started (not (nat_lt (length v.overhead + 1) v.spec.overhead)) f (length v.overhead + 1) v.spec.overhead, with_vm s n (with_overhead v f))

unfoldable pub start : Config → Site → ℕ → Outcome
start c s n = at_vm (vm_at s n) (λ v. unless (start_gate (standing v)) (take_overhead s n v (least_free c.frames s)))
