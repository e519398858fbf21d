-- How an event is told: its gate, which is the refusals in their order as a function of readings, then what it leaves and what it answers.
use Rattle.std.specs.Prelude.{◌≡◌, ℕ, ◌-◌, Bool, true, false, not, nat_le, min, List, [], ◌∷◌, Option, Some, None, Result, Err, if◌then◌else◌}
use Rattle.esx_events.specs.declared.event.Answer.{Answer}
use Rattle.esx_events.specs.declared.event.Refusal.{Refusal}
use Rattle.esx_events.specs.declared.event.Refusal.TheVariants.{NoVm, NotRunning, OutOfRange}
use Rattle.esx_types.specs.declared.vm.VmState.{VmState}
use Rattle.esx_types.specs.declared.vm.VmState.TheVariants.{Starting, Running, Stopping}
use Rattle.esx_model.specs.declared.look.Standing.{Standing}
use Rattle.esx_model.specs.declared.scene.Vm.{Vm}
use Rattle.esx_model.specs.declared.scene.Site.{Site}
use Rattle.esx_model.specs.Site.{resident, lent, paged_out}

-- an answer and the site after it, or a refusal
abbrev pub Outcome : Type 0
Outcome = Result (Answer × Site) Refusal

-- where there is a machine
abbrev pub at_vm : Option Vm → (Vm → Outcome) → Outcome
at_vm None f = Err NoVm
at_vm (Some v) f = f v

-- Refusals in their order, each with the test on which it is answered.
abbrev pub Gate : Type 0
Gate = List (Bool × Refusal)

-- the first that applies
abbrev pub first : Gate → Option Refusal
first [] = None
first (t ∷ ts) = if t.0 then Some t.1 else first ts

-- it, or what follows where none applies
abbrev pub or_else : {A : Type 0} → Option Refusal → Result A Refusal → Result A Refusal
or_else (Some e) r = Err e
or_else None r = r

-- what a gate lets through
abbrev pub unless : {A : Type 0} → Gate → Result A Refusal → Result A Refusal
unless gate r = or_else (first gate) r

-- no refusal applies
abbrev pub Passes : Gate → Type 0
Passes [] = Unit {0}
Passes (t ∷ ts) = (t.0 ≡ false) × Passes ts

-- what gates read of a machine
abbrev pub standing : Vm → Standing
standing v = record { spec = v.spec; state = v.state; target = v.target; resident = resident v; out = paged_out v; lent = lent v }

-- how many pages the balloon is to lend
abbrev pub goal : Standing → ℕ
goal m = min m.spec.balloon_max (m.spec.max - m.target)

abbrev pub is_running : VmState → Bool
is_running Starting = false
is_running Running = true
is_running Stopping = false

abbrev pub is_stopping : VmState → Bool
is_stopping Starting = false
is_stopping Running = false
is_stopping Stopping = true

-- the gate of what only a running machine does
abbrev pub running_gate : Standing → Gate
running_gate m = (not (is_running m.state), NotRunning) ∷ []

-- and of what it does to one of its pages
abbrev pub page_gate : Standing → ℕ → Gate
page_gate m page = (not (is_running m.state), NotRunning) ∷ (nat_le m.spec.max page, OutOfRange) ∷ []
