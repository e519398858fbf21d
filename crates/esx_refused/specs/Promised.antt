-- The opening by sums: what is promised to the machines that came, and the nodes that are made.
use Rattle.std.specs.Prelude.{ℕ, zero, suc, ◌+◌, ◌-◌, ◌≤◌, nat_le, nat_lt, Bool, true, false, List, [], ◌∷◌, Option, Some, None, Result, Ok, Err, if◌then◌else◌}
use Rattle.esx_types.specs.declared.config.Config.{Config}
use Rattle.esx_types.specs.declared.config.TheConstants.{VM_NUMBERS}
use Rattle.esx_events.specs.declared.event.Refusal.{Refusal}
use Rattle.esx_events.specs.declared.event.Refusal.TheVariants.{Full}
use Rattle.esx_scenario.specs.declared.plan.Guest.{Guest}
use Rattle.esx_model.specs.event.Outcome.{Gate, first}
use Rattle.esx_model.specs.event.Admission.{admit_gate}
use Rattle.esx_opening.specs.Orders.{of_number}
use Rattle.esx_refused.specs.declared.coming.Promised.{Promised}
use Rattle.esx_refused.specs.declared.coming.RefusedOpening.{RefusedOpening}
use Rattle.esx_refused.specs.Refused.{lack, admission_lacks}

-- how an admission is refused, which would make this node, and with which so much memory and swap would be promised
abbrev pub told : Config → Guest → ℕ → ℕ → ℕ → Refusal → RefusedOpening
told c g node memory swap e = record { vm = g.vm; refusal = e; lack = admission_lacks c node memory swap e }

-- no more is promised and made than there is
pub record AreWithin (c : Config) (t : Promised) : Type 0 where
  pub nodes : t.nodes ≤ c.nodes
  pub memory : t.memory ≤ c.frames
  pub swap : t.swap ≤ c.slots

-- what a gate lets through
abbrev pub by_gate : Config → Promised → Guest → ℕ → ℕ → Option Refusal → Result Promised RefusedOpening
by_gate c t g memory swap None = Ok (record { nodes = t.nodes + 1; memory = memory; swap = swap })
by_gate c t g memory swap (Some e) = Err (told c g (t.nodes + 1) memory swap e)

-- the gate of an admission, and before it the node that is to be made
abbrev pub node_gate : Config → Promised → Bool → Guest → ℕ → ℕ → Gate
node_gate c t there g memory swap = (nat_le c.nodes t.nodes, Full) ∷ admit_gate c there g.spec memory swap

abbrev pub gated : Config → Promised → Bool → Guest → ℕ → ℕ → Result Promised RefusedOpening
gated c t there g memory swap = by_gate c t g memory swap (first (node_gate c t there g memory swap))

-- one more machine, where one of its number is there already or not
abbrev pub promised_with : Config → Promised → Bool → Guest → Result Promised RefusedOpening
promised_with c t there g = gated c t there g (t.memory + (g.spec.min + g.spec.overhead)) (t.swap + (g.spec.max - g.spec.min))

-- what follows, where nobody was refused
abbrev pub on_good : {A B : Type 0} → Result A RefusedOpening → (A → Result B RefusedOpening) → Result B RefusedOpening
on_good (Ok t) go = go t
on_good (Err e) go = Err e

-- machines of one number, one after another
unfoldable pub all_promised : Config → Promised → Bool → List Guest → Result Promised RefusedOpening
all_promised c t there [] = Ok t
all_promised c t there (g ∷ gs) = on_good (promised_with c t there g) (λ u. all_promised c u true gs)

-- those with numbers below n, the least first
unfoldable pub promised_below : Config → List Guest → ℕ → Result Promised RefusedOpening
promised_below c guests zero = Ok (record { nodes = 0; memory = 0; swap = 0 })
promised_below c guests (suc n) = on_good (promised_below c guests n) (λ t. all_promised c t false (of_number guests n))

-- the machine whose start would make one node too many
abbrev pub short_of_nodes : Config → Guest → RefusedOpening
short_of_nodes c g = record { vm = g.vm; refusal = Full; lack = lack (c.nodes + 1) c.nodes }

-- Machines that start one after another, each with a node for each of its overhead frames: how many nodes are made then.
unfoldable pub all_started : Config → ℕ → List Guest → Result ℕ RefusedOpening
all_started c nodes [] = Ok nodes
all_started c nodes (g ∷ gs) =
    if nat_lt c.nodes (nodes + g.spec.overhead) then Err (short_of_nodes c g) else all_started c (nodes + g.spec.overhead) gs

-- those with numbers below n, the least first
unfoldable pub started_below : Config → ℕ → List Guest → ℕ → Result ℕ RefusedOpening
started_below c nodes guests zero = Ok nodes
started_below c nodes guests (suc n) = on_good (started_below c nodes guests n) (λ made. all_started c made (of_number guests n))

-- all are admitted, and then all are started
abbrev pub opened_by_sums : Config → List Guest → Result ℕ RefusedOpening
opened_by_sums c guests = on_good (promised_below c guests VM_NUMBERS) (λ t. started_below c t.nodes guests VM_NUMBERS)
