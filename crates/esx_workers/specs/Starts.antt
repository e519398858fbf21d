-- Each kind of worker at its start.
use Rattle.std.specs.Prelude.{ℕ, List, length}
use Rattle.std.specs.Borrow.{Bor}
use Rattle.rand_pcg.specs.Lcg.{Lcg}
use Rattle.esx_scenario.specs.declared.plan.TraceLine.{TraceLine}
use Rattle.esx_workers.specs.declared.machine.Machine.{Machine}
use Rattle.esx_workers.specs.declared.visiting.Step.TheVariants.{Send}
use Rattle.esx_workers.specs.declared.worker.Worker.{Worker}
use Rattle.esx_workers.specs.declared.worker.Worker.TheVariants.{Guest, Sharer, Swapper, Policy}

-- before the first line of its trace
abbrev pub guest_of : ℕ → Bor (List TraceLine) → Lcg → Worker
guest_of vm trace rng = Guest (record { vm = vm; trace = trace; next = 0; step = Send; rng = rng })

abbrev pub sharer_of : Bor (List Machine) → Lcg → Worker
sharer_of machines rng = Sharer (record { machines = machines; rng = rng })

abbrev pub swapper_of : Bor (List Machine) → Lcg → Worker
swapper_of machines rng = Swapper (record { machines = machines; rng = rng })

-- before a rebalance
abbrev pub policy_of : Bor (List Machine) → ℕ → ℕ → Lcg → Worker
policy_of machines sample length_of_periods rng = Policy (record { machines = machines; sample = sample; length = length_of_periods; next = length machines.now; rng = rng })
