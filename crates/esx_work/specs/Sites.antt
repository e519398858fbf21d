-- The workers of a scenario.
use Rattle.std.specs.Prelude.{◌≡◌, ℕ, ◌+◌, ◌%◌, ◌^◌, Bool, List, map, length, slice_get, Some}
use Rattle.rand_core.specs.Pcg32Seed.{pcg32_seed}
use Rattle.rand_pcg.specs.Lcg.{Lcg}
use Rattle.rand_pcg.specs.Pcg.{pcg64_of_seed}
use Rattle.esx_events.specs.declared.call.Line.{Line}
use Rattle.esx_scenario.specs.declared.plan.Guest as scenario
use Rattle.esx_scenario.specs.declared.plan.Settings.{Settings}
use Rattle.esx_scenario.specs.Plans.{Plan}
use Rattle.esx_opening.specs.Orders.{in_order}
use Rattle.esx_workers.specs.declared.end.End.{End}
use Rattle.esx_workers.specs.declared.machine.Machine.{Machine}
use Rattle.esx_workers.specs.declared.visiting.Step.TheVariants.{Send}
use Rattle.esx_workers.specs.declared.worker.Worker.{Worker}
use Rattle.esx_workers.specs.declared.worker.Worker.TheVariants.{Guest, Sharer, Swapper, Policy}
use Rattle.esx_workers.specs.Runs.{IsRun, IsGated}

-- the generator that is made from the seed and a worker's place
unfoldable pub generator_of : ℕ → ℕ → Lcg
generator_of seed place = pcg64_of_seed (pcg32_seed 32 ((seed + place) % 2 ^ 64))

-- a machine's number and its most pages
abbrev pub told_of : Machine → ℕ × ℕ
told_of m = (m.vm, m.pages)

abbrev pub wanted_of : scenario.Guest → ℕ × ℕ
wanted_of g = (g.vm, g.spec.max)

-- each machine, with the most pages that it may have
abbrev pub AreMachines : List scenario.Guest → List Machine → Type 0
AreMachines guests machines = map told_of machines ≡ map wanted_of guests

-- before the first line of the trace of the machine at this place
abbrev pub IsGuestAt : ℕ → List scenario.Guest → ℕ → Worker → Type 0
IsGuestAt seed guests i (Guest w) = (g : scenario.Guest) × (slice_get guests i ≡ Some g) × (w.vm ≡ g.vm) × (w.trace.now ≡ g.trace) × (w.next ≡ 0) × (w.step ≡ Send) × (w.rng ≡ generator_of seed i)
IsGuestAt seed guests i (Sharer w) = ⊥
IsGuestAt seed guests i (Swapper w) = ⊥
IsGuestAt seed guests i (Policy w) = ⊥

-- the worker at each place: a guest for each machine, then a sharer, a swapper and a policy, each at its start
abbrev pub IsWorker : Settings → List scenario.Guest → List Machine → ℕ → Worker → Type 0
IsWorker s guests machines i (Guest w) = IsGuestAt s.seed guests i (Guest w)
IsWorker s guests machines i (Sharer w) = (i ≡ length guests) × (w.machines.now ≡ machines) × (w.rng ≡ generator_of s.seed i)
IsWorker s guests machines i (Swapper w) = (i ≡ length guests + 1) × (w.machines.now ≡ machines) × (w.rng ≡ generator_of s.seed i)
IsWorker s guests machines i (Policy w) = (i ≡ length guests + 2) × (w.machines.now ≡ machines) × (w.sample ≡ s.sample) × (w.length ≡ s.length) × (w.next ≡ length machines) × (w.rng ≡ generator_of s.seed i)

-- these lines are the run of the scenario's worker at this place
pub record IsRunOf (p : Plan) (let_through : Type 0) (k : ℕ) (end : End) (lines : List Line) : Type 0 where
  pub machines : List Machine
  pub are : AreMachines (in_order p.guests) machines
  pub worker : Worker
  pub is : IsWorker p.settings (in_order p.guests) machines k worker
  pub run : IsRun let_through k worker p.settings.turns end lines

-- the gate before and after these lines of the scenario's worker at this place
pub record IsGatedRunOf {G : Type 0} (p : Plan) (passes : G → ℕ → Bool → G → Type 0) (before after : G) (k : ℕ) (end : End) (lines : List Line) : Type 0 where
  pub machines : List Machine
  pub are : AreMachines (in_order p.guests) machines
  pub worker : Worker
  pub is : IsWorker p.settings (in_order p.guests) machines k worker
  pub gated : IsGated passes before after worker p.settings.turns end lines
