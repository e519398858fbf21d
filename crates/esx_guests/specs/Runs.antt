-- What the guests among workers read.
use Rattle.std.specs.Prelude.{◌≡◌, ◌≢◌, ℕ, ◌<◌, List, ◌++◌, Some}
use Rattle.std.specs.List.{AllByRecursion}
use Rattle.std.specs.Borrow.{Bor}
use Rattle.rand_pcg.specs.Lcg.{Lcg}
use Rattle.esx_types.specs.Ranges.{IsConfig}
use Rattle.esx_types.specs.declared.vm.VmState.TheVariants.{Running}
use Rattle.esx_events.specs.declared.call.Line.{Line}
use Rattle.esx_scenario.specs.declared.plan.TraceLine.{TraceLine}
use Rattle.esx_scenario.specs.Lines.{IsWithin}
use Rattle.esx_door.specs.Own.{lines_of}
use Rattle.esx_model.specs.declared.scene.Vm.{Vm}
use Rattle.esx_model.specs.Site.{vm_at}
use Rattle.esx_model.specs.History.{scene_at}
use Rattle.esx_model.specs.Console.{Session, IsLegal, history}
use Rattle.esx_model.specs.Alone.{alone, IsTidy}
use Rattle.esx_model.specs.Guests.{Opens, reads_answered, NeverFull}
use Rattle.esx_workers.specs.declared.end.How.{How}
use Rattle.esx_workers.specs.declared.end.How.TheVariants.{Done}
use Rattle.esx_workers.specs.declared.worker.Worker.{Worker}
use Rattle.esx_workers.specs.Starts.{guest_of}
use Rattle.esx_workers.specs.Runs.{AreAsked, Why}
use Rattle.esx_workers.specs.GuestRuns.{events_of, IsOther}

-- A legal log that opens with admissions and starts, and in which later on caller k runs a guest of machine vm with a tidy trace, and each other caller a worker that is no guest of it.
pub record HasRuns (s : Session) (vm k callers : ℕ) (trace : Bor (List TraceLine)) : Type 0 where
  pub config : IsConfig s.site
  pub legal : IsLegal s
  pub opening : List Line
  pub later : List Line
  pub log : s.log ≡ opening ++ later
  pub opens : AllByRecursion (λ x. Opens x.call) opening
  pub below : AllByRecursion (λ x. x.caller < callers) later
  pub rng : Lcg
  pub own : AreAsked k (guest_of vm trace rng) (lines_of k later)
  pub others : (j : ℕ) → j < callers → j ≢ k → (w : Worker) × IsOther vm w × AreAsked j w (lines_of j later)
  pub tidy : IsTidy s.site (events_of vm trace.now)
  pub within : (v : Vm) → vm_at (scene_at (history (record s { log = opening }))).site vm ≡ Some v → AllByRecursion (IsWithin s.site.page v.spec.max) trace.now

-- its accepted reads answer what they answer alone, as far as they come
abbrev pub DoRunsReadAlone : Type 0
DoRunsReadAlone = (s : Session) (vm k callers : ℕ) (trace : Bor (List TraceLine)) (r : HasRuns s vm k callers trace) →
    (rest : List (List ℕ)) × (reads_answered (lines_of k r.later) ++ rest ≡ alone s.site (events_of vm trace.now))

-- and all of that, if it ended done, its machine ran when the opening was over, and no node number was wanting
abbrev pub DoRunsReadAll : Type 0
DoRunsReadAll = (s : Session) (vm k callers : ℕ) (trace : Bor (List TraceLine)) (r : HasRuns s vm k callers trace) (how : How) (v : Vm) → Why (guest_of vm trace r.rng) (lines_of k r.later) how → how ≡ Done →
    vm_at (scene_at (history (record s { log = r.opening }))).site vm ≡ Some v → v.state ≡ Running → NeverFull (lines_of k r.later) → reads_answered (lines_of k r.later) ≡ alone s.site (events_of vm trace.now)
