-- The lines of workers as the runs of guests that definitions speak of.
use Rattle.std.specs.Prelude.{◌≡◌, ◌≢◌, ℕ, List, [], ◌++◌, map}
use Rattle.std.specs.List.{AllByRecursion}
use Rattle.std.specs.Borrow.{Bor}
use Rattle.rand_pcg.specs.Lcg.{Lcg}
use Rattle.esx_events.specs.declared.event.Event.{Event}
use Rattle.esx_events.specs.declared.call.Line.{Line}
use Rattle.esx_scenario.specs.declared.plan.TraceLine.{TraceLine}
use Rattle.esx_model.specs.Guests.{Send, IsGuestRun, left_after, Leaves, DoesOrAsks}
use Rattle.esx_workers.specs.declared.end.How.{How}
use Rattle.esx_workers.specs.declared.end.How.TheVariants.{Done}
use Rattle.esx_workers.specs.declared.worker.Worker.{Worker}
use Rattle.esx_workers.specs.declared.worker.Worker.TheVariants.{Guest, Sharer, Swapper, Policy}
use Rattle.esx_workers.specs.Visiting.{event_of}
use Rattle.esx_workers.specs.Starts.{guest_of}
use Rattle.esx_workers.specs.Runs.{AreAsked, Why}

-- the events of a machine's trace
abbrev pub events_of : ℕ → List TraceLine → List Event
events_of vm lines = map (event_of vm) lines

-- The caller's lines after a guest: those that came are a guest run of its trace, of the whole trace where it is done.
pub record Visited (vm : ℕ) (trace : List TraceLine) (is_done : Type 0) (before after : List Line) : Type 0 where
  pub lines : List Line
  pub more : after ≡ before ++ lines
  pub run : IsGuestRun vm (events_of vm trace) Send lines
  pub whole : is_done → left_after (events_of vm trace) Send lines ≡ []

-- what a guest asks is a guest run of its trace
abbrev pub DoGuestsRun : Type 0
DoGuestsRun = (k vm : ℕ) (trace : Bor (List TraceLine)) (rng : Lcg) (lines : List Line) → AreAsked k (guest_of vm trace rng) lines → IsGuestRun vm (events_of vm trace.now) Send lines

-- of the whole trace, if it ended done
abbrev pub DoGuestsGoThrough : Type 0
DoGuestsGoThrough = (k vm : ℕ) (trace : Bor (List TraceLine)) (rng : Lcg) (how : How) (lines : List Line) → AreAsked k (guest_of vm trace rng) lines → Why (guest_of vm trace rng) lines how → how ≡ Done →
    left_after (events_of vm trace.now) Send lines ≡ []

-- a worker that is no guest of machine n
abbrev pub IsOther : ℕ → Worker → Type 0
IsOther n (Guest g) = g.vm ≢ n
IsOther n (Sharer w) = Unit {0}
IsOther n (Swapper w) = Unit {0}
IsOther n (Policy w) = Unit {0}

-- an event or a question, and of machine n it names no more than scans, swap outs, samples and shares
abbrev pub LeavesAlone : ℕ → Line → Type 0
LeavesAlone n x = Leaves n x.call × DoesOrAsks x.call

-- what any other worker asks leaves the machine's memory
abbrev pub DoOthersLeave : Type 0
DoOthersLeave = (k n : ℕ) (w : Worker) (lines : List Line) → IsOther n w → AreAsked k w lines → AllByRecursion (LeavesAlone n) lines
