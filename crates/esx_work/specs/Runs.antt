-- What workers in threads leave.
use Rattle.std.specs.Prelude.{◌≡◌, ◌⊎◌, ℕ, ◌+◌, ◌<◌, ◌≤◌, Bool, true, List, [], ◌++◌, length, slice_get, Some, IfOk, OnErr}
use Rattle.esx_events.specs.declared.call.Call.{Call}
use Rattle.esx_events.specs.declared.call.Line.{Line}
use Rattle.esx_types.specs.Ids.{has, IsLeast}
use Rattle.esx_model.specs.Console.{Session}
use Rattle.esx_lock.specs.Logs.{Callers}
use Rattle.esx_lock.specs.declared.view.View.{View}
use Rattle.esx_lock.specs.Passes.{LockView, Known, IsSame}
use Rattle.esx_desk.specs.Told.{IsOf, HadIt}
use Rattle.esx_door.specs.Own.{lines_of}
use Rattle.esx_door.specs.Gates.{LetThrough}
use Rattle.esx_workers.specs.declared.end.End.{End}
use Rattle.esx_workers.specs.declared.worker.Worker.{Worker}
use Rattle.esx_workers.specs.Passed.{may_want}
use Rattle.esx_workers.specs.Workers.{asks}
use Rattle.esx_workers.specs.Runs.{IsRun, IsGated, IsBroken, worker_after}
use Rattle.esx_work.specs.Doors.{IsOther}
use Rattle.esx_work.specs.declared.run.Finished.{Finished}

-- the pass is the desk's, whose callers its own are among
pub record CanRun (desk : LockView) (p : Known) : Type 0 where
  pub is_of : IsOf desk p
  pub below : (k : ℕ) → has p.view.ids k ≡ true → k < desk.callers

-- Memory was wanting behind these lines of a worker's run: for what it asks next, which was not called; or the gate let
-- through once more, and the call found none with the console at hand.
abbrev pub WantsMemory : {G : Type 0} → (G → ℕ → Bool → G → Type 0) → G → G → Worker → View → List Line → Type 0
WantsMemory passes g h w view lines =
    (LetThrough passes (length lines) g h × (may_want (asks (worker_after w lines)) ≡ true))
    ⊎ (LetThrough passes (length lines + 1) g h × ((call : Call) × (asks (worker_after w lines) ≡ Some call)) × HadIt view)

-- What a thread gave back for a pass and a gate. The later lines of the pass's least caller are its worker's run behind this gate, which is given back as it was left, also where memory was wanting; its other callers have none.
pub record Ran {G : Type 0} (is_open : G → Type 0) (passes : G → ℕ → Bool → G → Type 0) (gate : G) (desk : LockView) (p : Known) (w : Worker) (turns : ℕ) (f : Finished G) : Type 0 where
  pub is_of : IsOf desk f.pass
  pub same : IsSame p.view f.pass.view
  pub later : List Line
  pub grown : p.view.seen ++ later ≡ f.pass.view.seen
  pub below : Callers (λ k. k < desk.callers) later
  pub others : (k : ℕ) → IsOther p.view.ids k → lines_of k later ≡ []
  pub done : (k : ℕ) → IsLeast p.view.ids k → IfOk f.ended (λ end. IsRun (is_open gate) k w turns end (lines_of k later))
  pub gated : (k : ℕ) → IsLeast p.view.ids k → IfOk f.ended (λ end. IsGated passes gate f.gate w turns end (lines_of k later))
  pub broken : (k : ℕ) → IsLeast p.view.ids k → OnErr f.ended (IsBroken k w turns (lines_of k later))
  pub stopped : (k : ℕ) → IsLeast p.view.ids k → OnErr f.ended (WantsMemory passes gate f.gate w f.pass.view (lines_of k later))

-- The pass that the thread of caller i gave back, which had seen what the desk opened with.
pub record IsReturned (desk : LockView) (opened : Session) (i : ℕ) (p : Known) : Type 0 where
  pub is_of : IsOf desk p
  pub site : p.view.site ≡ opened.site
  pub own : has p.view.ids i ≡ true
  pub alone : (k : ℕ) → has p.view.ids k ≡ true → k ≡ i
  pub later : List Line
  pub grown : opened.log ++ later ≡ p.view.seen
  pub below : Callers (λ k. k < desk.callers) later

abbrev pub AreReturned : LockView → Session → List Known → Type 0
AreReturned desk opened all = (i : ℕ) (p : Known) → slice_get all i ≡ Some p → IsReturned desk opened i p

-- the lines of a caller are those that its own pass has seen
abbrev pub AreOwn : Session → ℕ → Known → List Line → Type 0
AreOwn opened k p later = (own : List Line) × (opened.log ++ own ≡ p.view.seen) × (lines_of k later ≡ lines_of k own)

-- The pass speaks for all callers from a number on, and of each of its callers it knows the lines.
pub record Knows (desk : LockView) (opened : Session) (all : List Known) (from : ℕ) (p : Known) : Type 0 where
  pub is_of : IsOf desk p
  pub site : p.view.site ≡ opened.site
  pub later : List Line
  pub grown : opened.log ++ later ≡ p.view.seen
  pub below : Callers (λ k. k < desk.callers) later
  pub covers : (k : ℕ) → from ≤ k → k < desk.callers → has p.view.ids k ≡ true
  pub runs : (k : ℕ) (q : Known) → has p.view.ids k ≡ true → slice_get all k ≡ Some q → AreOwn opened k q later

-- The log goes on with lines of these callers alone, and each caller's lines are as its end promises.
pub record RunsOn (opened : Session) (callers : ℕ) (promise : ℕ → End → List Line → Type 0) (ends : List End) (s : Session) : Type 0 where
  pub site : s.site ≡ opened.site
  pub later : List Line
  pub log : opened.log ++ later ≡ s.log
  pub below : Callers (λ k. k < callers) later
  pub runs : (k : ℕ) (e : End) → slice_get ends k ≡ Some e → promise k e (lines_of k later)
