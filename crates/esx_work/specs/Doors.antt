-- What doors keep.
use Rattle.std.specs.Prelude.{◌≡◌, ℕ, ◌<◌, true, List, ◌++◌}
use Rattle.esx_events.specs.declared.call.Line.{Line}
use Rattle.esx_types.specs.declared.ids.Ids.{Ids}
use Rattle.esx_types.specs.Ids.{has, IsLeast}
use Rattle.esx_lock.specs.Logs.{Callers}
use Rattle.esx_lock.specs.Passes.{LockView, Known, IsSame}
use Rattle.esx_desk.specs.Told.{IsOf}
use Rattle.esx_door.specs.Own.{lines_of}

-- the log goes on with lines of callers below n
abbrev pub GoesOn : ℕ → List Line → List Line → Type 0
GoesOn n seen log = (later : List Line) × (seen ++ later ≡ log) × Callers (λ k. k < n) later

-- the pass is the desk's, and the caller is its least
abbrev pub IsReady : LockView → Known → ℕ → Type 0
IsReady desk pass caller = IsOf desk pass × IsLeast pass.view.ids caller × (caller < desk.callers)

-- k is one of these numbers, and not the least
abbrev pub IsOther : Ids → ℕ → Type 0
IsOther ids k = (has ids k ≡ true) × (IsLeast ids k → ⊥)

-- The same desk, and what the pass knows has grown: by no line of a caller of its own that is not its least.
pub record Leads (desk desk' : LockView) (pass pass' : Known) : Type 0 where
  pub desk_same : desk' ≡ desk
  pub same : IsSame pass.view pass'.view
  pub grown : GoesOn desk.callers pass.view.seen pass'.view.seen
  pub others : (k : ℕ) → IsOther pass.view.ids k → lines_of k pass'.view.seen ≡ lines_of k pass.view.seen
