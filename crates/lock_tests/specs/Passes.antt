-- Passes of a lock between its calls.
use Rattle.std.specs.Prelude.{◌≡◌, ℕ, List, [], ◌∷◌, ◌++◌}
use Rattle.esx_events.specs.declared.call.Line.{Line}
use Rattle.esx_types.specs.Ids.{IsLeast}
use Rattle.esx_lock.specs.declared.view.View.{View}
use Rattle.esx_lock.specs.declared.view.Hold.TheVariants.{Free}
use Rattle.esx_lock.specs.Logs.{OthersOf}
use Rattle.esx_lock.specs.Passes.{LockView, Known}
use Rattle.lock_tests.specs.Tally.{line_of}

-- a pass of this lock that doesn't hold it
abbrev pub IsIdle : LockView → Known → Type 0
IsIdle lock pass = (pass.table ≡ lock.table) × (pass.view.hold ≡ Free)

-- the pass has seen one more line of its own, after lines of others
pub record Wrote (v w : View) (number : ℕ) : Type 0 where
  pub caller : ℕ
  pub least : IsLeast v.ids caller
  pub between : List Line
  pub others : OthersOf v.callers v.ids between
  pub seen : w.seen ≡ (v.seen ++ between) ++ line_of caller number ∷ []
