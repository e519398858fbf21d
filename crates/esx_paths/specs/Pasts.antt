-- What is kept of a session whose calls were made again.
use Rattle.std.specs.Prelude.{◌≡◌, ◌≤◌, ℕ, List, length}
use Rattle.esx_types.specs.declared.config.Config.{Config}
use Rattle.esx_model.specs.Console.{Session}
use Rattle.esx_console.specs.Unlogged as unlogged
use Rattle.esx_console.specs.Unlogged.{AnswersAs}
use Rattle.esx_paths.specs.declared.makers.Maker.{Maker}
use Rattle.esx_paths.specs.declared.makers.RefusedCall.{RefusedCall}
use Rattle.esx_paths.specs.Makers.{makers, refusals}

-- its site, a console, how many calls there were, what made each node, and what was refused
pub record Kept : Type 0 where
  pub site : Config
  pub console : unlogged.Kept
  pub calls : ℕ
  pub makers : List Maker
  pub refused : List RefusedCall

-- they are those of this session, and the console answers as the one where it was made
pub record IsPastOf (past : Kept) (s : Session) : Type 0 where
  pub opened : past.site ≡ s.site
  pub answers : AnswersAs past.console s
  pub counted : past.calls ≡ length s.log
  pub made : past.makers ≡ makers s
  pub refused : past.refused ≡ refusals s

-- There is such a session. Each move of the cursor was a call.
pub record IsKept (past : Kept) : Type 0 where
  pub session : Session
  pub is_past : IsPastOf past session
  pub few : past.console.jumps ≤ past.calls
