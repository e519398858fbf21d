-- Lists of calls, and what is said of them.
use Rattle.std.specs.Prelude.{◌≡◌, ℕ, ◌-◌, List, [], ◌∷◌, length, take, Ok}
use Rattle.esx_types.specs.declared.config.Config.{Config}
use Rattle.esx_events.specs.declared.call.Call.{Call}
use Rattle.esx_events.specs.declared.call.Call.TheVariants as calls
use Rattle.esx_events.specs.declared.call.Said.{Said}
use Rattle.esx_model.specs.Replay.{replay_of}
use Rattle.esx_model.specs.History.{History, here, book_at}
use Rattle.esx_model.specs.Console.{Session, history, next_reply, lined, stand_of}

-- A call, and who makes it.
pub record Asked : Type 0 where
  pub caller : ℕ
  pub call : Call

-- a site as it is opened
abbrev pub opened_session : Config → Session
opened_session site = record { site = site; log = [] }

-- the session with a line for each of these calls
unfoldable pub lined_all : Session → List Asked → Session
lined_all s [] = s
lined_all s (x ∷ later) = lined_all (lined s x.caller x.call) later

-- the history that calls lead to at a site
abbrev pub history_of : Config → List Asked → History
history_of site asked = history (lined_all (opened_session site) asked)

-- how many events are on the cursor's path
abbrev pub depth_of : Session → ℕ
depth_of s = length (here (history s))

-- what is said to the next call
abbrev pub said_next : Session → Call → Said
said_next s call = (next_reply s call).said

-- an undo, a redo, a question or a try of events
abbrev pub TurnsOrAsks : Call → Type 0
TurnsOrAsks (calls.Do e) = ⊥
TurnsOrAsks (calls.Undo k) = Unit {0}
TurnsOrAsks (calls.Redo k) = Unit {0}
TurnsOrAsks (calls.Goto n) = ⊥
TurnsOrAsks (calls.Visit name) = ⊥
TurnsOrAsks (calls.Mark name) = ⊥
TurnsOrAsks (calls.Prune n) = ⊥
TurnsOrAsks (calls.WhatIf events) = Unit {0}
TurnsOrAsks calls.Sum = Unit {0}
TurnsOrAsks calls.Table = Unit {0}
TurnsOrAsks (calls.OfVm n) = Unit {0}
TurnsOrAsks (calls.OfPage n page) = Unit {0}
TurnsOrAsks (calls.Advise n page) = Unit {0}
TurnsOrAsks calls.Stand = Unit {0}
TurnsOrAsks calls.Marks = Unit {0}

-- a question or a try of events
abbrev pub OnlyAsks : Call → Type 0
OnlyAsks (calls.Do e) = ⊥
OnlyAsks (calls.Undo k) = ⊥
OnlyAsks (calls.Redo k) = ⊥
OnlyAsks (calls.Goto n) = ⊥
OnlyAsks (calls.Visit name) = ⊥
OnlyAsks (calls.Mark name) = ⊥
OnlyAsks (calls.Prune n) = ⊥
OnlyAsks (calls.WhatIf events) = Unit {0}
OnlyAsks calls.Sum = Unit {0}
OnlyAsks calls.Table = Unit {0}
OnlyAsks (calls.OfVm n) = Unit {0}
OnlyAsks (calls.OfPage n page) = Unit {0}
OnlyAsks (calls.Advise n page) = Unit {0}
OnlyAsks calls.Stand = Unit {0}
OnlyAsks calls.Marks = Unit {0}

-- a line that undid k events: the reply tells where the cursor is, and the tables are those of the path without them
pub record UndidLine (s after : Session) (k : ℕ) : Type 0 where
  pub told : said_next s (calls.Undo k) ≡ stand_of (history after)
  pub events : here (history after) ≡ take (depth_of s - k) (here (history s))
  pub book : replay_of s.site (take (depth_of s - k) (here (history s))) ≡ Ok (book_at (history after))
