-- Where memory may be wanting as a session is gone through again.
use Rattle.std.specs.Prelude.{◌≡◌, ◌⊎◌, ℕ, ◌+◌, List, [], ◌∷◌, ◌++◌, length}
use Rattle.esx_types.specs.declared.config.Config.{Config}
use Rattle.esx_events.specs.declared.call.Call.{Call}
use Rattle.esx_events.specs.declared.call.Call.TheVariants.{Table}
use Rattle.esx_model.specs.Console.{history}
use Rattle.esx_console.specs.Hearing.{MayLackMemory, ComesToMemory}
use Rattle.esx_session.specs.declared.session.Entry.{Entry}
use Rattle.esx_session.specs.Reading.{NextTakesMemory}
use Rattle.esx_check.specs.Again.{made}
use Rattle.esx_check.specs.Gates.{GoesTo, BeginsWith, ChecksBefore}

-- the call that comes next: that of the first entry, or behind all of them the table
abbrev pub next_call : List Entry → Call
next_call [] = Table
next_call (e ∷ es) = e.call

-- The call takes memory, and behind these calls it comes to where it does.
pub record WantsMemory (site : Config) (done : List Entry) (call : Call) : Type 0 where
  pub may : MayLackMemory call
  pub comes : ComesToMemory (history (made site done)) call

-- behind so many of the entries the next call does
pub record NextWantsMemory (site : Config) (entries : List Entry) (count : ℕ) : Type 0 where
  pub done : List Entry
  pub later : List Entry
  pub split : entries ≡ done ++ later
  pub number : count ≡ length done
  pub wants : WantsMemory site done (next_call later)

-- A check came to call n, and memory was wanting for it.
abbrev pub RunsOutAt : Config → List Entry → ℕ → Type 0
RunsOutAt site entries n = GoesTo site entries n × ((before : ℕ) × (n ≡ before + 1) × NextWantsMemory site entries before)

-- The same, or it made no call, as the site was opened.
abbrev pub RunsOut : Config → List Entry → ℕ → Type 0
RunsOut site entries n = (n ≡ 0) ⊎ RunsOutAt site entries n

-- the same of the calls with which a text begins
abbrev pub CallWantsMemory : List ℕ → ℕ → Type 0
CallWantsMemory text n = (site : Config) × (entries : List Entry) × BeginsWith text site entries × RunsOutAt site entries n

-- How many calls are made where memory runs out on the way through a text, at a console that is open: the last of them
-- wants memory; or they are all that a check of the calls before an entry makes, and memory is wanting to read that entry.
abbrev pub RunsOutAsRead : List ℕ → ℕ → Type 0
RunsOutAsRead text n = CallWantsMemory text n ⊎ ChecksBefore text (λ reader. NextTakesMemory reader.version reader.at.left) n

-- The same, or none was made, as the site was opened.
abbrev pub RunsOutInText : List ℕ → ℕ → Type 0
RunsOutInText text n = (n ≡ 0) ⊎ RunsOutAsRead text n
