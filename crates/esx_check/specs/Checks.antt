-- What a check of a session comes to.
use Rattle.std.specs.Prelude.{ℕ, List, [], ◌∷◌, ◌++◌, ◌+◌, ◌<◌, ◌≡◌, ◌≢◌, codes, decimal, length, take, map, slice_get}
use Rattle.std.specs.List.{AllByRecursion}
use Rattle.esx_types.specs.Ranges.{IsConfig}
use Rattle.esx_types.specs.declared.config.Config.{Config}
use Rattle.esx_types.specs.declared.config.TheConstants.{CALLERS}
use Rattle.esx_events.specs.declared.call.Line.{Line}
use Rattle.esx_model.specs.Console.{Session}
use Rattle.esx_words.specs.Commands.{IsInRange}
use Rattle.esx_session.specs.declared.session.Entry.{Entry}
use Rattle.esx_session.specs.Sessions.{Reads}
use Rattle.esx_check.specs.declared.check.Checked.{Checked}
use Rattle.esx_check.specs.declared.check.Checked.TheVariants.{Same, Differs}
use Rattle.esx_check.specs.Again.{replies_again}

-- the replies that stand with the calls
abbrev pub replies_told : List Entry → List (List ℕ)
replies_told = map (λ e. e.reply)

-- two lists are alike up to a place, and not there
pub record PartAt (at : ℕ) (replies others : List (List ℕ)) : Type 0 where
  pub before : take at replies ≡ take at others
  pub here : slice_get replies at ≢ slice_get others at

-- There are so many calls, and each has the reply that stands with it; or, from 1 on, this is the first that has another.
abbrev pub Checks : Config → List Entry → Checked → Type 0
Checks site entries (Same count) = (count ≡ length entries) × (replies_again site entries ≡ replies_told entries)
Checks site entries (Differs number) = (at : ℕ) × (number ≡ at + 1) × PartAt at (replies_told entries) (replies_again site entries)

-- the text is that of a session, and a check of the session comes to this
abbrev pub ChecksText : List ℕ → Checked → Type 0
ChecksText text checked = (site : Config) × (entries : List Entry) × Reads text site entries × Checks site entries checked

-- a line that tells it
abbrev pub checked_text : Checked → List ℕ
checked_text (Same count) = codes "same " ++ (decimal count ++ 10 ∷ [])
checked_text (Differs number) = codes "differs " ++ (decimal number ++ 10 ∷ [])

-- a line of a log that a session can have: its caller, and the numbers, names and bytes of its call
pub record IsAsked (line : Line) : Type 0 where
  pub caller : line.caller < CALLERS
  pub call : IsInRange line.call

-- a log that can be printed and read again
pub record IsPrintable (s : Session) : Type 0 where
  pub opened : IsConfig s.site
  pub each : AllByRecursion IsAsked s.log
