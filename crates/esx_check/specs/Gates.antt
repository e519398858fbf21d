-- Which turns the gate of a check is told, and how far a check comes that ends early.
use Rattle.std.specs.Prelude.{◌≡◌, ◌≤◌, ◌⊎◌, ℕ, List, zero, suc, ◌-◌, ◌^◌, min, length, take, Bool}
use Rattle.esx_types.specs.declared.config.Config.{Config}
use Rattle.esx_session.specs.declared.session.Entry.{Entry}
use Rattle.esx_session.specs.Sessions.{HasOpening}
use Rattle.esx_session.specs.Reading.{Reader, Follows, IsNextLine}
use Rattle.esx_check.specs.declared.check.Checked.{Checked}
use Rattle.esx_check.specs.declared.check.Checked.TheVariants.{Same, Differs}
use Rattle.esx_check.specs.Again.{replies_again}
use Rattle.esx_check.specs.Checks.{Checks, replies_told}

-- the turn of a call: its number, up to the greatest that a turn can be
abbrev pub turn_of : ℕ → ℕ
turn_of number = min number (2 ^ 32 - 1)

-- how many calls a check made
abbrev pub calls_made : Checked → ℕ
calls_made (Same count) = count
calls_made (Differs number) = number

-- A check may come to call n of a session: it has so many, and each before the n-th has its reply. With 0 no call was made.
pub record GoesTo (site : Config) (entries : List Entry) (n : ℕ) : Type 0 where
  pub within : n ≤ length entries
  pub same : take (n - 1) (replies_again site entries) ≡ take (n - 1) (replies_told entries)

-- the text begins with the opening of this site and with these calls
abbrev pub BeginsWith : List ℕ → Config → List Entry → Type 0
BeginsWith text site entries = (reader : Reader) × Follows text site entries reader

-- the same of a text: no call was made, or the n-th of those with which it begins was the last
abbrev pub GoesToInText : List ℕ → ℕ → Type 0
GoesToInText text n = (n ≡ 0) ⊎ ((site : Config) × (entries : List Entry) × BeginsWith text site entries × GoesTo site entries n)

-- The text begins with the opening of this site and with these calls, a reader behind them stops, and a check of the
-- calls comes to this, with n of them made.
pub record ChecksBefore (text : List ℕ) (Stops : Reader → Type 0) (n : ℕ) : Type 0 where
  pub site : Config
  pub entries : List Entry
  pub reader : Reader
  pub follows : Follows text site entries reader
  pub stops : Stops reader
  pub checked : Checked
  pub checks : Checks site entries checked
  pub made : n ≡ calls_made checked

-- How many calls are made where this line of the text is bad: none if the first two lines are no opening, and else
-- those that a check of the calls before the line makes, the line being one of the two that come next.
abbrev pub GoesToBadLine : List ℕ → (line : ℕ) → ℕ → Type 0
GoesToBadLine text line n = ((n ≡ 0) × (HasOpening text → ⊥)) ⊎ ChecksBefore text (λ reader. IsNextLine line reader.at) n

module _ {G : Type 0} (passes : G → ℕ → Bool → G → Type 0) where
  -- it was passed for each of the calls 1 to n, once and in this order, whatever it answered
  unfoldable pub PassedFor : ℕ → G → G → Type 0
  PassedFor zero g h = h ≡ g
  PassedFor (suc n) g h = (m : G) × PassedFor n g m × (answer : Bool) × passes m (turn_of (suc n)) answer h

  -- for the calls 1 to some n of which this holds
  abbrev pub PassedForSome : (ℕ → Type 0) → G → G → Type 0
  PassedForSome Holds g h = (n : ℕ) × Holds n × PassedFor n g h
