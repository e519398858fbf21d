-- What is known of an input as far as it was read.
use Rattle.std.specs.Prelude.{ℕ, Bool, true, false, ◌==◌, nat_lt, if◌then◌else◌, List, [], ◌∷◌, ◌++◌, length, take, Option, Some, None, Result, Ok, Err}
use Rattle.esx_types.specs.declared.ends.SourceFailed.{SourceFailed}
use Rattle.esx_explained.specs.declared.source.TheConstants.{ROOM}
use Rattle.esx_explained.specs.Telling.{next_number}

-- How many of its lines are over, what is held of the line behind them, and whether that line has more bytes than are held.
pub record ReadSoFar : Type 0 where
  pub count : ℕ
  pub front : List ℕ
  pub long : Bool

-- so many lines are over, and nothing stands behind them
abbrev pub behind_lines : ℕ → ReadSoFar
behind_lines n = record { count = n; front = []; long = false }

-- nothing is read
abbrev pub at_start : ReadSoFar
at_start = behind_lines 0

-- the line is over
abbrev pub next_line : ReadSoFar → ReadSoFar
next_line r = behind_lines (next_number r.count)

-- one more byte of the line is read: it is held where there is room for it
abbrev pub with_byte : ReadSoFar → ℕ → ReadSoFar
with_byte r b = if nat_lt (length r.front) ROOM then record { count = r.count; front = r.front ++ b ∷ []; long = r.long } else record { count = r.count; front = r.front; long = true }

-- one more byte is read: a line feed ends the line
abbrev pub after_byte : ReadSoFar → ℕ → ReadSoFar
after_byte r b = if b == 10 then next_line r else with_byte r b

-- these bytes are read
abbrev pub after : ReadSoFar → List ℕ → ReadSoFar
after r [] = r
after r (b ∷ bs) = after (after_byte r b) bs

-- the input is over: what is left of it is a line, unless it is empty
abbrev pub at_end : ReadSoFar → ReadSoFar
at_end r = if length r.front == 0 then r else next_line r

-- what a read gives is read; at the end of the input it gives nothing
abbrev pub after_part : ReadSoFar → List ℕ → ReadSoFar
after_part r [] = at_end r
after_part r (b ∷ bs) = after r (b ∷ bs)

-- a read gave so many bytes at the front of a buffer, or failed
abbrev pub after_read : Option ReadSoFar → Result ℕ SourceFailed → List ℕ → Option ReadSoFar
after_read None read buffer = None
after_read (Some r) (Ok n) buffer = Some (after_part r (take n buffer))
after_read (Some r) (Err e) buffer = Some r
