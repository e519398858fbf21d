-- The lines of a trace.
use Rattle.std.specs.Prelude.{ℕ, ◌+◌, ◌<◌, ◌≤◌, ◌^◌, ◌&&◌, nat_lt, nat_le, Bool, true, List, [], ◌∷◌, length, codes, decimal, Option, Some, None, Result, Ok, Err, if◌then◌else◌}
use Rattle.std.specs.Str.{bytes_eq}
use Rattle.std.specs.Str.Parse.{digits_value}
use Rattle.hex.specs.Hex.{encode_lower, decode_of}
use Rattle.hex.specs.declared.error.FromHexError.{FromHexError}
use Rattle.esx_types.specs.declared.config.TheConstants.{MAX_PAGE}
use Rattle.esx_reading.specs.Fields.{fields}
use Rattle.esx_scenario.specs.declared.plan.TraceLine.{TraceLine}
use Rattle.esx_scenario.specs.declared.plan.TraceLine.TheVariants.{Read, Write, Ask, Lend, TakeBack}

-- the line stays within a page of that size, and within that many pages
abbrev pub IsWithin : ℕ → ℕ → TraceLine → Type 0
IsWithin size pages (Read page at len) = (page < pages) × (1 ≤ len) × (at + len ≤ size)
IsWithin size pages (Write page at bytes) = (page < pages) × (1 ≤ length bytes) × (at + length bytes ≤ size)
IsWithin size pages Ask = Unit {0}
IsWithin size pages (Lend page) = page < pages
IsWithin size pages (TakeBack page) = page < pages

-- the same as a test
abbrev pub is_within : ℕ → ℕ → TraceLine → Bool
is_within size pages (Read page at len) = nat_lt page pages && nat_le 1 len && nat_le (at + len) size
is_within size pages (Write page at bytes) = nat_lt page pages && nat_le 1 (length bytes) && nat_le (at + length bytes) size
is_within size pages Ask = true
is_within size pages (Lend page) = nat_lt page pages
is_within size pages (TakeBack page) = nat_lt page pages

-- the second step, if the first gave a value
infixl 10 ◌>>=◌
unfoldable pub ◌>>=◌ : {A B : Type 0} → Option A → (A → Option B) → Option B
Some x >>= f = f x
None >>= f = None

-- the number of 32 bits that is written so, without leading zeros
unfoldable pub number_in : List ℕ → Option ℕ
number_in text = let n = digits_value 10 text in if bytes_eq text (decimal n) && nat_lt n (2 ^ 32) then Some n else None

-- the bytes that were decoded, if there are 1 to `MAX_PAGE` and they are written so in lower case
abbrev pub lower_case : List ℕ → Result (List ℕ) FromHexError → Option (List ℕ)
lower_case text (Ok bytes) = if bytes_eq text (encode_lower bytes) && (nat_le 1 (length bytes) && nat_le (length bytes) MAX_PAGE) then Some bytes else None
lower_case text (Err e) = None

-- the bytes that are written so in hex
unfoldable pub bytes_in : List ℕ → Option (List ℕ)
bytes_in text = lower_case text (decode_of text)

-- the lines of the operands of each verb
unfoldable pub read_in : List (List ℕ) → Option TraceLine
read_in (page ∷ at ∷ len ∷ []) = do
  page ← number_in page
  at ← number_in at
  len ← number_in len
  Some (Read page at len)
read_in _ = None

unfoldable pub write_in : List (List ℕ) → Option TraceLine
write_in (page ∷ at ∷ bytes ∷ []) = do
  page ← number_in page
  at ← number_in at
  bytes ← bytes_in bytes
  Some (Write page at bytes)
write_in _ = None

unfoldable pub ask_in : List (List ℕ) → Option TraceLine
ask_in [] = Some Ask
ask_in _ = None

unfoldable pub lend_in : List (List ℕ) → Option TraceLine
lend_in (page ∷ []) = do
  page ← number_in page
  Some (Lend page)
lend_in _ = None

unfoldable pub take_back_in : List (List ℕ) → Option TraceLine
take_back_in (page ∷ []) = do
  page ← number_in page
  Some (TakeBack page)
take_back_in _ = None

-- the line of these fields
unfoldable pub line_in : List (List ℕ) → Option TraceLine
line_in [] = None
line_in (verb ∷ operands) =
    if bytes_eq verb (codes "read") then read_in operands
    else if bytes_eq verb (codes "write") then write_in operands
    else if bytes_eq verb (codes "ask") then ask_in operands
    else if bytes_eq verb (codes "lend") then lend_in operands
    else if bytes_eq verb (codes "takeback") then take_back_in operands
    else None

-- the line, if it stays within
unfoldable pub only_within : ℕ → ℕ → TraceLine → Option TraceLine
only_within size pages line = if is_within size pages line then Some line else None

-- the trace line of a text, for a page size and a number of pages
unfoldable pub line_of : ℕ → ℕ → List ℕ → Option TraceLine
line_of size pages text = line_in (fields text) >>= only_within size pages
