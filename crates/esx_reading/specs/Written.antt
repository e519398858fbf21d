-- Bytes that a line has in hex.
use Rattle.std.specs.Prelude.{ℕ, List, ◌≡◌, ◌<◌, ◌≤◌, length, slice_index}
use Rattle.hex.specs.Hex.{lower_digits, IsBytes}
use Rattle.esx_types.specs.declared.config.TheConstants.{MAX_PAGE}

-- bytes that a line can have
pub record IsWritten (bytes : List ℕ) : Type 0 where
  pub some : 0 < length bytes
  pub few : length bytes ≤ MAX_PAGE
  pub are_bytes : IsBytes bytes

-- what a byte is worth as a digit in lower case, and 16 or more where it is none
pub record IsDigitValue (byte value : ℕ) : Type 0 where
  pub some : value < 16 → byte ≡ slice_index lower_digits value
  pub only : (v : ℕ) → v < 16 → byte ≡ slice_index lower_digits v → value ≡ v
