-- What reading a file whole comes to.
use Rattle.std.specs.Prelude.{◌≡◌, ℕ, List, Option, ◌≤◌, ◌<◌, ◌+◌, ◌*◌, length}
use Rattle.std.specs.Io.KnownBytes.{Consumes, IsAtEnd}
use Rattle.esx_reading.specs.declared.fault.TextFault.{TextFault}
use Rattle.esx_reading.specs.declared.fault.TextFault.TheVariants.{NotText, Read, OutOfMemory}
use Rattle.esx_reading.specs.declared.whole.TheConstants.{CHUNK, MAX_FILE, READS}

-- the source gave these bytes and is at its end, and they are no more than so many
pub record GivesWithin (most : ℕ) (old new : Option (List ℕ)) (bytes : List ℕ) : Type 0 where
  pub given : Consumes old new bytes
  pub end : IsAtEnd new
  pub few : length bytes ≤ most

-- the source gave more bytes than so many, and no more behind the read that gave the first of them
abbrev pub GivesMoreThan : ℕ → Option (List ℕ) → Option (List ℕ) → Type 0
GivesMoreThan most old new = (bytes : List ℕ) × Consumes old new bytes × (most < length bytes) × (length bytes ≤ most + CHUNK)

-- The source gave no more bytes than so many, by reads of which each gave one at least: none found the end.
-- They were fewer than a file may take.
pub record GivesOnWithin (most : ℕ) (old new : Option (List ℕ)) (before after : ℕ) : Type 0 where
  pub bytes : List ℕ
  pub given : Consumes old new bytes
  pub few : length bytes ≤ most
  pub each : after ≤ before + length bytes
  pub fewer : after < before + READS

-- The same of as many bytes as a file may have.

abbrev pub GivesWhole : Option (List ℕ) → Option (List ℕ) → List ℕ → Type 0
GivesWhole old new bytes = GivesWithin MAX_FILE old new bytes

abbrev pub GivesMore : Option (List ℕ) → Option (List ℕ) → Type 0
GivesMore old new = GivesMoreThan MAX_FILE old new

abbrev pub GivesOn : Option (List ℕ) → Option (List ℕ) → (before after : ℕ) → Type 0
GivesOn old new before after = GivesOnWithin MAX_FILE old new before after

-- The reads between two counts of them asked for `CHUNK` bytes each, in sum. Any of them may fail or find the end, and
-- none follows one that did, so that none can ask for less and a later one make up for it.
abbrev pub AskForPieces : (before after asked_before asked_after : ℕ) → Type 0
AskForPieces before after asked_before asked_after = asked_after + CHUNK * before ≡ asked_before + CHUNK * after

-- a fault of reading, or want of memory
abbrev pub IsOfReading : TextFault → Type 0
IsOfReading Read = Unit {0}
IsOfReading OutOfMemory = Unit {0}
IsOfReading _ = ⊥

-- the same, or a file that is no text
abbrev pub IsOfText : TextFault → Type 0
IsOfText NotText = Unit {0}
IsOfText e = IsOfReading e
