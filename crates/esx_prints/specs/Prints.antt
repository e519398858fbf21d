-- Which contents were noted, by the print of each, which places wait, and how many looks are left.
use Rattle.std.specs.Prelude.{◌≡◌, ◌⊎◌, ℕ, ◌-◌, ◌<◌, ◌/◌, ◌^◌, ◌&&◌, nat_lt, Bool, true, false, List, [], length, slice_index_or, slice_set, if◌then◌else◌}
use Rattle.std.specs.Hash.FoldHasher.{initial, write, finish}
use Rattle.esx_prints.specs.declared.prints.TheConstants.{BITS, NOTE}

pub record Noted : Type 0 where
  pub waiting : List Bool
  pub marks : List Bool
  pub looks : ℕ

-- no place is known
abbrev pub none_known : Noted
none_known = record { waiting = []; marks = []; looks = 0 }

-- the print of a content: the upper bits of its hash
unfoldable pub print : List ℕ → ℕ
print bytes = finish (write initial bytes) / 2 ^ (64 - BITS)

-- a place that is not known waits
abbrev pub waits : Noted → ℕ → Bool
waits prints place = slice_index_or prints.waiting place true

abbrev pub has_print : Noted → List ℕ → Bool
has_print prints bytes = slice_index_or prints.marks (print bytes) false

-- each place that counts waits, or its content was noted
abbrev pub Covers : (ℕ → Bool) → (ℕ → List ℕ) → Noted → Type 0
Covers counts contents prints = (place : ℕ) → counts place ≡ true → (waits prints place ≡ true) ⊎ (has_print prints (contents place) ≡ true)

-- no place that is known waits
abbrev pub NoneWaits : Noted → Type 0
NoneWaits prints = (place : ℕ) → place < length prints.waiting → waits prints place ≡ false

-- a place waits
abbrev pub touched : ℕ → Noted → Noted
touched place prints = record prints { waiting = slice_set prints.waiting place true }

-- a place waits no more, for one look
abbrev pub passed : ℕ → Noted → Noted
passed place prints = record prints { waiting = slice_set prints.waiting place false; looks = prints.looks - 1 }

-- a content is noted and its place waits no more, for some looks; where one of them is not known the looks are spent alone
abbrev pub noted : ℕ → List ℕ → Noted → Noted
noted place bytes prints =
    if nat_lt place (length prints.waiting) && nat_lt (print bytes) (length prints.marks)
    then record { waiting = slice_set prints.waiting place false; marks = slice_set prints.marks (print bytes) true; looks = prints.looks - NOTE }
    else record prints { looks = prints.looks - NOTE }
