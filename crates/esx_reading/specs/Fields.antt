-- Fields of a line, parted by exactly one space.
use Rattle.std.specs.Prelude.{ℕ, List, [], ◌≡◌, ◌==◌, Option, None, Some}
use Rattle.std.specs.Borrow.{Bor}
use Rattle.std.specs.List.{All, slice_split, join_with_byte}

-- the fields with one space between each and the next
abbrev pub joined : List (List ℕ) → List ℕ
joined = join_with_byte 32

-- the pieces of a text between its spaces
abbrev pub fields : List ℕ → List (List ℕ)
fields = slice_split (λ b. b == 32)

-- the fields of a text that is left, if one is
abbrev pub fields_left : Option (Bor (List ℕ)) → List (List ℕ)
fields_left None = []
fields_left (Some text) = fields text.now

-- no space stands in the bytes
abbrev pub HasNoSpace : List ℕ → Type 0
HasNoSpace = All (λ b. b ≡ 32 → ⊥)
