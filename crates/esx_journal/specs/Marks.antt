-- The names that were given to nodes.
use Rattle.std.specs.Prelude.{◌≡◌, ℕ, ◌+◌, ◌*◌, List, [], ◌∷◌, All, map, take, drop, Option, option_map, find}
use Rattle.std.specs.BTreeMap.{BTreeMap, get}
use Rattle.std.specs.Ordering.{nat_cmp, ordering_then}
use Rattle.std.specs.declared.cmp.Ordering.{Ordering}
use Rattle.esx_events.specs.declared.call.NameRow.{NameRow}
use Rattle.esx_events.specs.Names.{IsName}
use Rattle.esx_model.specs.Branching.{named}

-- entries as rows, where the bytes of a key are its name
abbrev pub rows_of : {K : Type 0} → (K → List ℕ) → List (K × ℕ) → List NameRow
rows_of bytes entries = map (λ e. record { name = bytes e.0; node = e.1 }) entries

-- the node that has a name
abbrev pub node_named : List ℕ → List NameRow → Option ℕ
node_named name rows = option_map (λ (row : NameRow). row.node) (find (named name) rows)

-- each of them may be a name
abbrev pub AreNames : List NameRow → Type 0
AreNames rows = All (λ row. IsName row.name) rows

-- bytes as a number, the least byte first
unfoldable pub number_of : List ℕ → ℕ
number_of [] = 0
number_of (b ∷ bs) = b + 256 * number_of bs

-- at most 16 bytes as two numbers: that of the first 8, and that of the others
abbrev pub pair_of : List ℕ → ℕ × ℕ
pair_of bs = (number_of (take 8 bs), number_of (drop 8 bs))

-- a name as four numbers: those of its first 16 bytes, and those of the others
abbrev pub numbers_of : List ℕ → (ℕ × ℕ) × (ℕ × ℕ)
numbers_of name = (pair_of (take 16 name), pair_of (drop 16 name))

-- the order of two pairs of numbers
abbrev pub pair_cmp : ℕ × ℕ → ℕ × ℕ → Ordering
pair_cmp a b = ordering_then (nat_cmp a.0 b.0) (nat_cmp a.1 b.1)

-- the order of two names by their numbers
abbrev pub compared : (ℕ × ℕ) × (ℕ × ℕ) → (ℕ × ℕ) × (ℕ × ℕ) → Ordering
compared a b = ordering_then (pair_cmp a.0 b.0) (pair_cmp a.1 b.1)

-- by the numbers of each name a map finds the node that has it
abbrev pub FindsNames : BTreeMap ((ℕ × ℕ) × (ℕ × ℕ)) ℕ → List NameRow → Type 0
FindsNames nodes rows = (name : List ℕ) → IsName name → get compared nodes (numbers_of name) ≡ node_named name rows

-- rows of names, and a map that finds them
pub record AreMarks (nodes : BTreeMap ((ℕ × ℕ) × (ℕ × ℕ)) ℕ) (rows : List NameRow) : Type 0 where
  pub names : AreNames rows
  pub finds : FindsNames nodes rows
