-- What the rows of a journal do.
use Rattle.std.specs.Prelude.{◌≡◌, ℕ, zero, suc, ◌+◌, ◌<◌, ◌≤◌, ◌==◌, ◌&&◌, ◌||◌, Bool, true, not, ◌⊎◌, List, ◌++◌, ◌∷◌, [], length, Option, Some, None, is_some, slice_index_or, slice_set, if◌then◌else◌}
use Rattle.esx_machine.specs.Machine as machines
use Rattle.esx_machine.specs.Machine.{Back}
use Rattle.esx_machine.specs.Machine.{Trades}
use Rattle.esx_model.specs.Tree.{Node, parent, alive, on_way, IsTree}
use Rattle.esx_model.specs.Branching.{standing_below}
use Rattle.esx_journal.specs.Rows.{Row}
use Rattle.esx_journal.specs.Children.{child_of_number, has_record}

-- the row of a new node, which is the youngest child of its parent
abbrev pub row_of : ℕ → Back → ℕ → Row
row_of parent back next = record { parent = parent; last = 0; first = 0; next = next; back = Some back }

-- a record at a place leads somewhere from k
abbrev pub FlipsAt : List Row → ℕ → machines.Kept → Type 0
FlipsAt rows at k = (d : Row) (b : Back) → (slice_index_or rows at d).back ≡ Some b → (there : machines.Kept) × Trades b k there

-- the machine went where the record at a place leads, and the record there leads back
pub record Flipped (old new : machines.Kept) (before after : List Row) (at : ℕ) (there : machines.Kept) (d : Row) : Type 0 where
  pub arrives : new ≡ there
  pub back : Back
  pub trades : Trades back there old
  pub rows : after ≡ slice_set before at (record (slice_index_or before at d) { back = Some back })

-- each last child has a row
abbrev pub LastsFit : List Row → Type 0
LastsFit rows = (at : ℕ) (d : Row) → at < length rows → (slice_index_or rows at d).last < length rows

-- a child that was not pruned
abbrev pub kept_child : List Row → Row → Option ℕ → Option ℕ
kept_child rows d None = None
kept_child rows d (Some c) = if is_some (slice_index_or rows c d).back then Some c else None

abbrev pub child_at : List Row → ℕ → Row → Option ℕ
child_at rows at d = kept_child rows d (child_of_number (slice_index_or rows at d).last)

-- a row with a new child
abbrev pub with_child : Row → ℕ → Row
with_child row child = record row { last = child; first = child }

-- the rows with a new node under a place
abbrev pub grown : List Row → ℕ → Back → Row → List Row
grown rows at b d = slice_set (rows ++ row_of at b (slice_index_or rows at d).first ∷ []) at (with_child (slice_index_or rows at d) (length rows))

-- the rows tell the parents of nodes and which of them stand, and each stands under one that stands
pub record AreNodes (rows : List Row) (nodes : List Node) : Type 0 where
  pub tree : IsTree nodes
  pub size : length rows ≡ length nodes + 1
  pub up : (n : ℕ) (d : Row) → n ≤ length nodes → (slice_index_or rows n d).parent ≡ parent nodes n
  pub live : (n : ℕ) (d : Row) → n ≤ length nodes → is_some (slice_index_or rows n d).back ≡ alive nodes n
  pub whole : (n : ℕ) → alive nodes n ≡ true → ((parent nodes n == 0) || alive nodes (parent nodes n)) ≡ true

-- a row without its record
abbrev pub emptied : Row → Row
emptied row = record row { back = None }

-- a row apart from its first child
abbrev pub bare : Row → Row
bare row = record row { first = 0 }

-- how many of the first rows have a record
unfoldable pub standing : List Row → ℕ → ℕ
standing rows zero = 0
standing rows (suc k) = (if has_record rows k then 1 else 0) + standing rows k

-- apart from its first child a row is as it was, or it lost its record where it may
abbrev pub IsLeft : Row → Row → Bool → Type 0
IsLeft new old may = (bare new ≡ bare old) ⊎ ((bare new ≡ bare (emptied old)) × (may ≡ true))

-- so many records of a node and of those below it were lost, and no other row lost more than children
pub record Lost (gone : ℕ) (old new : List Row) (nodes : List Node) (node : ℕ) : Type 0 where
  pub size : length new ≡ length old
  pub each : (n : ℕ) (d : Row) → n ≤ length nodes → IsLeft (slice_index_or new n d) (slice_index_or old n d) (on_way nodes n node)
  pub count : gone + standing new (length nodes + 1) ≡ standing old (length nodes + 1)

-- the rows of a node and of all below it lost their records, which so many had, and no other row lost more than children
pub record Drops (gone : ℕ) (old new : List Row) (nodes : List Node) (node : ℕ) : Type 0 where
  pub size : length new ≡ length old
  pub count : gone ≡ standing_below node nodes
  pub each : (n : ℕ) (d : Row) → n ≤ length nodes → bare (slice_index_or new n d) ≡ bare (if on_way nodes n node then emptied (slice_index_or old n d) else slice_index_or old n d)

-- a row has a record, and the row of its parent has none; the opening never had one
abbrev pub lost_parent : List Row → ℕ → Row → Bool
lost_parent rows at d = is_some (slice_index_or rows at d).back
    && (not ((slice_index_or rows at d).parent == 0) && not (is_some (slice_index_or rows (slice_index_or rows at d).parent d).back))
