-- A tree of numbered events, and the walk of a cursor on it.
use Rattle.std.specs.Prelude.{ℕ, ◌+◌, ◌≤◌, ◌<◌, ◌≡◌, ◌==◌, ◌||◌, Bool, false, if◌then◌else◌, List, [], ◌∷◌, ◌++◌, length, map, reverse, drop, replicate, ◌-◌, Option, Some, None}
use Rattle.std.specs.List.{common_prefix_len}
use Rattle.esx_events.specs.declared.event.Event.{Event}

-- An accepted event. Its number is the length of the list that it heads.
pub record Node : Type 0 where
  pub parent : ℕ
  pub event : Event
  pub alive : Bool

-- Nodes stand youngest first. The opening is node 0 and has no row.
unfoldable pub parent : List Node → ℕ → ℕ
parent [] n = 0
parent (x ∷ older) n = if n == length older + 1 then x.parent else parent older n

unfoldable pub alive : List Node → ℕ → Bool
alive [] n = false
alive (x ∷ older) n = if n == length older + 1 then x.alive else alive older n

-- the events that lead from the opening to a node
unfoldable pub path : List Node → ℕ → List Event
path [] n = []
path (x ∷ older) n = if n == length older + 1 then path older x.parent ++ x.event ∷ [] else path older n

-- does the way from the opening to a node go through node n?
unfoldable pub on_way : List Node → ℕ → ℕ → Bool
on_way [] at n = false
on_way (x ∷ older) at n = if at == length older + 1 then n == at || on_way older x.parent n else on_way older at n

-- each node's parent is older
abbrev pub IsTree : List Node → Type 0
IsTree [] = Unit {0}
IsTree (x ∷ older) = (x.parent ≤ length older) × IsTree older

-- A single move of the cursor.
pub data Move : Type 0 where
  Up : Move
  Down : ℕ → Move

-- where a walk from the opening ends; its latest move stands first
unfoldable pub at : List Node → List Move → ℕ
at nodes [] = 0
at nodes (Up ∷ walk) = parent nodes (at nodes walk)
at nodes (Down n ∷ walk) = n

-- the child that the walk's last descent from a node took
unfoldable pub last_descent : List Node → List Move → ℕ → Option ℕ
last_descent nodes [] n = None
last_descent nodes (Up ∷ walk) n = last_descent nodes walk n
last_descent nodes (Down child ∷ walk) n = if n == parent nodes child then Some child else last_descent nodes walk n

-- each move down goes to a child of the node where the cursor was
abbrev pub IsWalk : List Node → List Move → Type 0
IsWalk nodes [] = Unit {0}
IsWalk nodes (Up ∷ walk) = IsWalk nodes walk
IsWalk nodes (Down n ∷ walk) = (0 < n) × (n ≤ length nodes) × (parent nodes n ≡ at nodes walk) × IsWalk nodes walk

-- the nodes from the opening to a node, the opening left out
unfoldable pub line : List Node → ℕ → List ℕ
line [] n = []
line (x ∷ older) n = if n == length older + 1 then line older x.parent ++ n ∷ [] else line older n

-- how far two lines are one
abbrev pub in_common : List ℕ → List ℕ → ℕ
in_common a b = common_prefix_len ◌==◌ a b

-- the fewest moves from the end of one line to the end of another, the latest first: up to where they part, then down
abbrev pub way : List ℕ → List ℕ → List Move
way from to = reverse (map Down (drop (in_common from to) to)) ++ replicate (length from - in_common from to) Up
