-- Nodes by their numbers and names, and nodes that are dropped with all below them.
use Rattle.std.specs.Prelude.{ℕ, ◌+◌, ◌≤◌, ◌≡◌, ◌==◌, ◌||◌, Bool, if◌then◌else◌, List, [], ◌∷◌, ◌++◌, length, not, ◌&&◌, bytes_eq, find, Option, Some, None, Result, Ok, Err}
use Rattle.std.specs.List.{list_any}
use Rattle.esx_events.specs.declared.event.Refusal.{Refusal}
use Rattle.esx_events.specs.declared.event.Refusal.TheVariants.{NoSuchNode, NameTaken, NoSuchName, OnPath}
use Rattle.esx_events.specs.declared.call.NameRow.{NameRow}
use Rattle.esx_model.specs.Tree.{Node, alive, on_way, Move, at, IsWalk, line, way}
use Rattle.esx_model.specs.History.{History, cursor, jumped}

-- Moves that lead from the cursor to a node, the latest first, of which there are no fewer. The law: `way` gives them.
pub record IsShortest (h : History) (n : ℕ) (moves : List Move) : Type 0 where
  pub walk : IsWalk h.nodes (moves ++ h.walk)
  pub leads : at h.nodes (moves ++ h.walk) ≡ n
  pub fewest : (others : List Move) → IsWalk h.nodes (others ++ h.walk) → at h.nodes (others ++ h.walk) ≡ n → length moves ≤ length others

-- the node was made, and is not pruned; the opening always stands
abbrev pub stands : History → ℕ → Bool
stands h n = (n == 0) || alive h.nodes n

abbrev pub gone_to : ℕ → History → History
gone_to n h = record h { walk = way (line h.nodes (cursor h)) (line h.nodes n) ++ h.walk }

-- the shortest way to a node that stands
unfoldable pub goto : ℕ → History → Result History Refusal
goto n h = if stands h n then Ok (jumped (gone_to n h)) else Err NoSuchNode

abbrev pub named : List ℕ → NameRow → Bool
named name m = bytes_eq name m.name

abbrev pub go_to_mark : Option NameRow → History → Result History Refusal
go_to_mark None h = Err NoSuchName
go_to_mark (Some m) h = goto m.node h

-- the shortest way to the node that has a name
unfoldable pub visit : List ℕ → History → Result History Refusal
visit name h = go_to_mark (find (named name) h.marks) h

-- a name for the cursor's node; it stays also when the node is pruned
unfoldable pub mark : List ℕ → History → Result History Refusal
mark name h = if list_any (named name) h.marks then Err NameTaken else Ok (record h { marks = h.marks ++ record { name = name; node = cursor h } ∷ [] })

-- the nodes after n and all below it are dropped
unfoldable pub dropped : ℕ → List Node → List Node
dropped n [] = []
dropped n (x ∷ older) = record x { alive = x.alive && not (on_way (x ∷ older) (length older + 1) n) } ∷ dropped n older

-- how many of them stand
unfoldable pub standing_below : ℕ → List Node → ℕ
standing_below n [] = 0
standing_below n (x ∷ older) = (if x.alive && on_way (x ∷ older) (length older + 1) n then 1 else 0) + standing_below n older

-- does the way to the cursor go through node n?
abbrev pub is_on_path : History → ℕ → Bool
is_on_path h n = (n == 0) || on_way h.nodes (cursor h) n

-- how many nodes go, and the history without them
unfoldable pub prune : ℕ → History → Result (ℕ × History) Refusal
prune n h =
    if not (stands h n) then Err NoSuchNode
    else (if is_on_path h n then Err OnPath else Ok (standing_below n h.nodes, record h { nodes = dropped n h.nodes }))
