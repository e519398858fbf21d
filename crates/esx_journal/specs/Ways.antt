-- The way to a node.
use Rattle.std.specs.Prelude.{◌≡◌, ℕ, zero, suc, ◌<◌, List, ◌∷◌, ◌++◌}
use Rattle.esx_model.specs.Tree.{Node, Move, Up, Down, parent, last_descent}
use Rattle.esx_model.specs.History.{History, cursor}
use Rattle.esx_model.specs.Tree.{line, way}
use Rattle.esx_journal.specs.Turns.{above}
use Rattle.esx_journal.specs.Journal.{Kept, Aims}

-- so many moves up after a walk
unfoldable pub ups : ℕ → List Move → List Move
ups zero walk = walk
ups (suc k) walk = Up ∷ ups k walk

-- so many moves down after a walk, the last of them to a node
unfoldable pub downs : List Node → ℕ → ℕ → List Move → List Move
downs nodes zero n walk = walk
downs nodes (suc k) n walk = Down n ∷ downs nodes k (parent nodes n) walk

-- The cursor climbed to the node that is so many above the goal, and what is left of the way is to go down to it as the last children lead.
pub record Climbed (h : History) (goal : ℕ) (j : Kept) (count : ℕ) : Type 0 where
  pub rise : ℕ
  pub aim : List Move
  pub holds : Aims j (record h { walk = ups rise h.walk }) aim
  pub place : j.cursor ≡ above h.nodes count goal
  pub way : way (line h.nodes (cursor h)) (line h.nodes goal) ++ h.walk ≡ downs h.nodes count goal (ups rise h.walk)
  pub some : (i : ℕ) → i < count → 0 < above h.nodes i goal
  pub lasts : (n : ℕ) → last_descent h.nodes aim n ≡ last_descent h.nodes (downs h.nodes count goal h.walk) n
