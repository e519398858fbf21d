-- Where a goto leads, and what a prune takes off.
use Rattle.std.specs.Prelude.{◌≡◌, ℕ, ◌+◌, ◌&&◌, not, length, List, ◌++◌, Ok}
use Rattle.esx_model.specs.Replay.{replay_of}
use Rattle.esx_model.specs.Tree.{Move, path, alive, on_way}
use Rattle.esx_model.specs.History.{History, cursor, here, book_at}
use Rattle.esx_model.specs.Branching.{IsShortest, standing_below}
use Rattle.esx_journal.specs.Turns.{OnlyMoves}

-- the cursor came to a node by the fewest moves, one jump was counted, and the tables are those of the node's path
pub record Visits (h after : History) (n : ℕ) : Type 0 where
  pub rest : OnlyMoves h after
  pub jumps : after.jumps ≡ h.jumps + 1
  pub node : cursor after ≡ n
  pub events : here after ≡ path h.nodes n
  pub book : replay_of h.config (path h.nodes n) ≡ Ok (book_at after)
  pub moves : List Move
  pub walk : after.walk ≡ moves ++ h.walk
  pub shortest : IsShortest h n moves

-- a node and all below it are gone, and nothing else; the cursor is where it was
pub record TakesOff (h after : History) (n count : ℕ) : Type 0 where
  pub gone : (m : ℕ) → alive after.nodes m ≡ (alive h.nodes m && not (on_way h.nodes m n))
  pub many : count ≡ standing_below n h.nodes
  pub numbers : length after.nodes ≡ length h.nodes
  pub paths : (m : ℕ) → path after.nodes m ≡ path h.nodes m
  pub node : cursor after ≡ cursor h
  pub book : book_at after ≡ book_at h
  pub rest : after ≡ record h { nodes = after.nodes }
