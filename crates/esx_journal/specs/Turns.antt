-- Undos and redos, one after another, and where they lead.
use Rattle.std.specs.Prelude.{◌≡◌, ℕ, zero, suc, ◌-◌, ◌++◌, List, [], ◌∷◌, length, take, Option, Some, true, Ok}
use Rattle.esx_events.specs.declared.event.Event.{Event}
use Rattle.esx_model.specs.Replay.{replay_of}
use Rattle.esx_model.specs.Tree.{Node, parent, alive, on_way, last_descent}
use Rattle.esx_model.specs.History.{History, cursor, here, book_at, then_go, undo, redo}

-- An undo or a redo of so many events.
pub data Turn : Type 0 where
  Undo : ℕ → Turn
  Redo : ℕ → Turn

abbrev pub turn : Turn → History → Option History
turn (Undo k) h = undo k h
turn (Redo k) h = redo k h

-- where turns lead, if none of them is refused
unfoldable pub turned : List Turn → History → Option History
turned [] h = Some h
turned (x ∷ later) h = then_go (turn x h) (λ after. turned later after)

-- how many events a turn goes back, and how many it goes forward
abbrev pub back : Turn → ℕ
back (Undo k) = k
back (Redo k) = 0

abbrev pub forward : Turn → ℕ
forward (Undo k) = 0
forward (Redo k) = k

-- the node so many above a node
unfoldable pub above : List Node → ℕ → ℕ → ℕ
above nodes zero n = n
above nodes (suc k) n = above nodes k (parent nodes n)

-- nothing but the walk and the count of jumps is another
abbrev pub OnlyMoves : History → History → Type 0
OnlyMoves h after = after ≡ record h { walk = after.walk; jumps = after.jumps }

-- the cursor is at the same node of the same tree, with the same path and tables, and each redo goes where it went
pub record IsSamePlace (h after : History) : Type 0 where
  pub rest : OnlyMoves h after
  pub node : cursor after ≡ cursor h
  pub events : here after ≡ here h
  pub book : book_at after ≡ book_at h
  pub descents : (n : ℕ) → last_descent after.nodes after.walk n ≡ last_descent h.nodes h.walk n

-- an undo of k events is accepted, and leads to the path without them and to the tables of that path
pub record Shortens (h : History) (k : ℕ) : Type 0 where
  pub after : History
  pub accepted : undo k h ≡ Some after
  pub rest : OnlyMoves h after
  pub node : cursor after ≡ above h.nodes k (cursor h)
  pub events : here after ≡ take (length (here h) - k) (here h)
  pub book : replay_of h.config (take (length (here h) - k) (here h)) ≡ Ok (book_at after)

-- the path goes on by k events of nodes that stand below, and the tables are those of the longer path
pub record Lengthens (h after : History) (k : ℕ) : Type 0 where
  pub more : List Event
  pub many : length more ≡ k
  pub rest : OnlyMoves h after
  pub node : above h.nodes k (cursor after) ≡ cursor h
  pub standing : (n : ℕ) → on_way h.nodes (cursor after) n ≡ true → alive h.nodes n ≡ true
  pub events : here after ≡ here h ++ more
  pub book : replay_of h.config (here h ++ more) ≡ Ok (book_at after)

-- it is accepted, and leads to the place of a history
pub record LeadsTo (o : Option History) (h : History) : Type 0 where
  pub there : History
  pub accepted : o ≡ Some there
  pub same : IsSamePlace h there
