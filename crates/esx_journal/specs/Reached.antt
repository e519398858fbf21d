-- The histories that calls lead to.
use Rattle.std.specs.Prelude.{◌≡◌, ℕ, List, Some, Ok}
use Rattle.esx_types.specs.declared.config.Config.{Config}
use Rattle.esx_events.specs.declared.event.Event.{Event}
use Rattle.esx_events.specs.declared.event.Answer.{Answer}
use Rattle.esx_model.specs.History.{History, opened, do_event, undo, redo}
use Rattle.esx_model.specs.Branching.{goto, visit, mark, prune}

-- accepted events, moves, marks and prunes lead there from the opening of a site
pub data IsReached (c : Config) : History → Type 0 where
  Opened : IsReached c (opened c)
  Did : (e : Event) (a : Answer) (h after : History) → IsReached c h → do_event e h ≡ Ok (a, after) → IsReached c after
  Undid : (k : ℕ) (h after : History) → IsReached c h → undo k h ≡ Some after → IsReached c after
  Redid : (k : ℕ) (h after : History) → IsReached c h → redo k h ≡ Some after → IsReached c after
  Went : (n : ℕ) (h after : History) → IsReached c h → goto n h ≡ Ok after → IsReached c after
  Visited : (name : List ℕ) (h after : History) → IsReached c h → visit name h ≡ Ok after → IsReached c after
  Named : (name : List ℕ) (h after : History) → IsReached c h → mark name h ≡ Ok after → IsReached c after
  Pruned : (n count : ℕ) (h after : History) → IsReached c h → prune n h ≡ Ok (count, after) → IsReached c after
