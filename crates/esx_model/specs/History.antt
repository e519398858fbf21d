-- What a list of calls means: the events, the walk of the cursor, and what the cursor's path leads to.
use Rattle.std.specs.Prelude.{ℕ, zero, suc, ◌+◌, true, if◌then◌else◌, List, [], ◌∷◌, length, Option, Some, None, option_map, nat_lt, nat_le, Result, Ok, Err}
use Rattle.esx_types.specs.declared.config.Config.{Config}
use Rattle.esx_events.specs.declared.event.Event.{Event}
use Rattle.esx_events.specs.declared.event.Answer.{Answer}
use Rattle.esx_events.specs.declared.event.Refusal.{Refusal}
use Rattle.esx_events.specs.declared.event.Refusal.TheVariants.{Full}
use Rattle.esx_events.specs.declared.call.NameRow.{NameRow}
use Rattle.esx_model.specs.declared.scene.Scene.{Scene}
use Rattle.esx_model.specs.declared.book.Book.{Book}
use Rattle.esx_model.specs.Show.{shown}
use Rattle.esx_model.specs.Replay.{opening, next, run}
use Rattle.esx_model.specs.Tree.{Node, alive, path, Move, Up, Down, at, last_descent}

-- The site as it was opened, the events, the walk, the count of jumps, and the names that were given to nodes, the oldest first.
pub record History : Type 0 where
  pub config : Config
  pub nodes : List Node
  pub walk : List Move
  pub jumps : ℕ
  pub marks : List NameRow

abbrev pub opened : Config → History
opened c = record { config = c; nodes = []; walk = []; jumps = 0; marks = [] }

-- the node where the cursor is
abbrev pub cursor : History → ℕ
cursor h = at h.nodes h.walk

-- the events on the cursor's path
abbrev pub here : History → List Event
here h = path h.nodes (cursor h)

-- a path that no event is refused on leads to a scene
abbrev pub scene_or : Config → Result Scene (ℕ × Refusal) → Scene
scene_or c (Ok t) = t
scene_or c (Err r) = opening c

-- the scene that the cursor's path leads to
abbrev pub scene_at : History → Scene
scene_at h = scene_or h.config (run h.config (here h))

-- the tables that the cursor's path leads to
abbrev pub book_at : History → Book
book_at h = shown h.config (scene_at h)

-- an accepted event is a child of the cursor's node, and the cursor goes there
unfoldable pub done : Event → History → History
done e h = record h { nodes = record { parent = cursor h; event = e; alive = true } ∷ h.nodes; walk = Down (length h.nodes + 1) ∷ h.walk }

abbrev pub answered : Event → History → Result (Answer × Scene) Refusal → Result (Answer × History) Refusal
answered e h (Err r) = Err r
answered e h (Ok r) = Ok (r.0, done e h)

-- an event, refused where all node numbers are made, else answered on the cursor's path
unfoldable pub do_event : Event → History → Result (Answer × History) Refusal
do_event e h = if nat_le h.config.nodes (length h.nodes) then Err Full else answered e h (next h.config (scene_at h) e)

unfoldable pub up_once : History → History
up_once h = record h { walk = Up ∷ h.walk }

-- the child to which a redo goes: that of the last descent, if it still stands
abbrev pub if_alive : List Node → Option ℕ → Option ℕ
if_alive nodes None = None
if_alive nodes (Some n) = if alive nodes n then Some n else None

unfoldable pub child : History → Option ℕ
child h = if_alive h.nodes (last_descent h.nodes h.walk (cursor h))

abbrev pub down_to : History → ℕ → History
down_to h n = record h { walk = Down n ∷ h.walk }

-- one step of redo, if there is one
unfoldable pub down_once : History → Option History
down_once h = option_map (down_to h) (child h)

abbrev pub then_go : Option History → (History → Option History) → Option History
then_go None go = None
then_go (Some h) go = go h

-- k moves up
unfoldable pub undone : ℕ → History → History
undone zero h = h
undone (suc k) h = up_once (undone k h)

-- k steps of redo
unfoldable pub redone : ℕ → History → Option History
redone zero h = Some h
redone (suc k) h = then_go (redone k h) down_once

-- a move of the cursor counts one jump
abbrev pub jumped : History → History
jumped h = record h { jumps = h.jumps + 1 }

-- k nodes up, if the cursor is so deep
unfoldable pub undo : ℕ → History → Option History
undo k h = if nat_lt (length (here h)) k then None else Some (jumped (undone k h))

-- k nodes down, if there are so many
unfoldable pub redo : ℕ → History → Option History
redo k h = option_map jumped (redone k h)
