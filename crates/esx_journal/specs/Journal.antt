-- What a journal keeps of a history.
use Rattle.std.specs.Prelude.{◌≡◌, ◌≢◌, ℕ, ◌+◌, ◌<◌, ◌≤◌, Bool, true, false, List, [], ◌∷◌, length, Option, Some, None, is_some, slice_index_or, Result, Ok, Err, IsOk}
use Rattle.esx_types.specs.declared.config.Config.{Config}
use Rattle.esx_types.specs.declared.config.TheConstants.{MAX_NODES}
use Rattle.esx_events.specs.declared.event.Event.{Event}
use Rattle.esx_events.specs.declared.event.Answer.{Answer}
use Rattle.esx_events.specs.declared.event.Refusal.{Refusal}
use Rattle.esx_events.specs.declared.event.Refusal.TheVariants.{OutOfMemory}
use Rattle.esx_events.specs.declared.call.Stand.{Stand}
use Rattle.esx_events.specs.declared.call.NameRow.{NameRow}
use Rattle.esx_model.specs.declared.scene.Scene.{Scene}
use Rattle.esx_model.specs.Tables.{tables_of}
use Rattle.esx_model.specs.Replay.{run}
use Rattle.esx_model.specs.sound.Sound.{IsSound}
use Rattle.esx_model.specs.Tree.{Node, Move, Up, Down, parent, alive, path, on_way, last_descent, IsTree, IsWalk}
use Rattle.esx_model.specs.History.{History, cursor, here, scene_or, scene_at}
use Rattle.esx_model.specs.Branching.{stands}
use Rattle.esx_machine.specs.Machine as machines
use Rattle.esx_machine.specs.Machine.{Back}
use Rattle.esx_machine.specs.Machine.{Trades}
use Rattle.esx_journal.specs.Rows.{Row}
use Rattle.esx_journal.specs.Children.{AreLinked, child_of_number}

pub record Kept : Type 0 where
  pub machine : machines.Kept
  pub rows : List Row
  pub cursor : ℕ
  pub depth : ℕ
  pub nodes : ℕ
  pub marks : List NameRow

-- the machine that shows a scene
abbrev pub kept_of : Config → Scene → machines.Kept
kept_of c t = record { config = c; level = t.level; tables = tables_of c t.site }

-- the machine after a path
unfoldable pub kept_after : Config → List Event → machines.Kept
kept_after c events = kept_of c (scene_or c (run c events))

-- the machine where the cursor is
abbrev pub kept_at : History → machines.Kept
kept_at h = kept_of h.config (scene_at h)

-- no event of the path is refused, and the scene that it leads to is sound
pub record IsAccepted (c : Config) (events : List Event) : Type 0 where
  pub scene : Scene
  pub runs : run c events ≡ Ok scene
  pub sound : IsSound c scene.site

-- on the cursor's way a record leads up, elsewhere down
abbrev pub Leads : Bool → Back → machines.Kept → machines.Kept → Type 0
Leads true back node above = Trades back node above
Leads false back node above = Trades back above node

-- what is kept of node n, where the cursor is at node c and the last children are those of a walk
pub record IsRow (h : History) (aim : List Move) (c n : ℕ) (row : Row) : Type 0 where
  pub up : row.parent ≡ parent h.nodes n
  pub last : child_of_number row.last ≡ last_descent h.nodes aim n
  pub live : is_some row.back ≡ alive h.nodes n
  pub accepted : IsAccepted h.config (path h.nodes n)
  pub back : (r : Back) → row.back ≡ Some r → Leads (on_way h.nodes c n) r (kept_after h.config (path h.nodes n)) (kept_after h.config (path h.nodes (parent h.nodes n)))

-- each move down goes to a node that was made
abbrev pub AreDescents : List Node → List Move → Type 0
AreDescents nodes [] = Unit {0}
AreDescents nodes (Up ∷ moves) = AreDescents nodes moves
AreDescents nodes (Down n ∷ moves) = (0 < n) × (n ≤ length nodes) × AreDescents nodes moves

-- what is kept of a history, with the last children of some moves
pub record Aims (j : Kept) (h : History) (aim : List Move) : Type 0 where
  pub limit : j.nodes ≡ h.config.nodes
  pub tree : IsTree h.nodes
  pub walk : IsWalk h.nodes h.walk
  pub lasts : AreDescents h.nodes aim
  pub size : length j.rows ≡ length h.nodes + 1
  pub place : j.cursor ≡ cursor h
  pub deep : j.depth ≡ length (here h)
  pub shows : j.machine ≡ kept_after h.config (here h)
  pub names : j.marks ≡ h.marks
  pub whole : (n : ℕ) → alive h.nodes n ≡ true → stands h (parent h.nodes n) ≡ true
  pub way : (n : ℕ) → on_way h.nodes (cursor h) n ≡ true → alive h.nodes n ≡ true
  pub each : (n : ℕ) (d : Row) → n ≤ length h.nodes → IsRow h aim (cursor h) n (slice_index_or j.rows n d)

-- the journal keeps the history: its machine shows the cursor's path, and its last children are those of the walk
abbrev pub Holds : Kept → History → Type 0
Holds j h = Aims j h h.walk

-- what every journal keeps, also on its way to a node, when the last children already lead there
pub record IsKept (j : Kept) : Type 0 where
  pub history : History
  pub aim : List Move
  pub holds : Aims j history aim
  pub fits : length history.nodes ≤ j.nodes
  pub limit : j.nodes ≤ MAX_NODES
  pub linked : AreLinked j.rows

-- where the cursor is
abbrev pub stand_at : History → Stand
stand_at h = record { node = cursor h; depth = length (here h) }

-- What a move may give, where d is what it makes of the history.
pub record Arrives (new : Kept) (s : Stand) (d : Option History) : Type 0 where
  pub after : History
  pub gives : d ≡ Some after
  pub holds : Holds new after
  pub stands : s ≡ stand_at after

pub record Stays (old new : Kept) (e wanted : Refusal) (d : Option History) : Type 0 where
  pub same : new ≡ old
  pub why : e ≡ wanted
  pub none : d ≡ None

abbrev pub Moves : Refusal → Result Stand Refusal → Kept → Kept → Option History → Type 0
Moves wanted (Ok s) old new d = Arrives new s d
Moves wanted (Err e) old new d = Stays old new e wanted d

-- What a goto or a visit may give, where d is what it makes of the history.
pub record Went (new : Kept) (s : Stand) (d : Result History Refusal) : Type 0 where
  pub after : History
  pub gives : d ≡ Ok after
  pub holds : Holds new after
  pub stands : s ≡ stand_at after

pub record Remains (old new : Kept) (e : Refusal) (d : Result History Refusal) : Type 0 where
  pub same : new ≡ old
  pub why : d ≡ Err e

abbrev pub Goes : Result Stand Refusal → Kept → Kept → Result History Refusal → Type 0
Goes (Ok s) old new d = Went new s d
Goes (Err e) old new d = Remains old new e d

-- What a mark may give: the node with the name. Memory runs out only where the mark would be accepted.
pub record Marked (new : Kept) (n : ℕ) (d : Result History Refusal) : Type 0 where
  pub after : History
  pub gives : d ≡ Ok after
  pub holds : Holds new after
  pub node : n ≡ cursor after

pub record Unmarked (old new : Kept) (e : Refusal) (d : Result History Refusal) : Type 0 where
  pub same : new ≡ old
  pub why : e ≢ OutOfMemory → d ≡ Err e
  pub late : e ≡ OutOfMemory → IsOk d

abbrev pub Names : Result ℕ Refusal → Kept → Kept → Result History Refusal → Type 0
Names (Ok n) old new d = Marked new n d
Names (Err e) old new d = Unmarked old new e d

-- What a prune may give: how many nodes go.
pub record Pruned (new : Kept) (count : ℕ) (d : Result (ℕ × History) Refusal) : Type 0 where
  pub after : History
  pub gives : d ≡ Ok (count, after)
  pub holds : Holds new after

pub record Unpruned (old new : Kept) (e : Refusal) (d : Result (ℕ × History) Refusal) : Type 0 where
  pub same : new ≡ old
  pub why : d ≡ Err e

abbrev pub Prunes : Result ℕ Refusal → Kept → Kept → Result (ℕ × History) Refusal → Type 0
Prunes (Ok count) old new d = Pruned new count d
Prunes (Err e) old new d = Unpruned old new e d

-- What an event may give, where d is what it makes of the history. Memory runs out only where the event would be accepted.
pub record Accepted (new : Kept) (answers : Answer × Answer) (d : Result (Answer × History) Refusal) : Type 0 where
  pub after : History
  pub gives : d ≡ Ok (answers.0, after)
  pub copy : answers.1 ≡ answers.0
  pub holds : Holds new after

pub record Refused (old new : Kept) (e : Refusal) (d : Result (Answer × History) Refusal) : Type 0 where
  pub same : new ≡ old
  pub why : e ≢ OutOfMemory → d ≡ Err e
  pub late : e ≡ OutOfMemory → IsOk d

abbrev pub Does : Result (Answer × Answer) Refusal → Kept → Kept → Result (Answer × History) Refusal → Type 0
Does (Ok answers) old new d = Accepted new answers d
Does (Err e) old new d = Refused old new e d

-- the same of an event whose answer is told once
abbrev pub DoesOnce : Result Answer Refusal → Kept → Kept → Result (Answer × History) Refusal → Type 0
DoesOnce (Ok answer) old new d = Accepted new (answer, answer) d
DoesOnce (Err e) old new d = Refused old new e d

-- and where something else is told beside it
abbrev pub DoesWith : {A : Type 0} → Result (Answer × A) Refusal → Kept → Kept → Result (Answer × History) Refusal → Type 0
DoesWith (Ok told) old new d = Accepted new (told.0, told.0) d
DoesWith (Err e) old new d = Refused old new e d
