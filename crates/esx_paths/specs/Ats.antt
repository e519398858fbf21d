-- Which node of a session is meant.
use Rattle.std.specs.Prelude.{◌≡◌, ℕ, length, nat_le, if◌then◌else◌, Result, Ok, Err}
use Rattle.std.specs.Option.{ok_or}
use Rattle.esx_events.specs.declared.event.Refusal.{Refusal}
use Rattle.esx_events.specs.declared.event.Refusal.TheVariants.{NoSuchNode, NoSuchName}
use Rattle.esx_model.specs.History.{History, cursor}
use Rattle.esx_model.specs.Console.{Session, history}
use Rattle.esx_journal.specs.Marks.{node_named}
use Rattle.esx_paths.specs.declared.at.At.{At}
use Rattle.esx_paths.specs.declared.at.At.TheVariants.{End, Node, Name}
use Rattle.esx_paths.specs.declared.path.Path.{Path}
use Rattle.esx_paths.specs.Paths.{IsPath}

-- Which node is meant. One that was pruned is still there.
abbrev pub node_at : At → History → Result ℕ Refusal
node_at End h = Ok (cursor h)
node_at (Node n) h = if nat_le n (length h.nodes) then Ok n else Err NoSuchNode
node_at (Name name) h = ok_or (node_named name h.marks) NoSuchName

-- it is the path to the node that is meant
abbrev pub IsPathAt : Session → At → Path → Type 0
IsPathAt s at told = (node_at at (history s) ≡ Ok told.node) × IsPath s told.node told
