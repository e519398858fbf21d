-- What made the nodes of a session, and what it refused: both are told of its calls, one after another.
use Rattle.std.specs.Prelude.{ℕ, zero, suc, ◌+◌, Bool, true, false, if◌then◌else◌, List, [], ◌∷◌, ◌++◌, slice_index_or, Option, Some, None, option_map}
use Rattle.std.specs.Option.{option_to_list}
use Rattle.esx_events.specs.declared.event.Event.{Event}
use Rattle.esx_events.specs.declared.event.Event.TheVariants.{Read, Write}
use Rattle.esx_events.specs.declared.event.Refusal.{Refusal}
use Rattle.esx_events.specs.declared.call.Call.{Call}
use Rattle.esx_events.specs.declared.call.Call.TheVariants as calls
use Rattle.esx_events.specs.declared.call.Said.{Said}
use Rattle.esx_events.specs.declared.call.Said.TheVariants as said
use Rattle.esx_events.specs.declared.call.Line.{Line}
use Rattle.esx_model.specs.History.{History, opened, cursor}
use Rattle.esx_model.specs.Console.{Session, outcome, after}
use Rattle.esx_paths.specs.declared.makers.Maker.{Maker}
use Rattle.esx_paths.specs.declared.makers.RefusedCall.{RefusedCall}
use Rattle.esx_paths.specs.declared.way.Waypoint.{Waypoint}

-- what each line of a log adds to a list, told the history before it and its number
module _ {A : Type 0} (adds : History → ℕ → Line → List A) where
  unfoldable pub gathered : History → ℕ → List Line → List A
  gathered h number [] = []
  gathered h number (x ∷ later) = adds h number x ++ gathered (after h x.call) (number + 1) later

-- an event was accepted, and made a node
abbrev pub is_done : Said → Bool
is_done (said.Done answer) = true
is_done _ = false

-- why a call was refused, where it was
abbrev pub refusal_in : Said → Option Refusal
refusal_in (said.Refused refusal) = Some refusal
refusal_in _ = None

-- the machine and the page that an event is to read or to write
abbrev pub access_of : Event → Option (ℕ × ℕ)
access_of (Read n page at len) = Some (n, page)
access_of (Write n page at new) = Some (n, page)
access_of _ = None

abbrev pub access : Call → Option (ℕ × ℕ)
access (calls.Do e) = access_of e
access _ = None

-- the node that a line's call makes, if it makes one: a child of the node where the cursor is
abbrev pub made_if : Bool → Maker → List Maker
made_if done maker = if done then maker ∷ [] else []

abbrev pub maker_of : History → ℕ → Line → List Maker
maker_of h number x = made_if (is_done (outcome h x.call).0) (record { parent = cursor h; call = number; caller = x.caller })

-- for each node of a session, from 1 on, its parent, the number of the call that made it, from 1 on, and who called
abbrev pub makers : Session → List Maker
makers s = gathered maker_of (opened s.site) 1 s.log

-- a call that is refused at a node
abbrev pub refused_at : ℕ → ℕ → Call → Refusal → RefusedCall
refused_at node number call refusal = record { node = node; call = number; access = access call; refusal = refusal }

abbrev pub refusal_of : History → ℕ → Line → List RefusedCall
refusal_of h number x = option_to_list (option_map (refused_at (cursor h) number x.call) (refusal_in (outcome h x.call).0))

-- for each call of a session that was refused, in order, the node where the cursor was, its number, the page that it was
-- to read or to write, and why
abbrev pub refusals : Session → List RefusedCall
refusals s = gathered refusal_of (opened s.site) 1 s.log

-- what made node n; the opening was made by no call
abbrev pub nobody : Maker
nobody = record { parent = 0; call = 0; caller = 0 }

abbrev pub maker_at : List Maker → ℕ → Maker
maker_at makers zero = nobody
maker_at makers (suc k) = slice_index_or makers k nobody

-- node n, and what made it
abbrev pub waypoint_at : List Maker → ℕ → Waypoint
waypoint_at makers n = record { node = n; call = (maker_at makers n).call; caller = (maker_at makers n).caller }
