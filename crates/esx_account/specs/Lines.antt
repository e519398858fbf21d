-- The losses of a path, each with its call.
use Rattle.std.specs.Prelude.{◌≡◌, ℕ, zero, suc, List, map, slice_get, Option, Some, None, option_map, IsSome, All}
use Rattle.esx_session.specs.declared.session.Request.{Request}
use Rattle.esx_story.specs.declared.story.Loss.{Loss}
use Rattle.esx_report.specs.declared.losses.LossLine.{LossLine}
use Rattle.esx_paths.specs.declared.way.Waypoint.{Waypoint}
use Rattle.esx_account.specs.Asking.{call_asked}

-- the waypoint of the event of a path that has this number, from 1 on
abbrev pub waypoint_numbered : List Waypoint → ℕ → Option Waypoint
waypoint_numbered waypoints zero = None
waypoint_numbered waypoints (suc k) = slice_get waypoints k

-- a loss with what is known of its call
abbrev pub line_at : Loss → Waypoint → LossLine
line_at loss w = record { node = w.node; call = w.call; by = w.caller; loss = loss }

-- a loss as it is told, with the waypoint of its event
abbrev pub told_line : List Waypoint → Loss → Option LossLine
told_line waypoints loss = option_map (line_at loss) (waypoint_numbered waypoints loss.at)

-- these are the lines of losses of a path, in their order
abbrev pub AreLinesOf : List Waypoint → List Loss → List LossLine → Type 0
AreLinesOf waypoints losses lines = map (λ (line : LossLine). Some line) lines ≡ map (told_line waypoints) losses

-- the call of each is one of these
abbrev pub AreAsked : List Request → List LossLine → Type 0
AreAsked requests lines = All (λ line. IsSome (call_asked requests line.call)) lines
