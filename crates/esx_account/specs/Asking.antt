-- The calls of a session without their replies, by their numbers.
use Rattle.std.specs.Prelude.{ℕ, zero, suc, List, slice_get, Option, Some, None, option_map}
use Rattle.esx_events.specs.declared.event.Event.{Event}
use Rattle.esx_events.specs.declared.call.Call.{Call}
use Rattle.esx_session.specs.declared.session.Request.{Request}
use Rattle.esx_paths.specs.Paths.{event_of}

abbrev pub request_numbered : List Request → ℕ → Option Request
request_numbered requests zero = None
request_numbered requests (suc k) = slice_get requests k

-- the call that has this number, from 1 on
abbrev pub call_asked : List Request → ℕ → Option Call
call_asked requests number = option_map (λ (r : Request). r.call) (request_numbered requests number)

abbrev pub event_in : Option Call → Option Event
event_in None = None
event_in (Some call) = event_of call

-- the event that it is to make
abbrev pub event_asked : List Request → ℕ → Option Event
event_asked requests number = event_in (call_asked requests number)
