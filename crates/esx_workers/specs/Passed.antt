-- What a worker notes of the replies to its calls.
use Rattle.std.specs.Prelude.{ℕ, ◌&&◌, Bool, true, false, not, Option, Some, None}
use Rattle.esx_events.specs.declared.call.Call.{Call}
use Rattle.esx_events.specs.declared.call.Call.TheVariants.{Do}
use Rattle.esx_events.specs.declared.call.Said.{Said}
use Rattle.esx_events.specs.declared.call.Said.TheVariants.{Refused}
use Rattle.esx_events.specs.declared.call.Line.{Line}
use Rattle.esx_events.specs.declared.event.Event.{Event}
use Rattle.esx_events.specs.declared.event.Event.TheVariants.{Write, Sample}
use Rattle.esx_model.specs.Guests.{is_access, is_wait}

-- a read or a write
abbrev pub is_access_call : Call → Bool
is_access_call (Do event) = is_access event
is_access_call _ = false

abbrev pub is_refused : Said → Bool
is_refused (Refused e) = true
is_refused _ = false

-- a refusal, but of an access that has to wait
abbrev pub is_passed : Bool → Said → Bool
is_passed access said = is_refused said && not (access && is_wait said)

-- a line whose refusal is passed over
abbrev pub is_passed_over : Line → Bool
is_passed_over x = is_passed (is_access_call x.call) x.reply.said

-- the jumps of the first reply, where this one may be the first
abbrev pub first_of : Option ℕ → ℕ → ℕ
first_of None jumps = jumps
first_of (Some first) jumps = first

-- a call that takes room on the heap: the bytes of a write, or the words of a sample
abbrev pub event_takes_room : Event → Bool
event_takes_room (Write vm page at bytes) = true
event_takes_room (Sample vm length words) = true
event_takes_room _ = false

abbrev pub takes_room : Call → Bool
takes_room (Do event) = event_takes_room event
takes_room _ = false

abbrev pub may_want : Option Call → Bool
may_want None = false
may_want (Some call) = takes_room call
