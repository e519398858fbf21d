-- How many events may be tried at once.
use Rattle.std.specs.Prelude.{◌≤◌, List, length}
use Rattle.esx_events.specs.declared.event.Event.{Event}
use Rattle.esx_events.specs.declared.events.TheConstants.{MAX_EVENTS}

abbrev pub IsTriable : List Event → Type 0
IsTriable events = (1 ≤ length events) × (length events ≤ MAX_EVENTS)
