-- What the worker of a trace asks, and how it goes on.
use Rattle.std.specs.Prelude.{ℕ, ◌+◌, ◌&&◌, Bool, true, false, if◌then◌else◌, Option, Some, None, slice_get}
use Rattle.esx_events.specs.declared.call.Call.{Call}
use Rattle.esx_events.specs.declared.call.Call.TheVariants as calls
use Rattle.esx_events.specs.declared.call.Help.{Help}
use Rattle.esx_events.specs.declared.call.Help.TheVariants as help
use Rattle.esx_events.specs.declared.call.Said.{Said}
use Rattle.esx_events.specs.declared.call.Said.TheVariants as said
use Rattle.esx_events.specs.declared.call.Reply.{Reply}
use Rattle.esx_events.specs.declared.event.Event.{Event}
use Rattle.esx_events.specs.declared.event.Event.TheVariants as events
use Rattle.esx_scenario.specs.declared.plan.TraceLine.{TraceLine}
use Rattle.esx_scenario.specs.declared.plan.TraceLine.TheVariants.{Read, Write, Ask, Lend, TakeBack}
use Rattle.esx_workers.specs.declared.end.How.{How}
use Rattle.esx_workers.specs.declared.end.How.TheVariants.{Done, Turns}
use Rattle.esx_workers.specs.declared.visiting.GuestWorker.{GuestWorker}
use Rattle.esx_workers.specs.declared.visiting.Step.{Step}
use Rattle.esx_workers.specs.declared.visiting.Step.TheVariants as step
use Rattle.esx_workers.specs.Draws.{word, after_word}
use Rattle.esx_model.specs.Guests.{is_wait}

-- the event of a trace's line
abbrev pub event_of : ℕ → TraceLine → Event
event_of vm (Read page at len) = events.Read vm page at len
event_of vm (Write page at bytes) = events.Write vm page at bytes
event_of vm Ask = events.Ask vm
event_of vm (Lend page) = events.Lend vm page
event_of vm (TakeBack page) = events.TakeBack vm page

-- the page that it names
abbrev pub page_of : TraceLine → ℕ
page_of (Read page at len) = page
page_of (Write page at bytes) = page
page_of Ask = 0
page_of (Lend page) = page
page_of (TakeBack page) = page

abbrev pub is_access_line : TraceLine → Bool
is_access_line (Read page at len) = true
is_access_line (Write page at bytes) = true
is_access_line _ = false

-- the call at a line: its event, or a question for advice on its page, or the event that was advised
abbrev pub call_at : ℕ → TraceLine → Step → Call
call_at vm line step.Send = calls.Do (event_of vm line)
call_at vm line step.Advise = calls.Advise vm (page_of line)
call_at vm line (step.SwapOut of word) = calls.Do (events.SwapOut of word)
call_at vm line step.Rebalance = calls.Do events.Rebalance
call_at vm line (step.Replace word) = calls.Do (events.Replace vm (page_of line) word)

abbrev pub call_at_line : ℕ → Step → Option TraceLine → Option Call
call_at_line vm s None = None
call_at_line vm s (Some line) = Some (call_at vm line s)

abbrev pub guest_asks : GuestWorker → Option Call
guest_asks g = call_at_line g.vm g.step (slice_get g.trace.now g.next)

-- an access that has to wait asks for advice; else it is the next line's turn
abbrev pub sent_at : GuestWorker → Said → Option TraceLine → GuestWorker
sent_at g s None = g
sent_at g s (Some line) = if is_access_line line && is_wait s then record g { step = step.Advise } else record g { next = g.next + 1 }

abbrev pub sent : GuestWorker → Said → GuestWorker
sent g s = sent_at g s (slice_get g.trace.now g.next)

-- the event that is named, with the next word where it takes one; else the line's event again
abbrev pub helped : GuestWorker → Help → GuestWorker
helped g (help.SwapOut vm) = record g { step = step.SwapOut vm (word g.rng); rng = after_word g.rng }
helped g help.Rebalance = record g { step = step.Rebalance }
helped g help.Replace = record g { step = step.Replace (word g.rng); rng = after_word g.rng }
helped g help.Go = record g { step = step.Send }

abbrev pub advised : GuestWorker → Said → GuestWorker
advised g (said.Help h) = helped g h
advised g _ = record g { step = step.Send }

-- after the event that was advised the line's event is sent again
abbrev pub heard_at : Step → GuestWorker → Said → GuestWorker
heard_at step.Send g s = sent g s
heard_at step.Advise g s = advised g s
heard_at _ g s = record g { step = step.Send }

abbrev pub guest_hears : GuestWorker → Reply → GuestWorker
guest_hears g reply = heard_at g.step g reply.said

-- its trace is done, or it has lines left
abbrev pub rest_at : Option TraceLine → How
rest_at None = Done
rest_at (Some line) = Turns

abbrev pub guest_rest : GuestWorker → How
guest_rest g = rest_at (slice_get g.trace.now g.next)
