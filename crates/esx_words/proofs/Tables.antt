-- What the proofs have a line of for each command: its verb, and the event or call that has some values.
use Rattle.std.proofs.Common.{List, [], ◌∷◌}
use Rattle.esx_events.specs.declared.event.Event.{Event}
use Rattle.esx_events.specs.declared.event.Event.TheVariants as event
use Rattle.esx_events.specs.declared.call.Call.{Call}
use Rattle.esx_events.specs.declared.call.Call.TheVariants as call
use Rattle.esx_words.specs.declared.verbs.Verb.{Verb}
use Rattle.esx_words.specs.declared.verbs.Verb.TheVariants as verbs
use Rattle.esx_words.specs.declared.verbs.EventVerb.{EventVerb}
use Rattle.esx_words.specs.declared.verbs.EventVerb.TheVariants as events
use Rattle.esx_words.specs.declared.verbs.MachineEvent.TheVariants as machine_events
use Rattle.esx_words.specs.declared.verbs.PlaceEvent.TheVariants as place_events
use Rattle.esx_words.specs.declared.verbs.NumberVerb.TheVariants as number_verbs
use Rattle.esx_words.specs.declared.verbs.NameVerb.TheVariants as name_verbs
use Rattle.esx_words.specs.declared.verbs.AloneVerb.TheVariants as alone_verbs
use Rattle.esx_words.specs.declared.verbs.PlaceVerb.TheVariants as place_verbs
use Rattle.esx_words.specs.Kinds.{Values}
use Rattle.esx_words.specs.Commands.{event_kinds, verb_form, Operands}

-- every verb; the last stands for the words that are no verb's
unfoldable pub all_verbs : List Verb
all_verbs =
    verbs.Event events.Admit
    ∷ verbs.Event (events.Machine machine_events.Start)
    ∷ verbs.Event (events.Machine machine_events.Ask)
    ∷ verbs.Event (events.Machine machine_events.Stop)
    ∷ verbs.Event (events.Machine machine_events.Gone)
    ∷ verbs.Event (events.Place place_events.Lend)
    ∷ verbs.Event (events.Place place_events.TakeBack)
    ∷ verbs.Event (events.Place place_events.Scan)
    ∷ verbs.Event (events.Place place_events.DropPage)
    ∷ verbs.Event (events.Place place_events.SetShares)
    ∷ verbs.Event (events.Place place_events.SetVmTax)
    ∷ verbs.Event events.Read
    ∷ verbs.Event events.Write
    ∷ verbs.Event events.Sample
    ∷ verbs.Event events.Rebalance
    ∷ verbs.Event events.SwapOut
    ∷ verbs.Event events.Replace
    ∷ verbs.Event events.SetTax
    ∷ verbs.Number number_verbs.Undo
    ∷ verbs.Number number_verbs.Redo
    ∷ verbs.Number number_verbs.Goto
    ∷ verbs.Number number_verbs.Prune
    ∷ verbs.Name name_verbs.Visit
    ∷ verbs.Name name_verbs.Mark
    ∷ verbs.Alone alone_verbs.Sum
    ∷ verbs.Alone alone_verbs.Table
    ∷ verbs.Alone alone_verbs.Stand
    ∷ verbs.Alone alone_verbs.Marks
    ∷ verbs.OfVm
    ∷ verbs.Place place_verbs.OfPage
    ∷ verbs.Place place_verbs.Advise
    ∷ verbs.WhatIf
    ∷ []

-- the left inverse of the table of events
unfoldable pub event_at : (v : EventVerb) → Values (event_kinds v) → Event
event_at events.Admit (vm, (min, (max, (overhead, (shares, (balloon, tau)))))) =
    event.Admit vm (record { min = min; max = max; overhead = overhead; shares = shares; balloon_max = balloon; tau = tau })
event_at (events.Machine machine_events.Start) (vm, tt) = event.Start vm
event_at (events.Machine machine_events.Ask) (vm, tt) = event.Ask vm
event_at (events.Machine machine_events.Stop) (vm, tt) = event.Stop vm
event_at (events.Machine machine_events.Gone) (vm, tt) = event.Gone vm
event_at (events.Place place_events.Lend) (vm, (page, tt)) = event.Lend vm page
event_at (events.Place place_events.TakeBack) (vm, (page, tt)) = event.TakeBack vm page
event_at (events.Place place_events.Scan) (vm, (page, tt)) = event.Scan vm page
event_at (events.Place place_events.DropPage) (vm, (page, tt)) = event.DropPage vm page
event_at (events.Place place_events.SetShares) (vm, (shares, tt)) = event.SetShares vm shares
event_at (events.Place place_events.SetVmTax) (vm, (tau, tt)) = event.SetVmTax vm tau
event_at events.Read (vm, (page, (at, (len, tt)))) = event.Read vm page at len
event_at events.Write (vm, (page, (at, (bytes, tt)))) = event.Write vm page at bytes
event_at events.Sample (vm, (length, words)) = event.Sample vm length words
event_at events.Rebalance tt = event.Rebalance
event_at events.SwapOut (vm, (word, tt)) = event.SwapOut vm word
event_at events.Replace (vm, (page, (word, tt))) = event.Replace vm page word
event_at events.SetTax (tau, tt) = event.SetTax tau

-- the left inverse of the table of calls
unfoldable pub call_at : (v : Verb) → Operands (verb_form v) → Call
call_at (verbs.Event v) x = call.Do (event_at v x)
call_at (verbs.Number number_verbs.Undo) (n, tt) = call.Undo n
call_at (verbs.Number number_verbs.Redo) (n, tt) = call.Redo n
call_at (verbs.Number number_verbs.Goto) (n, tt) = call.Goto n
call_at (verbs.Number number_verbs.Prune) (n, tt) = call.Prune n
call_at (verbs.Name name_verbs.Visit) (name, tt) = call.Visit name
call_at (verbs.Name name_verbs.Mark) (name, tt) = call.Mark name
call_at (verbs.Alone alone_verbs.Sum) tt = call.Sum
call_at (verbs.Alone alone_verbs.Table) tt = call.Table
call_at (verbs.Alone alone_verbs.Stand) tt = call.Stand
call_at (verbs.Alone alone_verbs.Marks) tt = call.Marks
call_at verbs.OfVm (vm, tt) = call.OfVm vm
call_at (verbs.Place place_verbs.OfPage) (vm, (page, tt)) = call.OfPage vm page
call_at (verbs.Place place_verbs.Advise) (vm, (page, tt)) = call.Advise vm page
call_at verbs.WhatIf events = call.WhatIf events
