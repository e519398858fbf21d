-- The first words of commands.
use Rattle.std.specs.Prelude.{ℕ, List, codes, Option, Some, None, Bool, true, false}
use Rattle.esx_words.specs.declared.verbs.Verb.{Verb}
use Rattle.esx_words.specs.declared.verbs.Verb.TheVariants as verbs
use Rattle.esx_words.specs.declared.verbs.EventVerb.TheVariants as events
use Rattle.esx_words.specs.declared.verbs.MachineEvent.TheVariants as machine_events
use Rattle.esx_words.specs.declared.verbs.PlaceEvent.TheVariants as place_events
use Rattle.esx_words.specs.declared.verbs.NumberVerb.TheVariants as number_verbs
use Rattle.esx_words.specs.declared.verbs.NameVerb.TheVariants as name_verbs
use Rattle.esx_words.specs.declared.verbs.AloneVerb.TheVariants as alone_verbs
use Rattle.esx_words.specs.declared.verbs.PlaceVerb.TheVariants as place_verbs
use Rattle.esx_words.specs.Verbs.{verb_word}
use Rattle.esx_explained.specs.declared.command.Command.{Command}
use Rattle.esx_explained.specs.declared.command.Command.TheVariants as command

-- the command of the grammar that it is; a word of the console alone is none
abbrev pub verb_of : Command → Option Verb
verb_of command.Admit = Some (verbs.Event events.Admit)
verb_of command.Start = Some (verbs.Event (events.Machine machine_events.Start))
verb_of command.Ask = Some (verbs.Event (events.Machine machine_events.Ask))
verb_of command.Stop = Some (verbs.Event (events.Machine machine_events.Stop))
verb_of command.Gone = Some (verbs.Event (events.Machine machine_events.Gone))
verb_of command.Lend = Some (verbs.Event (events.Place place_events.Lend))
verb_of command.TakeBack = Some (verbs.Event (events.Place place_events.TakeBack))
verb_of command.Scan = Some (verbs.Event (events.Place place_events.Scan))
verb_of command.DropPage = Some (verbs.Event (events.Place place_events.DropPage))
verb_of command.Shares = Some (verbs.Event (events.Place place_events.SetShares))
verb_of command.VmTax = Some (verbs.Event (events.Place place_events.SetVmTax))
verb_of command.Read = Some (verbs.Event events.Read)
verb_of command.Write = Some (verbs.Event events.Write)
verb_of command.Sample = Some (verbs.Event events.Sample)
verb_of command.Rebalance = Some (verbs.Event events.Rebalance)
verb_of command.SwapOut = Some (verbs.Event events.SwapOut)
verb_of command.Replace = Some (verbs.Event events.Replace)
verb_of command.Tax = Some (verbs.Event events.SetTax)
verb_of command.Undo = Some (verbs.Number number_verbs.Undo)
verb_of command.Redo = Some (verbs.Number number_verbs.Redo)
verb_of command.Goto = Some (verbs.Number number_verbs.Goto)
verb_of command.Prune = Some (verbs.Number number_verbs.Prune)
verb_of command.Visit = Some (verbs.Name name_verbs.Visit)
verb_of command.Mark = Some (verbs.Name name_verbs.Mark)
verb_of command.Sum = Some (verbs.Alone alone_verbs.Sum)
verb_of command.Table = Some (verbs.Alone alone_verbs.Table)
verb_of command.Stand = Some (verbs.Alone alone_verbs.Stand)
verb_of command.Marks = Some (verbs.Alone alone_verbs.Marks)
verb_of command.OfVm = Some verbs.OfVm
verb_of command.OfPage = Some (verbs.Place place_verbs.OfPage)
verb_of command.Advise = Some (verbs.Place place_verbs.Advise)
verb_of command.WhatIf = Some verbs.WhatIf
verb_of command.Session = None
verb_of command.Order = None
verb_of command.PageOut = None

-- an event begins so
abbrev pub is_event_verb : Option Verb → Bool
is_event_verb (Some (verbs.Event verb)) = true
is_event_verb verb = false

abbrev pub is_event : Command → Bool
is_event c = is_event_verb (verb_of c)

-- the first word of a command: that of the grammar, or of the console alone
abbrev pub command_word : Command → List ℕ
command_word command.Admit = verb_word (verbs.Event events.Admit)
command_word command.Start = verb_word (verbs.Event (events.Machine machine_events.Start))
command_word command.Ask = verb_word (verbs.Event (events.Machine machine_events.Ask))
command_word command.Stop = verb_word (verbs.Event (events.Machine machine_events.Stop))
command_word command.Gone = verb_word (verbs.Event (events.Machine machine_events.Gone))
command_word command.Lend = verb_word (verbs.Event (events.Place place_events.Lend))
command_word command.TakeBack = verb_word (verbs.Event (events.Place place_events.TakeBack))
command_word command.Scan = verb_word (verbs.Event (events.Place place_events.Scan))
command_word command.DropPage = verb_word (verbs.Event (events.Place place_events.DropPage))
command_word command.Shares = verb_word (verbs.Event (events.Place place_events.SetShares))
command_word command.VmTax = verb_word (verbs.Event (events.Place place_events.SetVmTax))
command_word command.Read = verb_word (verbs.Event events.Read)
command_word command.Write = verb_word (verbs.Event events.Write)
command_word command.Sample = verb_word (verbs.Event events.Sample)
command_word command.Rebalance = verb_word (verbs.Event events.Rebalance)
command_word command.SwapOut = verb_word (verbs.Event events.SwapOut)
command_word command.Replace = verb_word (verbs.Event events.Replace)
command_word command.Tax = verb_word (verbs.Event events.SetTax)
command_word command.Undo = verb_word (verbs.Number number_verbs.Undo)
command_word command.Redo = verb_word (verbs.Number number_verbs.Redo)
command_word command.Goto = verb_word (verbs.Number number_verbs.Goto)
command_word command.Prune = verb_word (verbs.Number number_verbs.Prune)
command_word command.Visit = verb_word (verbs.Name name_verbs.Visit)
command_word command.Mark = verb_word (verbs.Name name_verbs.Mark)
command_word command.Sum = verb_word (verbs.Alone alone_verbs.Sum)
command_word command.Table = verb_word (verbs.Alone alone_verbs.Table)
command_word command.Stand = verb_word (verbs.Alone alone_verbs.Stand)
command_word command.Marks = verb_word (verbs.Alone alone_verbs.Marks)
command_word command.OfVm = verb_word verbs.OfVm
command_word command.OfPage = verb_word (verbs.Place place_verbs.OfPage)
command_word command.Advise = verb_word (verbs.Place place_verbs.Advise)
command_word command.WhatIf = verb_word verbs.WhatIf
command_word command.Session = codes "session"
command_word command.Order = codes "order"
command_word command.PageOut = codes "pageout"
