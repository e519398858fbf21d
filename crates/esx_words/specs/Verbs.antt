-- The first words of commands.
use Rattle.std.specs.Prelude.{ℕ, List}
use Rattle.esx_words.specs.declared.verbs.Verb.{Verb}
use Rattle.esx_words.specs.declared.verbs.Verb.TheVariants as verbs
use Rattle.esx_words.specs.declared.verbs.EventVerb.{EventVerb}
use Rattle.esx_words.specs.declared.verbs.EventVerb.TheVariants as events
use Rattle.esx_words.specs.declared.verbs.MachineEvent.TheVariants as machine_events
use Rattle.esx_words.specs.declared.verbs.PlaceEvent.TheVariants as place_events
use Rattle.esx_words.specs.declared.verbs.NumberVerb.TheVariants as number_verbs
use Rattle.esx_words.specs.declared.verbs.NameVerb.TheVariants as name_verbs
use Rattle.esx_words.specs.declared.verbs.AloneVerb.TheVariants as alone_verbs
use Rattle.esx_words.specs.declared.verbs.PlaceVerb.TheVariants as place_verbs
use Rattle.esx_words.specs.declared.verbs.TheConstants as letters

abbrev pub event_word : EventVerb → List ℕ
event_word events.Admit = letters.ADMIT.now
event_word (events.Machine machine_events.Start) = letters.START.now
event_word (events.Machine machine_events.Ask) = letters.ASK.now
event_word (events.Machine machine_events.Stop) = letters.STOP.now
event_word (events.Machine machine_events.Gone) = letters.GONE.now
event_word (events.Place place_events.Lend) = letters.LEND.now
event_word (events.Place place_events.TakeBack) = letters.TAKEBACK.now
event_word (events.Place place_events.Scan) = letters.SCAN.now
event_word (events.Place place_events.DropPage) = letters.DROP.now
event_word (events.Place place_events.SetShares) = letters.SHARES.now
event_word (events.Place place_events.SetVmTax) = letters.VMTAX.now
event_word events.Read = letters.READ.now
event_word events.Write = letters.WRITE.now
event_word events.Sample = letters.SAMPLE.now
event_word events.Rebalance = letters.REBALANCE.now
event_word events.SwapOut = letters.SWAPOUT.now
event_word events.Replace = letters.REPLACE.now
event_word events.SetTax = letters.TAX.now

abbrev pub verb_word : Verb → List ℕ
verb_word (verbs.Event verb) = event_word verb
verb_word (verbs.Number number_verbs.Undo) = letters.UNDO.now
verb_word (verbs.Number number_verbs.Redo) = letters.REDO.now
verb_word (verbs.Number number_verbs.Goto) = letters.GOTO.now
verb_word (verbs.Number number_verbs.Prune) = letters.PRUNE.now
verb_word (verbs.Name name_verbs.Visit) = letters.VISIT.now
verb_word (verbs.Name name_verbs.Mark) = letters.MARK.now
verb_word (verbs.Alone alone_verbs.Sum) = letters.SUM.now
verb_word (verbs.Alone alone_verbs.Table) = letters.TABLE.now
verb_word (verbs.Alone alone_verbs.Stand) = letters.WHERE.now
verb_word (verbs.Alone alone_verbs.Marks) = letters.MARKS.now
verb_word verbs.OfVm = letters.VM.now
verb_word (verbs.Place place_verbs.OfPage) = letters.PAGE.now
verb_word (verbs.Place place_verbs.Advise) = letters.ADVISE.now
verb_word verbs.WhatIf = letters.WHATIF.now
