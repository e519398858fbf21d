-- The grammar of commands: a table with a line for each.
use Rattle.std.specs.Prelude.{ℕ, IsTrue, List, [], ◌∷◌, ◌++◌, ◌≡◌, ◌≤◌, ◌⊎◌, length, codes}
use Rattle.std.specs.List.{All, AllByRecursion}
use Rattle.std.specs.Str.{IsAscii}
use Rattle.esx_events.specs.Lists.{IsTriable}
use Rattle.esx_events.specs.Names.{starts_lower}
use Rattle.esx_events.specs.declared.event.Event.{Event}
use Rattle.esx_events.specs.declared.event.Event.TheVariants as event
use Rattle.esx_events.specs.declared.call.Call.{Call}
use Rattle.esx_events.specs.declared.call.Call.TheVariants as call
use Rattle.esx_words.specs.declared.verbs.Verb.{Verb}
use Rattle.esx_words.specs.declared.verbs.Verb.TheVariants as verbs
use Rattle.esx_words.specs.declared.verbs.EventVerb.{EventVerb}
use Rattle.esx_words.specs.declared.verbs.EventVerb.TheVariants as events
use Rattle.esx_words.specs.declared.verbs.MachineEvent.TheVariants as machine_events
use Rattle.esx_words.specs.declared.verbs.PlaceEvent.TheVariants as place_events
use Rattle.esx_words.specs.declared.verbs.NumberVerb.TheVariants as number_verbs
use Rattle.esx_words.specs.declared.verbs.NameVerb.TheVariants as name_verbs
use Rattle.esx_words.specs.declared.verbs.AloneVerb.TheVariants as alone_verbs
use Rattle.esx_words.specs.declared.verbs.PlaceVerb.TheVariants as place_verbs
use Rattle.esx_words.specs.Kinds.{Kinds, Values, value_words, AreValues, TakeMemory}
use Rattle.esx_words.specs.Kinds.Kind.{Machine, Number, Word, Hex, Name}
use Rattle.esx_words.specs.Kinds.Kinds.{End, Then, PerhapsNumber, Words}
use Rattle.esx_words.specs.Verbs.{event_word, verb_word}
use Rattle.esx_reading.specs.Fields.{joined, fields}

-- what stands behind the first word of an event
abbrev pub event_kinds : EventVerb → Kinds
event_kinds events.Admit = Then Machine (Then Number (Then Number (Then Number (Then Number (Then Number PerhapsNumber)))))
event_kinds (events.Machine verb) = Then Machine End
event_kinds (events.Place verb) = Then Machine (Then Number End)
event_kinds events.Read = Then Machine (Then Number (Then Number (Then Number End)))
event_kinds events.Write = Then Machine (Then Number (Then Number (Then Hex End)))
event_kinds events.Sample = Then Machine (Then Number Words)
event_kinds events.Rebalance = End
event_kinds events.SwapOut = Then Machine (Then Word End)
event_kinds events.Replace = Then Machine (Then Number (Then Word End))
event_kinds events.SetTax = Then Number End

abbrev pub event_verb : Event → EventVerb
event_verb (event.Admit vm spec) = events.Admit
event_verb (event.Start vm) = events.Machine machine_events.Start
event_verb (event.Read vm page at len) = events.Read
event_verb (event.Write vm page at bytes) = events.Write
event_verb (event.Ask vm) = events.Machine machine_events.Ask
event_verb (event.Lend vm page) = events.Place place_events.Lend
event_verb (event.TakeBack vm page) = events.Place place_events.TakeBack
event_verb (event.Sample vm length words) = events.Sample
event_verb event.Rebalance = events.Rebalance
event_verb (event.Scan vm page) = events.Place place_events.Scan
event_verb (event.SwapOut vm word) = events.SwapOut
event_verb (event.Replace vm page word) = events.Replace
event_verb (event.SetShares vm shares) = events.Place place_events.SetShares
event_verb (event.SetTax tau) = events.SetTax
event_verb (event.SetVmTax vm tau) = events.Place place_events.SetVmTax
event_verb (event.Stop vm) = events.Machine machine_events.Stop
event_verb (event.DropPage vm page) = events.Place place_events.DropPage
event_verb (event.Gone vm) = events.Machine machine_events.Gone

abbrev pub event_values : (event : Event) → Values (event_kinds (event_verb event))
event_values (event.Admit vm spec) = (vm, (spec.min, (spec.max, (spec.overhead, (spec.shares, (spec.balloon_max, spec.tau))))))
event_values (event.Start vm) = (vm, tt)
event_values (event.Read vm page at len) = (vm, (page, (at, (len, tt))))
event_values (event.Write vm page at bytes) = (vm, (page, (at, (bytes, tt))))
event_values (event.Ask vm) = (vm, tt)
event_values (event.Lend vm page) = (vm, (page, tt))
event_values (event.TakeBack vm page) = (vm, (page, tt))
event_values (event.Sample vm length words) = (vm, (length, words))
event_values event.Rebalance = tt
event_values (event.Scan vm page) = (vm, (page, tt))
event_values (event.SwapOut vm word) = (vm, (word, tt))
event_values (event.Replace vm page word) = (vm, (page, (word, tt)))
event_values (event.SetShares vm shares) = (vm, (shares, tt))
event_values (event.SetTax tau) = (tau, tt)
event_values (event.SetVmTax vm tau) = (vm, (tau, tt))
event_values (event.Stop vm) = (vm, tt)
event_values (event.DropPage vm page) = (vm, (page, tt))
event_values (event.Gone vm) = (vm, tt)

-- the words of an event, and whether a line can have its numbers
abbrev pub event_words : Event → List (List ℕ)
event_words event = event_word (event_verb event) ∷ value_words (event_kinds (event_verb event)) (event_values event)

abbrev pub IsEventInRange : Event → Type 0
IsEventInRange event = AreValues (event_kinds (event_verb event)) (event_values event)

-- the one spelling of an event
abbrev pub event_text : Event → List ℕ
event_text event = joined (event_words event)

-- the text is the line of the event
pub record SpellsEvent (text : List ℕ) (event : Event) : Type 0 where
  pub range : IsEventInRange event
  pub spelled : text ≡ event_text event

-- the last of some words ends in a semicolon
abbrev pub with_semicolon : List (List ℕ) → List (List ℕ)
with_semicolon [] = []
with_semicolon (word ∷ []) = (word ++ 59 ∷ []) ∷ []
with_semicolon (word ∷ next ∷ words) = word ∷ with_semicolon (next ∷ words)

abbrev pub list_words : List Event → List (List ℕ)
list_words [] = []
list_words (event ∷ []) = event_words event
list_words (event ∷ next ∷ others) = with_semicolon (event_words event) ++ list_words (next ∷ others)

-- the one spelling of events in their order: a semicolon and a space part each from the next
abbrev pub list_text : List Event → List ℕ
list_text events = joined (list_words events)

-- some events, each with numbers that a line can have
pub record AreListed (events : List Event) : Type 0 where
  pub some : 1 ≤ length events
  pub range : AllByRecursion IsEventInRange events

-- what stands behind the first word of a call: values, or events parted by semicolons
pub data Form : Type 0 where
  Plain : Kinds → Form
  Tried : Form

abbrev pub verb_form : Verb → Form
verb_form (verbs.Event verb) = Form.Plain (event_kinds verb)
verb_form (verbs.Number verb) = Form.Plain (Then Number End)
verb_form (verbs.Name verb) = Form.Plain (Then Name End)
verb_form (verbs.Alone verb) = Form.Plain End
verb_form verbs.OfVm = Form.Plain (Then Machine End)
verb_form (verbs.Place verb) = Form.Plain (Then Machine (Then Number End))
verb_form verbs.WhatIf = Form.Tried

abbrev pub Operands : Form → Type 0
Operands (Form.Plain kinds) = Values kinds
Operands Form.Tried = List Event

abbrev pub operand_words : (form : Form) → Operands form → List (List ℕ)
operand_words (Form.Plain kinds) x = value_words kinds x
operand_words Form.Tried events = list_words events

abbrev pub AreOperands : (form : Form) → Operands form → Type 0
AreOperands (Form.Plain kinds) x = AreValues kinds x
AreOperands Form.Tried events = IsTriable events × AllByRecursion IsEventInRange events

-- the words begin with the first of an event whose values take memory
abbrev pub EventTakesMemory : List (List ℕ) → Type 0
EventTakesMemory words = (verb : EventVerb) × (others : List (List ℕ)) × (words ≡ event_word verb ∷ others) × TakeMemory (event_kinds verb) others

-- no semicolon stands in the bytes
abbrev pub HasNoSemicolon : List ℕ → Type 0
HasNoSemicolon = All (λ b. b ≡ 59 → ⊥)

-- the text begins with this part, and a semicolon and a space stand behind it, or nothing does
pub record BeginsWith (part text : List ℕ) : Type 0 where
  pub plain : HasNoSemicolon part
  pub behind : (text ≡ part) ⊎ ((later : List ℕ) × (text ≡ part ++ (codes "; " ++ later)))

-- events that are tried take memory: the first is read, and there has to be room for it, or it takes memory itself
pub record ListTakesMemory (text : List ℕ) : Type 0 where
  pub part : List ℕ
  pub begins : BeginsWith part text
  pub first : ((event : Event) × SpellsEvent part event) ⊎ EventTakesMemory (fields part)

abbrev pub OperandsTakeMemory : Form → List (List ℕ) → Type 0
OperandsTakeMemory (Form.Plain kinds) words = TakeMemory kinds words
OperandsTakeMemory Form.Tried words = ListTakesMemory (joined words)

abbrev pub verb : Call → Verb
verb (call.Do event) = verbs.Event (event_verb event)
verb (call.Undo count) = verbs.Number number_verbs.Undo
verb (call.Redo count) = verbs.Number number_verbs.Redo
verb (call.Goto node) = verbs.Number number_verbs.Goto
verb (call.Visit name) = verbs.Name name_verbs.Visit
verb (call.Mark name) = verbs.Name name_verbs.Mark
verb (call.Prune node) = verbs.Number number_verbs.Prune
verb (call.WhatIf events) = verbs.WhatIf
verb call.Sum = verbs.Alone alone_verbs.Sum
verb call.Table = verbs.Alone alone_verbs.Table
verb (call.OfVm vm) = verbs.OfVm
verb (call.OfPage vm page) = verbs.Place place_verbs.OfPage
verb (call.Advise vm page) = verbs.Place place_verbs.Advise
verb call.Stand = verbs.Alone alone_verbs.Stand
verb call.Marks = verbs.Alone alone_verbs.Marks

abbrev pub operands : (call : Call) → Operands (verb_form (verb call))
operands (call.Do event) = event_values event
operands (call.Undo count) = (count, tt)
operands (call.Redo count) = (count, tt)
operands (call.Goto node) = (node, tt)
operands (call.Visit name) = (name, tt)
operands (call.Mark name) = (name, tt)
operands (call.Prune node) = (node, tt)
operands (call.WhatIf events) = events
operands call.Sum = tt
operands call.Table = tt
operands (call.OfVm vm) = (vm, tt)
operands (call.OfPage vm page) = (vm, (page, tt))
operands (call.Advise vm page) = (vm, (page, tt))
operands call.Stand = tt
operands call.Marks = tt

-- the words of a call
abbrev pub words_of : Call → List (List ℕ)
words_of call = verb_word (verb call) ∷ operand_words (verb_form (verb call)) (operands call)

-- the numbers, names and bytes that a line can have
abbrev pub IsInRange : Call → Type 0
IsInRange call = AreOperands (verb_form (verb call)) (operands call)

-- the one spelling of a call
abbrev pub spelling : Call → List ℕ
spelling call = joined (words_of call)

-- the text is the line of the call
pub record Spells (text : List ℕ) (call : Call) : Type 0 where
  pub range : IsInRange call
  pub spelled : text ≡ spelling call

-- some words begin with the first of a command whose operands take memory, and the operands before the one that
-- takes it stand behind; the same of the words of a text
abbrev pub BeginTakingMemory : List (List ℕ) → Type 0
BeginTakingMemory words = (verb : Verb) × (others : List (List ℕ)) × (words ≡ verb_word verb ∷ others) × OperandsTakeMemory (verb_form verb) others

abbrev pub MayTakeMemory : List ℕ → Type 0
MayTakeMemory text = BeginTakingMemory (fields text)

-- a text spells one call at most
abbrev pub SpellsOneCall : List ℕ → Type 0
SpellsOneCall text = (a b : Call) → Spells text a → Spells text b → a ≡ b

-- the line of a call is ASCII, and begins with a lower-case letter
abbrev pub SpellsInAscii : List ℕ → Type 0
SpellsInAscii text = (call : Call) → Spells text call → IsAscii text

abbrev pub SpellsFromLetter : List ℕ → Type 0
SpellsFromLetter text = (call : Call) → Spells text call → IsTrue (starts_lower text)
