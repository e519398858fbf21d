-- Texts behind the first part of a command.
use Rattle.std.specs.Prelude.{ℕ, List, [], ◌∷◌, ◌++◌, codes, decimal, Option, None, Some}
use Rattle.esx_types.specs.declared.vm.VmSpec.{VmSpec}
use Rattle.esx_events.specs.declared.event.Event.{Event}
use Rattle.esx_reading.specs.Fields.{joined}
use Rattle.esx_words.specs.declared.verbs.Verb.TheVariants as verbs
use Rattle.esx_words.specs.declared.verbs.EventVerb.TheVariants as events
use Rattle.esx_words.specs.Verbs.{event_word, verb_word}
use Rattle.esx_words.specs.Commands.{event_words}

-- a further word
abbrev pub word_text : ℕ → List ℕ
word_text word = codes " " ++ decimal word

-- the same, if there is one
abbrev pub perhaps_text : Option ℕ → List ℕ
perhaps_text None = []
perhaps_text (Some word) = word_text word

-- what a machine asks for, but for a tax of its own
abbrev pub spec_head : List ℕ → ℕ → VmSpec → List ℕ
spec_head verb vm spec =
    joined (verb ∷ decimal vm ∷ decimal spec.min ∷ decimal spec.max ∷ decimal spec.overhead ∷ decimal spec.shares ∷ decimal spec.balloon_max ∷ [])

-- a further event that is tried
abbrev pub next_text : Event → List ℕ
next_text event = codes "; " ++ joined (event_words event)

abbrev pub sample_head : ℕ → ℕ → List ℕ
sample_head vm length = joined (event_word events.Sample ∷ decimal vm ∷ decimal length ∷ [])

-- what stands before events that are tried
abbrev pub tried_head : List ℕ
tried_head = verb_word verbs.WhatIf ++ codes " "
