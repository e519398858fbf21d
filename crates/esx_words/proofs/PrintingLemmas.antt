-- Spellings made part by part.
use Rattle.std.proofs.Common.{◌≡◌, ℕ, List, [], ◌∷◌, ◌++◌, Option, None, Some, Result, refl, sym, ◌∙◌, ap, append_assoc, append-nil, codes, decimal}
use Rattle.std.specs.Prelude.{flat_map, map, OnOk}
use Rattle.std.specs.Str.{IsUtf8}
use Rattle.esx_events.specs.declared.event.Event.{Event}
use Rattle.esx_reading.specs.Fields.{joined}
use Rattle.esx_words.specs.declared.verbs.Verb.TheVariants as verbs
use Rattle.esx_words.specs.declared.verbs.EventVerb.TheVariants as events
use Rattle.esx_words.specs.Verbs.{event_word, verb_word}
use Rattle.esx_words.specs.Commands.{event_words, list_words, list_text}
use Rattle.esx_words.proofs.ListedLemmas.{list_head, list_more}
use Rattle.esx_types.specs.declared.vm.VmSpec.{VmSpec}
use Rattle.esx_words.specs.Kinds.{perhaps_number}
use Rattle.esx_words.specs.Printing.{word_text, perhaps_text, spec_head, next_text, sample_head, tried_head}
use Rattle.esx_writing.specs.Writing.{Puts}

pub puts_same : {T E : Type 0} (a b : Option (List ℕ)) (h k x y : List ℕ) (r : Result T E) → x ≡ y → Puts a h b k x r → Puts a h b k y r
puts_same a b h k x y r e p = rw (← e) p

pub utf8_same : {T E : Type 0} (x y : List ℕ) (r : Result T E) → x ≡ y → OnOk r (IsUtf8 x) → OnOk r (IsUtf8 y)
utf8_same x y r e p = rw (← e) p

words_behind : (x : List ℕ) (ws : List ℕ) → x ++ flat_map word_text ws ≡ joined (x ∷ map decimal ws)
words_behind x [] = append-nil x
words_behind x (w ∷ ws) = ap (λ v. x ++ v) (ap (λ v. 32 ∷ v) (words_behind (decimal w) ws))

pub sample_is : (vm length : ℕ) (ws : List ℕ) → sample_head vm length ++ flat_map word_text ws ≡ joined (event_word events.Sample ∷ decimal vm ∷ decimal length ∷ map decimal ws)
sample_is vm length ws =
    ap (λ v. event_word events.Sample ++ 32 ∷ v) (append_assoc (decimal vm) (32 ∷ decimal length) (flat_map word_text ws)
    ∙ ap (λ v. decimal vm ++ 32 ∷ v) (words_behind (decimal length) ws))

perhaps_behind : (w : List ℕ) (ws : List (List ℕ)) (n : Option ℕ) → joined (w ∷ ws) ++ perhaps_text n ≡ joined (w ∷ (ws ++ perhaps_number n))
perhaps_behind w [] None = append-nil w
perhaps_behind w [] (Some n) = refl
perhaps_behind w (v ∷ vs) n = append_assoc w (32 ∷ joined (v ∷ vs)) (perhaps_text n) ∙ ap (λ t. w ++ 32 ∷ t) (perhaps_behind v vs n)

pub spec_is : (verb : List ℕ) (vm : ℕ) (spec : VmSpec) → spec_head verb vm spec ++ perhaps_text spec.tau
    ≡ joined (verb ∷ decimal vm ∷ decimal spec.min ∷ decimal spec.max ∷ decimal spec.overhead ∷ decimal spec.shares ∷ decimal spec.balloon_max ∷ perhaps_number spec.tau)
spec_is verb vm spec =
    perhaps_behind verb (decimal vm ∷ decimal spec.min ∷ decimal spec.max ∷ decimal spec.overhead ∷ decimal spec.shares ∷ decimal spec.balloon_max ∷ []) spec.tau

pub list_is : (first : Event) (others : List Event) → joined (event_words first) ++ flat_map next_text others ≡ list_text (first ∷ others)
list_is first [] = append-nil (joined (event_words first))
list_is first (next ∷ others) = ap (λ t. joined (event_words first) ++ (codes "; " ++ t)) (list_is next others) ∙ sym (list_more first next others)

pub tried_is : (first : Event) (others : List Event) → tried_head ++ (joined (event_words first) ++ flat_map next_text others) ≡ joined (verb_word verbs.WhatIf ∷ list_words (first ∷ others))
tried_is first others =
    let head = list_head first others in
    ap (λ t. tried_head ++ t) (list_is first others ∙ ap joined head.2) ∙ ap (λ t. joined (verb_word verbs.WhatIf ∷ t)) (sym head.2)
