-- Events parted by semicolons: their words, their text, and that a text has them in one way.
use Rattle.std.proofs.Common.{◌≡◌, ◌<◌, ◌≤◌, ℕ, List, [], ◌∷◌, ◌++◌, length, arith, refl, ap, sym, ◌∙◌, append_assoc, codes, false, lit<}
use Rattle.std.specs.List.{AllByRecursion, slice_split, join_with_byte, position_or_len, before_first, after_first}
use Rattle.std.proofs.Math.Dec.{eqb}
use Rattle.std.proofs.lemmas.List.Splits.{slice_split_first, slice_split_none, slice_split_at, join_with_byte-slice_split, length-slice_split}
use Rattle.std.proofs.lemmas.List.Sums.{fails_before_first}
use Rattle.std.proofs.lemmas.List.Elements.{All-from_recursion, All-append}
use Rattle.esx_events.specs.declared.event.Event.{Event}
use Rattle.esx_reading.specs.Fields.{fields, joined}
use Rattle.esx_reading.proofs.FieldLemmas.{IsField, fields_of_joined, others_of}
use Rattle.esx_words.specs.declared.verbs.Verb.TheVariants as verbs
use Rattle.esx_words.specs.Verbs.{event_word}
use Rattle.esx_words.specs.Kinds.{value_words}
use Rattle.esx_words.specs.Commands.{event_words, event_verb, event_kinds, event_values, event_text, IsEventInRange, list_words, list_text, with_semicolon}
use Rattle.esx_words.proofs.WordLemmas.{LacksSemicolon, plain_event, verb_is_word, values_are_words, fields_of_words}
use Rattle.esx_words.proofs.EventLemmas.{first_of, both_of, same_event_text}

-- the last word ends in a semicolon
semicolon_behind : (w : List ℕ) (ws : List (List ℕ)) (v : List ℕ) (vs : List (List ℕ))
    → joined (with_semicolon (w ∷ ws) ++ (v ∷ vs)) ≡ joined (w ∷ ws) ++ (codes "; " ++ joined (v ∷ vs))
semicolon_behind w [] v vs = append_assoc w (59 ∷ []) (32 ∷ joined (v ∷ vs))
semicolon_behind w (u ∷ []) v vs = ap (λ t. w ++ 32 ∷ t) (semicolon_behind u [] v vs) ∙ sym (append_assoc w (32 ∷ joined (u ∷ [])) (codes "; " ++ joined (v ∷ vs)))
semicolon_behind w (u ∷ x ∷ ws) v vs =
    ap (λ t. w ++ 32 ∷ t) (semicolon_behind u (x ∷ ws) v vs) ∙ sym (append_assoc w (32 ∷ joined (u ∷ x ∷ ws)) (codes "; " ++ joined (v ∷ vs)))

with_first : (w : List ℕ) (ws more : List (List ℕ)) → (v : List ℕ) × (vs : List (List ℕ)) × (with_semicolon (w ∷ ws) ++ more ≡ v ∷ vs)
with_first w [] more = (w ++ 59 ∷ [], more, refl)
with_first w (u ∷ ws) more = (w, with_semicolon (u ∷ ws) ++ more, refl)

-- the first word of an event and the others
pub list_head : (event : Event) (others : List Event) → (w : List ℕ) × (ws : List (List ℕ)) × (list_words (event ∷ others) ≡ w ∷ ws)
list_head event [] = (event_word (event_verb event), value_words (event_kinds (event_verb event)) (event_values event), refl)
list_head event (next ∷ others) = with_first (event_word (event_verb event)) (value_words (event_kinds (event_verb event)) (event_values event)) (list_words (next ∷ others))

pub list_more : (first next : Event) (others : List Event) → list_text (first ∷ next ∷ others) ≡ event_text first ++ (codes "; " ++ list_text (next ∷ others))
list_more first next others =
    let head = list_head next others in
    ap (λ t. joined (with_semicolon (event_words first) ++ t)) head.2
    ∙ semicolon_behind (event_word (event_verb first)) (value_words (event_kinds (event_verb first)) (event_values first)) head.0 head.1
    ∙ ap (λ t. event_text first ++ (codes "; " ++ joined t)) (sym head.2)

both_fields : (xs ys : List (List ℕ)) → AllByRecursion IsField xs → AllByRecursion IsField ys → AllByRecursion IsField (xs ++ ys)
both_fields [] ys p q = q
both_fields (x ∷ xs) ys p q = (p.0, both_fields xs ys p.1 q)

semicolon_field : (w : List ℕ) → IsField w → IsField (w ++ 59 ∷ [])
semicolon_field w h = record {
  each = All-append (λ b. eqb b 32 ≡ false) w (59 ∷ []) h.each (All-from_recursion (λ b. eqb b 32 ≡ false) (59 ∷ []) (refl, tt));
  ascii = All-append (λ b. b < 128) w (59 ∷ []) h.ascii (All-from_recursion (λ b. b < 128) (59 ∷ []) (lit< tt, tt));
}

semicolon_fields : (ws : List (List ℕ)) → AllByRecursion IsField ws → AllByRecursion IsField (with_semicolon ws)
semicolon_fields [] p = tt
semicolon_fields (w ∷ []) p = (semicolon_field w p.0, tt)
semicolon_fields (w ∷ v ∷ ws) p = (p.0, semicolon_fields (v ∷ ws) p.1)

event_fields : (e : Event) → IsEventInRange e → AllByRecursion IsField (event_words e)
event_fields e r = ((verb_is_word (verbs.Event (event_verb e))).field, fields_of_words _ (values_are_words (event_kinds (event_verb e)) (event_values e) r))

pub list_fields : (events : List Event) → AllByRecursion IsEventInRange events → AllByRecursion IsField (list_words events)
list_fields [] p = tt
list_fields (e ∷ []) p = event_fields e p.0
list_fields (e ∷ n ∷ events) p = both_fields (with_semicolon (event_words e)) (list_words (n ∷ events)) (semicolon_fields (event_words e) (event_fields e p.0)) (list_fields (n ∷ events) p.1)

fields_of_some : (ws : List (List ℕ)) (v : List ℕ) (vs : List (List ℕ)) → ws ≡ v ∷ vs → AllByRecursion IsField ws → fields (joined ws) ≡ ws
fields_of_some ws v vs e p = rw e (let q = rw e at p in fields_of_joined v vs q.0 q.1)

-- the fields of the text of events are their words
pub fields_of_list : (events : List Event) → 1 ≤ length events → AllByRecursion IsEventInRange events → fields (list_text events) ≡ list_words events
fields_of_list [] some p = absurd (omega (arith, some))
fields_of_list (e ∷ events) some p = let head = list_head e events in fields_of_some (list_words (e ∷ events)) head.0 head.1 head.2 (list_fields (e ∷ events) p)

pub some_words : (events : List Event) → 1 ≤ length events → list_words events ≡ [] → ⊥
some_words [] some e = absurd (omega (arith, some))
some_words (x ∷ events) some e = let head = list_head x events in let f = sym head.2 ∙ e in cc

-- the parts of a text between its semicolons
abbrev pub parts : List ℕ → List (List ℕ)
parts = slice_split (λ b. eqb b 59)

pub one_part : (text : List ℕ) → LacksSemicolon text → parts text ≡ text ∷ []
one_part text h = slice_split_none (λ b. eqb b 59) text h

pub parts_at : (front behind : List ℕ) → LacksSemicolon front → parts (front ++ 59 ∷ behind) ≡ front ∷ parts behind
parts_at front behind h = slice_split_at (λ b. eqb b 59) front 59 behind h refl

pub next_part : (text front behind : List ℕ) → position_or_len (λ b. eqb b 59) text < length text
    → front ≡ before_first (λ b. eqb b 59) text → behind ≡ after_first (λ b. eqb b 59) text → parts text ≡ front ∷ parts behind
next_part text front behind within f b = rw (f, b) (slice_split_first (λ b. eqb b 59) text 0 within)

pub last_part : (text : List ℕ) → position_or_len (λ b. eqb b 59) text ≡ length text → parts text ≡ text ∷ []
last_part text none = slice_split_none (λ b. eqb b 59) text (λ k d lt. fails_before_first (λ b. eqb b 59) text k d (omega arith))

pub same_parted : (x y : List ℕ) → parts x ≡ parts y → x ≡ y
same_parted x y e = sym (join_with_byte-slice_split 59 x) ∙ ap (join_with_byte 59) e ∙ join_with_byte-slice_split 59 y

pub some_part : (text : List ℕ) → parts text ≡ [] → ⊥
some_part text e = let n = ap length e ∙ refl in omega (arith, length-slice_split (λ b. eqb b 59) text, n)

pub parts_of_one : (e : Event) → IsEventInRange e → parts (event_text e) ≡ event_text e ∷ []
parts_of_one e r = one_part (event_text e) (plain_event e r)

pub parts_of_more : (e n : Event) (events : List Event) → IsEventInRange e → parts (list_text (e ∷ n ∷ events)) ≡ event_text e ∷ parts (32 ∷ list_text (n ∷ events))
parts_of_more e n events r = ap parts (list_more e n events) ∙ parts_at (event_text e) (32 ∷ list_text (n ∷ events)) (plain_event e r)

-- a list of one is no longer list
pub one_or_more : (front behind text : List ℕ) → front ∷ parts behind ≡ text ∷ [] → ⊥
one_or_more front behind text e = some_part behind (others_of _ _ _ _ e)

same_list : (x : Event) (xs : List Event) (y : Event) (ys : List Event) → AllByRecursion IsEventInRange (x ∷ xs) → AllByRecursion IsEventInRange (y ∷ ys)
    → list_text (x ∷ xs) ≡ list_text (y ∷ ys) → x ∷ xs ≡ y ∷ ys
same_list x [] y [] p q e = both_of x y [] [] (same_event_text x y p.0 q.0 e) refl
same_list x [] y (m ∷ ys) p q e = absurd (one_or_more _ (32 ∷ list_text (m ∷ ys)) _ (sym (parts_of_more y m ys q.0) ∙ ap parts (sym e) ∙ parts_of_one x p.0))
same_list x (n ∷ xs) y [] p q e = absurd (one_or_more _ (32 ∷ list_text (n ∷ xs)) _ (sym (parts_of_more x n xs p.0) ∙ ap parts e ∙ parts_of_one y q.0))
same_list x (n ∷ xs) y (m ∷ ys) p q e =
    let whole = sym (parts_of_more x n xs p.0) ∙ ap parts e ∙ parts_of_more y m ys q.0 in
    let behind = same_parted (32 ∷ list_text (n ∷ xs)) (32 ∷ list_text (m ∷ ys)) (others_of _ _ _ _ whole) in
    both_of x y (n ∷ xs) (m ∷ ys) (same_event_text x y p.0 q.0 (first_of _ _ _ _ whole)) (same_list n xs m ys p.1 q.1 (others_of _ _ _ _ behind))

pub same_lists : (xs ys : List Event) → 1 ≤ length xs → 1 ≤ length ys → AllByRecursion IsEventInRange xs → AllByRecursion IsEventInRange ys
    → list_text xs ≡ list_text ys → xs ≡ ys
same_lists [] ys a b p q e = absurd (omega (arith, a))
same_lists (x ∷ xs) [] a b p q e = absurd (omega (arith, b))
same_lists (x ∷ xs) (y ∷ ys) a b p q e = same_list x xs y ys p q e
