-- Events that are read one by one from a text.
use Rattle.std.proofs.Common.{◌≡◌, ◌<◌, ◌+◌, length-append, ℕ, List, [], ◌∷◌, ◌++◌, length, arith, ap, sym, ◌∙◌, append_assoc, codes}
use Rattle.std.specs.Prelude.{flat_map}
use Rattle.std.specs.List.{AllByRecursion}
use Rattle.esx_events.specs.Lists.{IsTriable}
use Rattle.esx_events.specs.declared.event.Event.{Event}
use Rattle.esx_events.specs.declared.events.TheConstants.{MAX_EVENTS}
use Rattle.esx_reading.proofs.FieldLemmas.{others_of}
use Rattle.esx_words.specs.Commands.{event_text, IsEventInRange, SpellsEvent, list_text, AreListed}
use Rattle.esx_words.proofs.EventLemmas.{first_of}
use Rattle.esx_words.proofs.ListedLemmas.{parts, parts_at, one_or_more, parts_of_one, parts_of_more, same_parted, list_more}
use Rattle.esx_words.proofs.WordLemmas.{plain_event}

-- a text without a semicolon is that of one event
pub one_event : (text : List ℕ) → parts text ≡ text ∷ [] → (events : List Event) → AreListed events → text ≡ list_text events
    → (event : Event) × SpellsEvent text event
one_event text one [] are e = absurd (omega (arith, are.some))
one_event text one (x ∷ []) are e = (x, record { range = are.range.0; spelled = e })
one_event text one (x ∷ n ∷ xs) are e = absurd (one_or_more _ (32 ∷ list_text (n ∷ xs)) _ (sym (parts_of_more x n xs are.range.0) ∙ ap parts (sym e) ∙ one))

-- what a text that has a semicolon begins with, and what stands behind
pub record Begins (front behind : List ℕ) : Type 0 where
  pub event : Event
  pub spells : SpellsEvent front event
  pub later : List ℕ
  pub space : behind ≡ 32 ∷ later

pub begins : (text front behind : List ℕ) → parts text ≡ front ∷ parts behind → (events : List Event) → AreListed events → text ≡ list_text events
    → Begins front behind
begins text front behind cut [] are e = absurd (omega (arith, are.some))
begins text front behind cut (x ∷ []) are e = absurd (one_or_more _ behind _ (sym cut ∙ ap parts e ∙ parts_of_one x are.range.0))
begins text front behind cut (x ∷ n ∷ xs) are e =
    let whole = sym cut ∙ ap parts e ∙ parts_of_more x n xs are.range.0 in
    record {
      event = x;
      spells = record { range = are.range.0; spelled = first_of _ _ _ _ whole };
      later = list_text (n ∷ xs);
      space = same_parted behind (32 ∷ list_text (n ∷ xs)) (others_of _ _ _ _ whole);
    }

-- an event and what parts it from the next
abbrev pub ended_text : Event → List ℕ
ended_text event = event_text event ++ codes "; "

-- events that were read, and the text that is left
abbrev pub read_so_far : List Event → List ℕ → List ℕ
read_so_far events rest = flat_map ended_text events ++ rest

pub ended : (x : Event) (xs : List Event) (rest : List ℕ) → read_so_far (x ∷ xs) rest ≡ event_text x ++ 59 ∷ 32 ∷ read_so_far xs rest
ended x xs rest = append_assoc (ended_text x) (flat_map ended_text xs) rest ∙ append_assoc (event_text x) (codes "; ") (read_so_far xs rest)

pub one_event_more : (events : List Event) (event : Event) (rest later : List ℕ) → rest ≡ event_text event ++ (codes "; " ++ later)
    → read_so_far events rest ≡ read_so_far (events ++ event ∷ []) later
one_event_more [] event rest later e = e ∙ sym (ended event [] later)
one_event_more (x ∷ xs) event rest later e =
    ended x xs rest ∙ ap (λ t. event_text x ++ 59 ∷ 32 ∷ t) (one_event_more xs event rest later e) ∙ sym (ended x (xs ++ event ∷ []) later)

pub last_event : (events : List Event) (event : Event) (rest : List ℕ) → rest ≡ event_text event → read_so_far events rest ≡ list_text (events ++ event ∷ [])
last_event [] event rest e = e
last_event (x ∷ []) event rest e = ended x [] rest ∙ ap (λ t. event_text x ++ 59 ∷ 32 ∷ t) e ∙ sym (list_more x event [])
last_event (x ∷ y ∷ xs) event rest e =
    ended x (y ∷ xs) rest ∙ ap (λ t. event_text x ++ 59 ∷ 32 ∷ t) (last_event (y ∷ xs) event rest e) ∙ sym (list_more x y (xs ++ event ∷ []))

pub range_more : (events : List Event) (event : Event) → AllByRecursion IsEventInRange events → IsEventInRange event → AllByRecursion IsEventInRange (events ++ event ∷ [])
range_more [] event p q = (q, tt)
range_more (x ∷ xs) event p q = (p.0, range_more xs event p.1 q)

-- the events of a text that begins with some that were read
pub record Left (events all : List Event) (rest : List ℕ) : Type 0 where
  pub others : List Event
  pub listed : AreListed others
  pub same : rest ≡ list_text others
  pub count : length all ≡ length events + length others

pub left_of : (events all : List Event) (rest : List ℕ) → AllByRecursion IsEventInRange events → AreListed all → read_so_far events rest ≡ list_text all
    → Left events all rest
left_of [] all rest p are e = record { others = all; listed = are; same = e; count = omega arith }
left_of (x ∷ xs) [] rest p are e = absurd (omega (arith, are.some))
left_of (x ∷ xs) (y ∷ []) rest p are e =
    absurd (one_or_more _ (32 ∷ read_so_far xs rest) _ (sym (ap parts (ended x xs rest) ∙ parts_at (event_text x) (32 ∷ read_so_far xs rest) (plain_event x p.0)) ∙ ap parts e ∙ parts_of_one y are.range.0))
left_of (x ∷ xs) (y ∷ n ∷ ys) rest p are e =
    let whole = sym (ap parts (ended x xs rest) ∙ parts_at (event_text x) (32 ∷ read_so_far xs rest) (plain_event x p.0)) ∙ ap parts e ∙ parts_of_more y n ys are.range.0 in
    let behind = same_parted (32 ∷ read_so_far xs rest) (32 ∷ list_text (n ∷ ys)) (others_of _ _ _ _ whole) in
    let l = left_of xs (n ∷ ys) rest p.1 (record { some = omega arith; range = are.range.1 }) (others_of _ _ _ _ behind) in
    record { others = l.others; listed = l.listed; same = l.same; count = omega (arith, l.count) }

pub triable_more : (events : List Event) (event : Event) (n : ℕ) → length events ≡ n → n < MAX_EVENTS → IsTriable (events ++ event ∷ [])
triable_more events event n e lt =
    let long : length (events ++ event ∷ []) ≡ length events + 1 = length-append events (event ∷ []) in
    (omega (arith, long), omega (arith, long, e, lt))
