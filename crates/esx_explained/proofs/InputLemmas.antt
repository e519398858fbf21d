-- What is known of an input, byte by byte and piece by piece.
use Rattle.std.proofs.Common.{ℕ, zero, suc, Bool, true, false, List, [], ◌∷◌, ◌++◌, ◌≡◌, ◌==◌, ◌<◌, ◌≤◌, ◌+◌, ◌-◌, ◌^◌, cond, min, not, length, take, drop, map, get_or, Some, None, refl, sym, ap, ◌∙◌, subst, arith, lit≤, append_assoc, append-nil, length-append, length-take, zero-add, eqb-true}
use Rattle.std.specs.List.{All, flat_map, position, position_or_len}
use Rattle.std.proofs.lemmas.Bool.{lt-ltb, le-ltb, ltb-true, ltb-false}
use Rattle.std.proofs.lemmas.List.{get_or-take, length-map}
use Rattle.std.proofs.lemmas.List.Elements.{All-nil, All-cons, All-head, All-tail, All-from_get_or}
use Rattle.std.proofs.lemmas.List.Quantifiers.{position-Some}
use Rattle.std.proofs.Math.Dec.{ltb}
use Rattle.esx_reading.proofs.FieldLemmas.{no_match}
use Rattle.esx_text.specs.Lines.{HasNoFeed, EndsAt, IsHeld, line_of, last_line, lines}
use Rattle.esx_text.proofs.LineLemmas.{parted}
use Rattle.esx_explained.specs.declared.source.TheConstants.{ROOM}
use Rattle.esx_explained.specs.Telling.{next_number}
use Rattle.esx_explained.specs.Input.{ReadSoFar, behind_lines, at_start, next_line, with_byte, after_byte, after, at_end}
use Rattle.esx_explained.specs.Laws.{IsReadInParts, IsReadInPieces, IsCountedInLines, counted}

-- what is known, by its parts
abbrev pub so : ℕ → List ℕ → Bool → ReadSoFar
so count front long = record { count = count; front = front; long = long }

pub after_append : (r : ReadSoFar) (one other : List ℕ) → IsReadInParts r one other
after_append r [] other = refl
after_append r (b ∷ one) other = after_append (after_byte r b) one other

-- a byte that is no line feed
with_no_feed : (r : ReadSoFar) (b : ℕ) → (b ≡ 10 → ⊥) → after_byte r b ≡ with_byte r b
with_no_feed r b other = rw (no_match b 10 other) refl

held_more : (count : ℕ) (front : List ℕ) (long : Bool) (b : ℕ) → (b ≡ 10 → ⊥) → length front < ROOM → after_byte (so count front long) b ≡ so count (front ++ b ∷ []) long
held_more count front long b other lt = with_no_feed (so count front long) b other ∙ rw (lt-ltb (length front) ROOM lt) refl

held_no_more : (count : ℕ) (front : List ℕ) (long : Bool) (b : ℕ) → (b ≡ 10 → ⊥) → ROOM ≤ length front → after_byte (so count front long) b ≡ so count front true
held_no_more count front long b other le = with_no_feed (so count front long) b other ∙ rw (le-ltb (length front) ROOM le) refl

first_no_feed : (b : ℕ) (bs : List ℕ) → HasNoFeed (b ∷ bs) → b ≡ 10 → ⊥
first_no_feed b bs none = All-head (λ x. x ≡ 10 → ⊥) b bs none

others_no_feed : (b : ℕ) (bs : List ℕ) → HasNoFeed (b ∷ bs) → HasNoFeed bs
others_no_feed b bs none = All-tail (λ x. x ≡ 10 → ⊥) b bs none

-- there is room for all bytes of a part of a line
pub after_fitting : (part : List ℕ) (count : ℕ) (front : List ℕ) (long : Bool) → HasNoFeed part → length front + length part ≤ ROOM
    → after (record { count = count; front = front; long = long }) part ≡ record { count = count; front = front ++ part; long = long }
after_fitting [] count front long none le = ap (λ (f : List ℕ). so count f long) (sym (append-nil front))
after_fitting (b ∷ bs) count front long none le =
    let lt : length front < ROOM = omega arith in
    let more : length (front ++ b ∷ []) + length bs ≤ ROOM = omega (arith, length-append front (b ∷ [])) in
    ap (λ (r : ReadSoFar). after r bs) (held_more count front long b (first_no_feed b bs none) lt) ∙ after_fitting bs count (front ++ b ∷ []) long (others_no_feed b bs none) more
    ∙ ap (λ (f : List ℕ). so count f long) (append_assoc front (b ∷ []) bs)

-- there is none for any
after_full : (part : List ℕ) (count : ℕ) (front : List ℕ) → HasNoFeed part → length front ≡ ROOM → after (so count front true) part ≡ so count front true
after_full [] count front none full = refl
after_full (b ∷ bs) count front none full =
    ap (λ (r : ReadSoFar). after r bs) (held_no_more count front true b (first_no_feed b bs none) (omega arith)) ∙ after_full bs count front (others_no_feed b bs none) full

-- there is room for less
pub after_too_long : (part : List ℕ) (count : ℕ) (front : List ℕ) (long : Bool) (room : ℕ) → HasNoFeed part → room + length front ≡ ROOM → room < length part
    → after (record { count = count; front = front; long = long }) part ≡ record { count = count; front = front ++ take room part; long = true }
after_too_long [] count front long room none full lt = absurd (omega arith)
after_too_long (b ∷ bs) count front long zero none full lt =
    let no_room : length front ≡ ROOM = omega arith in
    ap (λ (r : ReadSoFar). after r bs) (held_no_more count front long b (first_no_feed b bs none) (omega arith)) ∙ after_full bs count front (others_no_feed b bs none) no_room
    ∙ ap (λ (f : List ℕ). so count f true) (sym (append-nil front))
after_too_long (b ∷ bs) count front long (suc room) none full lt =
    let less : room + length (front ++ b ∷ []) ≡ ROOM = omega (arith, length-append front (b ∷ [])) in
    let fewer : room < length bs = omega arith in
    ap (λ (r : ReadSoFar). after r bs) (held_more count front long b (first_no_feed b bs none) (omega arith)) ∙ after_too_long bs count (front ++ b ∷ []) long room (others_no_feed b bs none) less fewer
    ∙ ap (λ (f : List ℕ). so count f true) (append_assoc front (b ∷ []) (take room bs))

-- where the first line feed stands
not_ten : (x : ℕ) → (x == 10) ≡ false → x ≡ 10 → ⊥
not_ten x other e = let clash : (10 == 10) ≡ false = subst (λ (y : ℕ). (y == 10) ≡ false) e other in cc

pub feed_at : (bytes : List ℕ) (at : ℕ) → position (λ b. b == 10) bytes ≡ Some at → EndsAt bytes at
feed_at bytes at e =
    let p = position-Some (λ b. b == 10) bytes at 0 e in
    record {
      within = p.0;
      feed = eqb-true (get_or bytes at 0) 10 p.1;
      before = All-from_get_or (λ b. b ≡ 10 → ⊥) (take at bytes) 0 (λ i l is.
          let less : i < at = omega (arith, l, length-take at bytes) in
          not_ten (get_or bytes i 0) (p.2 i less) (sym (get_or-take at bytes i 0 less) ∙ is));
    }

none_in : (x : ℕ) (xs : List ℕ) (t : Bool) → (x == 10) ≡ t → (cond (not t) (1 + position_or_len (λ b. b == 10) xs) 0 < suc (length xs) → ⊥)
    → ((position_or_len (λ b. b == 10) xs < length xs → ⊥) → HasNoFeed xs) → HasNoFeed (x ∷ xs)
none_in x xs true e past rest = absurd (past (omega arith))
none_in x xs false e past rest = All-cons (λ b. b ≡ 10 → ⊥) x xs (not_ten x e) (rest (λ lt. past (omega arith)))

none_before : (bytes : List ℕ) → (position_or_len (λ b. b == 10) bytes < length bytes → ⊥) → HasNoFeed bytes
none_before [] past = All-nil (λ b. b ≡ 10 → ⊥)
none_before (x ∷ xs) past = none_in x xs (x == 10) refl past (none_before xs)

pub no_feed : (bytes : List ℕ) → position (λ b. b == 10) bytes ≡ None → HasNoFeed bytes
no_feed bytes e =
    let at : ℕ = position_or_len (λ b. b == 10) bytes in
    none_before bytes (λ lt. (let found : cond (ltb at (length bytes)) (Some at) None ≡ Some at = rw (lt-ltb at (length bytes) lt) refl in cc))

-- a line is read, and its line feed
pub after_line : (r : ReadSoFar) (text part later : List ℕ) (at : ℕ) → EndsAt text at → part ≡ take at text → later ≡ drop (at + 1) text
    → HasNoFeed part × (after r text ≡ after (next_line (after r part)) later)
after_line r text part later at ends front behind =
    let both = parted text part later at ends front behind in
    (both.0, ap (λ (t : List ℕ). after r t) both.1 ∙ after_append r part (10 ∷ later))

-- a part of a line ends none
count_kept_in : (t : Bool) (count : ℕ) (front : List ℕ) (long : Bool) (b : ℕ) → (cond t (so count (front ++ b ∷ []) long) (so count front true)).count ≡ count
count_kept_in true count front long b = refl
count_kept_in false count front long b = refl

count_kept : (part : List ℕ) (r : ReadSoFar) → HasNoFeed part → (after r part).count ≡ r.count
count_kept [] r none = refl
count_kept (b ∷ bs) r none =
    count_kept bs (after_byte r b) (others_no_feed b bs none) ∙ ap (λ (s : ReadSoFar). s.count) (with_no_feed r b (first_no_feed b bs none))
    ∙ count_kept_in (ltb (length r.front) ROOM) r.count r.front r.long b

-- what is held of a line that goes on
held_in : (t : Bool) (count : ℕ) (front : List ℕ) (long : Bool) (piece : List ℕ) (b : ℕ) → ltb (length front) ROOM ≡ t → IsHeld front long piece
    → IsHeld (cond t (so count (front ++ b ∷ []) long) (so count front true)).front (cond t (so count (front ++ b ∷ []) long) (so count front true)).long (piece ++ b ∷ [])
held_in true count front true piece b e h = absurd (omega (arith, h.3, ltb-true (length front) ROOM e))
held_in true count front false piece b e h = (ap (λ (p : List ℕ). p ++ b ∷ []) h.0, omega (arith, length-append front (b ∷ []), ltb-true (length front) ROOM e))
held_in false count front true piece b e h =
    (h.0 ++ b ∷ [], ap (λ (p : List ℕ). p ++ b ∷ []) h.1 ∙ append_assoc front h.0 (b ∷ []), omega (arith, length-append h.0 (b ∷ [])), h.3)
held_in false count front false piece b e h = (b ∷ [], ap (λ (p : List ℕ). p ++ b ∷ []) h.0, omega arith, omega (arith, h.1, ltb-false (length front) ROOM e))

held_so : (part : List ℕ) (r : ReadSoFar) (piece : List ℕ) → HasNoFeed part → IsHeld r.front r.long piece → IsHeld (after r part).front (after r part).long (piece ++ part)
held_so [] r piece none h = subst (λ (p : List ℕ). IsHeld r.front r.long p) (sym (append-nil piece)) h
held_so (b ∷ bs) r piece none h =
    let more : IsHeld (with_byte r b).front (with_byte r b).long (piece ++ b ∷ []) = held_in (ltb (length r.front) ROOM) r.count r.front r.long piece b refl h in
    let step : IsHeld (after_byte r b).front (after_byte r b).long (piece ++ b ∷ []) =
    subst (λ (s : ReadSoFar). IsHeld s.front s.long (piece ++ b ∷ [])) (sym (with_no_feed r b (first_no_feed b bs none))) more in
    subst (λ (p : List ℕ). IsHeld (after (after_byte r b) bs).front (after (after_byte r b) bs).long p) (append_assoc piece (b ∷ []) bs)
    (held_so bs (after_byte r b) (piece ++ b ∷ []) (others_no_feed b bs none) step)

-- the pieces that are ended
after_ended : (ended : List (List ℕ)) (n : ℕ) (rest : List ℕ) → n ≤ 2 ^ 64 - 1 → All HasNoFeed ended
    → after (behind_lines n) (flat_map (λ piece. piece ++ 10 ∷ []) ended ++ rest) ≡ after (behind_lines (counted (n + length ended))) rest
after_ended [] n rest le none = ap (λ (m : ℕ). after (behind_lines m) rest) (let same : n ≡ min (n + 0) (2 ^ 64 - 1) = omega arith in same)
after_ended (p ∷ ps) n rest le none =
    let later : List ℕ = flat_map (λ piece. piece ++ 10 ∷ []) ps ++ rest in
    let split : (p ++ 10 ∷ []) ++ flat_map (λ piece. piece ++ 10 ∷ []) ps ++ rest ≡ p ++ 10 ∷ later = simp append_assoc in
    let number : next_number (after (behind_lines n) p).count ≡ next_number n = ap next_number (count_kept p (behind_lines n) (All-head HasNoFeed p ps none)) in
    let within : next_number n ≤ 2 ^ 64 - 1 = omega arith in
    let many : min (next_number n + length ps) (2 ^ 64 - 1) ≡ min (n + suc (length ps)) (2 ^ 64 - 1) = omega arith in
    ap (λ (t : List ℕ). after (behind_lines n) t) split ∙ after_append (behind_lines n) p (10 ∷ later)
    ∙ ap (λ (m : ℕ). after (behind_lines m) later) number
    ∙ after_ended ps (next_number n) rest within (All-tail HasNoFeed p ps none)
    ∙ ap (λ (m : ℕ). after (behind_lines m) rest) many

pub read_in_pieces : (text : List ℕ) → IsReadInPieces text
read_in_pieces text ended rest e =
    let n : ℕ = counted (length ended) in
    let all : after at_start text ≡ after (behind_lines n) rest =
    ap (λ (t : List ℕ). after at_start t) e.whole ∙ after_ended ended 0 rest (lit≤ tt) e.each ∙ ap (λ (m : ℕ). after (behind_lines (counted m)) rest) (zero-add (length ended)) in
    let held : IsHeld (after (behind_lines n) rest).front (after (behind_lines n) rest).long rest = held_so rest (behind_lines n) [] e.last (refl, lit≤ tt) in
    (ap (λ (r : ReadSoFar). r.count) all ∙ count_kept rest (behind_lines n) e.last, subst (λ (r : ReadSoFar). IsHeld r.front r.long rest) (sym all) held)

-- what is left behind the last line feed is a line, unless it is empty
one_more : (count : ℕ) (front : List ℕ) (long : Bool) (n : ℕ) (b : ℕ) (bs rest : List ℕ) → count ≡ counted n → (length front ≡ 0 → ⊥) → rest ≡ b ∷ bs
    → (at_end (so count front long)).count ≡ counted (n + length (last_line rest))
one_more count front long n b bs rest e some is =
    let last : (at_end (so count front long)).count ≡ next_number count = rw (no_match (length front) 0 some) refl in
    let number : next_number count ≡ min (n + 1) (2 ^ 64 - 1) = omega arith in
    last ∙ number ∙ ap (λ (t : List ℕ). min (n + length (last_line t)) (2 ^ 64 - 1)) (sym is)

last_counted : (count : ℕ) (front : List ℕ) (long : Bool) (n : ℕ) (rest : List ℕ) → count ≡ counted n → IsHeld front long rest
    → (at_end (so count front long)).count ≡ counted (n + length (last_line rest))
last_counted count [] true n rest e h = absurd (omega (arith, h.3))
last_counted count [] false n rest e h =
    let same : count ≡ min (n + 0) (2 ^ 64 - 1) = omega arith in
    same ∙ ap (λ (t : List ℕ). min (n + length (last_line t)) (2 ^ 64 - 1)) (sym h.0)
last_counted count (b ∷ bs) true n rest e h = one_more count (b ∷ bs) true n b (bs ++ h.0) rest e (λ z. (let none : suc (length bs) ≡ 0 = z in omega arith)) h.1
last_counted count (b ∷ bs) false n rest e h = one_more count (b ∷ bs) false n b bs rest e (λ z. (let none : suc (length bs) ≡ 0 = z in omega arith)) h.0

pub counted_in_lines : (text : List ℕ) → IsCountedInLines text
counted_in_lines text ended rest e =
    let r : ReadSoFar = after at_start text in
    let h = read_in_pieces text ended rest e in
    let many : length ended + length (last_line rest) ≡ length (lines ended rest) = sym (length-append (map line_of ended) (last_line rest) ∙ ap (λ (m : ℕ). m + length (last_line rest)) (length-map ended line_of)) in
    last_counted r.count r.front r.long (length ended) rest h.0 h.1 ∙ ap counted many
