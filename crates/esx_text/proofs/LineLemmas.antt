-- Lines, piece by piece.
use Rattle.std.proofs.Common.{◌≡◌, ℕ, Bool, true, false, List, [], ◌∷◌, ◌++◌, ◌<◌, ◌≤◌, ◌+◌, refl, sym, ◌∙◌, ap, append_assoc, append-nil, take, length, arith, length-append, suc, zero, get_or, ◌↔◌, add-one, eqb-true}
use Rattle.esx_reading.proofs.FieldLemmas.{no_match}
use Rattle.std.proofs.lemmas.Grind.{flat_map-append}
use Rattle.std.proofs.lemmas.List.Elements.{All-push, All-nil, All-append, All-from_get_or}
use Rattle.std.specs.List.{flat_map}
use Rattle.std.proofs.Common.{drop, length-drop, length-take}
use Rattle.std.proofs.lemmas.List.{take-append-drop, get_or-take}
use Rattle.std.proofs.Math.Seq.{split_at}
use Rattle.memchr.specs.Find.{NoneBefore, Nowhere, Passes, is_byte}
use Rattle.esx_text.specs.declared.line.TheConstants.{ROOM}
use Rattle.esx_text.specs.Lines.{EndsAt, HasNoFeed, EndsIn, line_of, IsSilent, Keeps, IsHeld}

-- with less room than that
pub held_full : (front piece : List ℕ) (long : Bool) (more : List ℕ) (room : ℕ) → room + length front ≡ ROOM → room < length more
    → IsHeld front long piece → IsHeld (front ++ take room more) true (piece ++ more)
held_full front piece true more room e lt h =
    let none : room ≡ 0 = omega (arith, e, h.3) in
    rw (none, append-nil) (
      h.0 ++ more,
      ap (λ p. p ++ more) h.1 ∙ append_assoc front h.0 more,
      omega (arith, h.2, length-append h.0 more),
      h.3,
    )
held_full front piece false more room e lt h = (
  drop room more,
  ap (λ p. p ++ more) h.0 ∙ ap (λ v. front ++ v) (sym (take-append-drop room more)) ∙ sym (append_assoc front (take room more) (drop room more)),
  omega (arith, lt, length-drop room more),
  omega (arith, e, lt, length-append front (take room more), length-take room more),
)

pub line_of_returned : (piece : List ℕ) (n : ℕ) → length piece ≡ suc n → get_or piece n 0 ≡ 13 → line_of piece ≡ take n piece
line_of_returned [] n l e = absurd (omega (arith, l))
line_of_returned (b ∷ []) zero l e = rw e refl
line_of_returned (b ∷ []) (suc n) l e = absurd (omega (arith, l))
line_of_returned (b ∷ c ∷ bs) zero l e = absurd (omega (arith, l))
line_of_returned (b ∷ c ∷ bs) (suc n) l e = ap (λ v. b ∷ v) (line_of_returned (c ∷ bs) n (omega (arith, l)) e)

pub line_of_other : (piece : List ℕ) (n : ℕ) → length piece ≡ suc n → (get_or piece n 0 ≡ 13 → ⊥) → line_of piece ≡ piece
line_of_other [] n l e = refl
line_of_other (b ∷ []) zero l e = rw (no_match b 13 e) refl
line_of_other (b ∷ []) (suc n) l e = absurd (omega (arith, l))
line_of_other (b ∷ c ∷ bs) zero l e = absurd (omega (arith, l))
line_of_other (b ∷ c ∷ bs) (suc n) l e = ap (λ v. b ∷ v) (line_of_other (c ∷ bs) n (omega (arith, l)) e)

-- what a line keeps of a piece, with and without its end
length_of_line : (piece : List ℕ) → length piece ≤ length (line_of piece) + 1
length_of_line [] = omega arith
length_of_line (b ∷ []) = omega arith
length_of_line (b ∷ c ∷ bs) = omega (arith, length_of_line (c ∷ bs))

silent_front : (front more : List ℕ) → 2 ≤ length front → IsSilent (line_of (front ++ more)) ↔ IsSilent (line_of front)
silent_front [] more l = absurd (omega (arith, l))
silent_front (b ∷ []) more l = absurd (omega (arith, l))
silent_front (b ∷ c ∷ bs) more l = (λ s. s, λ s. s)

silent_start : (front more : List ℕ) → 1 ≤ length front → IsSilent (front ++ more) ↔ IsSilent front
silent_start [] more l = absurd (omega (arith, l))
silent_start (b ∷ bs) more l = (λ s. s, λ s. s)

pub ended_keeps : (front : List ℕ) (long : Bool) (piece : List ℕ) → IsHeld front long piece → Keeps (line_of front) long (line_of piece)
ended_keeps front true piece h =
    rw h.1 (omega (arith, length_of_line (front ++ h.0), length-append front h.0, h.2, h.3), silent_front front h.0 (omega (arith, h.3)))
ended_keeps front false piece h = ap line_of h.0

pub last_keeps : (front : List ℕ) (long : Bool) (piece : List ℕ) → IsHeld front long piece → Keeps front long piece
last_keeps front true piece h = rw h.1 (omega (arith, length-append front h.0, h.2, h.3), silent_start front h.0 (omega (arith, h.3)))
last_keeps front false piece h = h.0

-- a line feed, which ends a piece, or more bytes of it
pub ends_more : (text : List ℕ) (ended : List (List ℕ)) (rest : List ℕ) → EndsIn text ended rest → EndsIn (text ++ 10 ∷ []) (ended ++ rest ∷ []) []
ends_more text ended rest e = record {
  whole = ap (λ v. v ++ 10 ∷ []) e.whole ∙ append_assoc (flat_map (λ piece. piece ++ 10 ∷ []) ended) rest (10 ∷ [])
      ∙ sym (append-nil (flat_map (λ piece. piece ++ 10 ∷ []) (ended ++ rest ∷ [])) ∙ flat_map-append (λ piece. piece ++ 10 ∷ []) ended (rest ∷ [])
      ∙ ap (λ v. flat_map (λ piece. piece ++ 10 ∷ []) ended ++ v) (append-nil (rest ++ 10 ∷ [])));
  each = All-push HasNoFeed ended rest e.each e.last;
  last = All-nil (λ b. b ≡ 10 → ⊥);
}

pub ends_on : (text : List ℕ) (ended : List (List ℕ)) (rest more : List ℕ) → HasNoFeed more → EndsIn text ended rest → EndsIn (text ++ more) ended (rest ++ more)
ends_on text ended rest more none e = record {
  whole = ap (λ v. v ++ more) e.whole ∙ append_assoc (flat_map (λ piece. piece ++ 10 ∷ []) ended) rest more;
  each = e.each;
  last = All-append (λ b. b ≡ 10 → ⊥) rest more e.last none;
}

-- a line feed that was found
pub is_feed : (bytes text : List ℕ) (at : ℕ) → bytes ≡ text → Passes (is_byte 10) bytes at → get_or text at 0 ≡ 10
is_feed bytes text at e p = sym (ap (λ t. get_or t at 0) e) ∙ eqb-true (get_or bytes at 0) 10 p

pub no_feed_before : (text : List ℕ) (at : ℕ) → Nowhere (Passes (is_byte 10) text) 0 at → HasNoFeed (take at text)
no_feed_before text at none = All-from_get_or (λ b. b ≡ 10 → ⊥) (take at text) 0
    (λ i l e.
    let less : i < at = omega (arith, l, length-take at text) in
    none i (omega arith) less (ap (is_byte 10) (sym (get_or-take at text i 0 less) ∙ e)))

pub at_feed : (text : List ℕ) (at : ℕ) → at < length text → get_or text at 0 ≡ 10 → text ≡ take at text ++ 10 ∷ drop (at + 1) text
at_feed text at l e = rw add-one (split_at text at 0 l ∙ ap (λ b. take at text ++ b ∷ drop (suc at) text) e)

pub ends_at : (text : List ℕ) (at : ℕ) → NoneBefore (Passes (is_byte 10) text) 0 (length text) at × Passes (is_byte 10) text at → EndsAt text at
ends_at text at (none, feed) = record {
  within = none.high;
  feed = is_feed text text at refl feed;
  before = no_feed_before text at none.before;
}

pub parted : (text piece later : List ℕ) (at : ℕ) → EndsAt text at → piece ≡ take at text → later ≡ drop (at + 1) text → HasNoFeed piece × (text ≡ piece ++ 10 ∷ later)
parted text piece later at e p l = rw (p, l) (e.before, at_feed text at e.within e.feed)
