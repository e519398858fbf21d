-- Marks in words: after a write, and the least of them.
use Rattle.std.proofs.Common.{◌≡◌, ◌≢◌, ℕ, ◌+◌, ◌-◌, ◌*◌, ◌/◌, ◌%◌, ◌^◌, ◌<◌, ◌≤◌, min, Bool, true, false, not, eqb, if◌then◌else◌, List, length, get_or, set, replicate, Some, None, IfSome, w64, refl, sym, ap, ◌∙◌, inl, inr, ltb, arith, get_or-set_same, get_or-set_other}
use Rattle.std.specs.Int.{bit_at, trailing_zeros, div_ceil}
use Rattle.std.proofs.lemmas.Bool.{cases_eq, cases_lt, cases_order, both_ways, eqb-true, eq-eqb, ne_eqb, lt-ltb, le-ltb, not-false}
use Rattle.std.proofs.lemmas.List.{ext_get_or, get_or_read, length-map, length-set, get_or-map, get_or_past, get_or-replicate, length-replicate}
use Rattle.std.proofs.lemmas.List.FromFn.{get_or-map-range_with_len}
use Rattle.std.specs.List.{position_from}
use Rattle.std.proofs.lemmas.Nat.{pow_below}
use Rattle.std.proofs.lemmas.Nat.Bits.{bit_at-zero, bit_at-trailing_zeros, bit_at_ones, bit_at_ones_above}
use Rattle.esx_lists.proofs.Positions.{first_is, first_is_none, none_passes, first_found}
use Rattle.esx_index.specs.Places.{is_marked, places, has_mark}
use Rattle.esx_index.specs.Marks.{MarksFirst, lowest_mark_of}
use Rattle.esx_index.specs.Falls.{length-places}

-- the mark of place k of word j
pub marked_in : (words : List ℕ) (i j k : ℕ) → i ≡ j * 64 + k → k < 64 → is_marked words i ≡ eqb (bit_at (get_or words j 0) k) 1
unfolding is_marked
marked_in words i j k e h =
    let row : i / 64 ≡ j = omega arith in
    let column : i % 64 ≡ k = omega arith in
    rw (row, column) refl

pub get_or-places : (len : ℕ) (words : List ℕ) (i : ℕ) (d : Bool) → i < len → get_or (places len words) i d ≡ is_marked words i
unfolding places
get_or-places len words i d h = get_or-map-range_with_len (is_marked words) 0 len i i d h (omega arith)

bit_tells : (free : Bool) (b : ℕ) → b ≡ (if free then 1 else 0) → eqb b 1 ≡ free
bit_tells true b e = rw e refl
bit_tells false b e = rw e refl

-- what a word with one mark changed has to be
pub record Remarked (old new place : ℕ) (free : Bool) : Type 0 where
  pub same : bit_at new place ≡ (if free then 1 else 0)
  pub others : (k : ℕ) → k < 64 → k ≢ place → bit_at new k ≡ bit_at old k

pub remarked_read : (words : List ℕ) (at read new : ℕ) (free : Bool) → at / 64 < length words → read ≡ get_or words (at / 64) read → bit_at new (at % 64) ≡ (if free then 1 else 0) → ((k : ℕ) → k < 64 → k ≢ at % 64 → bit_at new k ≡ bit_at read k) → Remarked (get_or words (at / 64) 0) new (at % 64) free
remarked_read words at read new free h e same others =
    let f : read ≡ get_or words (at / 64) 0 = get_or_read words (at / 64) read h e 0 in
    record { same = same; others = λ k l ne. others k l ne ∙ ap (λ w. bit_at w k) f }

pub marked-set_same : (words : List ℕ) (at w : ℕ) (free : Bool) → at / 64 < length words → Remarked (get_or words (at / 64) 0) w (at % 64) free → is_marked (set words (at / 64) w) at ≡ free
unfolding is_marked
marked-set_same words at w free h r = rw (get_or-set_same words (at / 64) w 0 h) (bit_tells free _ r.same)

pub marked-set_other : (words : List ℕ) (at w i : ℕ) (free : Bool) → at / 64 < length words → Remarked (get_or words (at / 64) 0) w (at % 64) free → i ≢ at → is_marked (set words (at / 64) w) i ≡ is_marked words i
unfolding is_marked
marked-set_other words at w i free h r ne =
    elim (cases_eq (i / 64) (at / 64)) [
      | inl e ↦ let apart : i % 64 ≢ at % 64 = λ f. ne (omega arith) in rw (e, get_or-set_same words (at / 64) w 0 h, r.others (i % 64) (omega arith) apart) refl
      | inr f ↦ rw (get_or-set_other words (at / 64) (i / 64) w 0 f) refl
    ]

pub places-set : (len : ℕ) (words : List ℕ) (at w : ℕ) (free : Bool) → at < len → at / 64 < length words → Remarked (get_or words (at / 64) 0) w (at % 64) free → places len (set words (at / 64) w) ≡ set (places len words) at free
places-set len words at w free in_range h r =
    let both : length (places len (set words (at / 64) w)) ≡ length (set (places len words) at free) = simp (length-places, length-set) in
    ext_get_or false _ _ both (λ i l.
    let within : i < len = rw length-places at l in
    rw (get_or-places len (set words (at / 64) w) i false within)
    (elim (cases_eq i at) [
      | inl e ↦ rw e (marked-set_same words at w free h r ∙ sym (get_or-set_same (places len words) at free false (rw length-places in_range)))
      | inr ne ↦ marked-set_other words at w i free h r ne ∙ sym (get_or-set_other (places len words) at i free false ne ∙ get_or-places len words i false within)
    ]))

-- where the marks begin: the words before have none, and where this one has none neither have the others
pub record LeadsTo (words : List ℕ) (at : ℕ) : Type 0 where
  pub before : (j : ℕ) → j < at → get_or words j 0 ≡ 0
  pub rest : get_or words at 0 ≡ 0 → (j : ℕ) → get_or words j 0 ≡ 0

pub unmarked : (words : List ℕ) (i : ℕ) → get_or words (i / 64) 0 ≡ 0 → is_marked words i ≡ false
unfolding is_marked
unmarked words i e = rw (e, bit_at-zero (i % 64)) refl

pub least_none : (len : ℕ) (words : List ℕ) → ((j : ℕ) → get_or words j 0 ≡ 0) → position_from (λ b. b) 0 (places len words) ≡ None
least_none len words none =
    first_is_none (λ b. b) (places len words) false (λ k h.
    let within : k < len = rw length-places at h in
    get_or-places len words k false within ∙ unmarked words k (none (k / 64)))

pub leads_top : (words : List ℕ) → length words ≤ 1 → LeadsTo words 0
leads_top words h = record {
  before = λ j l. absurd (omega arith);
  rest = λ e j. elim (cases_eq j 0) [ inl f ↦ rw f e | inr ne ↦ get_or_past words j 0 (omega arith) ];
}

tells_mark : (words : List ℕ) (j : ℕ) → j < length words → get_or (has_mark words) j false ≡ not (eqb (get_or words j 0) 0)
tells_mark words j h = get_or-map (λ w. not (eqb w 0)) words j 0 false h

zero_from_false : (w : ℕ) → not (eqb w 0) ≡ false → w ≡ 0
zero_from_false w e = eqb-true w 0 (not-false (eqb w 0) e)

pub leads_over : (words : List ℕ) (at : ℕ) → position_from (λ b. b) 0 (has_mark words) ≡ Some at → LeadsTo words at
leads_over words at e =
    let f = first_found (λ b. b) (has_mark words) at false e in
    let in_range : at < length words = rw (length-map words (λ w. not (eqb w 0))) at f.0 in
    record {
      before = λ j h. zero_from_false _ (sym (tells_mark words j (omega arith)) ∙ f.2 j h);
      rest = λ z. let t : not (eqb (get_or words at 0) 0) ≡ true = sym (tells_mark words at in_range) ∙ f.1 in absurd (both_ways _ (rw z refl) t);
    }

pub unmarked_all : (words : List ℕ) → position_from (λ b. b) 0 (has_mark words) ≡ None → (j : ℕ) → get_or words j 0 ≡ 0
unmarked_all words e j =
    elim (cases_lt j (length words)) [
      | inl h ↦ zero_from_false _ (sym (tells_mark words j h) ∙ none_passes (λ b. b) (has_mark words) false e j (rw (length-map words (λ w. not (eqb w 0))) h))
      | inr h ↦ get_or_past words j 0 h
    ]

-- the lowest mark of the word where the marks begin is the least place
pub record IsLeast (len : ℕ) (words : List ℕ) (place : ℕ) : Type 0 where
  pub in_range : place < len
  pub first : position_from (λ b. b) 0 (places len words) ≡ Some place

pub least_at : (len : ℕ) (words : List ℕ) (at : ℕ) → LeadsTo words at → 0 < get_or words at 0 → get_or words at 0 < 2 ^ 64 → ((i : ℕ) → len ≤ i → is_marked words i ≡ false) → IsLeast len words (at * 64 + trailing_zeros w64 (get_or words at 0))
least_at len words at leads some fits within =
    let low = trailing_zeros w64 (get_or words at 0) in
    let b = bit_at-trailing_zeros w64 (get_or words at 0) some fits in
    let here : is_marked words (at * 64 + low) ≡ true = marked_in words (at * 64 + low) at low refl b.0 ∙ rw b.1 refl in
    let in_range : at * 64 + low < len =
    elim (cases_lt (at * 64 + low) len) [ inl h ↦ h | inr h ↦ absurd (both_ways _ (within _ h) here) ] in
    let before : (k : ℕ) → k < at * 64 + low → is_marked words k ≡ false =
    λ k h. elim (cases_lt (k / 64) at) [
      | inl l ↦ unmarked words k (leads.before (k / 64) l)
      | inr l ↦ marked_in words k at (k - at * 64) (omega arith) (omega arith) ∙ rw (b.2 (k - at * 64) (omega arith)) refl
    ] in
    record {
      in_range = in_range;
      first = first_is (λ b. b) (places len words) (at * 64 + low) false (rw length-places in_range) (get_or-places len words _ false in_range ∙ here)
          (λ k h. get_or-places len words k false (omega arith) ∙ before k h);
    }

pub least_is : (len : ℕ) (words : List ℕ) (at : ℕ) → LeadsTo words at → get_or words at 0 < 2 ^ 64 → ((i : ℕ) → len ≤ i → is_marked words i ≡ false) → lowest_mark_of words at ≡ position_from (λ b. b) 0 (places len words)
least_is len words at leads fits within =
    elim (cases_eq (get_or words at 0) 0) [
      | inl e ↦ rw (eq-eqb (get_or words at 0) 0 e) (sym (least_none len words (leads.rest e)))
      | inr ne ↦ rw (ne_eqb (get_or words at 0) 0 ne) (sym (least_at len words at leads (omega arith) fits within).first)
    ]

pub lowest_fits : (len : ℕ) (words : List ℕ) (at : ℕ) → LeadsTo words at → get_or words at 0 < 2 ^ 64 → ((i : ℕ) → len ≤ i → is_marked words i ≡ false) → len < 2 ^ 64 → IfSome (lowest_mark_of words at) (λ place. place < 2 ^ 64)
lowest_fits len words at leads fits within small =
    elim (cases_eq (get_or words at 0) 0) [
      | inl e ↦ rw (eq-eqb (get_or words at 0) 0 e) tt
      | inr ne ↦ let l = (least_at len words at leads (omega arith) fits within).in_range in rw (ne_eqb (get_or words at 0) 0 ne) (omega arith)
    ]

pub marks_first : (len : ℕ) (words : List ℕ) → MarksFirst len words → (i : ℕ) → is_marked words i ≡ ltb i len
marks_first len words m i =
    marked_in words i (i / 64) (i % 64) (omega arith) (omega arith) ∙ rw (m.each (i / 64))
    (elim (cases_lt i len) [
      | inl h ↦ rw (bit_at_ones (min 64 (len - i / 64 * 64)) (i % 64) (omega arith), lt-ltb i len h) refl
      | inr h ↦ rw (bit_at_ones_above (min 64 (len - i / 64 * 64)) (i % 64) (omega arith), le-ltb i len h) refl
    ])

pub places_first : (len : ℕ) (words : List ℕ) → MarksFirst len words → places len words ≡ replicate len true
places_first len words m =
    ext_get_or false _ _ (length-places len words ∙ sym (length-replicate len true)) (λ i h.
    let within : i < len = rw length-places at h in
    get_or-places len words i false within ∙ (marks_first len words m i ∙ (lt-ltb i len within ∙ sym (get_or-replicate len i true false within))))

pub has_mark_first : (len : ℕ) (words : List ℕ) → MarksFirst len words → has_mark words ≡ replicate (length words) true
has_mark_first len words m =
    ext_get_or false _ _ (length-map words (λ w. not (eqb w 0)) ∙ sym (length-replicate (length words) true)) (λ j h.
    let within : j < length words = rw (length-map words (λ w. not (eqb w 0))) at h in
    let some : 0 < get_or words j 0 = rw (m.each j) (let e = m.enough in omega (arith, pow_below 0 (min 64 (len - j * 64)) (omega arith))) in
    tells_mark words j within ∙ (rw (ne_eqb (get_or words j 0) 0 (λ e. omega arith)) refl ∙ sym (get_or-replicate (length words) j true false within)))

-- all words full, where the places fill them
pub first_whole : (len n : ℕ) → len % 64 ≡ 0 → n ≡ div_ceil len 64 → MarksFirst len (replicate n 18446744073709551615)
first_whole len n whole e = record {
  enough = length-replicate n 18446744073709551615 ∙ omega arith;
  each = λ j. elim (cases_lt j n) [
    | inl h ↦ let full : min 64 (len - j * 64) ≡ 64 = omega arith in rw full (get_or-replicate n j 18446744073709551615 0 h)
    | inr h ↦ let none : min 64 (len - j * 64) ≡ 0 = omega arith in rw none (get_or_past (replicate n 18446744073709551615) j 0 (rw length-replicate h))
  ];
}

-- else the last word has the rest of them
pub first_part : (len n w : ℕ) → len % 64 ≢ 0 → n ≡ div_ceil len 64 → w ≡ 2 ^ (len % 64) - 1 → MarksFirst len (set (replicate n 18446744073709551615) (len / 64) w)
first_part len n w part e f =
    let words : List ℕ = replicate n 18446744073709551615 in
    let count : length words ≡ n = length-replicate n 18446744073709551615 in
    record {
      enough = length-set words (len / 64) w ∙ (count ∙ omega arith);
      each = λ j. elim (cases_order j (len / 64)) [
        | inl h ↦ let rest : min 64 (len - j * 64) ≡ len % 64 = omega arith in
            rw (rest, h, get_or-set_same words (len / 64) w 0 (omega arith)) f
        | inr o ↦ let ne : j ≢ len / 64 = elim o [ inl l ↦ λ q. omega arith | inr l ↦ λ q. omega arith ] in
            rw (get_or-set_other words (len / 64) j w 0 ne) (elim o [
              | inl l ↦ let full : min 64 (len - j * 64) ≡ 64 = omega arith in rw full (get_or-replicate n j 18446744073709551615 0 (omega arith))
              | inr l ↦ let none : min 64 (len - j * 64) ≡ 0 = omega arith in rw none (get_or_past words j 0 (omega arith))
            ])
      ];
    }
