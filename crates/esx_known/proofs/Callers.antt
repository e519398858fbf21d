-- What callers cite: the kept keys stay right where one is forgotten, where the bytes stay, where room is made and where a key is kept.
use Rattle.std.proofs.Common.{◌≡◌, ◌≢◌, ℕ, List, [], length, set, refl, ap, ◌∙◌, sym, inl, inr, get_or-set_same, slice_index}
use Rattle.std.proofs.lemmas.Bool.{cases_lt, cases_eq}
use Rattle.std.proofs.lemmas.List.{get_or-set_other, get_or_past, length-set}
use Rattle.esx_formulas.specs.Key.{content_key}
use Rattle.esx_known.specs.Known.{KnowsKeys}

pub knows_none : (bytes : ℕ → List ℕ) → KnowsKeys bytes []
knows_none bytes = record { right = λ place some. absurd (some refl) }

-- past the last word none is kept
kept_is : (words : List ℕ) (i key : ℕ) → slice_index (set words i key) i ≢ 0 → slice_index (set words i key) i ≡ key
kept_is words i key some = elim (cases_lt i (length words)) [
  | inl h ↦ get_or-set_same words i key 0 h
  | inr past ↦ absurd (some (get_or_past (set words i key) i 0 (rw length-set past)))
]

-- what is there at another place does not matter
pub knows_forgotten : (was is : ℕ → List ℕ) (words : List ℕ) (i : ℕ) → KnowsKeys was words → ((place : ℕ) → place ≢ i → is place ≡ was place) → KnowsKeys is (set words i 0)
knows_forgotten was is words i k same = record {
  right = λ place some. elim (cases_eq place i) [
    | inl e ↦ absurd (some (ap (slice_index (set words i 0)) e ∙ kept_is words i 0 (λ none. some (ap (slice_index (set words i 0)) e ∙ none))))
    | inr other ↦ rw (get_or-set_other words i place 0 0 other, same place other) (k.right place (rw (get_or-set_other words i place 0 0 other) at some))
  ];
}

-- the same bytes have the same keys
pub knows_alike : (was is : ℕ → List ℕ) (words : List ℕ) → KnowsKeys was words → ((place : ℕ) → is place ≡ was place) → KnowsKeys is words
knows_alike was is words k same = record { right = λ place some. k.right place some ∙ ap content_key (sym (same place)) }

-- room that is made changes no word
pub knows_as_before : (bytes : ℕ → List ℕ) (old room : List ℕ) → KnowsKeys bytes old → ((place : ℕ) → slice_index room place ≡ slice_index old place) → KnowsKeys bytes room
knows_as_before bytes old room k same = record { right = λ place some. same place ∙ k.right place (λ none. some (same place ∙ none)) }

pub knows_kept : (bytes : ℕ → List ℕ) (words : List ℕ) (i key : ℕ) → KnowsKeys bytes words → key ≡ content_key (bytes i) → KnowsKeys bytes (set words i key)
knows_kept bytes words i key k is = record {
  right = λ place some. elim (cases_eq place i) [
    | inl e ↦ ap (slice_index (set words i key)) e ∙ kept_is words i key (λ none. some (ap (slice_index (set words i key)) e ∙ none)) ∙ is ∙ ap (λ (p : ℕ). content_key (bytes p)) (sym e)
    | inr other ↦ rw (get_or-set_other words i place key 0 other) (k.right place (rw (get_or-set_other words i place key 0 other) at some))
  ];
}
