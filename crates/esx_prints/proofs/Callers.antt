-- What callers cite: where no known place waits, a content whose print was not noted is at no known place that counts.
use Rattle.std.proofs.Common.{◌≡◌, ◌≢◌, ℕ, ◌<◌, Bool, true, false, List, length, ap, ◌∙◌, inl, inr, refl}
use Rattle.std.proofs.lemmas.Bool.{cases_Bool}
use Rattle.std.specs.Prelude.{◌&&◌, nat_lt}
use Rattle.std.proofs.lemmas.List.{length-set}
use Rattle.esx_prints.specs.Prints.{Noted, print, has_print, Covers, NoneWaits, none_known, passed, noted}

pub has_none : (counts : ℕ → Bool) (contents : ℕ → List ℕ) (prints : Noted) (bytes : List ℕ) (place : ℕ)
    → Covers counts contents prints → NoneWaits prints → has_print prints bytes ≡ false → place < length prints.waiting → counts place ≡ true → contents place ≢ bytes
has_none counts contents prints bytes place covers none fresh within there = λ same. elim (covers place there) [
  | inl waits ↦ cc (none place within)
  | inr noted ↦ let again : has_print prints (contents place) ≡ false = ap (has_print prints) same ∙ fresh in cc
]

pub none_covered : (counts : ℕ → Bool) (contents : ℕ → List ℕ) → Covers counts contents none_known
none_covered counts contents = λ place there. inl refl

pub places_passed : (place : ℕ) (prints : Noted) → length (passed place prints).waiting ≡ length prints.waiting
places_passed place prints = length-set prints.waiting place false

pub places_noted : (place : ℕ) (bytes : List ℕ) (prints : Noted) → length (noted place bytes prints).waiting ≡ length prints.waiting
places_noted place bytes prints = elim (cases_Bool (nat_lt place (length prints.waiting) && nat_lt (print bytes) (length prints.marks))) [
  | inl is ↦ rw is (length-set prints.waiting place false)
  | inr is ↦ rw is refl
]
