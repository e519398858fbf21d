-- What the hints of a site on a path keep, as a matter of where each page is.
use Rattle.std.specs.Prelude.{◌≡◌, ℕ, ◌≤◌, ◌<◌, true, List, [], ◌∷◌, length, filter}
use Rattle.std.specs.List.{AllByRecursion}
use Rattle.esx_types.specs.declared.table.Hint.{Hint}
use Rattle.esx_formulas.specs.Key.{IsShort}
use Rattle.esx_model.specs.declared.scene.Place.{Place}
use Rattle.esx_model.specs.Places.{is_private}
use Rattle.esx_model.specs.Hints.{is_hint_of}

-- in order of short, so that one stands under a short at most
abbrev pub AreOrdered : List Hint → Type 0
AreOrdered [] = Unit {0}
AreOrdered (h ∷ hints) = AllByRecursion (λ (later : Hint). h.key < later.key) hints × AreOrdered hints

pub record AreHints (place_of : ℕ → ℕ → Place) (hints : List Hint) : Type 0 where
  pub ordered : AreOrdered hints
  -- a page has one hint at most
  pub one : (n page : ℕ) → length (filter (is_hint_of n page) hints) ≤ 1
  -- its page is here, and no other is in its frame
  pub private : AllByRecursion (λ (h : Hint). is_private (place_of h.vm h.page) ≡ true) hints
  pub keys : AllByRecursion (λ (h : Hint). IsShort h.key) hints
