-- The first element of the lists that a list leads to, at which a test passes.
use Rattle.std.proofs.Common.{◌≡◌, ℕ, ◌+◌, ◌<◌, Bool, List, [], ◌∷◌, ◌++◌, length, get_or, take, drop, ap, ◌∙◌, Some, None}
use Rattle.std.specs.Option.{option_or}
use Rattle.std.specs.List.{flat_map, find}
use Rattle.std.proofs.lemmas.Grind.{flat_map-append}
use Rattle.std.proofs.lemmas.List.{append-nil, take_more}
use Rattle.std.proofs.lemmas.List.Folds.{find-append}
use Rattle.esx_model.proofs.Callers.{split_at_index}

-- the lists of the first elements have none, so the first one is in those of the others
pub find_past : {A X : Type 0} (q : X → Bool) (f : A → List X) (xs ys : List A) → find q (flat_map f xs) ≡ None → find q (flat_map f (xs ++ ys)) ≡ find q (flat_map f ys)
find_past q f xs ys none =
    ap (find q) (flat_map-append f xs ys) ∙ find-append q (flat_map f xs) (flat_map f ys) ∙ ap (λ o. option_or o (find q (flat_map f ys))) none

pub find_more : {A X : Type 0} (q : X → Bool) (f : A → List X) (xs : List A) (i : ℕ) (d : A) → i < length xs → find q (flat_map f (take i xs)) ≡ None
    → find q (flat_map f (take (i + 1) xs)) ≡ find q (f (get_or xs i d))
find_more q f xs i d h none =
    let more : take (i + 1) xs ≡ take i xs ++ get_or xs i d ∷ [] = take_more xs i d h in
    ap (λ ys. find q (flat_map f ys)) more ∙ find_past q f (take i xs) (get_or xs i d ∷ []) none ∙ ap (find q) (append-nil (f (get_or xs i d)))

pub find_there : {A X : Type 0} (q : X → Bool) (f : A → List X) (xs : List A) (i : ℕ) (d : A) (x : X) → i < length xs → find q (flat_map f (take i xs)) ≡ None
    → find q (f (get_or xs i d)) ≡ Some x → find q (flat_map f xs) ≡ Some x
find_there q f xs i d x h none there =
    ap (λ ys. find q (flat_map f ys)) (split_at_index xs i d h) ∙ find_past q f (take i xs) (get_or xs i d ∷ drop (i + 1) xs) none
    ∙ find-append q (f (get_or xs i d)) (flat_map f (drop (i + 1) xs)) ∙ ap (λ o. option_or o (find q (flat_map f (drop (i + 1) xs)))) there
