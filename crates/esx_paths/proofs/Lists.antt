-- Lists, turned around and put in order.
use Rattle.std.proofs.Common.{◌≡◌, ℕ, suc, ◌+◌, true, false, if◌then◌else◌, nat_le, List, [], ◌∷◌, ◌++◌, length, reverse, Option, Some, None, refl, ◌∙◌, ap, arith}
use Rattle.std.specs.Prelude.{filter_map, count_by, is_some, not}
use Rattle.std.proofs.lemmas.List.{reverse-append}
use Rattle.std.proofs.lemmas.List.Sums.{sum_by-cons}
use Rattle.std.specs.List.{cons_option}
use Rattle.esx_types.specs.Listings.{with_placed, in_order}

pub reverse_cons : {X : Type 0} (x : X) (xs : List X) → reverse (x ∷ xs) ≡ reverse xs ++ x ∷ []
reverse_cons x xs = reverse-append (x ∷ []) xs

placed_length : {X : Type 0} (key : X → ℕ) (x : X) (ys : List X) → length (with_placed key x ys) ≡ suc (length ys)
placed_length key x [] = refl
placed_length key x (y ∷ ys) =
    elim (nat_le (key x) (key y)) as (λ b. length (if b then x ∷ y ∷ ys else y ∷ with_placed key x ys) ≡ suc (suc (length ys))) [
      | true ↦ refl
      | false ↦ ap (λ n. suc n) (placed_length key x ys)
    ]

-- a list in order is as long
pub in_order_length : {X : Type 0} (key : X → ℕ) (xs : List X) → length (in_order key xs) ≡ length xs
in_order_length key [] = refl
in_order_length key (x ∷ xs) = placed_length key x (in_order key xs) ∙ ap (λ n. suc n) (in_order_length key xs)

-- what comes of some elements, and the others
pub mapped_and_not : {X Y : Type 0} (f : X → Option Y) (xs : List X) → length (filter_map f xs) + count_by (λ x. not (is_some (f x))) xs ≡ length xs
mapped_and_not f [] = refl
mapped_and_not {Y = Y} f (x ∷ xs) = one (f x) (sum_by-cons _ x xs) (mapped_and_not f xs)
  where
    one : (o : Option Y) → count_by (λ x. not (is_some (f x))) (x ∷ xs) ≡ (if not (is_some o) then 1 else 0) + count_by (λ x. not (is_some (f x))) xs
        → length (filter_map f xs) + count_by (λ x. not (is_some (f x))) xs ≡ length xs → length (cons_option o (filter_map f xs)) + count_by (λ x. not (is_some (f x))) (x ∷ xs) ≡ suc (length xs)
    one (Some y) e h = omega (arith, e, h)
    one None e h = omega (arith, e, h)
