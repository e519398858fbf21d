-- A list of two elements, which are taken off its end.
use Rattle.std.proofs.Common.{◌≡◌, List, [], ◌∷◌, ◌++◌, length, slice_get, Option, Some, refl, ap, sym, ◌∙◌, subst, arith, length-append}
use Rattle.std.specs.Option.{option_to_list}

module _ {A : Type 0} where
  two_at_end : (zs : List A) (a b : A) → length ((zs ++ a ∷ []) ++ b ∷ []) ≡ 2 → (slice_get ((zs ++ a ∷ []) ++ b ∷ []) 0 ≡ Some a) × (slice_get ((zs ++ a ∷ []) ++ b ∷ []) 1 ≡ Some b)
  two_at_end [] a b e = (refl, refl)
  two_at_end (z ∷ zs) a b e = absurd (omega (arith, length-append (zs ++ a ∷ []) (b ∷ []), length-append zs (a ∷ [])))

  pub two_taken : (xs ys zs : List A) (q p : Option A) (a b : A) → xs ≡ ys ++ option_to_list q → q ≡ Some b → ys ≡ zs ++ option_to_list p → p ≡ Some a → length xs ≡ 2
      → (slice_get xs 0 ≡ Some a) × (slice_get xs 1 ≡ Some b)
  two_taken xs ys zs q p a b e f g h n =
      let whole : xs ≡ (zs ++ a ∷ []) ++ b ∷ [] = e ∙ (λ i. (g ∙ ap (λ (o : Option A). zs ++ option_to_list o) h) i ++ option_to_list (f i)) in
      subst (λ (l : List A). (slice_get l 0 ≡ Some a) × (slice_get l 1 ≡ Some b)) (sym whole) (two_at_end zs a b (ap length (sym whole) ∙ n))
