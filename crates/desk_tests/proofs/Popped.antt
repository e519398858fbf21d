-- What is taken off the end of a list.
use Rattle.std.proofs.Common.{◌≡◌, ◌∙◌, List, [], ◌∷◌, ◌++◌, length, length-append, slice_get, Option, Some, IfSome, All, refl, ap, sym, subst, arith}
use Rattle.std.specs.Option.{option_to_list}
use Rattle.std.proofs.lemmas.List.Elements.{All-pop}

module _ {A : Type 0} where
  -- what holds of each element holds of the last, and of each before it
  pub all_popped : (P : A → Type 0) (xs ys : List A) (r : Option A) (a : A) → xs ≡ ys ++ option_to_list r → r ≡ Some a → All P xs → All P ys × P a
  all_popped P xs ys r a items is all = (let both = All-pop P xs ys r items all in (both.0, subst (λ (o : Option A). IfSome o P) is both.1))

  first_of_one : (ys : List A) (a : A) → length (ys ++ a ∷ []) ≡ 1 → slice_get (ys ++ a ∷ []) 0 ≡ Some a
  first_of_one [] a e = refl
  first_of_one (y ∷ ys) a e = absurd (omega (arith, length-append ys (a ∷ [])))

  pub one_popped : (xs ys : List A) (r : Option A) (a : A) → xs ≡ ys ++ option_to_list r → r ≡ Some a → length xs ≡ 1 → slice_get xs 0 ≡ Some a
  one_popped xs ys r a items is len =
      let whole : xs ≡ ys ++ a ∷ [] = items ∙ ap (λ (o : Option A). ys ++ option_to_list o) is in
      subst (λ (l : List A). slice_get l 0 ≡ Some a) (sym whole) (first_of_one ys a (ap length (sym whole) ∙ len))
