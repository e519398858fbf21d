-- The pages of a machine that are in frames, one after the other.
use Rattle.std.proofs.Common.{◌≡◌, ℕ, ◌+◌, ◌<◌, ◌%◌, Bool, true, false, List, [], ◌∷◌, length, get_or, drop, refl, sym, ap, ◌∙◌, cond, count_by, arith, slice_get}
use Rattle.std.proofs.lemmas.List.{at_drop_more}
use Rattle.std.proofs.lemmas.List.Sums.{sum_by-cons}
use Rattle.esx_model.specs.declared.scene.Place.{Place}
use Rattle.esx_model.specs.declared.scene.Place.TheVariants.{Untouched}
use Rattle.esx_model.specs.declared.scene.Vm.{Vm}
use Rattle.esx_model.specs.Places.{is_here}
use Rattle.esx_model.specs.Site.{here_from}
use Rattle.esx_model.specs.event.Paging.{victim}

pub here_more : (ps : List Place) (i : ℕ) → i < length ps → here_from i (drop i ps) ≡ cond (is_here (get_or ps i Untouched)) (i ∷ here_from (i + 1) (drop (i + 1) ps)) (here_from (i + 1) (drop (i + 1) ps))
here_more ps i h = at_drop_more (here_from i) ps i Untouched h

-- there are as many as pages in frames
pub here_length : (i : ℕ) (ps : List Place) → length (here_from i ps) ≡ count_by is_here ps
here_length i [] = refl
here_length i (p ∷ ps) = by_test (is_here p) i (here_from (i + 1) ps) (count_by is_here ps) (here_length (i + 1) ps) ∙ sym (sum_by-cons (λ x. cond (is_here x) 1 0) p ps)
  where
    by_test : (b : Bool) (i : ℕ) (xs : List ℕ) (n : ℕ) → length xs ≡ n → length (cond b (i ∷ xs) xs) ≡ cond b 1 0 + n
    by_test true i xs n h = (let one : length (i ∷ xs) ≡ 1 + length xs = omega arith in one ∙ ap (λ k. 1 + k) h)
    by_test false i xs n h = omega (arith, h)

pub one_drawn : (v : Vm) (word : ℕ) → victim v word ≡ slice_get (here_from 0 v.places) (word % length (here_from 0 v.places))
one_drawn v word = ap (λ n. slice_get (here_from 0 v.places) (word % n)) (sym (here_length 0 v.places))
