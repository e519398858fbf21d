-- How much a list of changes holds does not depend on the end that it is read from.
use Rattle.std.proofs.Common.{◌≡◌, ℕ, Bool, true, false, List, reverse, refl}
use Rattle.std.specs.List.{sum_by, count_by}
use Rattle.std.proofs.lemmas.List.Sorted.{IsPermutation-reverse, sum_by-IsPermutation}
use Rattle.esx_tables.specs.declared.change.Change.{Change}
use Rattle.esx_tables.specs.Sizes.{bytes_held, is_row, marks_held, is_target, size_of}
use Rattle.esx_tables.specs.Changes.{in_order}

sum_back : {X : Type 0} (f : X → ℕ) (xs : List X) → sum_by f (reverse xs) ≡ sum_by f xs
sum_back f xs = sum_by-IsPermutation f xs (reverse xs) (IsPermutation-reverse xs)

count_back : {X : Type 0} (p : X → Bool) (xs : List X) → count_by p (reverse xs) ≡ count_by p xs
count_back p xs = sum_back _ xs

pub size_in_order : (at_end : Bool) (cs : List Change) → size_of (in_order at_end cs) ≡ size_of cs
size_in_order true cs = rw (sum_back bytes_held cs, count_back is_row cs, sum_back marks_held cs, count_back is_target cs) refl
size_in_order false cs = refl
