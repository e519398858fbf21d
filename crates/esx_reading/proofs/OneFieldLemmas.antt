-- Texts that are one field, by whether a space stands in them.
use Rattle.std.proofs.Common.{◌≡◌, ◌+◌, ◌<◌, ℕ, List, [], ◌∷◌, Bool, true, false, length, refl, ap, sym, ◌∙◌, arith}
use Rattle.std.specs.Prelude.{◌||◌}
use Rattle.std.specs.List.{AllByRecursion, list_any, count_by}
use Rattle.std.proofs.Math.Dec.{eqb}
use Rattle.std.proofs.lemmas.List.Elements.{All-from_recursion}
use Rattle.std.proofs.lemmas.List.Sums.{sum_by-cons}
use Rattle.std.proofs.lemmas.List.Splits.{slice_split_none, length-slice_split}
use mathlib.Core.Bool.{cond}
use Rattle.esx_reading.specs.Fields.{fields}

neither : (a b : Bool) → (a || b) ≡ false → (a ≡ false) × (b ≡ false)
neither true b e = absurd (cc)
neither false b e = (refl, e)

none_of : (text : List ℕ) → list_any (λ b. eqb b 32) text ≡ false → AllByRecursion (λ b. eqb b 32 ≡ false) text
none_of [] e = tt
none_of (b ∷ bs) e = let h = neither (eqb b 32) (list_any (λ x. eqb x 32) bs) e in (h.0, none_of bs h.1)

more_by : (t : Bool) (any : Bool) (n : ℕ) → (t || any) ≡ true → (any ≡ true → 0 < n) → 0 < cond t 1 0 + n
more_by true any n e later = omega arith
more_by false any n e later = omega (arith, later e)

counted : (text : List ℕ) → list_any (λ b. eqb b 32) text ≡ true → 0 < count_by (λ b. eqb b 32) text
counted [] e = absurd (cc)
counted (b ∷ bs) e =
    omega (arith, sum_by-cons (λ x. cond (eqb x 32) 1 0) b bs, more_by (eqb b 32) (list_any (λ x. eqb x 32) bs) (count_by (λ x. eqb x 32) bs) e (counted bs))

pub one_field : (text bytes : List ℕ) → bytes ≡ text → list_any (λ b. eqb b 32) bytes ≡ false → fields text ≡ text ∷ []
one_field text bytes same e =
    slice_split_none (λ b. eqb b 32) text (All-from_recursion (λ b. eqb b 32 ≡ false) text (none_of text (ap (list_any (λ b. eqb b 32)) (sym same) ∙ e)))

pub more_fields : (text bytes field : List ℕ) → bytes ≡ text → list_any (λ b. eqb b 32) bytes ≡ true → fields text ≡ field ∷ [] → ⊥
more_fields text bytes field same e one =
    let some = counted text (ap (list_any (λ b. eqb b 32)) (sym same) ∙ e) in
    omega (arith, length-slice_split (λ b. eqb b 32) text, ap length one, some)
