-- The places of machines up to the last one tell whether any has more than its least.
use Rattle.std.proofs.Common.{◌≡◌, ℕ, zero, suc, ◌-◌, ◌++◌, List, [], ◌∷◌, ◌||◌, length, replicate, Bool, false, Option, None, refl, sym, ap, ◌∙◌}
use Rattle.std.specs.List.{list_any}
use Rattle.esx_types.specs.declared.config.TheConstants.{VM_NUMBERS}
use Rattle.esx_model.specs.declared.book.VmRow.{VmRow}
use Rattle.esx_tables.specs.Promised.{AreUsed}
use Rattle.esx_changes.specs.Spare.{has_spare}

blank_spare : (n : ℕ) → list_any has_spare (replicate n None) ≡ false
blank_spare zero = refl
blank_spare (suc n) = blank_spare n

spare_with_blank : (used : List (Option VmRow)) (n : ℕ) → list_any has_spare (used ++ replicate n None) ≡ list_any has_spare used
spare_with_blank [] n = blank_spare n
spare_with_blank (x ∷ xs) n = ap (λ (b : Bool). has_spare x || b) (spare_with_blank xs n)

pub spare_of_used : (used all : List (Option VmRow)) → AreUsed used all → list_any has_spare used ≡ list_any has_spare all
spare_of_used used all u = sym (spare_with_blank used (VM_NUMBERS - length used)) ∙ ap (list_any has_spare) u.blank
