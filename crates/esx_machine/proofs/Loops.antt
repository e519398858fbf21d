-- Rows read in turn.
use Rattle.std.proofs.Common.{◌≡◌, ℕ, zero, suc, ◌+◌, ◌-◌, ◌<◌, List, [], ◌∷◌, ◌++◌, length, get_or, drop, replicate, refl, sym, ap, ◌∙◌, append_assoc, arith, Option, Some, None}
use Rattle.std.specs.List.{fold}
use Rattle.std.proofs.lemmas.Grind.{common_steps}
use Rattle.std.proofs.lemmas.List.{get_or_read}
use Rattle.esx_types.specs.declared.config.TheConstants.{VM_NUMBERS}
use Rattle.esx_events.specs.declared.call.TableRow.{TableRow}
use Rattle.esx_formulas.specs.Ratio.{Claim}
use Rattle.esx_formulas.specs.Targets.{first_claim}
use Rattle.esx_model.specs.declared.book.VmRow.{VmRow}
use Rattle.esx_model.specs.Readings.{table_from, table_row}
use Rattle.esx_tables.specs.Promised.{AreUsed}
use Rattle.esx_machine.specs.Questions.{target_rows, claim_step, vm_step, line_of}

-- an item that was read is there
pub item_there : (xs : List (Option VmRow)) (i : ℕ) (x : Option VmRow) → i < length xs → x ≡ get_or xs i x → get_or xs i None ≡ x
item_there xs i x below is = sym (get_or_read xs i x below is None)

rest_is : (xs : List (Option VmRow)) (i : ℕ) (x : Option VmRow) → i < length xs → x ≡ get_or xs i x → drop i xs ≡ x ∷ drop (i + 1) xs
rest_is xs i x below is = grind (arith, common_steps)

-- the claim that comes first, with one more place of a machine
one_step : (tau i : ℕ) (best : Option Claim) (x : Option VmRow) (rest : List (Option VmRow))
    → fold claim_step (vm_step tau i best x) (target_rows tau (i + 1) rest) ≡ fold claim_step best (target_rows tau i (x ∷ rest))
one_step tau i best None rest = refl
one_step tau i best (Some v) rest = refl

pub claim_more : (tau i : ℕ) (best : Option Claim) (xs : List (Option VmRow)) (x : Option VmRow) → i < length xs → x ≡ get_or xs i x
    → fold claim_step (vm_step tau i best x) (target_rows tau (i + 1) (drop (i + 1) xs)) ≡ fold claim_step best (target_rows tau i (drop i xs))
claim_more tau i best xs x below is =
    one_step tau i best x (drop (i + 1) xs) ∙ ap (λ (ys : List (Option VmRow)). fold claim_step best (target_rows tau i ys)) (sym (rest_is xs i x below is))

pub claim_first : (tau : ℕ) (xs : List (Option VmRow)) → fold claim_step None (target_rows tau 0 xs) ≡ first_claim (target_rows tau 0 xs)
unfolding first_claim
claim_first tau xs = refl

-- the lines of machines, with one more place
one_line : (i : ℕ) (x : Option VmRow) (rest : List (Option VmRow)) → line_of i x ++ table_from (i + 1) rest ≡ table_from i (x ∷ rest)
one_line i None rest = refl
one_line i (Some v) rest = refl

pub lines_more : (rows : List TableRow) (i : ℕ) (xs : List (Option VmRow)) (x : Option VmRow) → i < length xs → x ≡ get_or xs i x
    → (rows ++ line_of i x) ++ table_from (i + 1) (drop (i + 1) xs) ≡ rows ++ table_from i (drop i xs)
lines_more rows i xs x below is =
    append_assoc rows (line_of i x) (table_from (i + 1) (drop (i + 1) xs))
    ∙ ap (λ (ls : List TableRow). rows ++ ls) (one_line i x (drop (i + 1) xs) ∙ ap (table_from i) (sym (rest_is xs i x below is)))

-- The places up to the last machine are enough.

blank_lines : (n k : ℕ) → table_from n (replicate k None) ≡ []
blank_lines n zero = refl
blank_lines n (suc k) = blank_lines (n + 1) k

lines_with_blank : (n k : ℕ) (used : List (Option VmRow)) → table_from n (used ++ replicate k None) ≡ table_from n used
lines_with_blank n k [] = blank_lines n k
lines_with_blank n k (None ∷ used) = lines_with_blank (n + 1) k used
lines_with_blank n k (Some v ∷ used) = ap (λ (ls : List TableRow). table_row n v ∷ ls) (lines_with_blank (n + 1) k used)

pub lines_of_used : (used all : List (Option VmRow)) → AreUsed used all → table_from 0 used ≡ table_from 0 all
lines_of_used used all u = sym (lines_with_blank 0 (VM_NUMBERS - length used) used) ∙ ap (table_from 0) u.blank
