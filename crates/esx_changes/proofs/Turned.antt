-- As many marks turn as name the page and are untouched; where none names it, none turns.
use Rattle.std.proofs.Common.{◌≡◌, ℕ, ◌+◌, Bool, true, false, List, [], ◌∷◌, length, count_by, ◌&&◌, ◌||◌, not, eqb, refl, sym, ap, ◌∙◌, arith, cond}
use Rattle.std.specs.List.{list_any}
use Rattle.std.proofs.lemmas.List.Sums.{sum_by-cons}
use Rattle.esx_model.specs.declared.book.Mark.{Mark}
use Rattle.esx_model.proofs.Callers.{one}
use Rattle.esx_tables.specs.declared.change.VmPart.TheVariants.{Touched}
use Rattle.esx_changes.specs.Counted.{is_first, is_touched_by, turned_from, AreNear}

one_more : (i page : ℕ) (m : Mark) (ms : List Mark) → length (turned_from (i + 1) page ms) ≡ count_by (is_first page) ms → (b : Bool) → is_first page m ≡ b
    → length (cond b (Touched i ∷ turned_from (i + 1) page ms) (turned_from (i + 1) page ms)) ≡ count_by (is_first page) (m ∷ ms)
one_more i page m ms rest true first =
    let more = sum_by-cons (λ x. cond (is_first page x) 1 0) m ms in
    let some = ap one first in
    omega (arith, more, some, rest)
one_more i page m ms rest false first =
    let more = sum_by-cons (λ x. cond (is_first page x) 1 0) m ms in
    let none = ap one first in
    omega (arith, more, none, rest)

pub turned_count : (i page : ℕ) (marks : List Mark) → length (turned_from i page marks) ≡ count_by (is_first page) marks
turned_count i page [] = refl
turned_count i page (m ∷ ms) = one_more i page m ms (turned_count (i + 1) page ms) (is_first page m) refl

-- Marks of which none names the page.

none_more : (i page : ℕ) (m : Mark) (ms : List Mark) → (list_any (λ (x : Mark). eqb page x.page) ms ≡ false → turned_from (i + 1) page ms ≡ []) → (b : Bool) → (b || list_any (λ (x : Mark). eqb page x.page) ms) ≡ false
    → cond (b && not m.touched) (Touched i ∷ turned_from (i + 1) page ms) (turned_from (i + 1) page ms) ≡ []
none_more i page m ms rest true h = cc
none_more i page m ms rest false h = rest h

turned_none : (i page : ℕ) (marks : List Mark) → list_any (λ (m : Mark). eqb page m.page) marks ≡ false → turned_from i page marks ≡ []
turned_none i page [] h = refl
turned_none i page (m ∷ ms) h = none_more i page m ms (turned_none (i + 1) page ms) (eqb page m.page) h

pub far : (page : ℕ) (marks : List Mark) → list_any (λ (m : Mark). eqb page m.page) marks ≡ false → AreNear page [] marks
far page marks h = record {
  turned = sym (turned_none 0 page marks h);
  count = sym (sym (turned_count 0 page marks) ∙ ap length (turned_none 0 page marks h));
  most = omega arith;
}

-- Marks that are touched with an access: those that were, and those that turn.

either_one : (touched named : Bool) → one (touched || named) ≡ one touched + one (named && not touched)
either_one true true = refl
either_one true false = refl
either_one false true = refl
either_one false false = refl

pub touched_or_first : (page : ℕ) (marks : List Mark) → count_by (is_touched_by page) marks ≡ count_by (λ (m : Mark). m.touched) marks + count_by (is_first page) marks
touched_or_first page [] = refl
touched_or_first page (m ∷ ms) =
    let all = sum_by-cons (λ (x : Mark). one (is_touched_by page x)) m ms in
    let before = sum_by-cons (λ (x : Mark). one x.touched) m ms in
    let first = sum_by-cons (λ (x : Mark). one (is_first page x)) m ms in
    omega (arith, all, before, first, either_one m.touched (eqb page m.page), touched_or_first page ms)
