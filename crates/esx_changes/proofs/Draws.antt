-- What a body draws is the page that the word draws.
use Rattle.std.proofs.Common.{◌≡◌, ℕ, ◌+◌, ◌<◌, ◌%◌, Bool, true, false, List, [], ◌∷◌, length, get_or, arith, refl, sym, ap, ◌∙◌, cond, Some, None, slice_get}
use Rattle.std.proofs.lemmas.Option.{slice_get-get_or}
use Rattle.std.proofs.lemmas.List.Sums.{sum_by-cons}
use Rattle.esx_types.specs.declared.table.MapRow.{MapRow}
use Rattle.esx_types.specs.Pages as rows
use Rattle.esx_model.specs.declared.book.VmRow.{VmRow}
use Rattle.esx_model.proofs.Callers.{one}
use Rattle.esx_changes.specs.Drawn.{drawn_page}

-- as many pages as are in frames
drawn_count : (i : ℕ) (ps : List MapRow) → length (rows.resident_from i ps) ≡ rows.resident_count ps
drawn_count i [] = refl
drawn_count i (p ∷ ps) = (let more = sum_by-cons (λ x. cond (rows.is_here x) 1 0) p ps in of (rows.is_here p) refl more (drawn_count (i + 1) ps))
  where
    of : (b : Bool) → rows.is_here p ≡ b → rows.resident_count (p ∷ ps) ≡ one (rows.is_here p) + rows.resident_count ps → length (rows.resident_from (i + 1) ps) ≡ rows.resident_count ps
        → length (cond b (i ∷ rows.resident_from (i + 1) ps) (rows.resident_from (i + 1) ps)) ≡ rows.resident_count (p ∷ ps)
    of true e more rest = (let some : one (rows.is_here p) ≡ 1 = ap one e in omega (arith, more, rest, some))
    of false e more rest = (let none : one (rows.is_here p) ≡ 0 = ap one e in omega (arith, more, rest, none))

pub draws_page : (v : VmRow) (word k page : ℕ) → k ≡ word % rows.resident_count v.pages → k < rows.resident_count v.pages → page ≡ get_or (rows.resident_pages v.pages) k 0 → Some page ≡ drawn_page v word
draws_page v word k page at below is =
    let count = drawn_count 0 v.pages in
    ap (λ x. Some x) is ∙ sym (slice_get-get_or (rows.resident_pages v.pages) k 0 (omega (arith, count, below))) ∙ ap (slice_get (rows.resident_pages v.pages)) at

nothing_at : (xs : List ℕ) (k : ℕ) → length xs ≡ 0 → slice_get xs k ≡ None
nothing_at [] k h = refl
nothing_at (x ∷ xs) k h = absurd (omega (arith, h))

pub draws_nothing : (v : VmRow) (word : ℕ) → rows.resident_count v.pages ≡ 0 → None ≡ drawn_page v word
draws_nothing v word none = sym (nothing_at (rows.resident_pages v.pages) (word % rows.resident_count v.pages) (drawn_count 0 v.pages ∙ none))
