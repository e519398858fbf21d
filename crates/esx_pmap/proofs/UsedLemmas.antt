-- What is counted and found among the rows that were used, is so among all: the rest was never touched.
use Rattle.std.proofs.Common.{◌≡◌, ℕ, zero, suc, ◌+◌, ◌-◌, ◌*◌, ◌<◌, ◌≤◌, ◌++◌, cond, List, [], ◌∷◌, length, get_or, take, drop, replicate, refl, sym, ap, ◌∙◌, inl, inr, arith, if◌then◌else◌}
use Rattle.std.proofs.Math.Seq.{take-append-add}
use Rattle.std.proofs.lemmas.Bool.{cases_lt}
use Rattle.std.proofs.lemmas.List.{length-append, length-take, length-drop, take_all, take-append-le, get_or_append_left}
use Rattle.std.proofs.lemmas.List.Sums.{sum_by-append, sum_by-take-le, count_by-le-length}
use Rattle.esx_types.specs.declared.table.MapRow.{MapRow}
use Rattle.esx_types.specs.declared.table.MapRow.TheVariants.{Untouched}
use Rattle.esx_types.specs.Pages.{is_here, resident_from, resident_count}
use Rattle.esx_pmap.specs.declared.map.TheConstants.{BLOCK}
use Rattle.esx_pmap.specs.Blocks.{block_count}
use Rattle.esx_pmap.proofs.GroupLemmas.{count_further}
use Rattle.esx_pmap.proofs.MapLemmas.{IsNth, none_of}

used_front : (used : List MapRow) (n m : ℕ) → resident_count (take m (used ++ replicate n Untouched)) ≡ resident_count (take m used)
used_front used n m =
    elim (cases_lt m (length used)) [
      | inl h ↦ ap resident_count (take-append-le m used (replicate n Untouched) (omega (arith, h)))
      | inr h ↦
          let past = m - length used in
          let over : m ≡ length used + past = omega (arith, h) in
          let split : take m (used ++ replicate n Untouched) ≡ used ++ take past (replicate n Untouched) =
          ap (λ k. take k (used ++ replicate n Untouched)) over ∙ take-append-add used (replicate n Untouched) past in
          let parts = sum_by-append (λ x. cond (is_here x) 1 0) used (take past (replicate n Untouched)) in
          let none = sum_by-take-le (λ x. cond (is_here x) 1 0) (replicate n Untouched) past in
          rw (split, take_all m used h) (omega (arith, parts, none, none_of n))
    ]

used_block : (used : List MapRow) (n b : ℕ) → block_count (used ++ replicate n Untouched) b ≡ block_count used b
used_block used n b =
    let all = count_further (b * BLOCK) BLOCK (used ++ replicate n Untouched) in
    let here = count_further (b * BLOCK) BLOCK used in
    omega (arith, all, here, used_front used n (b * BLOCK), used_front used n (b * BLOCK + BLOCK))

pub each_used : (rows used : List MapRow) (blocks : List ℕ) (n : ℕ) → rows ≡ used ++ replicate n Untouched → ((b : ℕ) → get_or blocks b 0 ≡ block_count rows b) → (b : ℕ) → get_or blocks b 0 ≡ block_count used b
each_used rows used blocks n e each b = each b ∙ (ap (λ all. block_count all b) e ∙ used_block used n b)

no_pages : (p n : ℕ) → resident_from p (replicate n Untouched) ≡ []
no_pages p zero = refl
no_pages p (suc n) = no_pages (p + 1) n

used_pages : (p : ℕ) (used : List MapRow) (n : ℕ) → resident_from p (used ++ replicate n Untouched) ≡ resident_from p used
used_pages p [] n = no_pages p n
used_pages p (row ∷ used) n = ap (λ (rest : List ℕ). if is_here row then p ∷ rest else rest) (used_pages (p + 1) used n)

-- a block with a resident page begins among the rows that were used
pub begins_within : (used : List MapRow) (blocks : List ℕ) (b rest : ℕ) → ((b : ℕ) → get_or blocks b 0 ≡ block_count used b) → rest < get_or blocks b 0 → b * BLOCK < length used
begins_within used blocks b rest each h =
    let few = count_by-le-length is_here (take BLOCK (drop (b * BLOCK) used)) in
    let size : length (take BLOCK (drop (b * BLOCK) used)) ≤ length used - b * BLOCK = rw (length-take, length-drop) (omega arith) in
    omega (arith, h, each b, few, size)

pub nth_of_all : (rows used : List MapRow) (n k page : ℕ) → rows ≡ used ++ replicate n Untouched → IsNth used k page → IsNth rows k page
nth_of_all rows used n k page e nth = rw e (record {
  in_range = let l = length-append used (replicate n Untouched) in omega (arith, l, nth.in_range);
  here = ap is_here (get_or_append_left used (replicate n Untouched) Untouched page nth.in_range) ∙ nth.here;
  entry = nth.entry ∙ ap (λ pages. get_or pages k 0) (sym (used_pages 0 used n));
})
