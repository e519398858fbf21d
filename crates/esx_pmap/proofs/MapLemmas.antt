-- A page map's counts, after a change and in a search.
use Rattle.std.proofs.Common.{◌≡◌, ◌≢◌, ℕ, zero, suc, ◌+◌, ◌-◌, ◌*◌, ◌/◌, ◌%◌, ◌^◌, ◌<◌, ◌≤◌, min, Bool, true, false, cond, List, [], ◌∷◌, length, get_or, set, take, drop, replicate, sum, count_by, refl, sym, ap, ◌∙◌, inl, inr, arith, get_or-set_same, get_or-set_other}
use Rattle.std.specs.Int.{div_ceil}
use Rattle.std.proofs.Math.Seq.{take-add, take-set-lt}
use Rattle.std.proofs.lemmas.Bool.{cases_eq, cases_lt}
use Rattle.std.proofs.lemmas.List.{length-set, length-take, length-drop, length-replicate, get_or-take, get_or-drop, get_or-replicate, get_or_past, drop-set-lt, drop-set-add, take-set-le, take_all, take_min, take-take, drop-replicate}
use Rattle.std.proofs.lemmas.List.Sums.{sum_by-cons, sum_by_more, sum_by-append, sum_by-take-le, count_by-le-length}
use Rattle.esx_types.specs.declared.table.MapRow.{MapRow}
use Rattle.esx_types.specs.declared.table.MapRow.TheVariants.{Untouched, Lent}
use Rattle.esx_types.specs.Pages.{is_here, is_out, is_lent, is_lent_in, page_at, resident_from, resident_count, resident_pages}
use Rattle.esx_lists.specs.Counts.{one}
use Rattle.esx_pmap.specs.Blocks.{block_count}
use Rattle.esx_pmap.specs.declared.loans.Loan.{Loan}
use Rattle.esx_pmap.specs.declared.map.TheConstants.{BLOCK}
use Rattle.esx_pmap.specs.Loans.{AreLoans, lent_in, all_lent}
use Rattle.esx_pmap.specs.Map.{IsMap, AreLent}
use Rattle.esx_lists.proofs.Counts.{count_by-set, counted_there, count_by-replicate}

-- a page's place within its block
in_block : (rows : List MapRow) (i : ℕ) → i < length rows → i % BLOCK < length (take BLOCK (drop (i / BLOCK * BLOCK) rows))
in_block rows i h = rw (length-take, length-drop) (omega arith)

row_in_block : (rows : List MapRow) (i : ℕ) → get_or (take BLOCK (drop (i / BLOCK * BLOCK) rows)) (i % BLOCK) Untouched ≡ page_at rows i
row_in_block rows i =
    let place : i / BLOCK * BLOCK + i % BLOCK ≡ i = omega arith in
    get_or-take BLOCK (drop (i / BLOCK * BLOCK) rows) (i % BLOCK) Untouched (omega arith) ∙ (get_or-drop (i / BLOCK * BLOCK) rows (i % BLOCK) Untouched ∙ ap (page_at rows) place)

pub block_count-set_same : (rows : List MapRow) (i : ℕ) (row : MapRow) → i < length rows → block_count (set rows i row) (i / BLOCK) ≡ block_count rows (i / BLOCK) - one (is_here (page_at rows i)) + one (is_here row)
block_count-set_same rows i row h =
    let start = i / BLOCK * BLOCK in
    let place : i ≡ start + i % BLOCK = omega arith in
    let moved : take BLOCK (drop start (set rows i row)) ≡ set (take BLOCK (drop start rows)) (i % BLOCK) row =
    ap (λ n. take BLOCK (drop start (set rows n row))) place ∙ (ap (take BLOCK) (drop-set-add start rows (i % BLOCK) row) ∙ take-set-lt BLOCK (drop start rows) (i % BLOCK) row (omega arith)) in
    ap resident_count moved ∙ (count_by-set is_here (take BLOCK (drop start rows)) (i % BLOCK) row Untouched (in_block rows i h) ∙ rw (row_in_block rows i) refl)

pub block_count-set_other : (rows : List MapRow) (i b : ℕ) (row : MapRow) → b ≢ i / BLOCK → block_count (set rows i row) b ≡ block_count rows b
block_count-set_other rows i b row ne =
    elim (cases_lt i (b * BLOCK)) [
      | inl h ↦ rw (drop-set-lt (b * BLOCK) rows i row h) refl
      | inr h ↦
          let place : i ≡ b * BLOCK + (i - b * BLOCK) = omega arith in
          let past : BLOCK ≤ i - b * BLOCK = omega arith in
          ap (λ n. block_count (set rows n row) b) place ∙ rw (drop-set-add (b * BLOCK) rows (i - b * BLOCK) row, take-set-le BLOCK (drop (b * BLOCK) rows) (i - b * BLOCK) row past) refl
    ]

pub block_there : (rows : List MapRow) (i : ℕ) → i < length rows → one (is_here (page_at rows i)) ≤ block_count rows (i / BLOCK)
block_there rows i h = rw (row_in_block rows i) at (counted_there is_here (take BLOCK (drop (i / BLOCK * BLOCK) rows)) (i % BLOCK) Untouched (in_block rows i h))

pub block_fits : (rows : List MapRow) (i : ℕ) (row : MapRow) → i < length rows → block_count rows (i / BLOCK) - one (is_here (page_at rows i)) + one (is_here row) < 2 ^ 32
block_fits rows i row h =
    let e = block_count-set_same rows i row h in
    let l = count_by-le-length is_here (take BLOCK (drop (i / BLOCK * BLOCK) (set rows i row))) in
    let m = length-take BLOCK (drop (i / BLOCK * BLOCK) (set rows i row)) in
    omega (arith, e, l, m)

pub map_set : (rows : List MapRow) (blocks : List ℕ) (resident out i count all outside : ℕ) (row : MapRow) → IsMap rows blocks resident out → i < length rows → count ≡ get_or blocks (i / BLOCK) 0 - one (is_here (page_at rows i)) + one (is_here row) → all ≡ resident - one (is_here (page_at rows i)) + one (is_here row) → outside ≡ out - one (is_out (page_at rows i)) + one (is_out row) → IsMap (set rows i row) (set blocks (i / BLOCK) count) all outside
map_set rows blocks resident out i count all outside row m h counted alike away = record {
  fits = rw length-set m.fits;
  enough = rw (length-set, length-set) m.enough;
  each = λ b. elim (cases_eq b (i / BLOCK)) [
    | inl e ↦
        let there : i / BLOCK < length blocks = omega (arith, m.enough) in
        rw (e, get_or-set_same blocks (i / BLOCK) count 0 there, counted, m.each (i / BLOCK)) (sym (block_count-set_same rows i row h))
    | inr ne ↦ rw (get_or-set_other blocks (i / BLOCK) b count 0 ne) (m.each b ∙ sym (block_count-set_other rows i b row ne))
  ];
  all = alike ∙ (rw m.all (sym (count_by-set is_here rows i row Untouched h)));
  outside = away ∙ (rw m.outside (sym (count_by-set is_out rows i row Untouched h)));
}

pub none_of : (k : ℕ) → resident_count (replicate k Untouched) ≡ 0
none_of k = count_by-replicate is_here k Untouched refl

none_in : (k b : ℕ) → block_count (replicate k Untouched) b ≡ 0
none_in k b =
    let rest : resident_count (drop (b * BLOCK) (replicate k Untouched)) ≡ 0 = rw (drop-replicate (b * BLOCK) k Untouched) (none_of (k - b * BLOCK)) in
    let part = sum_by-take-le (λ x. cond (is_here x) 1 0) (drop (b * BLOCK) (replicate k Untouched)) BLOCK in
    omega (arith, rest, part)

zero_or_past : (n b : ℕ) → get_or {A = ℕ} (replicate n 0) b 0 ≡ 0
zero_or_past n b =
    elim (cases_lt b n) [
      | inl h ↦ get_or-replicate n b 0 0 h
      | inr h ↦ get_or_past (replicate n 0) b 0 (rw length-replicate h)
    ]

-- no page of a new map is in a frame
pub map_new : (max n : ℕ) → max < 2 ^ 32 → n ≡ div_ceil max BLOCK → IsMap (replicate max Untouched) (replicate n 0) 0 0
map_new max n small e = record {
  fits = rw length-replicate small;
  enough = rw (length-replicate, length-replicate) (omega arith);
  each = λ b. zero_or_past n b ∙ sym (none_in max b);
  all = sym (none_of max);
  outside = sym (count_by-replicate is_out max Untouched refl);
}

-- the counts of the first blocks are those of their pages
sum_blocks : (rows : List MapRow) (blocks : List ℕ) → ((b : ℕ) → get_or blocks b 0 ≡ block_count rows b) → (b : ℕ) → b ≤ length blocks → sum (take b blocks) ≡ resident_count (take (b * BLOCK) rows)
sum_blocks rows blocks each zero h = let none : zero * BLOCK ≡ 0 = omega arith in rw none refl
sum_blocks rows blocks each (suc b) h =
    let next : suc b ≡ b + 1 = omega arith in
    let place : (b + 1) * BLOCK ≡ b * BLOCK + BLOCK = omega arith in
    rw (next, sum_by_more (λ x. x) blocks b 0 (omega arith), each b, place, take-add (b * BLOCK) BLOCK rows, sum_by-append (λ x. cond (is_here x) 1 0) (take (b * BLOCK) rows) (take BLOCK (drop (b * BLOCK) rows)), sum_blocks rows blocks each b (omega arith)) refl

pub sum_all : (rows : List MapRow) (blocks : List ℕ) (resident out : ℕ) → IsMap rows blocks resident out → sum blocks ≡ resident_count rows
sum_all rows blocks resident out m =
    let e = sum_blocks rows blocks m.each (length blocks) (omega arith) in
    rw (take_all (length blocks) blocks (omega arith), take_all (length blocks * BLOCK) rows (omega (arith, m.enough))) at e

-- a block's rows, cut at the end of the map
pub block_rows : (rows : List MapRow) (b end : ℕ) → end ≡ min (b * BLOCK + BLOCK) (length rows) → take (end - b * BLOCK) (drop (b * BLOCK) rows) ≡ take BLOCK (drop (b * BLOCK) rows)
block_rows rows b end e =
    let cut : end - b * BLOCK ≡ min BLOCK (length (drop (b * BLOCK) rows)) = rw length-drop (omega arith) in
    rw cut (take_min BLOCK (drop (b * BLOCK) rows))

pub rest_within : (rows : List MapRow) (blocks : List ℕ) (b rest end : ℕ) → ((b : ℕ) → get_or blocks b 0 ≡ block_count rows b) → end ≡ min (b * BLOCK + BLOCK) (length rows) → rest < get_or blocks b 0 → rest < resident_count (take (end - b * BLOCK) (drop (b * BLOCK) rows))
rest_within rows blocks b rest end each e h = rw (block_rows rows b end e, ← each b) h

next_entry : (p : ℕ) (row : MapRow) (rows : List MapRow) (i : ℕ) → get_or (resident_from (p + 1) rows) (resident_count (take i rows)) 0 ≡ p + 1 + i → (t : Bool) → is_here row ≡ t
    → get_or (resident_from p (row ∷ rows)) (resident_count (row ∷ take i rows)) 0 ≡ p + suc i
next_entry p row rows i rest true e =
    let more : resident_count (row ∷ take i rows) ≡ suc (resident_count (take i rows)) = sum_by-cons (λ x. cond (is_here x) 1 0) row (take i rows) ∙ rw e (omega arith) in
    rw (more, e) (rest ∙ omega arith)
next_entry p row rows i rest false e =
    let none : resident_count (row ∷ take i rows) ≡ resident_count (take i rows) = sum_by-cons (λ x. cond (is_here x) 1 0) row (take i rows) ∙ rw e (omega arith) in
    rw (none, e) (rest ∙ omega arith)

-- the page with so many before it that are in a frame is that entry of those that are
entry_of_page : (p : ℕ) (rows : List MapRow) (i : ℕ) → i < length rows → is_here (page_at rows i) ≡ true → get_or (resident_from p rows) (resident_count (take i rows)) 0 ≡ p + i
entry_of_page p [] i h here = absurd (omega (arith, h))
entry_of_page p (row ∷ rows) zero h here = rw here (omega arith)
entry_of_page p (row ∷ rows) (suc i) h here = next_entry p row rows i (entry_of_page (p + 1) rows i (omega arith) here) (is_here row) refl

-- a page of a map, by its place in a block
pub record IsNth (rows : List MapRow) (k page : ℕ) : Type 0 where
  pub in_range : page < length rows
  pub here : is_here (page_at rows page) ≡ true
  pub entry : page ≡ get_or (resident_pages rows) k 0

pub nth_is : (rows : List MapRow) (blocks : List ℕ) (k b rest end at : ℕ) → ((b : ℕ) → get_or blocks b 0 ≡ block_count rows b) → end ≡ min (b * BLOCK + BLOCK) (length rows) → b < length blocks → sum (take b blocks) + rest ≡ k → at < length (take (end - b * BLOCK) (drop (b * BLOCK) rows)) → is_here (page_at (take (end - b * BLOCK) (drop (b * BLOCK) rows)) at) ≡ true → resident_count (take at (take (end - b * BLOCK) (drop (b * BLOCK) rows))) ≡ rest → IsNth rows k (b * BLOCK + at)
nth_is rows blocks k b rest end at each e in_blocks before there passes count =
    let cut = block_rows rows b end e in
    let block = take BLOCK (drop (b * BLOCK) rows) in
    let page = b * BLOCK + at in
    let near : at < length block = rw cut at there in
    let small : at < BLOCK = let m = rw length-take at near in omega arith in
    let in_range : page < length rows = let m = rw (length-take, length-drop) at near in omega arith in
    let row : page_at block at ≡ page_at rows page = get_or-take BLOCK (drop (b * BLOCK) rows) at Untouched small ∙ get_or-drop (b * BLOCK) rows at Untouched in
    let here : is_here (page_at rows page) ≡ true = ap is_here (sym row) ∙ rw cut at passes in
    let part : resident_count (take at (drop (b * BLOCK) rows)) ≡ rest = rw (cut, take-take at BLOCK (drop (b * BLOCK) rows) (omega arith)) at count in
    let front : resident_count (take page rows) ≡ k =
    rw (take-add (b * BLOCK) at rows, sum_by-append (λ x. cond (is_here x) 1 0) (take (b * BLOCK) rows) (take at (drop (b * BLOCK) rows)), ← sum_blocks rows blocks each b (omega arith), part) before in
    record {
      in_range = in_range;
      here = here;
      entry = sym (rw front at (entry_of_page 0 rows page in_range here) ∙ omega arith);
    }

-- The pages lent, after a change of one row.

pub loans_new : (max capacity : ℕ) → max ≤ capacity → AreLent (replicate max Untouched) [] capacity
loans_new max capacity room = record {
  loans = record { rising = λ i j q r. absurd (omega (arith, r)); some = λ i r. absurd (omega (arith, r)) };
  each = λ e. sym (count_by-replicate (is_lent_in e) max Untouched refl);
  all = sym (count_by-replicate is_lent max Untouched refl);
  room = rw length-replicate room;
}

-- without a page's row there are fewer pages lent than rows
pub others_lent : (rows : List MapRow) (i left : ℕ) → i < length rows → left + one (is_lent (page_at rows i)) ≡ count_by is_lent rows → left < length rows
others_lent rows i left h e =
    let gone = count_by-set is_lent rows i (Lent 0) Untouched h in
    let all = count_by-le-length is_lent (set rows i (Lent 0)) in
    omega (arith, e, gone, all, length-set rows i (Lent 0))

pub loans_moved : (rows : List MapRow) (i : ℕ) (row : MapRow) (before left after : List Loan) (had room : ℕ) → i < length rows → AreLent rows before had → had ≤ room → AreLoans after
    → ((e : ℕ) → lent_in e left + one (is_lent_in e (page_at rows i)) ≡ lent_in e before) → all_lent left + one (is_lent (page_at rows i)) ≡ all_lent before
    → ((e : ℕ) → lent_in e after ≡ lent_in e left + one (is_lent_in e row)) → all_lent after ≡ all_lent left + one (is_lent row) → AreLent (set rows i row) after room
loans_moved rows i row before left after had room h l more a gone lost came won = record {
  loans = a;
  each = λ e. let s = count_by-set (is_lent_in e) rows i row Untouched h in omega (arith, s, l.each e, gone e, came e);
  all = let s = count_by-set is_lent rows i row Untouched h in omega (arith, s, l.all, lost, won);
  room = rw length-set (let r = l.room in omega arith);
}
