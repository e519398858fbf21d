-- An access is counted in a machine's row as it is in the machine.
use Rattle.std.proofs.Common.{◌≡◌, ℕ, ◌+◌, Bool, true, false, ◌&&◌, ◌||◌, not, ◌==◌, nat_lt, List, [], ◌∷◌, ◌++◌, length, get_or, set, map, count_by, refl, sym, ap, ◌∙◌, arith, cond, Option, Some, None, append_assoc, length-append}
use Rattle.std.proofs.Math.Seq.{get_or-append_seam, set-append_seam}
use Rattle.std.proofs.lemmas.List.{length-map}
use Rattle.std.proofs.lemmas.List.Folds.{list_any-append}
use Rattle.esx_lists.specs.Trades.{in_turn}
use Rattle.esx_formulas.specs.declared.activity.Estimate.{Estimate}
use Rattle.esx_formulas.specs.declared.activity.Period.{Period}
use Rattle.esx_formulas.specs.Average.{touched_share, slower, faster, slow_average, fast_average, is_touched, so_far}
use Rattle.esx_formulas.proofs.AverageLaws.{slow_average_push, fast_average_push}
use Rattle.esx_average.specs.Means.{estimate}
use Rattle.esx_model.specs.declared.scene.Vm.{Vm}
use Rattle.esx_model.specs.declared.book.Mark.{Mark}
use Rattle.esx_model.specs.declared.book.PeriodRow.{PeriodRow}
use Rattle.esx_model.specs.declared.book.VmRow.{VmRow}
use Rattle.esx_model.specs.Show.{period_row}
use Rattle.esx_model.specs.Tables.{vm_table}
use Rattle.esx_model.specs.event.Sampling.{counted_in, counted}
use Rattle.esx_model.proofs.Callers.{counts_same}
use Rattle.esx_tables.specs.declared.change.VmPart.TheVariants as parts
use Rattle.esx_tables.specs.Machines.{part_traded, mark_turned, no_mark}
use Rattle.esx_changes.specs.Counted.{is_first, turned_from, is_touched_by, counted_parts}

-- The marks.

abbrev marked_by : ℕ → Mark → Mark
marked_by page m = record m { touched = is_touched_by page m }

stays : (names touched : Bool) → (names && not touched) ≡ false → (touched || names) ≡ touched
stays true true h = refl
stays true false h = cc
stays false true h = refl
stays false false h = refl

turns : (names touched : Bool) → (names && not touched) ≡ true → not touched ≡ (touched || names)
turns true true h = cc
turns true false h = refl
turns false true h = cc
turns false false h = cc

-- a row whose open period has these marks
abbrev with_marks : VmRow → PeriodRow → List Mark → VmRow
with_marks v p marks = record v { period = Some (record p { marks = marks }) }

turned_there : (page : ℕ) (m : Mark) (front ms : List Mark) → is_first page m ≡ true
    → set (front ++ m ∷ ms) (length front) (mark_turned (get_or (front ++ m ∷ ms) (length front) no_mark)) ≡ front ++ marked_by page m ∷ ms
turned_there page m front ms first =
    ap (λ (x : Mark). set (front ++ m ∷ ms) (length front) (mark_turned x)) (get_or-append_seam front m ms no_mark)
    ∙ set-append_seam front m ms (mark_turned m)
    ∙ ap (λ (b : Bool). front ++ record m { touched = b } ∷ ms) (turns (page == m.page) m.touched first)

abbrev TurnsRest : VmRow → PeriodRow → ℕ → ℕ → List Mark → Mark → List Mark → Type 0
TurnsRest v p page i front m ms =
    (in_turn part_traded (with_marks v p (front ++ m ∷ ms)) (turned_from i page ms)).0 ≡ with_marks v p (front ++ m ∷ map (marked_by page) ms)

turned_one : (v : VmRow) (p : PeriodRow) (page i : ℕ) (front : List Mark) (m : Mark) (ms : List Mark) → i ≡ length front → TurnsRest v p page (i + 1) front (marked_by page m) ms
    → (b : Bool) → is_first page m ≡ b
    → (in_turn part_traded (with_marks v p (front ++ m ∷ ms)) (cond b (parts.Touched i ∷ turned_from (i + 1) page ms) (turned_from (i + 1) page ms))).0 ≡ with_marks v p (front ++ marked_by page m ∷ map (marked_by page) ms)
turned_one v p page i front m ms at rest true first =
    ap (λ (k : ℕ). (in_turn part_traded (with_marks v p (set (front ++ m ∷ ms) k (mark_turned (get_or (front ++ m ∷ ms) k no_mark)))) (turned_from (i + 1) page ms)).0) at
    ∙ ap (λ (xs : List Mark). (in_turn part_traded (with_marks v p xs) (turned_from (i + 1) page ms)).0) (turned_there page m front ms first)
    ∙ rest
turned_one v p page i front m ms at rest false first =
    ap (λ (b : Bool). (in_turn part_traded (with_marks v p (front ++ record m { touched = b } ∷ ms)) (turned_from (i + 1) page ms)).0) (sym (stays (page == m.page) m.touched first))
    ∙ rest

turned : (v : VmRow) (p : PeriodRow) (page i : ℕ) (front ms : List Mark) → i ≡ length front
    → (in_turn part_traded (with_marks v p (front ++ ms)) (turned_from i page ms)).0 ≡ with_marks v p (front ++ map (marked_by page) ms)
turned v p page i front [] at = refl
turned v p page i front (m ∷ ms) at =
    let now = marked_by page m in
    let rest : TurnsRest v p page (i + 1) front now ms =
    ap (λ (xs : List Mark). (in_turn part_traded (with_marks v p xs) (turned_from (i + 1) page ms)).0) (sym (append_assoc front (now ∷ []) ms))
    ∙ turned v p page (i + 1) (front ++ now ∷ []) ms (let more = length-append front (now ∷ []) in omega (arith, more))
    ∙ ap (with_marks v p) (append_assoc front (now ∷ []) (map (marked_by page) ms)) in
    turned_one v p page i front m ms at rest (is_first page m) refl

-- The period.

map_through : {A B C : Type 0} (g : B → C) (f : A → B) (h : A → C) → ((x : A) → g (f x) ≡ h x) → (xs : List A) → map g (map f xs) ≡ map h xs
map_through g f h same [] = refl
map_through {C = C} g f h same (x ∷ xs) = ap (λ (y : C). y ∷ map g (map f xs)) (same x) ∙ ap (λ (ys : List C). h x ∷ ys) (map_through g f h same xs)

or_no : (b : Bool) → b ≡ (b || false)
or_no true = refl
or_no false = refl

abbrev with_access : Period → ℕ → Period
with_access p page = record p { accessed = p.accessed ++ page ∷ [] }

abbrev mark_of : Period → ℕ → Mark
mark_of p q = record { page = q; touched = is_touched p q }

touched_now : (p : Period) (page q : ℕ) → is_touched_by page (mark_of p q) ≡ is_touched (with_access p page) q
touched_now p page q =
    ap (λ (b : Bool). is_touched p q || b) (or_no (page == q)) ∙ sym (list_any-append (λ x. x == q) p.accessed (page ∷ []))

marks_now : (p : Period) (page : ℕ) → map (marked_by page) (map (mark_of p) p.pages) ≡ map (mark_of (with_access p page)) p.pages
marks_now p page = map_through (marked_by page) (mark_of p) (mark_of (with_access p page)) (λ q. ap (λ (b : Bool). record (mark_of p q) { touched = b }) (touched_now p page q)) p.pages

estimate_now : (p : Period) (page : ℕ) → estimate (count_by (is_touched_by page) (map (mark_of p) p.pages)) (length (map (mark_of p) p.pages)) ≡ so_far (with_access p page)
estimate_now p page =
    ap (λ (k : ℕ). estimate k (length (map (mark_of p) p.pages))) (counts_same (is_touched_by page) (is_touched (with_access p page)) (mark_of p) (touched_now p page) p.pages)
    ∙ ap (λ (k : ℕ). estimate (count_by (is_touched (with_access p page)) p.pages) k) (length-map p.pages (mark_of p))

abbrev open_with : Vm → Period → Vm
open_with v p = record v { period = Some p }

abbrev closed_with : Vm → Period → Vm
closed_with v p = record v { period = None; closed = v.closed ++ so_far p ∷ [] }

either_way : (v : Vm) (p : Period) (page : ℕ) (b : Bool)
    → (in_turn part_traded (vm_table (open_with v p)) (cond b (parts.Done (length p.accessed + 1) ∷ turned_from 0 page (period_row p).marks)
    (parts.Period None ∷ parts.Averages (record { slow = slower (slow_average v.closed) (touched_share (estimate (count_by (is_touched_by page) (period_row p).marks) (length (period_row p).marks))); fast = faster (fast_average v.closed) (touched_share (estimate (count_by (is_touched_by page) (period_row p).marks) (length (period_row p).marks))) }) ∷ []))).0
    ≡ vm_table (cond b (open_with v (with_access p page)) (closed_with v (with_access p page)))
either_way v p page true =
    let row : PeriodRow = record (period_row p) { done = length p.accessed + 1 } in
    let r : VmRow = vm_table (open_with v p) in
    turned r row page 0 [] (period_row p).marks refl
    ∙ ap (λ (marks : List Mark). with_marks r row marks) (marks_now p page)
    ∙ ap (λ (k : ℕ). vm_row_done k) (sym (length-append p.accessed (page ∷ [])))
  where
    vm_row_done : ℕ → VmRow
    vm_row_done k = record (vm_table (open_with v (with_access p page))) { period = Some (record (period_row (with_access p page)) { done = k }) }
either_way v p page false =
    let q : Period = with_access p page in
    let r : VmRow = record (vm_table v) { period = None } in
    ap (λ (e : Estimate). record r { slow = slower (slow_average v.closed) (touched_share e); fast = faster (fast_average v.closed) (touched_share e) }) (estimate_now p page)
    ∙ ap (λ (k : ℕ). record r { slow = k; fast = faster (fast_average v.closed) (touched_share (so_far q)) }) (sym (slow_average_push v.closed (so_far q)))
    ∙ ap (λ (k : ℕ). record r { slow = slow_average (v.closed ++ so_far q ∷ []); fast = k }) (sym (fast_average_push v.closed (so_far q)))

by_period : (v : Vm) (page : ℕ) (o : Option Period) → let w : Vm = record v { period = o } in (in_turn part_traded (vm_table w) (counted_parts (vm_table w) page)).0 ≡ vm_table (counted_in page w o)
by_period v page None = refl
by_period v page (Some p) =
    either_way v p page (nat_lt (length p.accessed + 1) p.length)
    ∙ ap (λ (k : ℕ). vm_table (cond (nat_lt k p.length) (open_with v (with_access p page)) (closed_with v (with_access p page)))) (sym (length-append p.accessed (page ∷ [])))

-- the parts of one access make of a machine's row that of the machine after it
pub counted_shown : (v : Vm) (page : ℕ) → (in_turn part_traded (vm_table v) (counted_parts (vm_table v) page)).0 ≡ vm_table (counted page v)
counted_shown v page = by_period v page v.period
