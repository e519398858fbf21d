-- What is read of the raw tables is what is read of the book.
use Rattle.std.proofs.Common.{zero, suc, ◌≡◌, ℕ, ◌+◌, ◌^◌, ◌<◌, Bool, true, false, List, [], ◌∷◌, length, get_or, map, count_by, refl, sym, ap, ◌∙◌, subst, cond, Option, Some, None, ◌==◌, Result, Ok, Err}
use Rattle.std.specs.Option.{option_map}
use Rattle.std.specs.Result.{IfOk}
use Rattle.esx_types.specs.declared.level.Level.{Level}
use Rattle.esx_types.specs.declared.table.MapRow.{MapRow}
use Rattle.esx_types.specs.declared.table.MapRow.TheVariants.{Untouched, Here, Out, Lent}
use Rattle.esx_types.specs.Frames.{is_free}
use Rattle.esx_types.specs.Pages.{is_here, is_out, is_lent_in}
use Rattle.esx_events.specs.declared.call.TableRow.{TableRow}
use Rattle.esx_model.specs.declared.book.Book.{Book}
use Rattle.esx_model.specs.declared.book.VmRow.{VmRow}
use Rattle.esx_model.specs.declared.scene.Scene.{Scene}
use Rattle.esx_model.specs.declared.tables.Tables.{Tables}
use Rattle.esx_model.specs.Site.{free_count}
use Rattle.esx_model.specs.Readings.{sum_of, AddUpTo, activity, activity_of, table_row, table_from, table_of}
use Rattle.esx_model.specs.Tables.{tables_of, read_place, read_vm, book_from}
use Rattle.esx_model.proofs.Callers.{book_read, counts_same, free_rows, frames_counted, some_below}
use Rattle.esx_tables.specs.Readings.{row_at}
use Rattle.esx_plans.specs.plan.Balloon.{CanEpochsRise}
use Rattle.esx_machine.specs.Machine.{Kept, IsKept, Shows, book_in}

-- Counts of frames.

pub adds_up : (k : Kept) → IsKept k → AddUpTo k.config.frames (sum_of (book_in k))
adds_up k kept =
    let scene : Scene = record { site = kept.site; level = k.level } in
    let P : Book → Type 0 = λ b. AddUpTo k.config.frames (sum_of b) in
    let same : book_in k ≡ book_from (tables_of k.config kept.site) k.level = ap (λ (t : Tables). book_from t k.level) kept.shows in
    subst P (sym (same ∙ book_read k.config kept.site k.level kept.sound)) (frames_counted k.config scene).add_up

pub free_shown : (k : Kept) (t : Scene) → Shows k t → count_by is_free k.tables.frames ≡ free_count k.config.frames t.site
free_shown k t shows = ap (λ (x : Tables). count_by is_free x.frames) shows.tables ∙ free_rows t.site k.config.frames

-- Rows of machines.

pub row_read : (vms : List (Option VmRow)) (n : ℕ) → get_or (map (option_map read_vm) vms) n None ≡ option_map read_vm (get_or vms n None)
row_read [] n = refl
row_read (o ∷ os) zero = refl
row_read (o ∷ os) (suc n) = row_read os n

same_activity : (o : Option VmRow) → activity_of (option_map read_vm o) ≡ activity_of o
same_activity None = refl
same_activity (Some v) = refl

pub activity_read : (t : Tables) (level : Level) (n : ℕ) → activity (book_from t level) n ≡ activity_of (row_at t n)
unfolding activity
activity_read t level n = ap activity_of (row_read t.vms n) ∙ same_activity (row_at t n)

-- The table of machines.

same_here : (e : ℕ) (x : MapRow) → is_here (read_place e x) ≡ is_here x
same_here e Untouched = refl
same_here e (Here f) = refl
same_here e (Out i) = refl
same_here e (Lent d) = of (d == e)
  where
    of : (b : Bool) → is_here (cond b (Lent d) Untouched) ≡ false
    of true = refl
    of false = refl

same_out : (e : ℕ) (x : MapRow) → is_out (read_place e x) ≡ is_out x
same_out e Untouched = refl
same_out e (Here f) = refl
same_out e (Out i) = refl
same_out e (Lent d) = of (d == e)
  where
    of : (b : Bool) → is_out (cond b (Lent d) Untouched) ≡ false
    of true = refl
    of false = refl

same_lent : (e : ℕ) (x : MapRow) → is_lent_in e (read_place e x) ≡ is_lent_in e x
same_lent e Untouched = refl
same_lent e (Here f) = refl
same_lent e (Out i) = refl
same_lent e (Lent d) = of (d == e) refl
  where
    of : (b : Bool) → (d == e) ≡ b → is_lent_in e (cond b (Lent d) Untouched) ≡ (d == e)
    of true h = refl
    of false h = sym h

same_line : (n : ℕ) (v : VmRow) → table_row n (read_vm v) ≡ table_row n v
same_line n v =
    let line : ℕ → ℕ → ℕ → TableRow = λ here lent out. record (table_row n v) { here = here; lent = lent; out = out } in
    let e = v.epoch in
    let ps = map (read_place e) v.pages in
    ap (λ (x : ℕ). line x (count_by (is_lent_in e) ps) (count_by is_out ps)) (counts_same is_here is_here (read_place e) (same_here e) v.pages)
    ∙ ap (λ (x : ℕ). line (count_by is_here v.pages) x (count_by is_out ps)) (counts_same (is_lent_in e) (is_lent_in e) (read_place e) (same_lent e) v.pages)
    ∙ ap (λ (x : ℕ). line (count_by is_here v.pages) (count_by (is_lent_in e) v.pages) x) (counts_same is_out is_out (read_place e) (same_out e) v.pages)

lines_read : (n : ℕ) (vms : List (Option VmRow)) → table_from n (map (option_map read_vm) vms) ≡ table_from n vms
lines_read n [] = refl
lines_read n (None ∷ os) = lines_read (n + 1) os
lines_read n (Some v ∷ os) = ap (λ (x : TableRow). x ∷ table_from (n + 1) (map (option_map read_vm) os)) (same_line n v) ∙ ap (λ (xs : List TableRow). table_row n v ∷ xs) (lines_read (n + 1) os)

pub table_read : (t : Tables) (level : Level) → table_of (book_from t level) ≡ table_from 0 t.vms
unfolding table_of
table_read t level = lines_read 0 t.vms

pub lines_told : {E : Type 0} (t : Tables) (level : Level) (r : Result (List TableRow) E) → IfOk r (λ rows. rows ≡ table_from 0 t.vms) → IfOk r (λ rows. rows ≡ table_of (book_from t level))
lines_told t level (Ok rows) h = h ∙ sym (table_read t level)
lines_told t level (Err e) h = tt

-- Epochs that can rise in the book can rise in the tables.
pub rise_told : (t : Tables) (vms : List (Option VmRow)) → vms ≡ map (option_map read_vm) t.vms → ((k : ℕ) → k < length vms → (v : VmRow) → get_or vms k None ≡ Some v → v.epoch + 1 < 2 ^ 32) → CanEpochsRise t
rise_told t vms is low n v there =
    let here : get_or vms n None ≡ Some (read_vm v) = ap (λ (xs : List (Option VmRow)). get_or xs n None) is ∙ row_read t.vms n ∙ ap (option_map read_vm) there in
    low n (some_below vms n (read_vm v) here) (read_vm v) here
