-- Changes that are small in both forms, whatever the tables.
use Rattle.std.proofs.Common.{◌≡◌, ℕ, ◌+◌, ◌≤◌, Bool, true, false, List, [], ◌∷◌, length, refl, ap, arith, cond, Option, Some, None, Ok, Err}
use Rattle.esx_types.specs.declared.config.TheConstants.{MAX_SAMPLE, VM_NUMBERS}
use Rattle.esx_lists.specs.Counts.{one}
use Rattle.esx_types.specs.declared.config.Config.{Config}
use Rattle.esx_types.specs.declared.table.FrameRow.{FrameRow}
use Rattle.esx_types.specs.Frames.{bytes_of}
use Rattle.esx_model.specs.declared.book.VmRow.{VmRow}
use Rattle.esx_model.specs.declared.tables.Tables.{Tables}
use Rattle.esx_model.specs.event.Outcome.{Gate, Passes, first, or_else, unless}
use Rattle.esx_tables.specs.declared.change.Change.{Change}
use Rattle.esx_tables.specs.declared.change.Change.TheVariants.{FrameAt, OfVm}
use Rattle.esx_tables.specs.declared.change.VmPart.{VmPart}
use Rattle.esx_tables.specs.Changes.{exchanged}
use Rattle.esx_tables.specs.Sizes.{bytes_held, marks_held, part_marks, is_row, is_row_part, is_target, is_target_part}
use Rattle.esx_changes.specs.Planned.{Planned, at_row}
use Rattle.esx_records.specs.Small.{IsSmall}
use Rattle.esx_records.proofs.Totals.{total, total_is, one_if, back, kept_back}
use Rattle.esx_records.proofs.Alike.{places_held, places_total, row_kept, target_kept, places_kept}
use Rattle.esx_records.proofs.Pages.{HavePages, bytes_most, whole_rows, pages_back}
use Rattle.esx_records.proofs.Marks.{HaveFewMarks, part_most, marks_most, marks_back}

-- what changes hold, and what a trade leaves in them at most
pub record IsModest (c : Config) (most : ℕ) (changes : List Change) : Type 0 where
  pub bytes : total bytes_held changes ≤ c.page
  pub pages : total (bytes_most c) changes ≤ c.page
  pub rows : total (one_if is_row) changes ≤ 10
  pub marks : total marks_held changes ≤ MAX_SAMPLE
  pub turned : total marks_most changes ≤ MAX_SAMPLE
  pub targets : total (one_if is_target) changes ≤ VM_NUMBERS
  pub machines : total places_held changes ≤ most

is_small : (c : Config) (most : ℕ) (changes : List Change) → total bytes_held changes ≤ c.page → total (one_if is_row) changes ≤ 10 → total marks_held changes ≤ MAX_SAMPLE
    → total (one_if is_target) changes ≤ VM_NUMBERS → total places_held changes ≤ most → IsSmall c most changes
is_small c most changes bytes rows marks targets machines =
    let b = total_is bytes_held changes in
    let r = total_is (one_if is_row) changes in
    let m = total_is marks_held changes in
    let t = total_is (one_if is_target) changes in
    let v = places_total changes in
    record { bytes = omega (arith, b, bytes); rows = omega (arith, r, rows); marks = omega (arith, m, marks); targets = omega (arith, t, targets); machines = omega (arith, v, machines) }

pub small : (c : Config) (t : Tables) (most : ℕ) (changes : List Change) → HavePages c t → HaveFewMarks t → IsModest c most changes
    → IsSmall c most changes × IsSmall c most (exchanged t changes).1
unfolding exchanged
small c t most changes pages few m =
    let bytes = pages_back c t changes pages m.bytes in
    let held = m.pages in
    let rows = kept_back (one_if is_row) (λ u change. ap (λ b. cond b 1 0) (row_kept u change)) t changes in
    let ten = m.rows in
    let marks = marks_back t changes few m.marks in
    let hundred = m.turned in
    let targets = kept_back (one_if is_target) (λ u change. ap (λ b. cond b 1 0) (target_kept u change)) t changes in
    let each = m.targets in
    let machines = kept_back places_held places_kept t changes in
    let moved = m.machines in (
      is_small c most changes m.bytes m.rows m.marks m.targets m.machines,
      is_small c most (back t changes) (omega (arith, bytes, held)) (omega (arith, rows, ten)) (omega (arith, marks, hundred)) (omega (arith, targets, each)) (omega (arith, machines, moved)),
    )

-- Changes that hold no bytes of pages, no target and no machine, and so many rows.
pub record IsLight (c : Config) (rows : ℕ) (changes : List Change) : Type 0 where
  pub bytes : total bytes_held changes ≡ 0
  pub pages : total (bytes_most c) changes ≡ 0
  pub whole : total whole_rows changes ≡ 0
  pub rows_most : total (one_if is_row) changes ≤ rows
  pub marks : total marks_held changes ≤ MAX_SAMPLE
  pub turned : total marks_most changes ≤ MAX_SAMPLE
  pub targets : total (one_if is_target) changes ≡ 0
  pub machines : total places_held changes ≡ 0

pub light : (c : Config) (most rows : ℕ) (changes : List Change) → IsLight c rows changes → rows ≤ 10 → IsModest c most changes
light c most rows changes l few =
    let b = l.bytes in let p = l.pages in let r = l.rows_most in let t = l.targets in let v = l.machines in
    record { bytes = omega (arith, b); pages = omega (arith, p); rows = omega (arith, r, few); marks = l.marks; turned = l.turned; targets = omega (arith, t); machines = omega (arith, v) }

one_most : (b : Bool) → one b ≤ 1
one_most true = omega arith
one_most false = omega arith

-- and a part of a machine's row before them, which holds no marks and no target
pub with_part : (c : Config) (rows n : ℕ) (part : VmPart) (changes : List Change) → IsLight c rows changes → part_marks part ≡ 0 → part_most part ≡ 0 → is_target_part part ≡ false → IsLight c (rows + 1) (OfVm n part ∷ changes)
with_part c rows n part changes l none few other =
    let b = l.bytes in let p = l.pages in let w = l.whole in let r = l.rows_most in let m = l.marks in let u = l.turned in let t = l.targets in let v = l.machines in
    let row = one_most (is_row_part part) in
    let target : one (is_target_part part) ≡ 0 = ap one other in
    record {
      bytes = omega (arith, b);
      pages = omega (arith, p);
      whole = omega (arith, w);
      rows_most = omega (arith, r, row);
      marks = omega (arith, m, none);
      turned = omega (arith, u, few);
      targets = omega (arith, t, target);
      machines = omega (arith, v);
    }

-- more rows are allowed
pub more_rows : (c : Config) (rows more : ℕ) (changes : List Change) → IsLight c rows changes → rows ≤ more → IsLight c more changes
more_rows c rows more changes l less =
    let r = l.rows_most in
    record { bytes = l.bytes; pages = l.pages; whole = l.whole; rows_most = omega (arith, r, less); marks = l.marks; turned = l.turned; targets = l.targets; machines = l.machines }

-- one frame with its page before light changes
pub framed : (c : Config) (rows f : ℕ) (row : FrameRow) (changes : List Change) → IsLight c rows changes → rows ≤ 9 → length (bytes_of row) ≤ c.page → IsModest c 0 (FrameAt f row ∷ changes)
framed c rows f row changes l few small =
    let b = l.bytes in let p = l.pages in let r = l.rows_most in let m = l.marks in let u = l.turned in let t = l.targets in let v = l.machines in
    record { bytes = omega (arith, b, small); pages = omega (arith, p); rows = omega (arith, r, few); marks = omega (arith, m); turned = omega (arith, u); targets = omega (arith, t); machines = omega (arith, v) }

-- Plans.

-- where it is not refused, something holds of its changes
abbrev pub PlansOf : (List Change → Type 0) → Planned → Type 0
PlansOf P (Ok p) = P p.1
PlansOf P (Err e) = Unit {0}

pub at_row_of : (P : List Change → Type 0) (o : Option VmRow) (go : VmRow → Planned) → ((v : VmRow) → o ≡ Some v → PlansOf P (go v)) → PlansOf P (at_row o go)
at_row_of P None go h = tt
at_row_of P (Some v) go h = h v refl

pub gate_of : (P : List Change → Type 0) (gate : Gate) (p : Planned) → (Passes gate → PlansOf P p) → PlansOf P (unless gate p)
gate_of P [] p h = h tt
gate_of P (t ∷ ts) p h = of (λ e. gate_of P ts p (λ rest. h (e, rest))) t.0 refl
  where
    of : (t.0 ≡ false → PlansOf P (unless ts p)) → (b : Bool) → t.0 ≡ b → PlansOf P (or_else (cond b (Some t.1) (first ts)) p)
    of go true e = tt
    of go false e = go e

abbrev pub PlansModest : Config → ℕ → Planned → Type 0
PlansModest c most p = PlansOf (IsModest c most) p

pub at_row_modest : (c : Config) (most : ℕ) (o : Option VmRow) (go : VmRow → Planned) → ((v : VmRow) → o ≡ Some v → PlansModest c most (go v)) → PlansModest c most (at_row o go)
at_row_modest c most = at_row_of (IsModest c most)

pub gate_modest : (c : Config) (most : ℕ) (gate : Gate) (p : Planned) → (Passes gate → PlansModest c most p) → PlansModest c most (unless gate p)
gate_modest c most = gate_of (IsModest c most)

-- whatever the gate says
pub any_gate : (c : Config) (most : ℕ) (gate : Gate) (p : Planned) → PlansModest c most p → PlansModest c most (unless gate p)
any_gate c most gate p h = gate_modest c most gate p (λ _. h)
