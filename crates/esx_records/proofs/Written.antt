-- A write into a frame that stays its page's.
use Rattle.std.proofs.Common.{◌≡◌, ℕ, nat_lt, Bool, false, List, length, sym, ◌∙◌, subst, cond, arith, Option, Some, Ok, ◌⊎◌, inl, inr, true, refl, None, ap}
use Rattle.esx_types.specs.declared.config.Config.{Config}
use Rattle.esx_types.specs.declared.level.Level.{Level}
use Rattle.esx_types.specs.declared.table.FrameRow.{FrameRow}
use Rattle.esx_types.specs.declared.table.FrameRow.TheVariants as frames
use Rattle.esx_types.specs.declared.table.MapRow.{MapRow}
use Rattle.esx_types.specs.declared.table.MapRow.TheVariants as maps
use Rattle.esx_types.specs.Frames.{frame_at, least_frame}
use Rattle.esx_types.specs.Pages.{page_at}
use Rattle.esx_events.specs.declared.event.Event.TheVariants.{Write}
use Rattle.esx_model.specs.declared.book.VmRow.{VmRow}
use Rattle.esx_model.specs.declared.tables.Tables.{Tables}
use Rattle.esx_model.specs.Tables.{standing_of}
use Rattle.esx_model.specs.event.Access.{access_gate}
use Rattle.esx_tables.specs.declared.change.Change.{Change}
use Rattle.esx_tables.specs.Changes.{exchanged}
use Rattle.esx_tables.specs.Readings.{row_at}
use Rattle.esx_tables.specs.Sizes.{bytes_held, size_of}
use Rattle.esx_changes.specs.Planned.{Planned}
use Rattle.esx_changes.specs.Counted.{IsOpenOf}
use Rattle.esx_access.specs.Access.{come, write_own, write_copy, write_last, write_frame, write_from, write_plan}
use Rattle.esx_machine.specs.Machine.{Kept, IsKept, Back, Exchanges}
use Rattle.esx_records.specs.Forms.{after_flips, IsIn}
use Rattle.esx_records.proofs.Totals.{total, total_is, back}
use Rattle.esx_records.proofs.Pages.{whole_rows, bytes_stay}
use Rattle.esx_records.proofs.Modest.{PlansOf, at_row_of, gate_of}
use Rattle.esx_records.proofs.Stocks.{AreStocked}
use Rattle.esx_records.proofs.Forms.{turned_changes, in_each_form, kept_stocked}
use Rattle.esx_records.proofs.Copied.{Moves, copy_moves}
use Rattle.esx_records.proofs.plans.Counted.{counted_light}

-- no whole row, and as many bytes as were written
abbrev Overwrites : List ℕ → List Change → Type 0
Overwrites new changes = (total whole_rows changes ≡ 0) × (total bytes_held changes ≡ length new)

own_written : (c : Config) (n : ℕ) (v : VmRow) (page at : ℕ) (new : List ℕ) (f : ℕ) → IsOpenOf v → Overwrites new (write_own n v page at new f).1
own_written c n v page at new f fits =
    let l = counted_light c n page v fits in
    let w = l.whole in let b = l.bytes in
    (omega (arith, w), omega (arith, b))

last_written : (c : Config) (n : ℕ) (v : VmRow) (page at : ℕ) (new : List ℕ) (f : ℕ) → IsOpenOf v → Overwrites new (write_last n v page at new f).1
last_written c n v page at new f fits =
    let l = counted_light c n page v fits in
    let w = l.whole in let b = l.bytes in
    (omega (arith, w), omega (arith, b))

-- it does, or the page is in the frame no longer
abbrev Writes : Tables → ℕ → ℕ → ℕ → List ℕ → List Change → Type 0
Writes t n page f new changes = Overwrites new changes ⊎ Moves t n page f changes

copy_written : (t : Tables) (n : ℕ) (v : VmRow) (page at : ℕ) (new : List ℕ) (f count : ℕ) (bytes : List ℕ) → row_at t n ≡ Some v → page_at v.pages page ≡ maps.Here f
    → frame_at t.frames f ≡ frames.Shared count bytes → (o : Option ℕ) → least_frame t.frames ≡ o → PlansOf (Writes t n page f new) (come (write_copy n v page at new f count bytes) o)
copy_written t n v page at new f count bytes there here shared None found = tt
copy_written t n v page at new f count bytes there here shared (Some g) found = inr (copy_moves t n page at new f count bytes g v there here shared found)

frame_written : (c : Config) (t : Tables) (n : ℕ) (v : VmRow) (page at : ℕ) (new : List ℕ) (f : ℕ) → IsOpenOf v → row_at t n ≡ Some v → page_at v.pages page ≡ maps.Here f
    → (row : FrameRow) → frame_at t.frames f ≡ row → PlansOf (Writes t n page f new) (write_frame t n v page at new f row)
frame_written c t n v page at new f fits there here frames.Free is = tt
frame_written c t n v page at new f fits there here frames.Overhead is = tt
frame_written c t n v page at new f fits there here (frames.Private bytes) is = inl (own_written c n v page at new f fits)
frame_written c t n v page at new f fits there here (frames.Shared count bytes) is = of (nat_lt 1 count)
  where
    of : (b : Bool) → PlansOf (Writes t n page f new) (cond b (come (write_copy n v page at new f count bytes) (least_frame t.frames)) (Ok (write_last n v page at new f)))
    of true = copy_written t n v page at new f count bytes there here is (least_frame t.frames) refl
    of false = inl (last_written c n v page at new f fits)

machine_writes : (c : Config) (t : Tables) (n page at : ℕ) (new : List ℕ) (f : ℕ) → AreStocked c t → (i : IsIn t n page f) → (v : VmRow) → row_at t n ≡ Some v
    → PlansOf (Writes t n page f new) (write_from c t n v page at new (page_at v.pages page))
machine_writes c t n page at new f s i v there =
    let same : i.row ≡ v = one_row (row_at t n) i.row v i.machine there in
    let P : MapRow → Type 0 = λ was. PlansOf (Writes t n page f new) (write_from c t n v page at new was) in
    let Q : VmRow → Type 0 = λ w. page_at w.pages page ≡ maps.Here f in
    let here = subst Q same i.place in
    subst P (sym here) (frame_written c t n v page at new f (s.periods n v there) there here (frame_at t.frames f) refl)
  where
    one_row : (o : Option VmRow) (v w : VmRow) → o ≡ Some v → o ≡ Some w → v ≡ w
    one_row o v w e f = cc

plan_writes : (c : Config) (t : Tables) (level : Level) (n page at : ℕ) (new : List ℕ) (f : ℕ) → AreStocked c t → IsIn t n page f → PlansOf (Writes t n page f new) (write_plan c t level n page at new)
unfolding write_plan
plan_writes c t level n page at new f s i =
    at_row_of (Writes t n page f new) (row_at t n) _ (λ v there.
    gate_of (Writes t n page f new) (access_gate c level (standing_of v) page at (length new)) (write_from c t n v page at new (page_at v.pages page)) (λ _. machine_writes c t n page at new f s i v there))

back_writes : (t : Tables) (new : List ℕ) (changes : List Change) → Overwrites new changes → (size_of (exchanged t changes).1).bytes ≡ length new
unfolding exchanged
back_writes t new changes w = total_is bytes_held (back t changes) ∙ bytes_stay t changes w.0 ∙ w.1

-- the page is where it was, so that it was not copied
stayed : (t u : Tables) (n page f : ℕ) (new : List ℕ) (changes : List Change) → u ≡ (exchanged t changes).0 → IsIn u n page f → Writes t n page f new changes → Overwrites new changes
stayed t u n page f new changes is i (inl w) = w
stayed t u n page f new changes is i (inr moves) = absurd (moves i.row (ap (λ (x : Tables). row_at x n) (sym is) ∙ i.machine) i.place)

pub written : (old new : Kept) (n page at f : ℕ) (bytes : List ℕ) (r : Back) → IsKept old → Exchanges old new (Write n page at bytes) r → IsIn old.tables n page f → IsIn new.tables n page f
    → (k : ℕ) → (size_of (after_flips k r new old).changes).bytes ≡ length bytes
written old new n page at f bytes r kept x before after =
    let P : Back → Type 0 = λ q. (size_of q.changes).bytes ≡ length bytes in
    let Q : List Change → Type 0 = λ cs. (size_of cs).bytes ≡ length bytes in
    let R : Planned → Type 0 = PlansOf (Writes old.tables n page f bytes) in
    let may = subst R x.planned (plan_writes old.config old.tables old.level n page at bytes f (kept_stocked old kept) before) in
    let w = stayed old.tables new.tables n page f bytes x.plan.1 x.tables after may in
    in_each_form P old new (Write n page at bytes) r x
    (subst Q (sym x.changes) (back_writes old.tables bytes x.plan.1 w))
    (subst Q (sym (turned_changes old new (Write n page at bytes) r x)) (total_is bytes_held x.plan.1 ∙ w.1))
