-- What the tables of a sound site hold at most.
use Rattle.std.proofs.Common.{◌≡◌, zero, suc, ℕ, ◌≤◌, Bool, true, false, List, [], ◌∷◌, length, map, get_or, refl, arith, cond, Option, Some, None}
use Rattle.std.specs.List.{flat_map, range_with_len, AllByRecursion}
use Rattle.esx_types.specs.declared.config.Config.{Config}
use Rattle.esx_types.specs.declared.config.TheConstants.{MAX_SAMPLE, VM_NUMBERS}
use Rattle.esx_types.specs.declared.table.FrameRow.{FrameRow}
use Rattle.esx_types.specs.declared.table.FrameRow.TheVariants as frames
use Rattle.esx_model.specs.declared.scene.Place.{Place}
use Rattle.esx_model.specs.declared.scene.Place.TheVariants.{Untouched, Here, Out, Lent}
use Rattle.esx_model.specs.declared.scene.Vm.{Vm}
use Rattle.esx_model.specs.declared.scene.Site.{Site}
use Rattle.esx_model.specs.declared.book.PeriodRow.{PeriodRow}
use Rattle.esx_model.specs.declared.book.VmRow.{VmRow}
use Rattle.esx_model.specs.declared.tables.Tables.{Tables}
use Rattle.esx_model.specs.Places.{is_here_at, is_out_at}
use Rattle.esx_model.specs.Site.{vm_places, all_places, all_overhead}
use Rattle.esx_model.specs.Show.{pages_in, pages_out, is_listed, row_of, frame_row, slot_of, slot_row}
use Rattle.esx_model.specs.Tables.{tables_of}
use Rattle.esx_model.specs.sound.Machines.{IsVm, IsPlace}
use Rattle.esx_model.specs.sound.Sound.{IsSound}
use Rattle.esx_model.proofs.Callers.{all_append, all_map, all_filter}
use Rattle.esx_tables.specs.Readings.{row_at}
use Rattle.esx_tables.specs.Sizes.{mark_count, vm_marks}
use Rattle.esx_changes.specs.Counted.{IsOpen, ArePeriodsOpen}
use Rattle.esx_refinement.proofs.Periods.{periods_open}
use Rattle.esx_refinement.proofs.refines.Rebalancing.{has_ratios}
use Rattle.esx_records.proofs.Pages.{HavePages, IsPageAtMost, IsSlotAtMost, all_of}
use Rattle.esx_records.proofs.Marks.{HaveFewMarks}

-- pages in frames and in slots are whole pages, periods have `MAX_SAMPLE` pages at most, and there are `VM_NUMBERS` places of machines
pub record AreStocked (c : Config) (t : Tables) : Type 0 where
  pub pages : HavePages c t
  pub few : HaveFewMarks t
  pub periods : ArePeriodsOpen t
  pub places : length t.vms ≡ VM_NUMBERS

-- Bytes of places.

abbrev IsWhole : Config → Place → Type 0
IsWhole c Untouched = Unit {0}
IsWhole c (Here bytes f shared) = length bytes ≡ c.page
IsWhole c (Out bytes i) = length bytes ≡ c.page
IsWhole c (Lent e) = Unit {0}

is_whole : (c : Config) (e : ℕ) (p : Place) → IsPlace c e p → IsWhole c p
is_whole c e Untouched h = tt
is_whole c e (Here bytes f shared) h = h.1
is_whole c e (Out bytes i) h = h.1
is_whole c e (Lent d) h = tt

all_whole : (c : Config) (vms : List (Option Vm)) → ((n : ℕ) (v : Vm) → get_or vms n None ≡ Some v → IsVm c v) → AllByRecursion (IsWhole c) (flat_map vm_places vms)
all_whole c [] each = tt
all_whole c (None ∷ os) each = all_whole c os (λ n v h. each (suc n) v h)
all_whole c (Some v ∷ os) each =
    all_append (IsWhole c) v.places (flat_map vm_places os) (all_map (IsPlace c v.epoch) (IsWhole c) (is_whole c v.epoch) v.places (each zero v refl).places) (all_whole c os (λ n v h. each (suc n) v h))

places_whole : (c : Config) (s : Site) → IsSound c s → AllByRecursion (IsWhole c) (all_places s)
unfolding all_places
places_whole c s sound = all_whole c s.vms sound.each

here_whole : (c : Config) (s : Site) (f : ℕ) → IsSound c s → AllByRecursion (IsWhole c) (pages_in s f)
here_whole c s f sound = all_filter (IsWhole c) (IsWhole c) (is_here_at f) (λ p e h. h) (all_places s) (places_whole c s sound)

out_whole : (c : Config) (s : Site) (i : ℕ) → IsSound c s → AllByRecursion (IsWhole c) (pages_out s i)
out_whole c s i sound = all_filter (IsWhole c) (IsWhole c) (is_out_at i) (λ p e h. h) (all_places s) (places_whole c s sound)

row_small : (c : Config) (ps : List Place) → AllByRecursion (IsWhole c) ps → IsPageAtMost c (row_of ps)
row_small c [] h = omega arith
row_small c (Untouched ∷ ps) h = omega arith
row_small c (Here bytes f true ∷ ps) h = (let whole = h.0 in omega (arith, whole))
row_small c (Here bytes f false ∷ ps) h = (let whole = h.0 in omega (arith, whole))
row_small c (Out bytes i ∷ ps) h = omega arith
row_small c (Lent e ∷ ps) h = omega arith

slot_small : (c : Config) (ps : List Place) → AllByRecursion (IsWhole c) ps → IsSlotAtMost c (slot_of ps)
slot_small c [] h = omega arith
slot_small c (Untouched ∷ ps) h = omega arith
slot_small c (Here bytes f shared ∷ ps) h = omega arith
slot_small c (Out bytes i ∷ ps) h = (let whole = h.0 in omega (arith, whole))
slot_small c (Lent e ∷ ps) h = omega arith

either_small : (c : Config) (b : Bool) (row : FrameRow) → IsPageAtMost c row → IsPageAtMost c (cond b frames.Overhead row)
either_small c true row h = omega arith
either_small c false row h = h

frame_small : (c : Config) (s : Site) (f : ℕ) → IsSound c s → IsPageAtMost c (frame_row s f)
unfolding frame_row
frame_small c s f sound = either_small c (is_listed f (all_overhead s)) (row_of (pages_in s f)) (row_small c (pages_in s f) (here_whole c s f sound))

out_small : (c : Config) (s : Site) (i : ℕ) → IsSound c s → IsSlotAtMost c (slot_row s i)
unfolding slot_row
out_small c s i sound = slot_small c (pages_out s i) (out_whole c s i sound)

all_mapped : {X Y : Type 0} (P : Y → Type 0) (f : X → Y) → ((x : X) → P (f x)) → (xs : List X) → AllByRecursion P (map f xs)
all_mapped P f each [] = tt
all_mapped P f each (x ∷ xs) = (each x, all_mapped P f each xs)

-- Marks.

few_of : (o : Option PeriodRow) → ((p : PeriodRow) → o ≡ Some p → IsOpen p) → mark_count o ≤ MAX_SAMPLE
few_of None still = omega arith
few_of (Some p) still = (still p refl).most

vm_few : (o : Option VmRow) → ((v : VmRow) → o ≡ Some v → (p : PeriodRow) → v.period ≡ Some p → IsOpen p) → vm_marks o ≤ MAX_SAMPLE
vm_few None still = omega arith
vm_few (Some v) still = few_of v.period (still v refl)

few_marks : (t : Tables) → ArePeriodsOpen t → HaveFewMarks t
few_marks t still =
    let P : Option VmRow → Type 0 = λ row. vm_marks row ≤ MAX_SAMPLE in
    all_of P t.vms None (λ n. vm_few (row_at t n) (still n))

pub stocked : (c : Config) (s : Site) → IsSound c s → AreStocked c (tables_of c s)
stocked c s sound =
    let still = periods_open c s sound in
    record {
      pages = record {
        frames = all_mapped (IsPageAtMost c) (frame_row s) (λ f. frame_small c s f sound) (range_with_len 0 c.frames);
        slots = all_mapped (IsSlotAtMost c) (slot_row s) (λ i. out_small c s i sound) (range_with_len 0 c.slots);
      };
      few = few_marks (tables_of c s) still;
      periods = still;
      places = (has_ratios c s sound).places;
    }
