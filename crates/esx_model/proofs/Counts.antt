-- How many rows of frames there are of each kind.
use Rattle.std.proofs.Common.{◌≡◌, ℕ, ◌+◌, Bool, true, false, ◌||◌, not, List, [], ◌∷◌, ◌++◌, length, map, count_by, refl, sym, ap, ◌∙◌, cond, arith, Option, Some, None, ◌==◌}
use Rattle.std.specs.List.{flat_map, list_any, range_with_len}
use Rattle.std.proofs.lemmas.List.Sums.{sum_by-cons}
use Rattle.std.proofs.lemmas.List.Folds.{list_any-append}
use Rattle.std.proofs.lemmas.List.FromFn.{length-map-range_with_len, get_or-map-range_with_len}
use Rattle.esx_types.specs.declared.config.Config.{Config}
use Rattle.esx_types.specs.declared.table.FrameRow.{FrameRow}
use Rattle.esx_types.specs.declared.table.FrameRow.TheVariants as frame_is
use Rattle.esx_types.specs.Frames.{is_overhead, is_private, is_shared, is_free}
use Rattle.esx_model.specs.declared.scene.Place.{Place}
use Rattle.esx_model.specs.declared.scene.Place.TheVariants.{Untouched, Here, Out, Lent}
use Rattle.esx_model.specs.declared.scene.Vm.{Vm}
use Rattle.esx_model.specs.declared.scene.Site.{Site}
use Rattle.esx_model.specs.declared.scene.Scene.{Scene}
use Rattle.esx_model.specs.Places.{is_here_at}
use Rattle.esx_model.specs.Site.{vm_names, is_named, vm_places, vm_overhead, all_places, all_overhead, pages_at, free_count}
use Rattle.esx_model.specs.Show.{is_listed, in_frame, pages_in, frame_row, frame_rows, row_of, shown}
use Rattle.esx_model.specs.Readings.{sum_of, AddUpTo}
use Rattle.esx_model.specs.Laws.{AreFramesCounted}
use Rattle.esx_model.proofs.Lists.{one}
use Rattle.esx_model.proofs.Rooms.{pages_at_is}

one_kind : (row : FrameRow) → one (is_overhead row) + one (is_private row) + one (is_shared row) + one (is_free row) ≡ 1
one_kind frame_is.Free = refl
one_kind frame_is.Overhead = refl
one_kind (frame_is.Private bytes) = refl
one_kind (frame_is.Shared count bytes) = refl

-- each row is of one kind
pub kinds_add_up : (rows : List FrameRow) → count_by is_overhead rows + count_by is_private rows + count_by is_shared rows + count_by is_free rows ≡ length rows
kinds_add_up [] = refl
kinds_add_up (row ∷ rows) =
    let a = sum_by-cons (λ r. one (is_overhead r)) row rows in
    let b = sum_by-cons (λ r. one (is_private r)) row rows in
    let d = sum_by-cons (λ r. one (is_shared r)) row rows in
    let e = sum_by-cons (λ r. one (is_free r)) row rows in
    let kind = one_kind row in
    let rest = kinds_add_up rows in
    omega (arith, a, b, d, e, kind, rest)

frames_add_up : (c : Config) (t : Scene) → AddUpTo c.frames (sum_of (shown c t))
unfolding sum_of
frames_add_up c t = kinds_add_up (frame_rows c.frames t.site) ∙ length-map-range_with_len (frame_row t.site) 0 c.frames

-- Free rows are those of the frames that nobody has taken.

pub counts_same : {X Y : Type 0} (p : Y → Bool) (q : X → Bool) (h : X → Y) → ((x : X) → p (h x) ≡ q x) → (xs : List X) → count_by p (map h xs) ≡ count_by q xs
counts_same p q h same [] = refl
counts_same p q h same (x ∷ xs) =
    let a = sum_by-cons (λ y. one (p y)) (h x) (map h xs) in
    let b = sum_by-cons (λ y. one (q y)) x xs in
    let e = ap one (same x) in
    let rest = counts_same p q h same xs in
    omega (arith, a, b, e, rest)

here_row : (f : ℕ) (b : List ℕ) (g : ℕ) (x shared : Bool) (ps : List Place) → is_free (row_of (in_frame f ps)) ≡ not (list_any (is_here_at f) ps)
    → is_free (row_of (cond x (Here b g shared ∷ in_frame f ps) (in_frame f ps))) ≡ not (x || list_any (is_here_at f) ps)
here_row f b g true true ps h = refl
here_row f b g true false ps h = refl
here_row f b g false shared ps h = h

is_row_of : (f : ℕ) (xs : List Place) → is_free (row_of (in_frame f xs)) ≡ not (list_any (is_here_at f) xs)
is_row_of f [] = refl
is_row_of f (Untouched ∷ ps) = is_row_of f ps
is_row_of f (Out b i ∷ ps) = is_row_of f ps
is_row_of f (Lent e ∷ ps) = is_row_of f ps
is_row_of f (Here b g shared ∷ ps) = here_row f b g (g == f) shared ps (is_row_of f ps)

mix : (a b x y : Bool) → ((a || b) || (x || y)) ≡ ((a || x) || (b || y))
mix true b x y = refl
mix false true true y = refl
mix false true false y = refl
mix false false true y = refl
mix false false false y = refl

none_named : (f : ℕ) (o : Option Vm) → vm_names f o ≡ (is_listed f (vm_overhead o) || list_any (is_here_at f) (vm_places o))
none_named f None = refl
none_named f (Some v) = refl

named_parts : (f : ℕ) (vms : List (Option Vm)) → list_any (vm_names f) vms ≡ (is_listed f (flat_map vm_overhead vms) || list_any (is_here_at f) (flat_map vm_places vms))
named_parts f [] = refl
named_parts f (o ∷ os) =
    let q = λ (g : ℕ). g == f in
    ap (λ b. b || list_any (vm_names f) os) (none_named f o)
    ∙ ap (λ b. (list_any q (vm_overhead o) || list_any (is_here_at f) (vm_places o)) || b) (named_parts f os)
    ∙ mix (list_any q (vm_overhead o)) (list_any (is_here_at f) (vm_places o)) (list_any q (flat_map vm_overhead os)) (list_any (is_here_at f) (flat_map vm_places os))
    ∙ ap (λ b. b || (list_any (is_here_at f) (vm_places o) || list_any (is_here_at f) (flat_map vm_places os))) (sym (list_any-append q (vm_overhead o) (flat_map vm_overhead os)))
    ∙ ap (λ b. list_any q (vm_overhead o ++ flat_map vm_overhead os) || b) (sym (list_any-append (is_here_at f) (vm_places o) (flat_map vm_places os)))

free_by_parts : (x : Bool) (row : FrameRow) (y : Bool) → is_free row ≡ not y → is_free (cond x frame_is.Overhead row) ≡ not (x || y)
free_by_parts true row y h = refl
free_by_parts false row y h = h

pub free_row : (s : Site) (f : ℕ) → is_free (frame_row s f) ≡ not (is_named s f)
unfolding frame_row all_places all_overhead
free_row s f = free_by_parts (is_listed f (all_overhead s)) (row_of (pages_in s f)) (list_any (is_here_at f) (all_places s)) (is_row_of f (all_places s)) ∙ ap not (sym (named_parts f s.vms))

pub free_rows : (s : Site) (n : ℕ) → count_by is_free (frame_rows n s) ≡ free_count n s
unfolding free_count
free_rows s n = counts_same is_free (λ f. not (is_named s f)) (frame_row s) (free_row s) (range_with_len 0 n)

free_in_sum : (c : Config) (t : Scene) → (sum_of (shown c t)).free ≡ free_count c.frames t.site
unfolding sum_of
free_in_sum c t = free_rows t.site c.frames

-- A shared frame's count.

shared_count : (ps : List Place) (count : ℕ) (bytes : List ℕ) → row_of ps ≡ frame_is.Shared count bytes → count ≡ length ps
shared_count [] count bytes h = cc
shared_count (Here b frame true ∷ ps) count bytes h = (let same : 1 + length ps ≡ count = cc in omega (arith, same))
shared_count (Here b frame false ∷ ps) count bytes h = cc
shared_count (Untouched ∷ ps) count bytes h = cc
shared_count (Out b slot ∷ ps) count bytes h = cc
shared_count (Lent epoch ∷ ps) count bytes h = cc

not_overhead : (b : Bool) (row : FrameRow) (count : ℕ) (bytes : List ℕ) → cond b frame_is.Overhead row ≡ frame_is.Shared count bytes → row ≡ frame_is.Shared count bytes
not_overhead true row count bytes h = cc
not_overhead false row count bytes h = h

pub count_in_frame : (s : Site) (f count : ℕ) (bytes : List ℕ) → frame_row s f ≡ frame_is.Shared count bytes → count ≡ pages_at f s
unfolding frame_row
count_in_frame s f count bytes h =
    shared_count (pages_in s f) count bytes (not_overhead (is_listed f (all_overhead s)) (row_of (pages_in s f)) count bytes h) ∙ sym (pages_at_is f s)

pub frames_counted : (c : Config) (t : Scene) → AreFramesCounted c t
frames_counted c t = record {
  add_up = frames_add_up c t;
  free = free_in_sum c t;
  shared = λ f count bytes below h. count_in_frame t.site f count bytes (sym (get_or-map-range_with_len (frame_row t.site) 0 c.frames f f frame_is.Free below (omega arith)) ∙ h);
}
