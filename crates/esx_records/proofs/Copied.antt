-- A page that is copied as it is written is in another frame afterwards.
use Rattle.std.proofs.Common.{◌≡◌, zero, suc, ℕ, ◌+◌, nat_lt, Bool, true, false, List, [], ◌∷◌, map, get_or, set, refl, sym, ap, ◌∙◌, cond, Option, Some, None}
use Rattle.std.specs.List.{AllByRecursion}
use Rattle.std.specs.Option.{option_map}
use Rattle.esx_average.specs.Means.{Means}
use Rattle.esx_lists.specs.Trades.{in_turn}
use Rattle.esx_lists.proofs.Positions.{first_found}
use Rattle.esx_types.specs.declared.table.FrameRow.TheVariants as frames
use Rattle.esx_types.specs.declared.table.MapRow.{MapRow}
use Rattle.esx_types.specs.declared.table.MapRow.TheVariants as maps
use Rattle.esx_types.specs.Frames.{is_free, frame_at, least_frame}
use Rattle.esx_types.specs.Pages.{page_at}
use Rattle.esx_model.specs.declared.book.Mark.{Mark}
use Rattle.esx_model.specs.declared.book.PeriodRow.{PeriodRow}
use Rattle.esx_model.specs.declared.book.VmRow.{VmRow}
use Rattle.esx_model.specs.declared.tables.Tables.{Tables}
use Rattle.esx_tables.specs.declared.change.Change.{Change}
use Rattle.esx_tables.specs.declared.change.Change.TheVariants.{OfVm}
use Rattle.esx_tables.specs.declared.change.VmPart.{VmPart}
use Rattle.esx_tables.specs.declared.change.VmPart.TheVariants.{PageAt, Period, Done, Touched, Averages}
use Rattle.esx_tables.specs.Changes.{traded, exchanged}
use Rattle.esx_tables.specs.Machines.{part_traded, vm_traded}
use Rattle.esx_tables.specs.Readings.{row_at}
use Rattle.esx_changes.specs.Counted.{is_first, turned_from, closed_means, open_parts, counted_parts}
use Rattle.esx_access.specs.Access.{write_copy}

abbrev pub pages_of : Option VmRow → Option (List MapRow)
pages_of o = option_map (λ (v : VmRow). v.pages) o

-- Parts that leave the page map alone.

abbrev pub IsStill : VmPart → Type 0
IsStill part = (v : VmRow) → (part_traded v part).0.pages ≡ v.pages

turned_still : (i page : ℕ) (marks : List Mark) → AllByRecursion IsStill (turned_from i page marks)
turned_still i page [] = tt
turned_still i page (m ∷ ms) = of (turned_still (i + 1) page ms) (is_first page m)
  where
    of : AllByRecursion IsStill (turned_from (i + 1) page ms) → (b : Bool) → AllByRecursion IsStill (cond b (Touched i ∷ turned_from (i + 1) page ms) (turned_from (i + 1) page ms))
    of rest true = ((λ v. refl), rest)
    of rest false = rest

period_still : (page : ℕ) (means : Means) (p : PeriodRow) (b : Bool) → AllByRecursion IsStill (cond b (Done (p.done + 1) ∷ turned_from 0 page p.marks) (Period None ∷ Averages (closed_means page means p.marks) ∷ []))
period_still page means p true = ((λ v. refl), turned_still 0 page p.marks)
period_still page means p false = ((λ v. refl), ((λ v. refl), tt))

opened_still : (page : ℕ) (means : Means) (o : Option PeriodRow) → AllByRecursion IsStill (open_parts page means o)
opened_still page means None = tt
opened_still page means (Some p) = period_still page means p (nat_lt (p.done + 1) p.length)

pub one_still : (vms : List (Option VmRow)) (n : ℕ) (part : VmPart) → IsStill part → pages_of (get_or (set vms n (vm_traded (get_or vms n None) part).0) n None) ≡ pages_of (get_or vms n None)
one_still [] n part still = refl
one_still (None ∷ os) zero part still = refl
one_still (Some v ∷ os) zero part still = ap (λ ps. Some ps) (still v)
one_still (o ∷ os) (suc n) part still = one_still os n part still

parts_still : (t : Tables) (n : ℕ) (parts : List VmPart) → AllByRecursion IsStill parts → pages_of (row_at (in_turn traded t (map (OfVm n) parts)).0 n) ≡ pages_of (row_at t n)
unfolding traded
parts_still t n [] still = refl
parts_still t n (part ∷ parts) still = parts_still (traded t (OfVm n part)).0 n parts still.1 ∙ one_still t.vms n part still.0

-- A page that comes to a frame.

come_there : (vms : List (Option VmRow)) (n page g : ℕ) (v : VmRow) → get_or vms n None ≡ Some v
    → pages_of (get_or (set vms n (vm_traded (get_or vms n None) (PageAt page (maps.Here g))).0) n None) ≡ Some (set v.pages page (maps.Here g))
come_there [] n page g v there = cc
come_there (None ∷ os) zero page g v there = cc
come_there (Some w ∷ os) zero page g v there =
    let same : w ≡ v = cc in
    ap (λ (u : VmRow). Some (set u.pages page (maps.Here g))) same
come_there (o ∷ os) (suc n) page g v there = come_there os n page g v there

set_page : (ps : List MapRow) (page f g : ℕ) → page_at ps page ≡ maps.Here f → page_at (set ps page (maps.Here g)) page ≡ maps.Here g
set_page [] page f g here = cc
set_page (p ∷ ps) zero f g here = refl
set_page (p ∷ ps) (suc page) f g here = set_page ps page f g here

-- the page is in the frame no longer
abbrev pub Moves : Tables → ℕ → ℕ → ℕ → List Change → Type 0
Moves t n page f changes = (w : VmRow) → row_at (exchanged t changes).0 n ≡ Some w → page_at w.pages page ≡ maps.Here f → ⊥

copied_pages : (t : Tables) (n page at : ℕ) (new : List ℕ) (f count : ℕ) (bytes : List ℕ) (g : ℕ) (v : VmRow) → row_at t n ≡ Some v
    → pages_of (row_at (exchanged t (write_copy n v page at new f count bytes g).1).0 n) ≡ Some (set v.pages page (maps.Here g))
unfolding exchanged traded
copied_pages t n page at new f count bytes g v there =
    parts_still _ n (counted_parts v page) (opened_still page (record { slow = v.slow; fast = v.fast }) v.period) ∙ come_there t.vms n page g v there

pub copy_moves : (t : Tables) (n page at : ℕ) (new : List ℕ) (f count : ℕ) (bytes : List ℕ) (g : ℕ) (v : VmRow) → row_at t n ≡ Some v → page_at v.pages page ≡ maps.Here f
    → frame_at t.frames f ≡ frames.Shared count bytes → least_frame t.frames ≡ Some g → Moves t n page f (write_copy n v page at new f count bytes g).1
copy_moves t n page at new f count bytes g v there here shared found w after stays =
    let all : Some w.pages ≡ Some (set v.pages page (maps.Here g)) = sym (ap pages_of after) ∙ copied_pages t n page at new f count bytes g v there in
    let pages : w.pages ≡ set v.pages page (maps.Here g) = cc in
    let place : maps.Here g ≡ maps.Here f = sym (set_page v.pages page f g here) ∙ ap (λ ps. page_at ps page) (sym pages) ∙ stays in
    let same : g ≡ f = cc in
    let free : is_free (frame_at t.frames g) ≡ true = (first_found is_free t.frames g frames.Free found).1 in
    let other : is_free (frame_at t.frames g) ≡ false = ap (λ i. is_free (frame_at t.frames i)) same ∙ ap is_free shared in
    differ (sym free ∙ other)
  where
    differ : true ≡ false → ⊥
    differ e = cc
