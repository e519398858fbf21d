-- Overhead frames: one that is given back stood under nothing.
use Rattle.std.proofs.Common.{zero, suc, ◌≡◌, ℕ, ◌-◌, ◌<◌, ◌≤◌, ◌||◌, ◌&&◌, ◌==◌, Bool, true, nat_lt, nat_le, List, [], ◌∷◌, length, get_or, set, take, map, refl, sym, ap, ◌∙◌, arith, cond, Option, Some, None, inl, inr}
use Rattle.std.specs.List.{find, flat_map, range_with_len}
use Rattle.std.proofs.lemmas.Bool.{cases_lt, or_right, eq-eqb}
use Rattle.std.proofs.lemmas.Bool.Decides.{nat_tests}
use Rattle.std.proofs.lemmas.List.{get_or_past, set-get_or}
use Rattle.std.proofs.lemmas.List.Folds.{list_any-append, list_any_at}
use Rattle.std.proofs.lemmas.List.FromFn.{get_or-map-range_with_len, length-map-range_with_len}
use Rattle.esx_lists.specs.Trades.{top_traded}
use Rattle.esx_types.specs.declared.config.Config.{Config}
use Rattle.esx_types.specs.declared.table.FrameRow.{FrameRow}
use Rattle.esx_types.specs.declared.table.FrameRow.TheVariants as frames
use Rattle.esx_types.specs.declared.table.Listing.{Listing}
use Rattle.esx_types.specs.declared.table.Listing.TheVariants as listings
use Rattle.esx_model.specs.declared.scene.Vm.{Vm}
use Rattle.esx_model.specs.declared.scene.Site.{Site}
use Rattle.esx_model.specs.Site.{vm_at, vm_overhead, all_overhead}
use Rattle.esx_model.specs.Show.{is_listed, row_of, pages_in, frame_row}
use Rattle.esx_model.specs.Tables.{is_hint_in, listing_by, listing_row, listing_rows}
use Rattle.esx_model.proofs.Callers.{row_by, listing_is}

-- a machine's overhead frame is an overhead frame of the site
in_all : (f : ℕ) (vms : List (Option Vm)) (n : ℕ) (v : Vm) → get_or vms n None ≡ Some v → is_listed f v.overhead ≡ true → is_listed f (flat_map vm_overhead vms) ≡ true
in_all f [] n v there listed = cc
in_all f (o ∷ os) zero v there listed =
    list_any-append (λ (g : ℕ). g == f) (vm_overhead o) (flat_map vm_overhead os)
    ∙ ap (λ (x : Option Vm). is_listed f (vm_overhead x) || is_listed f (flat_map vm_overhead os)) there
    ∙ ap (λ (b : Bool). b || is_listed f (flat_map vm_overhead os)) listed
in_all f (o ∷ os) (suc n) v there listed =
    list_any-append (λ (g : ℕ). g == f) (vm_overhead o) (flat_map vm_overhead os)
    ∙ or_right (is_listed f (vm_overhead o)) (is_listed f (flat_map vm_overhead os)) (in_all f os n v there listed)

is_overhead : (s : Site) (n f : ℕ) (v : Vm) → vm_at s n ≡ Some v → is_listed f v.overhead ≡ true → is_listed f (all_overhead s) ≡ true
unfolding all_overhead
is_overhead s n f v there listed = in_all f s.vms n v there listed

row_or_past : {R : Type 0} (h : ℕ → R) (n f : ℕ) (d : R) → h f ≡ d → get_or (map h (range_with_len 0 n)) f d ≡ d
row_or_past h n f d is = elim (cases_lt f n) [
  | inl below ↦ get_or-map-range_with_len h 0 n f f d below (omega arith) ∙ is
  | inr past ↦ get_or_past (map h (range_with_len 0 n)) f d (let len = length-map-range_with_len h 0 n in omega (arith, len))
]

pub stays_unlisted : (c : Config) (s : Site) (n f : ℕ) (v : Vm) → vm_at s n ≡ Some v → is_listed f v.overhead ≡ true → set (listing_rows c.frames s) f listings.Unlisted ≡ listing_rows c.frames s
stays_unlisted c s n f v there listed =
    let rows : List Listing = listing_rows c.frames s in
    let row : frame_row s f ≡ frames.Overhead = row_by s f ∙ ap (λ (b : Bool). cond b frames.Overhead (row_of (pages_in s f))) (is_overhead s n f v there listed) in
    let nothing : listing_row s f ≡ listings.Unlisted = listing_is s f ∙ ap (λ (r : FrameRow). listing_by r (find (is_hint_in s f) s.hints)) row in
    ap (λ (l : Listing). set rows f l) (sym (row_or_past (listing_row s) c.frames f listings.Unlisted nothing)) ∙ set-get_or rows f listings.Unlisted

-- the overhead frame that a machine took last
abbrev pub last_frame : Vm → ℕ
last_frame v = get_or v.overhead (length v.overhead - 1) 0

pub last_listed : (held : List ℕ) → 0 < length held → is_listed (get_or held (length held - 1) 0) held ≡ true
last_listed held some =
    let last : ℕ = get_or held (length held - 1) 0 in
    list_any_at (λ (g : ℕ). g == last) held (length held - 1) 0 (omega arith) (eq-eqb last last refl)

pub off_traded : (room : ℕ) (held : List ℕ) → 0 < length held → length held ≤ room → top_traded room 0 held None ≡ (take (length held - 1) held, Some (get_or held (length held - 1) 0))
unfolding top_traded
off_traded room held some most =
    let has : (nat_lt 0 (length held) && nat_le (length held) room) ≡ true = grind (arith, nat_tests) in
    rw has
