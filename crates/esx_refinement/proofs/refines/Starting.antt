-- The start.
use Rattle.std.proofs.Common.{◌≡◌, ℕ, ◌+◌, ◌<◌, true, nat_lt, [], ◌∷◌, List, length, set, refl, ap, sym, ◌∙◌, cond, Option, Some, None, subst}
use Rattle.std.specs.List.{find}
use Rattle.std.proofs.lemmas.Bool.{lt-ltb}
use Rattle.std.proofs.lemmas.List.{set-get_or}
use Rattle.esx_lists.proofs.Tops.{onto_traded}
use Rattle.esx_types.specs.declared.config.Config.{Config}
use Rattle.esx_types.specs.declared.table.FrameRow.{FrameRow}
use Rattle.esx_types.specs.declared.table.FrameRow.TheVariants as frames
use Rattle.esx_types.specs.declared.table.Listing.{Listing}
use Rattle.esx_types.specs.declared.table.Listing.TheVariants as listings
use Rattle.esx_types.specs.declared.vm.VmState.{VmState}
use Rattle.esx_types.specs.declared.vm.VmState.TheVariants.{Starting, Running}
use Rattle.esx_types.specs.Frames.{least_frame}
use Rattle.esx_types.specs.Listings.{listing_at}
use Rattle.esx_model.specs.declared.scene.Vm.{Vm}
use Rattle.esx_model.specs.declared.scene.Site.{Site}
use Rattle.esx_model.specs.declared.book.VmRow.{VmRow}
use Rattle.esx_model.specs.declared.tables.Tables.{Tables}
use Rattle.esx_model.specs.Site.{vm_at, with_vm, least_free}
use Rattle.esx_model.specs.Show.{row_of, frame_row, frame_rows}
use Rattle.esx_model.specs.Tables.{vm_table, tables_of, is_hint_in, listing_by, listing_row, listing_rows}
use Rattle.esx_model.specs.Moved.{put_vm}
use Rattle.esx_model.specs.event.Starting.{start_gate, with_overhead, take_overhead, start}
use Rattle.esx_model.specs.sound.Machines.{FitsState}
use Rattle.esx_model.specs.sound.Sound.{IsSound}
use Rattle.esx_model.proofs.Callers.{least_unused, row_clear, listing_is, start_shown, row_in_rows, starts}
use Rattle.esx_tables.specs.declared.change.Facts.{Facts as VmFacts}
use Rattle.esx_tables.specs.declared.change.VmPart.TheVariants.{Facts, OverheadTop}
use Rattle.esx_tables.specs.Machines.{facts_of, with_facts}
use Rattle.esx_tables.specs.Changes.{traded, exchanged}
use Rattle.esx_refinement.specs.Refinement.{Refines}
use Rattle.esx_plans.specs.plan.Starting.{started, start_changes, start_from, start_plan}
use Rattle.esx_refinement.proofs.Refining.{row_is, needs_vm, passes_same, found_same, standing_shown, makes_shown}
use Rattle.esx_refinement.proofs.Made.{parts_made}
use Rattle.esx_refinement.proofs.Found.{frame_found}

-- The tables after a frame was taken for overhead: it stood under nothing before.

stays_unlisted : (c : Config) (s : Site) (f : ℕ) → least_free c.frames s ≡ Some f → set (listing_rows c.frames s) f listings.Unlisted ≡ listing_rows c.frames s
stays_unlisted c s f found =
    let unused = least_unused c.frames s f found in
    let rows : List Listing = listing_rows c.frames s in
    let free : frame_row s f ≡ frames.Free = row_clear s f unused.clear ∙ ap row_of unused.pages in
    let there : listing_at rows f ≡ listings.Unlisted =
    row_in_rows (listing_row s) c.frames f listings.Unlisted unused.below ∙ listing_is s f ∙ ap (λ (r : FrameRow). listing_by r (find (is_hint_in s f) s.hints)) free in
    ap (λ (l : Listing). set rows f l) (sym there) ∙ set-get_or rows f listings.Unlisted

taken_shown : (c : Config) (s : Site) (n f : ℕ) (v : Vm) → vm_at s n ≡ Some v → least_free c.frames s ≡ Some f
    → tables_of c (with_vm s n (with_overhead v f)) ≡ put_vm (record (tables_of c s) { frames = set (frame_rows c.frames s) f frames.Overhead }) n (Some (vm_table (with_overhead v f)))
taken_shown c s n f v there found =
    let after : List FrameRow = set (frame_rows c.frames s) f frames.Overhead in
    start_shown c s n f v there found
    ∙ ap (λ (ls : List Listing). put_vm (record (tables_of c s) { frames = after; listings = ls }) n (Some (vm_table (with_overhead v f)))) (stays_unlisted c s f found)

-- The plan.

has_room : (c : Config) (s : Site) (n : ℕ) (v : Vm) → IsSound c s → vm_at s n ≡ Some v → v.state ≡ Starting → nat_lt (length v.overhead) v.spec.overhead ≡ true
has_room c s n v sound there starting =
    let P : VmState → Type 0 = FitsState v in
    let fits = subst P starting (sound.each n v there).state in
    let less : length v.overhead < v.spec.overhead = fits.0 in
    lt-ltb (length v.overhead) v.spec.overhead less

start_made : (c : Config) (s : Site) (n : ℕ) (v : Vm) (o : Option ℕ) → IsSound c s → vm_at s n ≡ Some v → v.state ≡ Starting → least_free c.frames s ≡ o
    → Refines c s (start_from n (vm_table v) o) (take_overhead s n v o)
unfolding exchanged traded
start_made c s n v None sound there starting found = refl
start_made c s n v (Some f) sound there starting found =
    let r : VmRow = vm_table v in
    let first : Tables = record (tables_of c s) { frames = set (frame_rows c.frames s) f frames.Overhead } in
    let facts : VmFacts = record (facts_of r) { state = cond (nat_lt (length v.overhead + 1) v.spec.overhead) Starting Running } in
    let top = has_room c s n v sound there starting in
    makes_shown c s (started r f) (start_changes n r f) (with_vm s n (with_overhead v f)) (put_vm first n (Some (vm_table (with_overhead v f))))
    (parts_made first n r (OverheadTop (Some f) ∷ Facts facts ∷ []) (row_is c s n v there)
    ∙ ap (λ (x : List ℕ × Option ℕ). put_vm first n (Some (with_facts (record r { overhead = x.0 }) facts))) (onto_traded v.spec.overhead 0 v.overhead f top))
    (taken_shown c s n f v there found)

pub start_refines : (c : Config) (s : Site) (n : ℕ) → IsSound c s → Refines c s (start_plan (tables_of c s) n) (start c s n)
unfolding start start_plan
start_refines c s n sound = needs_vm c s n _ _ (λ v there. passes_same c s _ _ _ _ (ap start_gate (standing_shown v)) (λ pass.
    found_same c s (least_frame (tables_of c s).frames) (least_free c.frames s) (start_from n (vm_table v)) (take_overhead s n v) (frame_found c s) (λ o found.
    start_made c s n v o sound there (starts v.state pass.0 pass.1.0) found)))
