-- The row of a machine after an access: its page came to a frame, or stayed in it.
use Rattle.std.proofs.Common.{◌≡◌, ℕ, Bool, true, false, ◌||◌, List, ◌++◌, set, map, refl, sym, ap, ◌∙◌, ◌==◌}
use Rattle.std.proofs.lemmas.List.{map-set, set-get_or}
use Rattle.esx_types.specs.declared.table.MapRow.{MapRow}
use Rattle.esx_types.specs.declared.table.MapRow.TheVariants as maps
use Rattle.esx_types.specs.Pages.{page_at}
use Rattle.esx_lists.specs.Trades.{in_turn}
use Rattle.esx_model.specs.declared.scene.Place.{Place}
use Rattle.esx_model.specs.declared.scene.Place.TheVariants.{Untouched, Here, Out, Lent}
use Rattle.esx_model.specs.declared.scene.Vm.{Vm}
use Rattle.esx_model.specs.declared.book.VmRow.{VmRow}
use Rattle.esx_model.specs.Places.{is_lent_in}
use Rattle.esx_model.specs.Site.{place_at}
use Rattle.esx_model.specs.Hints.{with_place}
use Rattle.esx_model.specs.Tables.{raw_place, vm_table}
use Rattle.esx_model.specs.event.Balloon.{is_lent, popped}
use Rattle.esx_model.specs.event.Sampling.{counted}
use Rattle.esx_tables.specs.Machines.{part_traded}
use Rattle.esx_changes.specs.Counted.{counted_parts}
use Rattle.esx_access.specs.Access.{popped_parts, come_parts}
use Rattle.esx_refinement.proofs.Refining.{page_row}
use Rattle.esx_refinement.proofs.Counted.{counted_shown}

or_not : (b : Bool) → b ≡ (b || false)
or_not true = refl
or_not false = refl

-- the row with its page in frame f, and with a reset due or not
abbrev pub moved_row : Vm → ℕ → ℕ → Bool → VmRow
moved_row v page f due = record (vm_table v) { due = due; pages = set (map raw_place v.places) page (maps.Here f) }

pub moved_shown : (v : Vm) (page : ℕ) (bytes : List ℕ) (f : ℕ) (shared due : Bool) → due ≡ (v.due || is_lent v page)
    → moved_row v page f due ≡ vm_table (with_place page (Here bytes f shared) (popped page v))
moved_shown v page bytes f shared due same =
    ap (λ (b : Bool). moved_row v page f b) same
    ∙ ap (λ (pages : List MapRow). record (vm_table (popped page v)) { pages = pages }) (sym (map-set raw_place v.places page (Here bytes f shared)))

-- whether the page's loan pops the balloon
pub not_lent : (v : Vm) (page : ℕ) (p : Place) → place_at v page ≡ p → is_lent_in v.epoch p ≡ false → v.due ≡ (v.due || is_lent v page)
not_lent v page p was over = or_not v.due ∙ ap (λ (b : Bool). v.due || b) (sym (ap (is_lent_in v.epoch) was ∙ over))

popped_shown : (v : Vm) (page : ℕ) (p : Place) (bytes : List ℕ) (f : ℕ) (shared : Bool) → place_at v page ≡ p
    → (in_turn part_traded (moved_row v page f v.due) (popped_parts (vm_table v) (raw_place p) ++ counted_parts (vm_table v) page)).0
    ≡ (in_turn part_traded (vm_table (with_place page (Here bytes f shared) (popped page v))) (counted_parts (vm_table v) page)).0
popped_shown v page Untouched bytes f shared was = ap (λ (r : VmRow). (in_turn part_traded r (counted_parts (vm_table v) page)).0) (moved_shown v page bytes f shared v.due (not_lent v page Untouched was refl))
popped_shown v page (Here old g was_shared) bytes f shared was = ap (λ (r : VmRow). (in_turn part_traded r (counted_parts (vm_table v) page)).0) (moved_shown v page bytes f shared v.due (not_lent v page (Here old g was_shared) was refl))
popped_shown v page (Out old i) bytes f shared was = ap (λ (r : VmRow). (in_turn part_traded r (counted_parts (vm_table v) page)).0) (moved_shown v page bytes f shared v.due (not_lent v page (Out old i) was refl))
popped_shown v page (Lent e) bytes f shared was =
    ap (λ (r : VmRow). (in_turn part_traded r (counted_parts (vm_table v) page)).0)
    (moved_shown v page bytes f shared (v.due || (e == v.epoch)) (ap (λ (b : Bool). v.due || b) (sym (ap (is_lent_in v.epoch) was))))

-- the page came to a frame
pub come_row : (v : Vm) (page : ℕ) (p : Place) (bytes : List ℕ) (f : ℕ) (shared : Bool) → place_at v page ≡ p
    → (in_turn part_traded (vm_table v) (come_parts (vm_table v) page (raw_place p) f)).0 ≡ vm_table (counted page (with_place page (Here bytes f shared) (popped page v)))
come_row v page p bytes f shared was = popped_shown v page p bytes f shared was ∙ counted_shown (with_place page (Here bytes f shared) (popped page v)) page

-- the page stayed in its frame
pub stay_row : (v : Vm) (page : ℕ) (old bytes : List ℕ) (f : ℕ) (was_shared shared : Bool) → place_at v page ≡ Here old f was_shared
    → (in_turn part_traded (vm_table v) (counted_parts (vm_table v) page)).0 ≡ vm_table (counted page (with_place page (Here bytes f shared) (popped page v)))
stay_row v page old bytes f was_shared shared was =
    let rows : List MapRow = map raw_place v.places in
    let here : page_at rows page ≡ maps.Here f = page_row v page ∙ ap raw_place was in
    let same : set rows page (maps.Here f) ≡ rows = ap (λ (row : MapRow). set rows page row) (sym here) ∙ set-get_or rows page maps.Untouched in
    ap (λ (pages : List MapRow). (in_turn part_traded (record (vm_table v) { pages = pages }) (counted_parts (vm_table v) page)).0) (sym same)
    ∙ ap (λ (r : VmRow). (in_turn part_traded r (counted_parts (vm_table v) page)).0) (moved_shown v page bytes f shared v.due (not_lent v page (Here old f was_shared) was refl))
    ∙ counted_shown (with_place page (Here bytes f shared) (popped page v)) page
