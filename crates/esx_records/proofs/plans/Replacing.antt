-- A page that comes in place of another.
use Rattle.std.proofs.Common.{ℕ, Bool, true, false, [], ◌∷◌, ◌++◌, map, Option, Some, None, arith, cond}
use Rattle.std.specs.List.{list_any}
use Rattle.esx_types.specs.declared.config.Config.{Config}
use Rattle.esx_types.specs.declared.table.Listing.TheVariants as listings
use Rattle.esx_types.specs.declared.table.MapRow.{MapRow}
use Rattle.esx_types.specs.declared.table.MapRow.TheVariants as maps
use Rattle.esx_types.specs.Frames.{is_shared, frame_at}
use Rattle.esx_types.specs.Pages.{is_here, page_at}
use Rattle.esx_frames.specs.declared.marks.Mark.TheVariants as marks
use Rattle.esx_frames.specs.Counts.{counts_of}
use Rattle.esx_model.specs.declared.book.VmRow.{VmRow}
use Rattle.esx_model.specs.declared.tables.Tables.{Tables}
use Rattle.esx_model.specs.Tables.{standing_of}
use Rattle.esx_model.specs.event.Paging.{replace_gate}
use Rattle.esx_tables.specs.declared.change.Change.TheVariants.{MarkAt, ListingAt, FrameWithSlot, OfVm}
use Rattle.esx_tables.specs.Readings.{row_at}
use Rattle.esx_changes.specs.Drawn.{drawn_page}
use Rattle.esx_changes.specs.Spare.{has_spare}
use Rattle.esx_access.specs.Replacing.{slot_for, new_changes, replace_parts, replace_changes, trade_with, replace_from, replace_plan}
use Rattle.esx_records.proofs.Pages.{zeros_small}
use Rattle.esx_records.proofs.Modest.{IsModest, PlansModest, at_row_modest, any_gate}

either_modest : (c : Config) (n : ℕ) (v : VmRow) (page : ℕ) (was : MapRow) (q slot f : ℕ) (b : Bool)
    → IsModest c 0 (cond b (MarkAt f marks.Private ∷ []) [] ++ ListingAt f listings.Unlisted ∷ FrameWithSlot f slot ∷ new_changes c f was ++ map (OfVm n) (replace_parts v page was q slot f))
either_modest c n v page maps.Untouched q slot f true =
    let zeros = zeros_small c in
    record { bytes = omega (arith, zeros); pages = omega arith; rows = omega arith; marks = omega arith; turned = omega arith; targets = omega arith; machines = omega arith }
either_modest c n v page maps.Untouched q slot f false =
    let zeros = zeros_small c in
    record { bytes = omega (arith, zeros); pages = omega arith; rows = omega arith; marks = omega arith; turned = omega arith; targets = omega arith; machines = omega arith }
either_modest c n v page (maps.Here g) q slot f true =
    record { bytes = omega arith; pages = omega arith; rows = omega arith; marks = omega arith; turned = omega arith; targets = omega arith; machines = omega arith }
either_modest c n v page (maps.Here g) q slot f false =
    record { bytes = omega arith; pages = omega arith; rows = omega arith; marks = omega arith; turned = omega arith; targets = omega arith; machines = omega arith }
either_modest c n v page (maps.Out i) q slot f true =
    record { bytes = omega arith; pages = omega arith; rows = omega arith; marks = omega arith; turned = omega arith; targets = omega arith; machines = omega arith }
either_modest c n v page (maps.Out i) q slot f false =
    record { bytes = omega arith; pages = omega arith; rows = omega arith; marks = omega arith; turned = omega arith; targets = omega arith; machines = omega arith }
either_modest c n v page (maps.Lent e) q slot f true =
    let zeros = zeros_small c in
    record { bytes = omega (arith, zeros); pages = omega arith; rows = omega arith; marks = omega arith; turned = omega arith; targets = omega arith; machines = omega arith }
either_modest c n v page (maps.Lent e) q slot f false =
    let zeros = zeros_small c in
    record { bytes = omega (arith, zeros); pages = omega arith; rows = omega arith; marks = omega arith; turned = omega arith; targets = omega arith; machines = omega arith }

replace_modest : (c : Config) (t : Tables) (n : ℕ) (v : VmRow) (page : ℕ) (was : MapRow) (q slot f : ℕ) → IsModest c 0 (replace_changes c t n v page was q slot f)
replace_modest c t n v page was q slot f = either_modest c n v page was q slot f (is_shared (frame_at t.frames f))

trade_modest : (c : Config) (t : Tables) (n : ℕ) (v : VmRow) (page : ℕ) (was : MapRow) (q : ℕ) (row : MapRow) (o : Option ℕ) → PlansModest c 0 (trade_with c t n v page was q row o)
trade_modest c t n v page was q (maps.Here f) (Some slot) = replace_modest c t n v page was q slot f
trade_modest c t n v page was q (maps.Here f) None = tt
trade_modest c t n v page was q maps.Untouched o = tt
trade_modest c t n v page was q (maps.Out i) o = tt
trade_modest c t n v page was q (maps.Lent e) o = tt

drawn_modest : (c : Config) (t : Tables) (n : ℕ) (v : VmRow) (page : ℕ) (was : MapRow) (o : Option ℕ) → PlansModest c 0 (replace_from c t n v page was o)
drawn_modest c t n v page was None = tt
drawn_modest c t n v page was (Some q) = trade_modest c t n v page was q (page_at v.pages q) (slot_for t was)

pub replace_small : (c : Config) (t : Tables) (n page word : ℕ) → PlansModest c 0 (replace_plan c t n page word)
unfolding replace_plan
replace_small c t n page word = at_row_modest c 0 (row_at t n) _ (λ v there.
    any_gate c 0 (replace_gate (standing_of v) page (is_here (page_at v.pages page)) (counts_of t.frames).free (list_any has_spare t.vms)) (replace_from c t n v page (page_at v.pages page) (drawn_page v word))
    (drawn_modest c t n v page (page_at v.pages page) (drawn_page v word)))
