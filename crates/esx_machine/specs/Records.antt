-- What a record keeps in place, as the level and the changes that it stands for.
use Rattle.std.specs.Prelude.{ℕ, List, [], ◌∷◌}
use Rattle.esx_types.specs.declared.level.Level.{Level}
use Rattle.esx_types.specs.declared.table.MapRow.{MapRow}
use Rattle.esx_types.specs.declared.table.MapRow.TheVariants as maps
use Rattle.esx_tables.specs.declared.change.Change.{Change}
use Rattle.esx_tables.specs.declared.change.Change.TheVariants.{FrameAt, ListingAt, FrameWithSlot, OfVm}
use Rattle.esx_tables.specs.declared.change.VmPart.TheVariants.{PageAt}
use Rattle.esx_tables.specs.Changes.{in_order}
use Rattle.esx_machine.specs.declared.record.PlaceKind.{PlaceKind}
use Rattle.esx_machine.specs.declared.record.PlaceKind.TheVariants.{Untouched, Here, Out, Lent}
use Rattle.esx_machine.specs.declared.record.Held.{Held}
use Rattle.esx_machine.specs.declared.record.Held.TheVariants.{One, Came, Returned, Left, Many}
use Rattle.esx_machine.specs.Machine.{Back}

-- where a page is, of its kind and its number
abbrev pub place_of : PlaceKind → ℕ → MapRow
place_of Untouched number = maps.Untouched
place_of Here number = maps.Here number
place_of Out number = maps.Out number
place_of Lent number = maps.Lent number

-- the level that is kept
abbrev pub held_level : Held → Level
held_level (One level change) = level
held_level (Came level at_end vm place page frame number row) = level
held_level (Returned level at_end vm frame slot page place) = level
held_level (Left level at_end vm frame slot page place listing) = level
held_level (Many level at_end changes) = level

-- the changes that are kept, in the order in which a flip makes them
abbrev pub held_changes : Held → List Change
held_changes (One level change) = change ∷ []
held_changes (Came level at_end vm place page frame number row) = in_order at_end (FrameAt frame row ∷ OfVm vm (PageAt page (place_of place number)) ∷ [])
held_changes (Returned level at_end vm frame slot page place) = in_order at_end (FrameWithSlot frame slot ∷ OfVm vm (PageAt page place) ∷ [])
held_changes (Left level at_end vm frame slot page place listing) = in_order at_end (FrameWithSlot frame slot ∷ ListingAt frame listing ∷ OfVm vm (PageAt page place) ∷ [])
held_changes (Many level at_end changes) = in_order at_end changes

abbrev pub held_back : Held → Back
held_back held = record { level = held_level held; changes = held_changes held }
