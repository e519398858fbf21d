-- Pages that others may be shared with, and how a page's change of place ends its hint (Waldspurger, "Content-Based Page Sharing").
use Rattle.std.specs.Prelude.{ℕ, Bool, ◌&&◌, ◌||◌, not, ◌==◌, List, Option, option_map, slice_set, filter, find, if◌then◌else◌}
use Rattle.esx_types.specs.declared.table.Hint.{Hint}
use Rattle.esx_types.specs.Listings.{with_placed}
use Rattle.esx_model.specs.declared.scene.Place.{Place}
use Rattle.esx_model.specs.declared.scene.Vm.{Vm}
use Rattle.esx_model.specs.declared.scene.Site.{Site}
use Rattle.esx_model.specs.Places.{is_private}
use Rattle.esx_model.specs.Site.{vm_at}

abbrev pub is_hint_of : ℕ → ℕ → Hint → Bool
is_hint_of n page h = (h.vm == n) && (h.page == page)

-- the hints without that of a page
abbrev pub without_hint : ℕ → ℕ → List Hint → List Hint
without_hint n page hints = filter (λ h. not (is_hint_of n page h)) hints

-- a hint at its place in the order of shorts
abbrev pub in_order : Hint → List Hint → List Hint
in_order new hints = with_placed (λ (h : Hint). h.key) new hints

-- the hints with this one, alone under its short and alone of its page
abbrev pub with_hint : Hint → List Hint → List Hint
with_hint new hints = in_order new (filter (λ h. not ((h.key == new.key) || is_hint_of new.vm new.page h)) hints)

-- the hint of another page under a short
abbrev pub other_hint : ℕ → ℕ → ℕ → List Hint → Option Hint
other_hint key n page hints = find (λ h. (h.key == key) && not (is_hint_of n page h)) hints

-- the machine with a page at another place
abbrev pub with_place : ℕ → Place → Vm → Vm
with_place page place v = record v { places = slice_set v.places page place }

-- the hints after a page comes to a place: its own ends where it is not private in a frame
abbrev pub hints_at : ℕ → ℕ → Place → List Hint → List Hint
hints_at n page place hints = if is_private place then hints else without_hint n page hints

-- the site with machine n changed
abbrev pub with_change : Site → ℕ → (Vm → Vm) → Site
with_change s n change = record s { vms = slice_set s.vms n (option_map change (vm_at s n)) }

-- the site with a page at another place
unfoldable pub placed : Site → ℕ → ℕ → Place → Site
placed s n page place = record s {
  vms = slice_set s.vms n (option_map (with_place page place) (vm_at s n));
  hints = hints_at n page place s.hints;
}
