-- Sites: where pages are, what names a frame or a slot, what is free, what is reserved.
use Rattle.std.specs.Prelude.{ℕ, ◌+◌, ◌-◌, Bool, false, ◌||◌, not, ◌==◌, List, [], ◌∷◌, Option, Some, None, slice_index_or, slice_set, sum_by, count_by, find, if◌then◌else◌}
use Rattle.std.specs.List.{list_any, flat_map, range_with_len}
use Rattle.esx_model.specs.declared.scene.Place.{Place}
use Rattle.esx_model.specs.declared.scene.Place.TheVariants.{Untouched}
use Rattle.esx_model.specs.declared.scene.Vm.{Vm}
use Rattle.esx_model.specs.declared.scene.Site.{Site}
use Rattle.esx_model.specs.Places.{is_here_at, is_here, is_out_at, is_out, is_lent_in}

-- the machine has taken frame f, for its overhead or for a page
abbrev pub vm_names : ℕ → Option Vm → Bool
vm_names f None = false
vm_names f (Some v) = list_any (λ g. g == f) v.overhead || list_any (is_here_at f) v.places

-- somebody has taken frame f
abbrev pub is_named : Site → ℕ → Bool
is_named s f = list_any (vm_names f) s.vms

-- the least frame that nobody has taken
unfoldable pub least_free : ℕ → Site → Option ℕ
least_free frames s = find (λ f. not (is_named s f)) (range_with_len 0 frames)

-- how many frames nobody has taken
unfoldable pub free_count : ℕ → Site → ℕ
free_count frames s = count_by (λ f. not (is_named s f)) (range_with_len 0 frames)

-- a page of the machine is in slot i
abbrev pub vm_holds : ℕ → Option Vm → Bool
vm_holds i None = false
vm_holds i (Some v) = list_any (is_out_at i) v.places

-- some page is in slot i
abbrev pub is_held : Site → ℕ → Bool
is_held s i = list_any (vm_holds i) s.vms

-- the least slot that no page is in
unfoldable pub least_slot : ℕ → Site → Option ℕ
least_slot slots s = find (λ i. not (is_held s i)) (range_with_len 0 slots)

-- the machine with a number
abbrev pub vm_at : Site → ℕ → Option Vm
vm_at s n = slice_index_or s.vms n None

-- the site with that machine in its place
abbrev pub with_vm : Site → ℕ → Vm → Site
with_vm s n v = record s { vms = slice_set s.vms n (Some v) }

-- where a page of a machine is
abbrev pub place_at : Vm → ℕ → Place
place_at v page = slice_index_or v.places page Untouched

abbrev pub place_in : Option Vm → ℕ → Place
place_in None page = Untouched
place_in (Some v) page = place_at v page

-- where a page of a machine by its number is
abbrev pub place_of : Site → ℕ → ℕ → Place
place_of s n page = place_in (vm_at s n) page

-- how many pages of a machine are in frames, and in slots
abbrev pub resident : Vm → ℕ
resident v = count_by is_here v.places

abbrev pub paged_out : Vm → ℕ
paged_out v = count_by is_out v.places

-- how many pages a machine lends: those lent in an epoch that is over count as untouched
abbrev pub lent : Vm → ℕ
lent v = count_by (is_lent_in v.epoch) v.places

-- the numbers, from i on, of those pages that are in frames
abbrev pub here_from : ℕ → List Place → List ℕ
here_from i [] = []
here_from i (p ∷ ps) = if is_here p then i ∷ here_from (i + 1) ps else here_from (i + 1) ps

-- how many pages of a machine are in frame f
abbrev pub pages_of : ℕ → Option Vm → ℕ
pages_of f None = 0
pages_of f (Some v) = count_by (is_here_at f) v.places

-- how many pages are in frame f
unfoldable pub pages_at : ℕ → Site → ℕ
pages_at f s = sum_by (pages_of f) s.vms

-- the pages of all machines
abbrev pub vm_places : Option Vm → List Place
vm_places None = []
vm_places (Some v) = v.places

unfoldable pub all_places : Site → List Place
all_places s = flat_map vm_places s.vms

-- the overhead frames of all machines
abbrev pub vm_overhead : Option Vm → List ℕ
vm_overhead None = []
vm_overhead (Some v) = v.overhead

unfoldable pub all_overhead : Site → List ℕ
all_overhead s = flat_map vm_overhead s.vms

abbrev pub memory_reserve : Option Vm → ℕ
memory_reserve None = 0
memory_reserve (Some v) = v.spec.min + v.spec.overhead

abbrev pub swap_reserve : Option Vm → ℕ
swap_reserve None = 0
swap_reserve (Some v) = v.spec.max - v.spec.min

-- frames and slots that are promised
abbrev pub memory_reserved : Site → ℕ
memory_reserved s = sum_by memory_reserve s.vms

abbrev pub swap_reserved : Site → ℕ
swap_reserved s = sum_by swap_reserve s.vms
