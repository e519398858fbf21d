-- The word that draws a page of a machine: the page's place, from 0, among the machine's pages in frames.
use Rattle.std.specs.Prelude.{ℕ, List, take, count_by, Option, None, Some, Result, Ok, Err, if◌then◌else◌}
use Rattle.esx_events.specs.declared.event.Refusal.{Refusal}
use Rattle.esx_events.specs.declared.event.Refusal.TheVariants.{NoVm, NotResident}
use Rattle.esx_model.specs.declared.scene.Place.{Place}
use Rattle.esx_model.specs.declared.scene.Vm.{Vm}
use Rattle.esx_model.specs.declared.scene.Site.{Site}
use Rattle.esx_model.specs.Places.{is_here}
use Rattle.esx_model.specs.Site.{vm_at, place_at}

-- how many of the pages before a page are in frames
abbrev pub here_before : List Place → ℕ → ℕ
here_before places page = count_by is_here (take page places)

abbrev pub word_in : Option Vm → ℕ → Result ℕ Refusal
word_in None page = Err NoVm
word_in (Some v) page = if is_here (place_at v page) then Ok (here_before v.places page) else Err NotResident

-- the word of a page of machine n, or why it has none
abbrev pub word_of : Site → ℕ → ℕ → Result ℕ Refusal
word_of s n page = word_in (vm_at s n) page
