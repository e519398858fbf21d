-- What is told of a site and of its machines in a scene.
use Rattle.std.specs.Prelude.{ℕ, ◌==◌, ◌&&◌, Bool, true, false, List, map, count_by, Option, Some, None, option_map}
use Rattle.esx_types.specs.declared.config.Config.{Config}
use Rattle.esx_events.specs.declared.call.Sum.{Sum}
use Rattle.esx_formulas.specs.Level.{depth}
use Rattle.esx_model.specs.declared.scene.Vm.{Vm}
use Rattle.esx_model.specs.declared.scene.Site.{Site}
use Rattle.esx_model.specs.declared.scene.Scene.{Scene}
use Rattle.esx_model.specs.Places.{is_shared}
use Rattle.esx_model.specs.Site.{resident, paged_out, lent}
use Rattle.esx_model.specs.Show.{shown}
use Rattle.esx_model.specs.Readings.{sum_of}
use Rattle.esx_model.specs.event.Rebalancing.{active}
use Rattle.esx_figures.specs.declared.figures.Figures.{Figures}

-- how many pages of a machine are in shared frames
abbrev pub shared_pages : Vm → ℕ
shared_pages v = count_by is_shared v.places

-- what is told of a machine
abbrev pub figures : Vm → Figures
figures v = record {
  here = resident v;
  target = v.target;
  active = active v;
  shared = shared_pages v;
  lent = lent v;
  out = paged_out v;
}

-- of each machine, at its number
abbrev pub all_figures : Site → List (Option Figures)
all_figures s = map (option_map figures) s.vms

-- how many frames of a site are of each kind, and its level
abbrev pub site_at : Config → Scene → Sum
site_at c t = sum_of (shown c t)

-- nothing differs
abbrev pub are_same : Figures → Figures → Bool
are_same a b = (a.here == b.here) && (a.target == b.target) && (a.active == b.active) && (a.shared == b.shared) && (a.lent == b.lent) && (a.out == b.out)

-- a machine is told the same twice, or is not there twice
abbrev pub is_same_guest : Option Figures → Option Figures → Bool
is_same_guest None None = true
is_same_guest (Some a) (Some b) = are_same a b
is_same_guest None (Some b) = false
is_same_guest (Some a) None = false

abbrev pub is_same_site : Sum → Sum → Bool
is_same_site a b = (a.overhead == b.overhead) && (a.private == b.private) && (a.shared == b.shared) && (a.free == b.free) && (depth a.level == depth b.level)
