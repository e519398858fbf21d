-- Laws of the model.
use Rattle.std.specs.Prelude.{◌≡◌, ◌↔◌, ℕ, ◌<◌, ◌≤◌, false, List, length, Some, Ok, ◌-◌}
use Rattle.std.specs.List.{list_any}
use Rattle.esx_types.specs.declared.config.Config.{Config}
use Rattle.esx_types.specs.Ranges.{IsConfig}
use Rattle.esx_types.specs.declared.level.Level.{Level}
use Rattle.esx_types.specs.declared.table.FrameRow.TheVariants as frames
use Rattle.esx_types.specs.Frames.{frame_at}
use Rattle.esx_events.specs.declared.event.Answer.{Answer}
use Rattle.esx_events.specs.declared.event.Event.{Event}
use Rattle.esx_formulas.specs.Ratio.{AreRows}
use Rattle.esx_formulas.specs.Targets.{AreTargets, targets_of}
use Rattle.esx_model.specs.declared.scene.Vm.{Vm}
use Rattle.esx_model.specs.declared.scene.Site.{Site}
use Rattle.esx_model.specs.declared.scene.Scene.{Scene}
use Rattle.esx_model.specs.Places.{contents}
use Rattle.esx_model.specs.Site.{vm_at, place_of, resident, paged_out, pages_at, free_count}
use Rattle.esx_model.specs.Show.{pages_in, book_of, shown}
use Rattle.esx_model.specs.Tables.{tables_of, book_from}
use Rattle.esx_model.specs.Readings.{sum_of, AddUpTo}
use Rattle.esx_model.specs.event.Access.{read}
use Rattle.esx_model.specs.event.Rebalancing.{min_of, rows_of}
use Rattle.esx_model.specs.event.Paging.{is_above_min}
use Rattle.esx_model.specs.Replay.{opening, next, run}
use Rattle.esx_model.specs.sound.Hints.{AreHints}
use Rattle.esx_model.specs.sound.Sound.{IsSound}

-- a path begins at a sound site
abbrev pub IsOpeningSound : Type 0
IsOpeningSound = (c : Config) → IsConfig c → IsSound c (opening c).site

-- each accepted event leaves a sound site sound
abbrev pub IsEachEventSound : Type 0
IsEachEventSound = (c : Config) (t : Scene) (e : Event) (r : Answer × Scene) → IsSound c t.site → next c t e ≡ Ok r → IsSound c r.1.site

-- so each path leads to a sound site
abbrev pub IsEachPathSound : Type 0
IsEachPathSound = (c : Config) (es : List Event) (t : Scene) → IsConfig c → run c es ≡ Ok t → IsSound c t.site

-- where no frame is free and no machine has more than its least, each has exactly its least, and no frame has two pages: a page that is replaced is alone in its frame
pub record IsFull (c : Config) (s : Site) : Type 0 where
  pub least : (n : ℕ) (v : Vm) → vm_at s n ≡ Some v → resident v ≡ v.spec.min
  pub single : (f : ℕ) → f < c.frames → length (pages_in s f) ≤ 1

abbrev pub IsEachPressedSiteFull : Type 0
IsEachPressedSiteFull = (c : Config) (s : Site) → IsSound c s → free_count c.frames s ≡ 0 → list_any is_above_min s.vms ≡ false → IsFull c s

-- a read changes no page's bytes
abbrev pub IsReadHarmless : Type 0
IsReadHarmless = (c : Config) (s : Site) (level : Level) (n page at len : ℕ) (r : Answer × Site) → IsSound c s → read c s level n page at len ≡ Ok r →
    (m k : ℕ) → contents c (place_of r.1 m k) ≡ contents c (place_of s m k)

-- the rows that targets are made from are in order, and one list of targets fits them
pub record HasOneListOfTargets (s : Site) (need : ℕ) : Type 0 where
  pub rows : AreRows (rows_of min_of s)
  pub one : (targets : List ℕ) → AreTargets (rows_of min_of s) need targets ↔ targets ≡ targets_of (rows_of min_of s) need

abbrev pub HaveSitesTargets : Type 0
HaveSitesTargets = (c : Config) (s : Site) (need : ℕ) → IsSound c s → HasOneListOfTargets s need

-- the frames of all kinds are those of the site, and the free ones those that nobody has taken
pub record AreFramesCounted (c : Config) (t : Scene) : Type 0 where
  pub add_up : AddUpTo c.frames (sum_of (shown c t))
  pub free : (sum_of (shown c t)).free ≡ free_count c.frames t.site
  -- a shared frame's count is how many pages are in it
  pub shared : (f count : ℕ) (bytes : List ℕ) → f < c.frames → frame_at (shown c t).frames f ≡ frames.Shared count bytes → count ≡ pages_at f t.site

abbrev pub AreAllFramesCounted : Type 0
AreAllFramesCounted = (c : Config) (t : Scene) → AreFramesCounted c t

-- the book of a sound site is read from its tables
abbrev pub IsBookRead : Type 0
IsBookRead = (c : Config) (s : Site) (level : Level) → IsSound c s → book_from (tables_of c s) level ≡ book_of c s level

-- what each path keeps: targets in their range, pages out within what is reserved for them, and hints of private pages, one under a short and one of a page
pub record AreWithinReserves (c : Config) (t : Scene) : Type 0 where
  pub least : (n : ℕ) (v : Vm) → vm_at t.site n ≡ Some v → v.spec.min ≤ v.target
  pub most : (n : ℕ) (v : Vm) → vm_at t.site n ≡ Some v → v.target ≤ v.spec.max
  pub out : (n : ℕ) (v : Vm) → vm_at t.site n ≡ Some v → paged_out v ≤ v.spec.max - v.spec.min
  pub hints : AreHints (place_of t.site) t.site.hints

abbrev pub IsEachPathWithinReserves : Type 0
IsEachPathWithinReserves = (c : Config) (es : List Event) (t : Scene) → IsConfig c → run c es ≡ Ok t → AreWithinReserves c t
