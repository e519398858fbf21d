-- What is told of the site along a path.
use Rattle.std.specs.Prelude.{ℕ, ◌+◌, ◌-◌, ◌==◌, ◌≡◌, Bool, not, ◌&&◌, List, length, map, count_by, sum_by, Option, Some, None}
use Rattle.esx_types.specs.declared.config.Config.{Config}
use Rattle.esx_types.specs.declared.level.Level.{Level}
use Rattle.esx_types.specs.declared.level.Level.TheVariants.{High, Soft, Hard, Low}
use Rattle.esx_events.specs.declared.event.Answer.{Answer}
use Rattle.esx_events.specs.declared.event.Answer.TheVariants as answers
use Rattle.esx_formulas.specs.Level.{depth}
use Rattle.esx_model.specs.declared.scene.Vm.{Vm}
use Rattle.esx_model.specs.declared.scene.Scene.{Scene}
use Rattle.esx_model.specs.Replay.{opening}
use Rattle.esx_model.specs.Show.{shown}
use Rattle.esx_model.specs.Site.{free_count, paged_out}
use Rattle.esx_model.specs.Readings.{sum_of}
use Rattle.esx_story.specs.Changes.{resident_in}
use Rattle.esx_story.specs.Moments.{Moment}
use Rattle.esx_story.specs.Spans.{is_rebalance}
use Rattle.esx_sums.specs.declared.level.LevelSums.{LevelSums}
use Rattle.esx_sums.specs.declared.level.Levels.{Levels}
use Rattle.esx_sums.specs.declared.site.SiteSums.{SiteSums}
use Rattle.esx_sums.specs.Lives.{end_of}
use Rattle.esx_sums.specs.Extremes.{least, most}

-- Of a scene.

abbrev pub free_in : Config → Scene → ℕ
free_in c t = free_count c.frames t.site

-- frames with one page, and with pages that share them
abbrev pub private_in : Config → Scene → ℕ
private_in c t = (sum_of (shown c t)).private

abbrev pub shared_in : Config → Scene → ℕ
shared_in c t = (sum_of (shown c t)).shared

-- how many pages are in frames
abbrev pub pages_in : Scene → ℕ
pages_in t = sum_by resident_in t.site.vms

abbrev pub out_in : Option Vm → ℕ
out_in None = 0
out_in (Some v) = paged_out v

-- how many slots are in use: each has one page
abbrev pub slots_in : Scene → ℕ
slots_in t = sum_by out_in t.site.vms

-- what sharing saves: the pages in frames, less the frames that they are in
abbrev pub saved_in : Config → Scene → ℕ
saved_in c t = pages_in t - (private_in c t + shared_in c t)

-- Of a path.

-- what stands after each of its events
abbrev pub after_each : (Scene → ℕ) → List Moment → List ℕ
after_each what ms = map (λ (x : Moment). what x.after) ms

abbrev pub revoked_by : Answer → ℕ
revoked_by (answers.Rebalanced need revoked) = revoked
revoked_by _ = 0

-- What is told of a site is of a path of it.
pub record IsSiteSums (c : Config) (ms : List Moment) (s : SiteSums) : Type 0 where
  pub events : s.events ≡ length ms
  pub least_free : s.least_free ≡ least (free_in c (opening c)) (after_each (free_in c) ms)
  pub most_pages : s.most_pages ≡ most (pages_in (opening c)) (after_each pages_in ms)
  pub most_saved : s.most_saved ≡ most (saved_in c (opening c)) (after_each (saved_in c) ms)
  pub most_slots : s.most_slots ≡ most (slots_in (opening c)) (after_each slots_in ms)
  pub saved_sum : s.saved_sum ≡ sum_by (λ (x : Moment). saved_in c x.after) ms
  pub rebalances : s.rebalances ≡ count_by (λ (x : Moment). is_rebalance x.event) ms
  pub revoked : s.revoked ≡ sum_by (λ (x : Moment). revoked_by x.answer) ms
  pub free : s.free ≡ free_in c (end_of c ms)
  pub pages : s.pages ≡ pages_in (end_of c ms)
  pub private : s.private ≡ private_in c (end_of c ms)
  pub shared : s.shared ≡ shared_in c (end_of c ms)
  pub out : s.out ≡ slots_in (end_of c ms)

-- Levels.

abbrev pub is_level : Level → Level → Bool
is_level a b = depth a == depth b

-- the event led to the level from another
abbrev pub enters : Level → Moment → Bool
enters level x = is_level level x.after.level && not (is_level level x.before.level)

abbrev pub level_sums : Level → List Moment → LevelSums
level_sums level ms = record {
  level = level;
  events = count_by (λ (x : Moment). is_level level x.after.level) ms;
  entered = count_by (enters level) ms;
}

abbrev pub levels : List Moment → Levels
levels ms = record { high = level_sums High ms; soft = level_sums Soft ms; hard = level_sums Hard ms; low = level_sums Low ms }
