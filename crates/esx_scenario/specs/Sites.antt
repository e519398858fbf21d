-- The site and the settings of a scenario.
use Rattle.std.specs.Prelude.{ℕ, ◌≡◌, ◌≤◌, ◌%◌, ◌==◌, ◌^◌, ◌-◌, codes, Option, Some, None, Ok, Err, if◌then◌else◌}
use Rattle.toml.specs.Data.{Data, table, Members}
use Rattle.esx_types.specs.declared.config.Config.{Config}
use Rattle.esx_types.specs.declared.config.TheConstants.{MAX_FRAMES, MAX_HIGH, MAX_LENGTH, MAX_NODES, MAX_PAGE, MAX_SAMPLE, MAX_SLOTS, MAX_TAU, MIN_FRAMES, MIN_PAGE}
use Rattle.esx_scenario.specs.declared.plan.Settings.{Settings}
use Rattle.esx_scenario.specs.declared.site.Levels.{Levels}
use Rattle.esx_scenario.specs.declared.plan.TheConstants.{MAX_TURNS}
use Rattle.esx_scenario.specs.Keys.{Tried, ◌>>=◌, below, required, optional}

-- the number, if it is a multiple of `MIN_PAGE`
unfoldable pub whole_page : ℕ → Tried ℕ
whole_page n = if n % MIN_PAGE == 0 then Ok n else Err (codes "page")

abbrev pub page_in : Members → Tried ℕ
page_in t = do
  page ← required t (codes "page") MIN_PAGE MAX_PAGE
  whole_page page

-- each level's percentage is at most that of the level before it
abbrev pub levels_in : Members → Tried Levels
levels_in t = do
  high ← optional t (codes "high") 1 MAX_HIGH 6
  soft ← optional t (codes "soft") 1 high 4
  hard ← optional t (codes "hard") 1 soft 2
  low ← optional t (codes "low") 1 hard 1
  Ok (record { high = high; soft = soft; hard = hard; low = low })

abbrev pub site_in : Members → Tried Config
site_in t = do
  frames ← required t (codes "frames") MIN_FRAMES MAX_FRAMES
  page ← page_in t
  slots ← required t (codes "slots") 0 MAX_SLOTS
  tau ← optional t (codes "tau") 0 MAX_TAU 75
  levels ← levels_in t
  nodes ← optional t (codes "nodes") 1 MAX_NODES MAX_NODES
  Ok (record {
    frames = frames;
    page = page;
    slots = slots;
    tau = tau;
    high = levels.high;
    soft = levels.soft;
    hard = levels.hard;
    low = levels.low;
    nodes = nodes;
  })

-- The site of the table at `machine`. Where there is none, its first key is bad.
unfoldable pub site_at : Option Members → Tried Config
site_at None = Err (codes "machine.frames")
site_at (Some t) = below (codes "machine.") (site_in t)

abbrev pub settings_in : Members → Tried Settings
settings_in t = do
  seed ← optional t (codes "seed") 0 (2 ^ 63 - 1) 1
  turns ← optional t (codes "turns") 1 MAX_TURNS 1000
  sample ← optional t (codes "sample") 1 MAX_SAMPLE 100
  length ← optional t (codes "length") 1 MAX_LENGTH 1000
  Ok (record { seed = seed; turns = turns; sample = sample; length = length })

-- the settings of the value at `run`
unfoldable pub settings_at : Option Data → Tried Settings
settings_at None = Ok (record { seed = 1; turns = 1000; sample = 100; length = 1000 })
settings_at (Some (table t)) = below (codes "run.") (settings_in t)
settings_at (Some _) = Err (codes "run")

-- the ranges of a page size and of the levels
pub record IsPage (page : ℕ) : Type 0 where
  pub least : MIN_PAGE ≤ page
  pub most : page ≤ MAX_PAGE
  pub whole : page % MIN_PAGE ≡ 0

pub record AreLevels (l : Levels) : Type 0 where
  pub least_low : 1 ≤ l.low
  pub low_hard : l.low ≤ l.hard
  pub hard_soft : l.hard ≤ l.soft
  pub soft_high : l.soft ≤ l.high
  pub most_high : l.high ≤ MAX_HIGH
