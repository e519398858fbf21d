-- Laws of the level.
use Rattle.std.specs.Prelude.{◌≡◌, ℕ, ◌+◌, ◌≤◌}
use Rattle.esx_types.specs.Ranges.{IsConfig}
use Rattle.esx_types.specs.declared.config.Config.{Config}
use Rattle.esx_types.specs.declared.level.Level.{Level}
use Rattle.esx_types.specs.declared.level.Level.TheVariants.{Low}
use Rattle.esx_formulas.specs.Level.{low_threshold, hard_threshold, soft_threshold, high_threshold, depth, deepest, next_level}

-- a deeper level has no higher threshold
pub record AreThresholdsOrdered (c : Config) : Type 0 where
  pub low : low_threshold c ≤ hard_threshold c
  pub hard : hard_threshold c ≤ soft_threshold c
  pub soft : soft_threshold c ≤ high_threshold c

-- where the level goes in one step
pub record IsLevelStep (c : Config) (level : Level) (free : ℕ) : Type 0 where
  -- it is at least as deep as the free frames ask
  pub deep : depth (deepest c free) ≤ depth (next_level c level free)
  -- it rises by one level at most
  pub rise : depth level ≤ depth (next_level c level free) + 1

pub record AreLevelsOrdered : Type 0 where
  pub thresholds : (c : Config) → IsConfig c → AreThresholdsOrdered c
  pub step : (c : Config) (level : Level) (free : ℕ) → IsConfig c → IsLevelStep c level free
  -- with no free frame at all it is at Low
  pub none_free : (c : Config) (level : Level) → next_level c level 0 ≡ Low
