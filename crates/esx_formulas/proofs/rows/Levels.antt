-- Worked examples of levels, at thresholds of 6, 4, 2 and 1 percent.
use Rattle.std.specs.Prelude.{◌≡◌, ℕ, List, [], ◌∷◌}
use Rattle.std.proofs.Common.{refl}
use Rattle.esx_types.specs.declared.config.Config.{Config}
use Rattle.esx_types.specs.declared.level.Level.{Level}
use Rattle.esx_types.specs.declared.level.Level.TheVariants.{High, Soft, Hard, Low}
use Rattle.esx_formulas.specs.Level.{next_level, level_of, high_threshold, soft_threshold, hard_threshold, low_threshold, margin}

site : ℕ → Config
site frames = record { frames = frames; page = 16; slots = 8; tau = 75; high = 6; soft = 4; hard = 2; low = 1; nodes = 1 }

thresholds : Config → List ℕ
thresholds c = high_threshold c ∷ soft_threshold c ∷ hard_threshold c ∷ low_threshold c ∷ margin c ∷ []

-- the level after each number of free frames
levels : Config → Level → List ℕ → List Level
levels c level [] = []
levels c level (free ∷ frees) = next_level c level free ∷ levels c (next_level c level free) frees

of_many_frames : thresholds (site 1000) ≡ 60 ∷ 40 ∷ 20 ∷ 10 ∷ 5 ∷ []
unfolding site thresholds
of_many_frames = refl

of_few_frames : thresholds (site 8) ≡ 4 ∷ 3 ∷ 2 ∷ 1 ∷ 1 ∷ []
unfolding site thresholds
of_few_frames = refl

rises_past_the_margin : levels (site 100) High (5 ∷ 3 ∷ 4 ∷ 6 ∷ 7 ∷ []) ≡ High ∷ Soft ∷ Soft ∷ Soft ∷ High ∷ []
unfolding site levels next_level
rises_past_the_margin = refl

falls_at_once_and_rises_by_one : levels (site 100) High (0 ∷ 1 ∷ 3 ∷ 3 ∷ 5 ∷ []) ≡ Low ∷ Low ∷ Hard ∷ Hard ∷ Soft ∷ []
unfolding site levels next_level
falls_at_once_and_rises_by_one = refl

falls_below_each_threshold : levels (site 1000) High (40 ∷ 39 ∷ 20 ∷ 19 ∷ 10 ∷ 9 ∷ []) ≡ High ∷ Soft ∷ Soft ∷ Hard ∷ Hard ∷ Low ∷ []
unfolding site levels next_level
falls_below_each_threshold = refl

rises_past_each_margin : levels (site 1000) Low (24 ∷ 25 ∷ 44 ∷ 45 ∷ 64 ∷ 65 ∷ []) ≡ Low ∷ Hard ∷ Hard ∷ Soft ∷ Soft ∷ High ∷ []
unfolding site levels next_level
rises_past_each_margin = refl

-- a site begins at High
begins_high : level_of (site 100) (5 ∷ 6 ∷ []) ≡ High
unfolding site next_level
begins_high = refl
