-- What losses come to: by level, and of a life.
use Rattle.std.specs.Prelude.{ℕ, ◌+◌, ◌-◌, ◌==◌, ◌&&◌, nat_le, ◌≤◌, ◌*◌, Bool, true, false, List, count_by, sum_by, Option, Some, None, if◌then◌else◌}
use Rattle.esx_types.specs.declared.level.Level.{Level}
use Rattle.esx_story.specs.declared.change.How.{How}
use Rattle.esx_story.specs.declared.change.How.TheVariants.{Balloon, Swap, Replaced, Dropped}
use Rattle.esx_story.specs.declared.story.Loss.{Loss}
use Rattle.esx_sums.specs.declared.losses.LevelLosses.{LevelLosses}
use Rattle.esx_sums.specs.declared.losses.Returns.{Returns}
use Rattle.esx_sums.specs.Site.{is_level}
use Rattle.esx_sums.specs.Sums.{one_if}

abbrev pub is_balloon : How → Bool
is_balloon Balloon = true
is_balloon _ = false

abbrev pub is_swap : How → Bool
is_swap Swap = true
is_swap _ = false

abbrev pub is_replace : How → Bool
is_replace Replaced = true
is_replace _ = false

abbrev pub is_drop : How → Bool
is_drop Dropped = true
is_drop _ = false

-- a loss that came so, at that level
abbrev pub comes : Level → (How → Bool) → Loss → Bool
comes level so l = is_level level l.seen.level && so l.change.how

abbrev pub level_losses : Level → List Loss → LevelLosses
level_losses level losses = record {
  level = level;
  balloon = count_by (comes level is_balloon) losses;
  swap = count_by (comes level is_swap) losses;
  replace = count_by (comes level is_replace) losses;
  drop = count_by (comes level is_drop) losses;
}

-- with one more
abbrev pub with_loss : LevelLosses → Loss → LevelLosses
with_loss s l = record {
  level = s.level;
  balloon = s.balloon + one_if (comes s.level is_balloon l);
  swap = s.swap + one_if (comes s.level is_swap l);
  replace = s.replace + one_if (comes s.level is_replace l);
  drop = s.drop + one_if (comes s.level is_drop l);
}

-- a loss of life l of machine n
abbrev pub is_in_life : ℕ → ℕ → Loss → Bool
is_in_life n l y = (y.change.vm == n) && (y.life == l)

abbrev pub is_some : Option ℕ → Bool
is_some None = false
is_some (Some j) = true

-- within 1000 events
abbrev pub is_near : ℕ → Option ℕ → Bool
is_near at None = false
is_near at (Some j) = nat_le (j - at) 1000

abbrev pub waits_in : ℕ → ℕ → Loss → ℕ
waits_in n l y = if is_in_life n l y then y.waits else 0

-- how many losses of the life were back, and how many of them soon; and how many accesses waited
abbrev pub came_back : ℕ → ℕ → List Loss → Returns
came_back n l losses = record {
  back = count_by (λ (y : Loss). is_in_life n l y && is_some y.back) losses;
  soon = count_by (λ (y : Loss). is_in_life n l y && is_near y.at y.back) losses;
  waits = sum_by (waits_in n l) losses;
}

-- with one more loss
abbrev pub with_return : ℕ → ℕ → Returns → Loss → Returns
with_return n l r y = record {
  back = r.back + one_if (is_in_life n l y && is_some y.back);
  soon = r.soon + one_if (is_in_life n l y && is_near y.at y.back);
  waits = r.waits + waits_in n l y;
}

-- how many, at most
pub record AreFewLosses (k : ℕ) (s : LevelLosses) : Type 0 where
  pub balloon : s.balloon ≤ k
  pub swap : s.swap ≤ k
  pub replace : s.replace ≤ k
  pub drop : s.drop ≤ k

pub record AreFewReturns (k : ℕ) (r : Returns) : Type 0 where
  pub back : r.back ≤ k
  pub soon : r.soon ≤ k
  pub waits : r.waits ≤ k * 4294967295
