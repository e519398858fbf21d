-- The thresholds stand in order, and what one step of the level does.
use Rattle.std.proofs.Common.{◌≡◌, ℕ, ◌+◌, ◌*◌, ◌/◌, ◌≤◌, nat_lt, nat_le, true, cond, refl, arith}
use Rattle.std.proofs.Math.Nat.{max-le, le-max_left, le-max_right, div-mul-le_self, mul-le-mul_left}
use Rattle.std.proofs.lemmas.Nat.{le-div}
use Rattle.std.proofs.lemmas.Bool.{cond_both, cond-true, cond-false, lt-ltb, lt-leb, ltb-true, ltb-false, leb-true}
use Rattle.esx_types.specs.Ranges.{IsConfig}
use Rattle.esx_types.specs.declared.config.Config.{Config}
use Rattle.esx_types.specs.declared.level.Level.{Level}
use Rattle.esx_types.specs.declared.level.Level.TheVariants.{High, Soft, Hard, Low}
use Rattle.esx_formulas.specs.Level.{threshold, low_threshold, hard_threshold, soft_threshold, high_threshold, margin, depth, deepest, raised, next_level}
use Rattle.esx_formulas.specs.LevelLaws.{AreThresholdsOrdered, IsLevelStep}

threshold_more : (frames p q r s : ℕ) → p ≤ q → r ≤ s → threshold frames p r ≤ threshold frames q s
threshold_more frames p q r s less fewer =
    let whole : frames * p / 100 * 100 ≤ frames * p = div-mul-le_self (frames * p) 100 in
    let more : frames * p ≤ frames * q = mul-le-mul_left frames less in
    let share : frames * p / 100 ≤ frames * q / 100 = le-div (frames * p / 100) (frames * q) 100 (omega arith) (omega arith) in
    let left : frames * q / 100 ≤ threshold frames q s = le-max_left (frames * q / 100) s in
    let right : s ≤ threshold frames q s = le-max_right (frames * q / 100) s in
    max-le (omega arith) (omega arith)

pub thresholds_ordered : (c : Config) → IsConfig c → AreThresholdsOrdered c
thresholds_ordered c good = record {
  low = threshold_more c.frames c.low c.hard 1 2 good.low_hard (omega arith);
  hard = threshold_more c.frames c.hard c.soft 2 3 good.hard_soft (omega arith);
  soft = threshold_more c.frames c.soft c.high 3 4 good.soft_high (omega arith);
}

-- from the threshold of Soft on nothing is asked
deepest_from_soft : (c : Config) (free : ℕ) → AreThresholdsOrdered c → soft_threshold c ≤ free → depth (deepest c free) ≤ 0
deepest_from_soft c free t h =
    cond_both (nat_lt free (low_threshold c)) Low (cond (nat_lt free (hard_threshold c)) Hard (cond (nat_lt free (soft_threshold c)) Soft High)) (λ n. depth n ≤ 0)
    (λ e. absurd (omega (arith, ltb-true _ _ e, t.low, t.hard)))
    (λ e. cond_both (nat_lt free (hard_threshold c)) Hard (cond (nat_lt free (soft_threshold c)) Soft High) (λ n. depth n ≤ 0)
    (λ f. absurd (omega (arith, ltb-true _ _ f, t.hard)))
    (λ f. cond_both (nat_lt free (soft_threshold c)) Soft High (λ n. depth n ≤ 0) (λ g. absurd (omega (arith, ltb-true _ _ g))) (λ g. omega arith)))

-- and from that of Hard on at most Soft
deepest_from_hard : (c : Config) (free : ℕ) → AreThresholdsOrdered c → hard_threshold c ≤ free → depth (deepest c free) ≤ 1
deepest_from_hard c free t h =
    cond_both (nat_lt free (low_threshold c)) Low (cond (nat_lt free (hard_threshold c)) Hard (cond (nat_lt free (soft_threshold c)) Soft High)) (λ n. depth n ≤ 1)
    (λ e. absurd (omega (arith, ltb-true _ _ e, t.low)))
    (λ e. cond_both (nat_lt free (hard_threshold c)) Hard (cond (nat_lt free (soft_threshold c)) Soft High) (λ n. depth n ≤ 1)
    (λ f. absurd (omega (arith, ltb-true _ _ f)))
    (λ f. cond_both (nat_lt free (soft_threshold c)) Soft High (λ n. depth n ≤ 1) (λ g. omega arith) (λ g. omega arith)))

raised_deep : (c : Config) (free : ℕ) (level : Level) → AreThresholdsOrdered c → depth (deepest c free) ≤ depth level → depth (deepest c free) ≤ depth (raised c free level)
raised_deep c free High t h = h
raised_deep c free Soft t h =
    cond_both (nat_le (high_threshold c + margin c) free) High Soft (λ n. depth (deepest c free) ≤ depth n)
    (λ e. deepest_from_soft c free t (omega (arith, leb-true _ _ e, t.soft))) (λ e. h)
raised_deep c free Hard t h =
    cond_both (nat_le (soft_threshold c + margin c) free) Soft Hard (λ n. depth (deepest c free) ≤ depth n)
    (λ e. omega (arith, deepest_from_soft c free t (omega (arith, leb-true _ _ e)))) (λ e. h)
raised_deep c free Low t h =
    cond_both (nat_le (hard_threshold c + margin c) free) Hard Low (λ n. depth (deepest c free) ≤ depth n)
    (λ e. omega (arith, deepest_from_hard c free t (omega (arith, leb-true _ _ e)))) (λ e. h)

raised_by_one : (c : Config) (free : ℕ) (level : Level) → depth level ≤ depth (raised c free level) + 1
raised_by_one c free High = omega arith
raised_by_one c free Soft = cond_both (nat_le (high_threshold c + margin c) free) High Soft (λ n. 1 ≤ depth n + 1) (λ e. omega arith) (λ e. omega arith)
raised_by_one c free Hard = cond_both (nat_le (soft_threshold c + margin c) free) Soft Hard (λ n. 2 ≤ depth n + 1) (λ e. omega arith) (λ e. omega arith)
raised_by_one c free Low = cond_both (nat_le (hard_threshold c + margin c) free) Hard Low (λ n. 3 ≤ depth n + 1) (λ e. omega arith) (λ e. omega arith)

pub level_step : (c : Config) (level : Level) (free : ℕ) → IsConfig c → IsLevelStep c level free
unfolding next_level
level_step c level free good = record {
  deep = cond_both (nat_lt (depth level) (depth (deepest c free))) (deepest c free) (raised c free level) (λ n. depth (deepest c free) ≤ depth n)
      (λ e. omega arith) (λ e. raised_deep c free level (thresholds_ordered c good) (ltb-false _ _ e));
  rise = cond_both (nat_lt (depth level) (depth (deepest c free))) (deepest c free) (raised c free level) (λ n. depth level ≤ depth n + 1)
      (λ e. omega (arith, ltb-true _ _ e)) (λ e. raised_by_one c free level);
}

-- the least threshold is a frame at least
low_of_none : (c : Config) → nat_lt 0 (low_threshold c) ≡ true
low_of_none c = lt-ltb _ _ (omega (arith, le-max_right (c.frames * c.low / 100) 1))

raised_of_none : (c : Config) → raised c 0 Low ≡ Low
raised_of_none c = cond-false (nat_le (hard_threshold c + margin c) 0) Hard Low (lt-leb _ _ (omega (arith, le-max_right (c.frames * c.hard / 100) 2)))

pub low_with_none_free : (c : Config) (level : Level) → next_level c level 0 ≡ Low
unfolding next_level
low_with_none_free c level = rw (deepest_of_none c) (by_level level)
  where
    deepest_of_none : (d : Config) → deepest d 0 ≡ Low
    deepest_of_none d = cond-true (nat_lt 0 (low_threshold d)) Low _ (low_of_none d)

    by_level : (l : Level) → cond (nat_lt (depth l) 3) Low (raised c 0 l) ≡ Low
    by_level High = refl
    by_level Soft = refl
    by_level Hard = refl
    by_level Low = raised_of_none c
