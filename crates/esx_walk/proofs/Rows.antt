-- The rows of a site's machines are rows in order, and no more than there are numbers.
use Rattle.std.proofs.Common.{◌≡◌, ℕ, ◌+◌, ◌≤◌, List, [], ◌∷◌, length, subst, sym, ap, arith, Option, Some, None}
use Rattle.esx_types.specs.declared.config.Config.{Config}
use Rattle.esx_types.specs.declared.config.TheConstants.{MAX_PAGES, VM_NUMBERS}
use Rattle.esx_formulas.specs.declared.targets.Row.{Row}
use Rattle.esx_formulas.specs.Ratio.{AreRows}
use Rattle.esx_model.specs.declared.scene.Vm.{Vm}
use Rattle.esx_model.specs.declared.scene.Site.{Site}
use Rattle.esx_model.specs.Advice.{target_of}
use Rattle.esx_model.specs.event.Rebalancing.{rows_from, rows_of}
use Rattle.esx_model.specs.sound.Sound.{IsSound}
use Rattle.esx_model.proofs.Callers.{rows_of_sound}

rows_few : (tau : ℕ) (floor : Vm → ℕ) (n : ℕ) (vms : List (Option Vm)) → length (rows_from tau floor n vms) ≤ length vms
rows_few tau floor n [] = omega arith
rows_few tau floor n (None ∷ os) = (let rest = rows_few tau floor (n + 1) os in omega (arith, rest))
rows_few tau floor n (Some v ∷ os) = (let rest = rows_few tau floor (n + 1) os in omega (arith, rest))

few_of : (s : Site) (floor : Vm → ℕ) → length (rows_of floor s) ≤ length s.vms
unfolding rows_of
few_of s floor = rows_few s.tau floor 0 s.vms

pub good_rows : (c : Config) (s : Site) (rows : List Row) → IsSound c s → rows ≡ rows_of target_of s → AreRows rows
good_rows c s rows sound is = subst AreRows (sym is) (rows_of_sound c s target_of sound (λ v fine. (let a = fine.most_target in let b = fine.good.most_max in omega (arith, a, b))))

pub few_rows : (c : Config) (s : Site) (rows : List Row) → IsSound c s → rows ≡ rows_of target_of s → length rows ≤ VM_NUMBERS
few_rows c s rows sound is =
    let few = few_of s target_of in
    let same : length rows ≡ length (rows_of target_of s) = ap length is in
    let count = sound.vms in
    omega (arith, few, same, count)
