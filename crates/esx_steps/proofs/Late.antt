-- A page that may leave does so: neither a page to draw nor a slot is wanting.
use Rattle.std.proofs.Common.{◌≡◌, ℕ, ◌<◌, false, not, ◌||◌, ap, ◌∙◌, arith, nat_lt, nat_le, Some}
use Rattle.std.specs.Result.{IsOk, is_ok}
use Rattle.std.specs.List.{list_any}
use Rattle.std.proofs.lemmas.Bool.Decides.{nat_tests}
use Rattle.esx_types.specs.declared.config.Config.{Config}
use Rattle.esx_types.specs.declared.level.Level.{Level}
use Rattle.esx_types.specs.declared.vm.VmState.TheVariants.{Running}
use Rattle.esx_model.specs.declared.scene.Vm.{Vm}
use Rattle.esx_model.specs.declared.scene.Site.{Site}
use Rattle.esx_model.specs.Places.{is_here}
use Rattle.esx_model.specs.Site.{vm_at, place_at, resident, free_count}
use Rattle.esx_model.specs.sound.Sound.{IsSound}
use Rattle.esx_model.specs.event.Outcome.{standing, is_running}
use Rattle.esx_model.specs.event.Paging.{is_too_early, swap_out, is_above_min, replace}
use Rattle.esx_model.proofs.Callers.{swap_out_goes, replace_goes}

pub swap_out_late : (c : Config) (s : Site) (level : Level) (n word : ℕ) (v : Vm) → IsSound c s → vm_at s n ≡ Some v → is_too_early level (standing v) ≡ false → v.target < resident v → IsOk (swap_out c s level n word)
swap_out_late c s level n word v sound there early above =
    let more : nat_le (resident v) v.target ≡ false = grind (arith, nat_tests) in
    let goes = swap_out_goes c s level n word v sound there (early, (more, tt)) in
    ap is_ok goes.1

pub replace_late : (c : Config) (s : Site) (n page word : ℕ) (v : Vm) → IsSound c s → vm_at s n ≡ Some v → v.state ≡ Running → page < v.spec.max
    → is_here (place_at v page) ≡ false → free_count c.frames s ≡ 0 → list_any is_above_min s.vms ≡ false → IsOk (replace c s n page word)
replace_late c s n page word v sound there runs below away none few =
    let within : nat_le v.spec.max page ≡ false = grind (arith, nat_tests) in
    let no_more : nat_lt 0 (free_count c.frames s) ≡ false = ap (nat_lt 0) none in
    let any = list_any is_above_min s.vms in
    let needed : (is_here (place_at v page) || nat_lt 0 (free_count c.frames s) || any) ≡ false =
    ap (λ b. b || nat_lt 0 (free_count c.frames s) || any) away ∙ ap (λ b. b || any) no_more ∙ few in
    let goes = replace_goes c s n page word v sound there (ap (λ state. not (is_running state)) runs, (within, (needed, tt))) in
    ap is_ok goes.1
