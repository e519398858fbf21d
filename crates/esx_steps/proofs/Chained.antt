-- A machine after its balloon popped and one of its pages was placed.
use Rattle.std.proofs.Common.{◌≡◌, ℕ, ◌≤◌, ◌<◌, length, get_or, set, arith, sym, ap, ◌∙◌, refl, Option, Some, None, option_map}
use Rattle.std.proofs.lemmas.List.{get_or-set_same, length-set}
use Rattle.esx_types.specs.declared.config.Config.{Config}
use Rattle.esx_types.specs.declared.config.TheConstants.{MAX_SAMPLE, VM_NUMBERS}
use Rattle.esx_formulas.specs.declared.activity.Period.{Period}
use Rattle.esx_model.specs.declared.scene.Place.{Place}
use Rattle.esx_model.specs.declared.scene.Vm.{Vm}
use Rattle.esx_model.specs.declared.scene.Site.{Site}
use Rattle.esx_model.specs.Site.{vm_at}
use Rattle.esx_model.specs.Hints.{with_place, with_change, placed}
use Rattle.esx_model.specs.event.Balloon.{popped}
use Rattle.esx_model.specs.sound.Sound.{IsSound}
use Rattle.esx_model.proofs.Callers.{some_same}
use Rattle.esx_steps.specs.Numbers.{HasNumbers}
use Rattle.esx_steps.proofs.Numbers.{numbers}

map_map : (f g : Vm → Vm) (o : Option Vm) → option_map f (option_map g o) ≡ option_map (λ v. f (g v)) o
map_map f g None = refl
map_map f g (Some v) = refl

vm_after : (s : Site) (n page : ℕ) (q : Place) → n < length s.vms
    → vm_at (placed (with_change s n (popped page)) n page q) n ≡ option_map (λ v. with_place page q (popped page v)) (vm_at s n)
unfolding placed
vm_after s n page q h =
    let a = option_map (popped page) (vm_at s n) in
    let len = length-set s.vms n a in
    get_or-set_same (set s.vms n a) n (option_map (with_place page q) (get_or (set s.vms n a) n None)) None (omega (arith, len, h))
    ∙ ap (option_map (with_place page q)) (get_or-set_same s.vms n a None h) ∙ map_map (with_place page q) (popped page) (vm_at s n)

fit_by : (n page : ℕ) (q : Place) (o : Option Vm) → ((v : Vm) → o ≡ Some v → HasNumbers v) → (w : Vm) (p : Period) → option_map (λ v. with_place page q (popped page v)) o ≡ Some w → w.period ≡ Some p
    → (1 ≤ length p.pages) × (length p.pages ≤ MAX_SAMPLE)
fit_by n page q None h w p e seen = absurd cc
fit_by n page q (Some v) h w p e seen =
    let known = h v refl in
    let same : v.period ≡ Some p = ap (λ (x : Vm). x.period) (some_same (with_place page q (popped page v)) w e) ∙ seen in
    (known.pages p same, known.most_pages p same)

pub counts_fit : (c : Config) (s : Site) (n page : ℕ) (q : Place) → IsSound c s → n < VM_NUMBERS → (w : Vm) (p : Period)
    → vm_at (placed (with_change s n (popped page)) n page q) n ≡ Some w → w.period ≡ Some p → (1 ≤ length p.pages) × (length p.pages ≤ MAX_SAMPLE)
counts_fit c s n page q sound low w p there seen =
    fit_by n page q (vm_at s n) (λ v is. numbers c v (sound.each n v is)) w p (sym (vm_after s n page q (omega (arith, low, sound.vms))) ∙ there) seen
