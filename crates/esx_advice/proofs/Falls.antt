-- Page outs lower the debt, and rebalances leave it.
use Rattle.std.proofs.Common.{◌≡◌, ℕ, ◌<◌, List, [], ◌∷◌, ◌++◌, map, refl, sym, ap, ◌∙◌, arith, Option, Some, None, Ok}
use Rattle.std.specs.List.{flat_map}
use Rattle.std.specs.Option.{option_map}
use Rattle.esx_types.specs.declared.config.Config.{Config}
use Rattle.esx_types.specs.declared.level.Level.{Level}
use Rattle.esx_types.specs.declared.level.Level.TheVariants.{High, Soft, Hard, Low}
use Rattle.esx_events.specs.declared.event.Answer.{Answer}
use Rattle.esx_events.specs.declared.event.Answer.TheVariants as answers
use Rattle.esx_events.specs.declared.event.Event.TheVariants as events
use Rattle.esx_formulas.specs.Targets.{targets_of}
use Rattle.esx_model.specs.declared.scene.Vm.{Vm}
use Rattle.esx_model.specs.declared.scene.Site.{Site}
use Rattle.esx_model.specs.declared.scene.Scene.{Scene}
use Rattle.esx_model.specs.Site.{vm_places, all_places}
use Rattle.esx_model.specs.event.Rebalancing.{with_targets, at_max, rows_of, min_of, need, rebalance}
use Rattle.esx_model.specs.Replay.{next}
use Rattle.esx_model.proofs.Callers.{same_site, step_of}
use Rattle.esx_model.proofs.event.Rebalancing.{places_retargeted}
use Rattle.esx_model.specs.Debts.{debt_of}
use Rattle.esx_advice.proofs.Weights.{weight, debt_is}
use Rattle.esx_advice.proofs.Lowering.{swap_out_less}
use Rattle.esx_advice.proofs.Scenes.{Fits, fits_next}

pub swap_out_falls : (c : Config) (t u : Scene) (m word : ℕ) (a : Answer) → Fits c t → next c t (events.SwapOut m word) ≡ Ok (a, u) → debt_of c u < debt_of c t
swap_out_falls c t u m word a fits h =
    let s = step_of c t (events.SwapOut m word) (a, u) h in
    let after = fits_next c t (events.SwapOut m word) (a, u) fits h in
    let less = swap_out_less c t.site t.level m word s.0 fits.sound s.1 in
    let same = ap (λ x. weight c.frames (all_places x)) s.3 in
    let before = debt_is c t fits.sound in
    let later = debt_is c u after.sound in
    omega (arith, less, same, before, later)

max_places : (vms : List (Option Vm)) → flat_map vm_places (map (option_map at_max) vms) ≡ flat_map vm_places vms
max_places [] = refl
max_places (None ∷ vms) = max_places vms
max_places (Some v ∷ vms) = ap (λ ps. v.places ++ ps) (max_places vms)

pub rebalance_places : (c : Config) (s : Site) (level : Level) (r : Answer × Site) → rebalance c s level ≡ Ok r → all_places r.1 ≡ all_places s
unfolding rebalance all_places
rebalance_places c s High r h = ap all_places (sym (same_site (answers.Rebalanced 0 0) (record s { vms = map (option_map at_max) s.vms }) r h)) ∙ max_places s.vms
rebalance_places c s Soft r h = ap all_places (sym (same_site _ (record s { vms = with_targets s.vms (targets_of (rows_of min_of s) (need c s)) }) r h)) ∙ places_retargeted s (targets_of (rows_of min_of s) (need c s))
rebalance_places c s Hard r h = ap all_places (sym (same_site _ (record s { vms = with_targets s.vms (targets_of (rows_of min_of s) (need c s)) }) r h)) ∙ places_retargeted s (targets_of (rows_of min_of s) (need c s))
rebalance_places c s Low r h = ap all_places (sym (same_site _ (record s { vms = with_targets s.vms (targets_of (rows_of min_of s) (need c s)) }) r h)) ∙ places_retargeted s (targets_of (rows_of min_of s) (need c s))

pub rebalance_stays : (c : Config) (t u : Scene) (a : Answer) → Fits c t → next c t events.Rebalance ≡ Ok (a, u) → debt_of c u ≡ debt_of c t
rebalance_stays c t u a fits h =
    let s = step_of c t events.Rebalance (a, u) h in
    let after = fits_next c t events.Rebalance (a, u) fits h in
    debt_is c u after.sound ∙ ap (λ x. weight c.frames (all_places x)) (sym s.3) ∙ ap (weight c.frames) (rebalance_places c t.site t.level s.0 s.1) ∙ sym (debt_is c t fits.sound)
