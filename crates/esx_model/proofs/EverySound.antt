-- Every event keeps a site sound, and every path leads to a sound site.
use Rattle.std.proofs.Common.{zero, suc, ◌≡◌, ℕ, ◌+◌, List, [], ◌∷◌, get_or, replicate, refl, subst, arith, Some, None, Ok}
use Rattle.esx_types.specs.declared.config.Config.{Config}
use Rattle.esx_types.specs.declared.config.TheConstants.{VM_NUMBERS}
use Rattle.esx_types.specs.Ranges.{IsConfig}
use Rattle.esx_types.specs.declared.level.Level.{Level}
use Rattle.esx_events.specs.declared.event.Answer.{Answer}
use Rattle.esx_events.specs.declared.event.Event.{Event}
use Rattle.esx_events.specs.declared.event.Event.TheVariants.{Admit, Start, Read, Write, Ask, Lend, TakeBack, Sample, Rebalance, Scan, SwapOut, Replace, SetShares, SetTax, SetVmTax, Stop, DropPage, Gone}
use Rattle.esx_model.specs.declared.scene.Vm.{Vm}
use Rattle.esx_model.specs.declared.scene.Site.{Site}
use Rattle.esx_model.specs.declared.scene.Scene.{Scene}
use Rattle.esx_model.specs.Site.{all_places, all_overhead}
use Rattle.esx_model.specs.Step.{step}
use Rattle.esx_model.specs.Replay.{opening, next, run_from, run}
use Rattle.esx_model.specs.sound.Sound.{IsSound}
use Rattle.esx_model.proofs.Stepped.{step_of, run_one}
use Rattle.esx_model.proofs.event.Admission.{admit_sound}
use Rattle.esx_model.proofs.event.Starting.{start_sound}
use Rattle.esx_model.proofs.event.Access.{read_sound, write_sound}
use Rattle.esx_model.proofs.event.Balloon.{ask_sound, lend_sound, take_back_sound}
use Rattle.esx_model.proofs.event.Sampling.{sample_sound}
use Rattle.esx_model.proofs.event.Rebalancing.{rebalance_sound, set_shares_sound, set_tax_sound, set_vm_tax_sound}
use Rattle.esx_model.proofs.event.Sharing.{scan_sound}
use Rattle.esx_model.proofs.event.Paging.{swap_out_sound}
use Rattle.esx_model.proofs.event.Replacing.{replace_sound}
use Rattle.esx_model.proofs.event.Leaving.{stop_sound, drop_page_sound}
use Rattle.esx_model.proofs.event.Gone.{gone_sound}
use Rattle.esx_model.specs.Laws.{AreWithinReserves}

pub every_step_sound : (c : Config) (s : Site) (level : Level) (e : Event) (r : Answer × Site) → IsSound c s → step c s level e ≡ Ok r → IsSound c r.1
every_step_sound c s level (Admit n spec) r sound h = admit_sound c s n spec r sound h
every_step_sound c s level (Start n) r sound h = start_sound c s n r sound h
every_step_sound c s level (Read n page at len) r sound h = read_sound c s level n page at len r sound h
every_step_sound c s level (Write n page at new) r sound h = write_sound c s level n page at new r sound h
every_step_sound c s level (Ask n) r sound h = ask_sound c s n r sound h
every_step_sound c s level (Lend n page) r sound h = lend_sound c s n page r sound h
every_step_sound c s level (TakeBack n page) r sound h = take_back_sound c s n page r sound h
every_step_sound c s level (Sample n len words) r sound h = sample_sound c s n len words r sound h
every_step_sound c s level Rebalance r sound h = rebalance_sound c s level r sound h
every_step_sound c s level (Scan n page) r sound h = scan_sound c s n page r sound h
every_step_sound c s level (SwapOut n word) r sound h = swap_out_sound c s level n word r sound h
every_step_sound c s level (Replace n page word) r sound h = replace_sound c s n page word r sound h
every_step_sound c s level (SetShares n shares) r sound h = set_shares_sound c s n shares r sound h
every_step_sound c s level (SetTax tau) r sound h = set_tax_sound c s tau r sound h
every_step_sound c s level (SetVmTax n tau) r sound h = set_vm_tax_sound c s n tau r sound h
every_step_sound c s level (Stop n) r sound h = stop_sound c s n r sound h
every_step_sound c s level (DropPage n page) r sound h = drop_page_sound c s n page r sound h
every_step_sound c s level (Gone n) r sound h = gone_sound c s n r sound h

pub every_event_sound : (c : Config) (t : Scene) (e : Event) (r : Answer × Scene) → IsSound c t.site → next c t e ≡ Ok r → IsSound c r.1.site
every_event_sound c t e r sound h =
    let s = step_of c t e r h in
    subst (IsSound c) s.3 (every_step_sound c t.site t.level e s.0 sound s.1)

pub every_run_sound_from : (c : Config) (i : ℕ) (es : List Event) (t u : Scene) → IsSound c t.site → run_from c i es t ≡ Ok u → IsSound c u.site
unfolding run_from
every_run_sound_from c i [] t u sound h =
    let same : t ≡ u = cc in
    let P : Scene → Type 0 = λ x. IsSound c x.site in
    subst P same sound
every_run_sound_from c i (e ∷ es) t u sound h =
    let one = run_one i (next c t e) (λ x. run_from c (i + 1) es x) u h in
    every_run_sound_from c (i + 1) es one.0.1 u (every_event_sound c t e one.0 sound one.1) one.2

-- Where a path begins: nobody is there.

pub none_there : (k n : ℕ) (v : Vm) → get_or (replicate k None) n None ≡ Some v → ⊥
none_there zero n v h = cc
none_there (suc k) zero v h = cc
none_there (suc k) (suc n) v h = none_there k n v h

pub opening_sound : (c : Config) → IsConfig c → IsSound c (opening c).site
unfolding all_places all_overhead
opening_sound c fine = record {
  vms = refl;
  each = λ n v h. absurd (none_there VM_NUMBERS n v h);
  memory = omega arith;
  swap = omega arith;
  tau = fine.most_tau;
  frames = record {
    alike = λ f. refl;
    single = λ i. refl;
    below = tt;
    once = λ f. omega arith;
    apart = λ f h. refl;
    keys = λ f g key a b. cc;
  };
  hints = record { ordered = tt; one = λ n page. omega arith; private = tt; keys = tt };
}

pub every_run_sound : (c : Config) (es : List Event) (t : Scene) → IsConfig c → run c es ≡ Ok t → IsSound c t.site
every_run_sound c es t fine h = every_run_sound_from c 0 es (opening c) t (opening_sound c fine) h

pub every_run_within : (c : Config) (es : List Event) (t : Scene) → IsConfig c → run c es ≡ Ok t → AreWithinReserves c t
every_run_within c es t fine h = let sound = every_run_sound c es t fine h in record {
  least = λ n v there. (sound.each n v there).least_target;
  most = λ n v there. (sound.each n v there).most_target;
  out = λ n v there. (sound.each n v there).out;
  hints = sound.hints;
}
