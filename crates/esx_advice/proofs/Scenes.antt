-- What the laws of debt ask of a scene on a path, and that each event keeps it.
use Rattle.std.proofs.Common.{◌≡◌, ℕ, ap, ◌∙◌, Some, Ok}
use Rattle.esx_types.specs.declared.config.Config.{Config}
use Rattle.esx_types.specs.declared.level.Level.TheVariants.{Low}
use Rattle.esx_events.specs.declared.event.Answer.{Answer}
use Rattle.esx_events.specs.declared.event.Event.{Event}
use Rattle.esx_formulas.specs.Level.{next_level}
use Rattle.esx_formulas.proofs.LevelLaws.{low_with_none_free}
use Rattle.esx_model.specs.declared.scene.Vm.{Vm}
use Rattle.esx_model.specs.declared.scene.Scene.{Scene}
use Rattle.esx_model.specs.Site.{vm_at, free_count}
use Rattle.esx_model.specs.Replay.{next}
use Rattle.esx_model.specs.sound.Sound.{IsSound}
use Rattle.esx_model.proofs.Callers.{every_run_sound, every_event_sound}
use Rattle.esx_model.specs.Debts.{IsOnPath}
use Rattle.esx_advice.proofs.AdviceTaken.{next_settles, low_when_none}

pub record Fits (c : Config) (t : Scene) : Type 0 where
  pub sound : IsSound c t.site
  pub low : (n : ℕ) (v : Vm) → vm_at t.site n ≡ Some v → free_count c.frames t.site ≡ 0 → t.level ≡ Low

pub path_fits : (c : Config) (t : Scene) → IsOnPath c t → Fits c t
path_fits c t r = record {
  sound = every_run_sound c r.path t r.config r.runs;
  low = λ n v there none. low_when_none c r.path t n v r.runs there none;
}

pub fits_next : (c : Config) (t : Scene) (e : Event) (r : Answer × Scene) → Fits c t → next c t e ≡ Ok r → Fits c r.1
fits_next c t e r fits h = record {
  sound = every_event_sound c t e r fits.sound h;
  low = λ n v there none. (let s = next_settles c t e r h in s.1 ∙ ap (next_level c s.0) none ∙ low_with_none_free c s.0);
}
