-- What a log is of, and one more event of it.
use Rattle.std.specs.Prelude.{◌≡◌, ℕ, List, [], ◌∷◌, length, map, replicate, Option, None, Ok}
use Rattle.esx_types.specs.declared.config.TheConstants.{VM_NUMBERS}
use Rattle.esx_types.specs.declared.config.Config.{Config}
use Rattle.esx_events.specs.declared.call.Sum.{Sum}
use Rattle.esx_model.specs.declared.scene.Site.{Site}
use Rattle.esx_model.specs.declared.scene.Scene.{Scene}
use Rattle.esx_model.specs.Replay.{next}
use Rattle.esx_model.specs.sound.Sound.{IsSound}
use Rattle.esx_machine.specs.Machine.{Kept, Shows}
use Rattle.esx_story.specs.Moments.{Moment}
use Rattle.esx_figures.specs.declared.figures.Figures.{Figures}
use Rattle.esx_figures.specs.declared.steps.Step.{Step}
use Rattle.esx_figures.specs.Figures.{site_at, all_figures}
use Rattle.esx_figures.specs.Steps.{opening_step, steps}
use Rattle.esx_figures.specs.Sharing.{shared_in, parting, parted, joining, hosting}
use Rattle.esx_watch.specs.declared.log.Log as kept

pub record Log : Type 0 where
  pub shared : List ℕ
  pub site : Sum
  pub guests : List (Option Figures)
  pub steps : List Step
  pub events : ℕ

abbrev pub log_of : kept.Log → Log
log_of l = record { shared = l.shared; site = l.site; guests = l.guests; steps = l.steps.items; events = l.events }

-- of a site as it is opened
abbrev pub opened : Sum → Log
opened site = record { shared = replicate VM_NUMBERS 0; site = site; guests = replicate VM_NUMBERS None; steps = opening_step site ∷ []; events = 0 }

-- how many pages of each machine are in shared frames, at its number
abbrev pub all_shared : Site → List ℕ
all_shared s = map shared_in s.vms

-- The log is of these moments of a path, which led to a scene.
pub record IsLog (c : Config) (ms : List Moment) (t : Scene) (l : Log) : Type 0 where
  pub shared : l.shared ≡ all_shared t.site
  pub site : l.site ≡ site_at c t
  pub guests : l.guests ≡ all_figures t.site
  pub steps : l.steps ≡ steps c ms
  pub events : l.events ≡ length ms

-- A moment was made by a machine, and this is told of pages in shared frames.
pub record IsNext (c : Config) (x : Moment) (k : Kept) (gone come stays : Option ℕ) : Type 0 where
  pub sound : IsSound c x.before.site
  pub goes : next c x.before x.event ≡ Ok (x.answer, x.after)
  pub shows : Shows k x.after
  pub config : k.config ≡ c
  pub parted : gone ≡ parted x.before.site (parting x.event x.answer)
  pub joined : come ≡ joining x.event x.answer
  pub host : stays ≡ hosting x.before.site x.event
