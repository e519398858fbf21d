-- What a watch is of, and how it goes on.
use Rattle.std.specs.Prelude.{◌≡◌, ◌≢◌, ◌<◌, List, [], ◌∷◌, ◌++◌, length, Result, Ok, Err}
use Rattle.esx_types.specs.Ranges.{IsConfig}
use Rattle.esx_types.specs.declared.config.Config.{Config}
use Rattle.esx_types.specs.declared.config.TheConstants.{MAX_NODES}
use Rattle.esx_events.specs.declared.event.Answer.{Answer}
use Rattle.esx_events.specs.declared.event.Event.{Event}
use Rattle.esx_events.specs.declared.event.Refusal.{Refusal}
use Rattle.esx_events.specs.declared.event.Refusal.TheVariants.{OutOfMemory}
use Rattle.esx_model.specs.declared.scene.Scene.{Scene}
use Rattle.esx_model.specs.Replay.{run}
use Rattle.esx_machine.specs.Machine.{Kept, Shows}
use Rattle.esx_story.specs.Moments.{moments}
use Rattle.esx_walk.specs.Walks.{IsAnswered, IsRefused}
use Rattle.esx_watch.specs.Logs.{Log, IsLog, log_of}
use Rattle.esx_watch.specs.declared.log.Log as kept

-- a machine, and a log
pub record Watched : Type 0 where
  pub machine : Kept
  pub log : Log

abbrev pub watched : Kept → kept.Log → Watched
watched machine log = record { machine = machine; log = log_of log }

-- The watch went this path of a site: its machine shows the scene that the path leads to, and the log is of the path.
pub record IsWatch (c : Config) (es : List Event) (w : Watched) : Type 0 where
  pub good : IsConfig c
  pub config : w.machine.config ≡ c
  pub scene : Scene
  pub runs : run c es ≡ Ok scene
  pub shows : Shows w.machine scene
  pub log : IsLog c (moments c es) scene w.log

-- It went some path, which may have one more event.
pub record MayWatch (w : Watched) : Type 0 where
  pub config : Config
  pub events : List Event
  pub watch : IsWatch config events w
  pub short : length events < MAX_NODES

-- What a watch gives that is to make one more event, and where it is then.
abbrev pub WatchedOn : Config → List Event → Event → Result Answer Refusal → Watched → Type 0
WatchedOn c es e (Ok answer) w = IsWatch c (es ++ e ∷ []) w × IsAnswered c es e answer
WatchedOn c es e (Err refusal) w = IsWatch c es w × (refusal ≢ OutOfMemory → IsRefused c es e refusal)
