-- What a course is of, and how it goes on.
use Rattle.std.specs.Prelude.{◌≡◌, ◌≢◌, ◌<◌, ℕ, List, [], ◌∷◌, ◌++◌, length, slice_index_or, Result, Ok, Err}
use Rattle.esx_types.specs.Ranges.{IsConfig}
use Rattle.esx_types.specs.declared.config.Config.{Config}
use Rattle.esx_types.specs.declared.config.TheConstants.{MAX_NODES, VM_NUMBERS}
use Rattle.esx_events.specs.declared.event.Answer.{Answer}
use Rattle.esx_events.specs.declared.event.Event.{Event}
use Rattle.esx_events.specs.declared.event.Refusal.{Refusal}
use Rattle.esx_events.specs.declared.event.Refusal.TheVariants.{OutOfMemory}
use Rattle.esx_model.specs.declared.scene.Site.{Site}
use Rattle.esx_model.specs.declared.scene.Scene.{Scene}
use Rattle.esx_model.specs.Replay.{next, run}
use Rattle.esx_machine.specs.Machine.{Kept, Shows}
use Rattle.esx_passages.specs.declared.passage.Passages.{Passages}
use Rattle.esx_passages.specs.Passages.{passed_at}
use Rattle.esx_passages.specs.Readings.{epoch_of}

-- a machine, and the epochs of its virtual machines by number
pub record Coursed : Type 0 where
  pub machine : Kept
  pub epochs : List ℕ

-- they are those of a site
abbrev pub AreEpochs : Site → List ℕ → Type 0
AreEpochs s epochs = (n : ℕ) → slice_index_or epochs n 0 ≡ epoch_of s n

-- The course went this path of a site: its machine shows the scene that the path leads to, and its epochs are those there.
pub record IsCourse (c : Config) (es : List Event) (k : Coursed) : Type 0 where
  pub good : IsConfig c
  pub config : k.machine.config ≡ c
  pub scene : Scene
  pub runs : run c es ≡ Ok scene
  pub shows : Shows k.machine scene
  pub long : length k.epochs ≡ VM_NUMBERS
  pub epochs : AreEpochs scene.site k.epochs

-- It went some path, which may have one more event.
pub record MayGoOn (k : Coursed) : Type 0 where
  pub config : Config
  pub events : List Event
  pub course : IsCourse config events k
  pub short : length events < MAX_NODES

-- The event is accepted where the path leads, with this answer, and this is what it moved.
pub record IsTold (c : Config) (es : List Event) (e : Event) (answer : Answer) (passages : Passages) : Type 0 where
  pub before : Scene
  pub runs : run c es ≡ Ok before
  pub after : Scene
  pub goes : next c before e ≡ Ok (answer, after)
  pub tells : passages ≡ passed_at (record { event = e; answer = answer; before = before; after = after })

-- Or it is refused there.
pub record IsRefused (c : Config) (es : List Event) (e : Event) (refusal : Refusal) : Type 0 where
  pub before : Scene
  pub runs : run c es ≡ Ok before
  pub stops : next c before e ≡ Err refusal

-- What a course gives that is to make one more event, and where it is then.
abbrev pub WentOn : Config → List Event → Event → Result (Answer × Passages) Refusal → Coursed → Type 0
WentOn c es e (Ok r) k = IsCourse c (es ++ e ∷ []) k × IsTold c es e r.0 r.1
WentOn c es e (Err refusal) k = IsCourse c es k × (refusal ≢ OutOfMemory → IsRefused c es e refusal)
