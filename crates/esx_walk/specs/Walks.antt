-- What a walk is of, and how it goes on.
use Rattle.std.specs.Prelude.{◌≡◌, ◌≢◌, ◌<◌, ◌⊎◌, ℕ, List, [], ◌∷◌, ◌++◌, length, take, slice_get, Some, Result, Ok, Err}
use Rattle.esx_types.specs.Ranges.{IsConfig}
use Rattle.esx_types.specs.declared.config.Config.{Config}
use Rattle.esx_types.specs.declared.config.TheConstants.{MAX_NODES}
use Rattle.esx_events.specs.declared.event.Answer.{Answer}
use Rattle.esx_events.specs.declared.event.Event.{Event}
use Rattle.esx_events.specs.declared.event.Refusal.{Refusal}
use Rattle.esx_events.specs.declared.event.Refusal.TheVariants.{BadSpec, OutOfMemory}
use Rattle.esx_model.specs.declared.scene.Scene.{Scene}
use Rattle.esx_model.specs.Replay.{next, run}
use Rattle.esx_machine.specs.Machine.{Kept, Shows}
use Rattle.esx_story.specs.Moments.{moments}
use Rattle.esx_story.specs.Waits.{Met}
use Rattle.esx_walk.specs.Account.{Account}
use Rattle.esx_walk.specs.Accounts.{IsAccount}

-- a machine, and an account
pub record Walked : Type 0 where
  pub machine : Kept
  pub account : Account

-- The walk went this path of a site, on which these calls were refused: its machine shows the scene that the path leads to, and the account is of the path.
pub record IsWalk (c : Config) (es : List Event) (mets : List Met) (w : Walked) : Type 0 where
  pub good : IsConfig c
  pub config : w.machine.config ≡ c
  pub scene : Scene
  pub runs : run c es ≡ Ok scene
  pub shows : Shows w.machine scene
  pub account : IsAccount c (moments c es) mets scene.site w.account

-- It went some path, which may have one more event.
pub record MayGoOn (w : Walked) : Type 0 where
  pub config : Config
  pub events : List Event
  pub mets : List Met
  pub walk : IsWalk config events mets w
  pub short : length events < MAX_NODES

-- It went some path, on which one more call may be refused.
pub record MayRefuse (w : Walked) : Type 0 where
  pub config : Config
  pub events : List Event
  pub mets : List Met
  pub walk : IsWalk config events mets w
  pub few : length mets < 4294967295

-- the event is accepted where the path leads, with this answer
pub record IsAnswered (c : Config) (es : List Event) (e : Event) (answer : Answer) : Type 0 where
  pub before : Scene
  pub runs : run c es ≡ Ok before
  pub after : Scene
  pub goes : next c before e ≡ Ok (answer, after)

-- or it is refused there
pub record IsRefused (c : Config) (es : List Event) (e : Event) (refusal : Refusal) : Type 0 where
  pub before : Scene
  pub runs : run c es ≡ Ok before
  pub stops : next c before e ≡ Err refusal

-- What a walk gives that is to make one more event, and where it is then.
abbrev pub WentOn : Config → List Event → List Met → Event → Result Answer Refusal → Walked → Type 0
WentOn c es mets e (Ok answer) w = IsWalk c (es ++ e ∷ []) mets w × IsAnswered c es e answer
WentOn c es mets e (Err refusal) w = IsWalk c es mets w × (refusal ≢ OutOfMemory → IsRefused c es e refusal)

-- the path is of no site, or this refusal stops it at some event
abbrev pub IsStopped : Config → List Event → Refusal → Type 0
IsStopped c es refusal = ((refusal ≡ BadSpec) × (IsConfig c → ⊥)) ⊎ ((i : ℕ) × (e : Event) × (slice_get es i ≡ Some e) × IsRefused c (take i es) e refusal)
