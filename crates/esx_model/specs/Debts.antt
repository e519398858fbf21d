-- What may still be reclaimed, and events that were advised.
use Rattle.std.specs.Prelude.{◌≡◌, ℕ, List, [], ◌∷◌, Ok}
use Rattle.esx_types.specs.declared.config.Config.{Config}
use Rattle.esx_types.specs.Ranges.{IsConfig}
use Rattle.esx_events.specs.declared.call.Help.{Help}
use Rattle.esx_events.specs.declared.event.Answer.{Answer}
use Rattle.esx_events.specs.declared.event.Event.{Event}
use Rattle.esx_model.specs.declared.scene.Scene.{Scene}
use Rattle.esx_model.specs.Show.{shown}
use Rattle.esx_model.specs.Readings.{debt}
use Rattle.esx_model.specs.Advice.{advice, IsNamedBy}
use Rattle.esx_model.specs.Replay.{next, run}

-- the debt of a scene: pages in frames, and frames that hold pages
abbrev pub debt_of : Config → Scene → ℕ
debt_of c t = debt (shown c t)

-- a path leads to the scene
pub record IsOnPath (c : Config) (t : Scene) : Type 0 where
  pub config : IsConfig c
  pub path : List Event
  pub runs : run c path ≡ Ok t

-- the event is accepted
abbrev pub IsAccepted : Config → Scene → Event → Type 0
IsAccepted c t e = (r : Answer × Scene) × (next c t e ≡ Ok r)

-- an event that the advice for the page named was accepted
pub record IsAdvised (c : Config) (n page : ℕ) (e : Event) (t u : Scene) : Type 0 where
  pub help : Help
  pub given : advice c t n page ≡ Ok help
  pub named : IsNamedBy n page help e
  pub answer : Answer
  pub goes : next c t e ≡ Ok (answer, u)

-- these events, one after another, each by the advice for the page, and no other
abbrev pub AreAdvised : Config → ℕ → ℕ → List Event → Scene → Scene → Type 0
AreAdvised c n page [] t u = t ≡ u
AreAdvised c n page (e ∷ es) t u = (m : Scene) × IsAdvised c n page e t m × AreAdvised c n page es m u
