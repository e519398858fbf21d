-- What a try of events tells.
use Rattle.std.specs.Prelude.{◌≡◌, List, ◌++◌, Result, Ok, Err}
use Rattle.esx_types.specs.declared.config.Config.{Config}
use Rattle.esx_events.specs.declared.event.Event.{Event}
use Rattle.esx_events.specs.declared.event.Answer.{Answer}
use Rattle.esx_events.specs.declared.event.Refusal.{Refusal}
use Rattle.esx_events.specs.declared.call.Sum.{Sum}
use Rattle.esx_model.specs.declared.scene.Scene.{Scene}
use Rattle.esx_model.specs.Show.{shown}
use Rattle.esx_model.specs.Readings.{sum_of}
use Rattle.esx_model.specs.WhatIf.{replies_to, scene_of}

-- the replies grow by what the events answer, and the sum is that of the scene to which they lead
pub record Told (c : Config) (t : Scene) (events : List Event) (old new : List (Result Answer Refusal)) (sum : Sum) : Type 0 where
  pub replies : new ≡ old ++ replies_to c events t
  pub after : sum ≡ sum_of (shown c (scene_of c events t))

abbrev pub Tells : {E : Type 0} → Result Sum E → Config → Scene → List Event → List (Result Answer Refusal) → List (Result Answer Refusal) → Type 0
Tells (Ok after) c t events old new = Told c t events old new after
Tells (Err e) c t events old new = Unit {0}
