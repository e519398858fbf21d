-- What would come of events, before they are made.
use Rattle.std.specs.Prelude.{List, [], ◌∷◌, length, Result, Ok, Err}
use Rattle.esx_types.specs.declared.config.Config.{Config}
use Rattle.esx_events.specs.declared.event.Event.{Event}
use Rattle.esx_events.specs.declared.event.Answer.{Answer}
use Rattle.esx_events.specs.declared.event.Refusal.{Refusal}
use Rattle.esx_events.specs.declared.call.Sides.{Sides}
use Rattle.esx_model.specs.declared.scene.Scene.{Scene}
use Rattle.esx_model.specs.Show.{shown}
use Rattle.esx_model.specs.Readings.{sum_of}
use Rattle.esx_model.specs.Replay.{next}
use Rattle.esx_model.specs.History.{History, scene_at, book_at}

abbrev pub tried : Result (Answer × Scene) Refusal → (Scene → List (Result Answer Refusal)) → List (Result Answer Refusal)
tried (Err e) go = Err e ∷ []
tried (Ok r) go = Ok r.0 ∷ go r.1

-- what events answer one after another, up to the first that is refused
unfoldable pub replies_to : Config → List Event → Scene → List (Result Answer Refusal)
replies_to c [] t = []
replies_to c (e ∷ es) t = tried (next c t e) (λ u. replies_to c es u)

abbrev pub scene_then : Scene → Result (Answer × Scene) Refusal → (Scene → Scene) → Scene
scene_then t (Err e) go = t
scene_then t (Ok r) go = go r.1

-- the scene that they lead to
unfoldable pub scene_of : Config → List Event → Scene → Scene
scene_of c [] t = t
scene_of c (e ∷ es) t = scene_then t (next c t e) (λ u. scene_of c es u)

-- what would come of events at the cursor
unfoldable pub what_if : List Event → History → Sides
what_if es h = record {
  given = length es;
  before = sum_of (book_at h);
  replies = replies_to h.config es (scene_at h);
  after = sum_of (shown h.config (scene_of h.config es (scene_at h)));
}
