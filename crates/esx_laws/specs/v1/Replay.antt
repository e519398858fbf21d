-- Whole paths by the rules of version 1.
use Rattle.std.specs.Prelude.{ℕ, ◌+◌, List, [], ◌∷◌, Result, Ok}
use Rattle.esx_types.specs.declared.config.Config.{Config}
use Rattle.esx_events.specs.declared.event.Event.{Event}
use Rattle.esx_events.specs.declared.event.Answer.{Answer}
use Rattle.esx_events.specs.declared.event.Refusal.{Refusal}
use Rattle.esx_model.specs.declared.scene.Scene.{Scene}
use Rattle.esx_model.specs.declared.book.Book.{Book}
use Rattle.esx_model.specs.Replay.{opening, settled, after_one, shown_after}
use Rattle.esx_laws.specs.v1.Step.{step}

-- one event
unfoldable pub next : Config → Scene → Event → Result (Answer × Scene) Refusal
next c t e = settled c t.level (step c t.site t.level e)

unfoldable pub run_from : Config → ℕ → List Event → Scene → Result Scene (ℕ × Refusal)
run_from c i [] t = Ok t
run_from c i (e ∷ es) t = after_one i (next c t e) (λ u. run_from c (i + 1) es u)

abbrev pub run : Config → List Event → Result Scene (ℕ × Refusal)
run c es = run_from c 0 es (opening c)

-- the tables that a path leads to, or the first refused event
abbrev pub replay_of : Config → List Event → Result Book (ℕ × Refusal)
replay_of c es = shown_after c (run c es)
