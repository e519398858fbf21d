-- What events and questions are answered one after another, scene by scene. A refused event, a question and a move that is left out change nothing.
use Rattle.std.specs.Prelude.{◌≡◌, List, [], ◌∷◌, map, Result, Ok, Err}
use Rattle.esx_types.specs.declared.config.Config.{Config}
use Rattle.esx_events.specs.declared.event.Answer.{Answer}
use Rattle.esx_events.specs.declared.event.Refusal.{Refusal}
use Rattle.esx_events.specs.declared.event.Refusal.TheVariants.{Full}
use Rattle.esx_events.specs.declared.call.Call.{Call}
use Rattle.esx_events.specs.declared.call.Call.TheVariants as calls
use Rattle.esx_events.specs.declared.call.Said.{Said}
use Rattle.esx_events.specs.declared.call.Said.TheVariants as said
use Rattle.esx_model.specs.declared.scene.Scene.{Scene}
use Rattle.esx_model.specs.Show.{shown}
use Rattle.esx_model.specs.Replay.{opening, next}
use Rattle.esx_model.specs.Readings.{sum_of, page_state, activity, table_of}
use Rattle.esx_model.specs.Advice.{advice}
use Rattle.esx_model.specs.Console.{page_said, activity_said, help_said}
use Rattle.esx_model.proofs.rows.Replies.{replies_of}

told : Scene → Result (Answer × Scene) Refusal → (Scene → List Said) → List Said
told t (Err e) go = said.Refused e ∷ go t
told t (Ok r) go = said.Done r.0 ∷ go r.1

tells : Config → Scene → Call → (Scene → List Said) → List Said
unfolding told
tells c t (calls.Do e) go = told t (next c t e) go
tells c t calls.Sum go = said.Sum (sum_of (shown c t)) ∷ go t
tells c t calls.Table go = said.Table (table_of (shown c t)) (sum_of (shown c t)) ∷ go t
tells c t (calls.OfVm n) go = activity_said (activity (shown c t) n) ∷ go t
tells c t (calls.OfPage n page) go = page_said (page_state (shown c t) n page) ∷ go t
tells c t (calls.Advise n page) go = help_said (advice c t n page) ∷ go t
tells c t other go = said.Refused Full ∷ go t

tells_from : Config → List Call → Scene → List Said
unfolding tells
tells_from c [] t = []
tells_from c (call ∷ later) t = tells c t call (λ u. tells_from c later u)

unfoldable pub told_of : Config → List Call → List Said
unfolding tells_from replies_of
told_of c calls = tells_from c calls (opening c)

-- each call is told that, one after another
abbrev pub AreTold : Config → List (Call × Said) → Type 0
AreTold c lines = told_of c (map (λ (line : Call × Said). line.0) lines) ≡ map (λ (line : Call × Said). line.1) lines
