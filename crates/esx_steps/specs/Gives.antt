-- What a call that makes a step may give.
use Rattle.std.specs.Prelude.{◌≡◌, ◌≢◌, Result, Ok, Err, IsOk}
use Rattle.esx_events.specs.declared.event.Answer.{Answer}
use Rattle.esx_events.specs.declared.event.Refusal.{Refusal}
use Rattle.esx_events.specs.declared.event.Refusal.TheVariants.{OutOfMemory}
use Rattle.esx_model.specs.declared.scene.Site.{Site}
use Rattle.esx_model.specs.event.Outcome.{Outcome}

-- the step's answer and site, or its refusal; memory runs out only where the step would be accepted
abbrev pub Gives : Result (Answer × Site) Refusal → Outcome → Type 0
Gives (Ok r) d = d ≡ Ok r
Gives (Err e) d = (e ≢ OutOfMemory → d ≡ Err e) × (e ≡ OutOfMemory → IsOk d)
