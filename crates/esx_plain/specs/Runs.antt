-- What the calls that make events may give.
use Rattle.std.specs.Prelude.{◌≡◌, ◌≢◌, ℕ, Result, Ok, Err, IsOk}
use Rattle.esx_events.specs.declared.event.Answer.{Answer}
use Rattle.esx_events.specs.declared.event.Refusal.{Refusal}
use Rattle.esx_events.specs.declared.event.Refusal.TheVariants.{OutOfMemory}
use Rattle.esx_model.specs.declared.scene.Scene.{Scene}
use Rattle.esx_model.specs.declared.book.Book.{Book}
use Rattle.esx_plain.specs.declared.fault.PlainFault.{PlainFault}
use Rattle.esx_plain.specs.declared.fault.PlainFault.TheVariants as faults

-- one event: its answer and the scene after it, or its refusal; memory runs out only where the event would be accepted
abbrev pub Steps : Result (Answer × Scene) Refusal → Result (Answer × Scene) Refusal → Type 0
Steps (Ok r) d = d ≡ Ok r
Steps (Err e) d = (e ≢ OutOfMemory → d ≡ Err e) × (e ≡ OutOfMemory → IsOk d)

-- how a refusal ends a path
abbrev pub fault_at : ℕ → Refusal → PlainFault
fault_at i OutOfMemory = faults.OutOfMemory
fault_at i e = faults.Refused i e

-- a path: the scene that it leads to, or its first refused event, or no memory for what comes of it
abbrev pub Runs : Result Scene PlainFault → Result Scene (ℕ × Refusal) → Type 0
Runs (Ok t) d = d ≡ Ok t
Runs (Err (faults.Refused i e)) d = d ≡ Err (i, e)
Runs (Err faults.OutOfMemory) d = Unit {0}

-- the same of its tables
abbrev pub Replays : Result Book PlainFault → Result Book (ℕ × Refusal) → Type 0
Replays (Ok b) d = d ≡ Ok b
Replays (Err (faults.Refused i e)) d = d ≡ Err (i, e)
Replays (Err faults.OutOfMemory) d = Unit {0}
