-- What a plan is: an answer and changes, or a refusal.
use Rattle.std.specs.Prelude.{◌≡◌, ◌≢◌, List, Option, Some, None, Result, Ok, Err, IsOk}
use Rattle.esx_events.specs.declared.event.Answer.{Answer}
use Rattle.esx_events.specs.declared.event.Refusal.{Refusal}
use Rattle.esx_events.specs.declared.event.Refusal.TheVariants.{NoVm, OutOfMemory}
use Rattle.esx_model.specs.declared.book.VmRow.{VmRow}
use Rattle.esx_tables.specs.declared.change.Change.{Change}
use Rattle.esx_changes.specs.declared.plan.Plan.{Plan}

abbrev pub Planned : Type 0
Planned = Result (Answer × List Change) Refusal

-- where there is a machine
abbrev pub at_row : Option VmRow → (VmRow → Planned) → Planned
at_row None f = Err NoVm
at_row (Some v) f = f v

-- what a call that plans may give: the plan; where it is refused that refusal; and want of memory only where it is not refused
abbrev pub Plans : Result Plan Refusal → Planned → Type 0
Plans (Ok p) d = d ≡ Ok (p.answer, p.changes)
Plans (Err e) d = (e ≢ OutOfMemory → d ≡ Err e) × (e ≡ OutOfMemory → IsOk d)
