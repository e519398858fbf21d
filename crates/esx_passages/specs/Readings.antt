-- What the tables tell of where a page is, and the epochs of machines.
use Rattle.std.specs.Prelude.{ℕ, ◌==◌, true, false, List, Option, Some, None, if◌then◌else◌, Result, Ok, Err}
use Rattle.esx_events.specs.declared.event.Event.{Event}
use Rattle.esx_events.specs.declared.event.Event.TheVariants.{Ask, Lend, TakeBack, Gone}
use Rattle.esx_events.specs.declared.event.Answer.{Answer}
use Rattle.esx_events.specs.declared.event.Answer.TheVariants as answers
use Rattle.esx_events.specs.declared.event.Refusal.{Refusal}
use Rattle.esx_events.specs.declared.call.PageState.{PageState}
use Rattle.esx_events.specs.declared.call.PageState.TheVariants as states
use Rattle.esx_model.specs.declared.scene.Vm.{Vm}
use Rattle.esx_model.specs.declared.scene.Site.{Site}
use Rattle.esx_model.specs.Site.{vm_at}
use Rattle.esx_story.specs.declared.change.Spot.{Spot}
use Rattle.esx_story.specs.declared.change.Spot.TheVariants as spots

-- where a page is, by what the tables say of it in an epoch of its machine; a page that is none is nowhere
abbrev pub told_spot : ℕ → Result PageState Refusal → Spot
told_spot epoch (Ok states.Untouched) = spots.Untouched
told_spot epoch (Ok (states.Private frame)) = spots.Here frame false
told_spot epoch (Ok (states.Hinted frame)) = spots.Here frame false
told_spot epoch (Ok (states.Shared frame count)) = spots.Here frame true
told_spot epoch (Ok (states.Out slot)) = spots.Out slot
told_spot epoch (Ok states.Lent) = spots.Lent epoch
told_spot epoch (Err refusal) = spots.Untouched

-- how often the loans of machine n were reset; never, where there is none
abbrev pub epoch_in : Option Vm → ℕ
epoch_in None = 0
epoch_in (Some v) = v.epoch

abbrev pub epoch_of : Site → ℕ → ℕ
epoch_of s n = epoch_in (vm_at s n)

-- the machine whose epoch is another after an accepted event, and that epoch
abbrev pub new_epoch : Event → Answer → Option (ℕ × ℕ)
new_epoch (Ask n) (answers.Reset epoch) = Some (n, epoch)
new_epoch (Lend n page) (answers.Reset epoch) = Some (n, epoch)
new_epoch (TakeBack n page) (answers.Reset epoch) = Some (n, epoch)
new_epoch (Gone n) answers.Gone = Some (n, 0)
new_epoch _ _ = None

-- the epoch of machine n where one has another
abbrev pub epoch_after : Option (ℕ × ℕ) → ℕ → ℕ → ℕ
epoch_after None n epoch = epoch
epoch_after (Some p) n epoch = if p.0 == n then p.1 else epoch
