-- What accesses waited for a page that was lost, and what the targets in force were made from.
use Rattle.std.specs.Prelude.{ℕ, ◌-◌, ◌==◌, ◌&&◌, nat_le, nat_lt, max, Bool, true, false, List, slice_get, count_by, Option, Some, None}
use Rattle.esx_types.specs.declared.level.Level.{Level}
use Rattle.esx_types.specs.declared.level.Level.TheVariants.{High, Soft, Hard, Low}
use Rattle.esx_events.specs.declared.event.Answer.{Answer}
use Rattle.esx_events.specs.declared.event.Answer.TheVariants as answers
use Rattle.esx_events.specs.declared.event.Refusal.{Refusal}
use Rattle.esx_model.specs.declared.scene.Vm.{Vm}
use Rattle.esx_model.specs.Site.{vm_at, resident}
use Rattle.esx_model.specs.Guests.{is_pressed}
use Rattle.esx_story.specs.declared.change.Asked.{Asked}
use Rattle.esx_story.specs.Moments.{Moment}
use Rattle.esx_story.specs.Spans.{back, over, set_at}

-- A call that was refused after so many events of a path were accepted: the page that it was to read or write, if it was an access.
pub record Met : Type 0 where
  pub at : ℕ
  pub access : Option (ℕ × ℕ)
  pub refusal : Refusal

-- it is that page
abbrev pub is_page : ℕ → ℕ → Option (ℕ × ℕ) → Bool
is_page n page None = false
is_page n page (Some p) = (p.0 == n) && (p.1 == page)

-- an access of the page that was to wait
abbrev pub is_wait : ℕ → ℕ → Met → Bool
is_wait n page m = is_page n page m.access && is_pressed m.refusal

-- before an event, if there is one
abbrev pub is_before : Option ℕ → ℕ → Bool
is_before None at = true
is_before (Some j) at = nat_lt at j

-- how many waited for a page that the i-th event lost, until it is back or its machine goes
abbrev pub waits : List Moment → List Met → ℕ → ℕ → ℕ → ℕ
waits ms mets i n page = count_by (λ (m : Met). is_wait n page m && nat_le i m.at && is_before (back ms i n page) m.at && is_before (over ms i n page) m.at) mets

-- what a machine had to give up by new targets
abbrev pub kept : Option Vm → ℕ
kept None = 0
kept (Some v) = max (resident v) v.spec.min

abbrev pub left : Option Vm → ℕ
left None = 0
left (Some v) = v.target

abbrev pub asked_in : Answer → ℕ → Option Asked
asked_in (answers.Rebalanced need revoked) given = Some (record { need = need; revoked = revoked; given = given })
asked_in _ given = None

abbrev pub asked_at : Level → Answer → ℕ → Option Asked
asked_at High answer given = None
asked_at Soft answer given = asked_in answer given
asked_at Hard answer given = asked_in answer given
asked_at Low answer given = asked_in answer given

-- what a rebalance asked for, in all and of machine n; at level high it asks for nothing
abbrev pub asked_by : ℕ → Option Moment → Option Asked
asked_by n None = None
asked_by n (Some x) = asked_at x.before.level x.answer (kept (vm_at x.before.site n) - left (vm_at x.after.site n))

abbrev pub asked_since : List Moment → ℕ → Option ℕ → Option Asked
asked_since ms n None = None
asked_since ms n (Some k) = asked_by n (slice_get ms (k - 1))

-- by the rebalance that set the targets in force when the i-th event came
abbrev pub asked : List Moment → ℕ → ℕ → Option Asked
asked ms i n = asked_since ms n (set_at ms i n)
