-- Pages in shared frames: which an event leaves in none, and which it brings there.
use Rattle.std.specs.Prelude.{ℕ, ◌==◌, Bool, true, false, Option, Some, None, option_map, if◌then◌else◌, Result, Ok}
use Rattle.esx_events.specs.declared.event.Event.{Event}
use Rattle.esx_events.specs.declared.event.Event.TheVariants.{Write, Lend, Scan, SwapOut, Replace, DropPage}
use Rattle.esx_events.specs.declared.event.Answer.{Answer}
use Rattle.esx_events.specs.declared.event.Answer.TheVariants as answers
use Rattle.esx_events.specs.declared.event.Scanned.TheVariants as scanned
use Rattle.esx_events.specs.declared.event.Refusal.{Refusal}
use Rattle.esx_events.specs.declared.call.PageState.{PageState}
use Rattle.esx_events.specs.declared.call.PageState.TheVariants as states
use Rattle.esx_model.specs.declared.scene.Vm.{Vm}
use Rattle.esx_model.specs.declared.scene.Site.{Site}
use Rattle.esx_model.specs.Places.{is_shared}
use Rattle.esx_model.specs.Site.{vm_at, place_of}
use Rattle.esx_model.specs.event.Paging.{compared}
use Rattle.esx_model.specs.event.Sharing.{found_by}
use Rattle.esx_figures.specs.Figures.{shared_pages}

abbrev pub shared_in : Option Vm → ℕ
shared_in None = 0
shared_in (Some v) = shared_pages v

-- how many pages of machine n are in shared frames
abbrev pub shared_of : Site → ℕ → ℕ
shared_of s n = shared_in (vm_at s n)

-- one of them is there
abbrev pub has_shared : Site → ℕ → ℕ → Bool
has_shared s n page = is_shared (place_of s n page)

-- the page that an event leaves in no shared frame: one that is written, lent or dropped, one that goes to a slot
abbrev pub parting : Event → Answer → Option (ℕ × ℕ)
parting (Write n page at new) answer = Some (n, page)
parting (Lend n page) (answers.Lent count goal) = Some (n, page)
parting (SwapOut n word) (answers.PagedOut page slot) = Some (n, page)
parting (Replace n page word) (answers.Replaced victim slot frame) = Some (n, victim)
parting (DropPage n page) answer = Some (n, page)
parting _ _ = None

-- its machine, if it was in one
abbrev pub parted : Site → Option (ℕ × ℕ) → Option ℕ
parted s None = None
parted s (Some p) = if has_shared s p.0 p.1 then Some p.0 else None

-- the machine of the page that an event brings into a shared frame: one that is scanned, or that was to go out
abbrev pub joining : Event → Answer → Option ℕ
joining (Scan n page) (answers.Looked (scanned.Shared frame count)) = Some n
joining (SwapOut n word) (answers.SharedOut page frame) = Some n
joining _ _ = None

-- the machine of the page whose frame becomes a shared one so
abbrev pub hosting : Site → Event → Option ℕ
hosting s e = option_map (λ p. p.0) (found_by s (compared s e))

-- one, if that is the machine
abbrev pub one_of : ℕ → Option ℕ → ℕ
one_of n None = 0
one_of n (Some m) = if m == n then 1 else 0

-- a page is told to be in a shared frame
abbrev pub is_told_shared : Result PageState Refusal → Bool
is_told_shared (Ok (states.Shared frame count)) = true
is_told_shared _ = false
