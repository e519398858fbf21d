-- Pages leave for the swap area, or make room for one of their own machine (Waldspurger, "Demand Paging", "Reclamation Mechanisms").
use Rattle.std.specs.Prelude.{ℕ, ◌%◌, Bool, true, false, ◌&&◌, ◌||◌, not, nat_lt, nat_le, List, Option, Some, None, option_map, slice_get, Ok, Err, ◌∷◌, []}
use Rattle.std.specs.List.{list_any}
use Rattle.esx_types.specs.declared.config.Config.{Config}
use Rattle.esx_types.specs.declared.level.Level.{Level}
use Rattle.esx_types.specs.declared.level.Level.TheVariants.{High, Soft, Hard, Low}
use Rattle.esx_events.specs.declared.event.Event.{Event}
use Rattle.esx_events.specs.declared.event.Event.TheVariants.{Scan, SwapOut}
use Rattle.esx_events.specs.declared.event.Answer.TheVariants as answers
use Rattle.esx_events.specs.declared.event.Refusal.TheVariants.{NotRunning, OutOfRange, Short, NotNow, AtTarget, NotNeeded}
use Rattle.esx_model.specs.declared.scene.Place.{Place}
use Rattle.esx_model.specs.declared.scene.Place.TheVariants.{Untouched, Here, Out, Lent}
use Rattle.esx_model.specs.declared.look.Standing.{Standing}
use Rattle.esx_model.specs.declared.look.Look.{Look}
use Rattle.esx_model.specs.declared.look.Look.TheVariants.{Already, SharedFrame, OtherPage, Changed, OtherBytes, Nothing}
use Rattle.esx_model.specs.declared.scene.Vm.{Vm}
use Rattle.esx_model.specs.declared.scene.Site.{Site}
use Rattle.esx_model.specs.Places.{is_here, contents}
use Rattle.esx_model.specs.Site.{free_count, least_slot, vm_at, place_at, resident, here_from}
use Rattle.esx_model.specs.Hints.{with_change, placed}
use Rattle.esx_model.specs.event.Outcome.{Outcome, Gate, at_vm, unless, standing, is_running}
use Rattle.esx_model.specs.event.Balloon.{popped}
use Rattle.esx_model.specs.event.Sharing.{look, after_look}

-- the page that a word draws from those of a machine that are in frames
abbrev pub victim : Vm → ℕ → Option ℕ
victim v word = slice_get (here_from 0 v.places) (word % resident v)

-- nothing is paged at the highest level, nor at the next while the balloon may still lend
abbrev pub is_too_early : Level → Standing → Bool
is_too_early High m = true
is_too_early Soft m = is_running m.state && nat_lt m.lent m.spec.balloon_max
is_too_early Hard m = false
is_too_early Low m = false

abbrev pub swap_out_gate : Level → Standing → Gate
swap_out_gate level m = (is_too_early level m, NotNow level) ∷ (nat_le m.resident m.target, AtTarget) ∷ []

-- a page goes to a slot; by the reserves there is one
abbrev pub to_slot : Site → ℕ → ℕ → List ℕ → Option ℕ → Outcome
to_slot s n page bytes None = Err Short
to_slot s n page bytes (Some slot) = Ok (answers.PagedOut page slot, placed s n page (Out bytes slot))

-- a page that can be shared is shared; of any other look nothing remains
abbrev pub leave_by : Config → Site → ℕ → ℕ → List ℕ → Look → Outcome
leave_by c s n page bytes (SharedFrame f) = Ok (answers.SharedOut page f, after_look s n page bytes (SharedFrame f))
leave_by c s n page bytes (OtherPage m q f) = Ok (answers.SharedOut page f, after_look s n page bytes (OtherPage m q f))
leave_by c s n page bytes Already = to_slot s n page bytes (least_slot c.slots s)
leave_by c s n page bytes Changed = to_slot s n page bytes (least_slot c.slots s)
leave_by c s n page bytes OtherBytes = to_slot s n page bytes (least_slot c.slots s)
leave_by c s n page bytes Nothing = to_slot s n page bytes (least_slot c.slots s)

-- a machine above its target has a page in a frame
abbrev pub leave : Config → Site → ℕ → Vm → Option ℕ → Outcome
leave c s n v None = Err AtTarget
leave c s n v (Some page) = leave_by c s n page (contents c (place_at v page)) (look s n page (place_at v page))

-- the page that an event compares with others: one that is scanned, and one that is drawn to go out
abbrev pub drawn_of : ℕ → Option Vm → ℕ → Option (ℕ × ℕ)
drawn_of n None word = None
drawn_of n (Some v) word = option_map (λ page. (n, page)) (victim v word)

abbrev pub compared : Site → Event → Option (ℕ × ℕ)
compared s (Scan n page) = Some (n, page)
compared s (SwapOut n word) = drawn_of n (vm_at s n) word
compared s _ = None

unfoldable pub swap_out : Config → Site → Level → ℕ → ℕ → Outcome
swap_out c s level n word = at_vm (vm_at s n) (λ v. unless (swap_out_gate level (standing v)) (leave c s n v (victim v word)))

-- the machine has more than its least
abbrev pub has_more : Standing → Bool
has_more m = nat_lt m.spec.min m.resident

abbrev pub is_above_min : Option Vm → Bool
is_above_min None = false
is_above_min (Some v) = has_more (standing v)

abbrev pub replace_gate : Standing → ℕ → Bool → ℕ → Bool → Gate
replace_gate m page here free above_min =
    (not (is_running m.state), NotRunning) ∷ (nat_le m.spec.max page, OutOfRange) ∷ (here || nat_lt 0 free || above_min, NotNeeded) ∷ []

-- the slot that a page leaves when it comes, or else the least free one
abbrev pub freed_slot : Config → Site → Place → Option ℕ
freed_slot c s (Out bytes slot) = Some slot
freed_slot c s Untouched = least_slot c.slots s
freed_slot c s (Here bytes f shared) = least_slot c.slots s
freed_slot c s (Lent epoch) = least_slot c.slots s

-- a page q leaves frame f for a slot, and another page of its machine comes there
abbrev pub trade : Config → Site → ℕ → ℕ → Place → ℕ → Place → Option ℕ → Outcome
trade c s n page wanted q (Here bytes f shared) (Some slot) =
    Ok (answers.Replaced q slot f, placed (placed (with_change s n (popped page)) n q (Out bytes slot)) n page (Here (contents c wanted) f false))
trade c s n page wanted q (Here bytes f shared) None = Err Short
trade c s n page wanted q Untouched slot = Err NotNeeded
trade c s n page wanted q (Out bytes i) slot = Err NotNeeded
trade c s n page wanted q (Lent epoch) slot = Err NotNeeded

-- a machine that no frame is free for has a page in one
abbrev pub trade_for : Config → Site → ℕ → Vm → ℕ → Option ℕ → Outcome
trade_for c s n v page None = Err NotNeeded
trade_for c s n v page (Some q) = trade c s n page (place_at v page) q (place_at v q) (freed_slot c s (place_at v page))

unfoldable pub replace : Config → Site → ℕ → ℕ → ℕ → Outcome
replace c s n page word = at_vm (vm_at s n) (λ v.
    unless (replace_gate (standing v) page (is_here (place_at v page)) (free_count c.frames s) (list_any is_above_min s.vms))
    (trade_for c s n v page (victim v word)))
