-- A machine stops, and gives back what it has.
use Rattle.std.specs.Prelude.{ℕ, ◌+◌, ◌-◌, ◌||◌, not, nat_lt, nat_le, length, take, None, slice_set, if◌then◌else◌, Ok, ◌∷◌, Bool, []}
use Rattle.esx_events.specs.declared.event.Answer.TheVariants as answers
use Rattle.esx_events.specs.declared.event.Refusal.TheVariants.{NotRunning, OutOfRange, NotNeeded, PagesLeft}
use Rattle.esx_types.specs.declared.vm.VmState.TheVariants.{Stopping}
use Rattle.esx_model.specs.declared.scene.Place.TheVariants.{Untouched}
use Rattle.esx_model.specs.declared.look.Standing.{Standing}
use Rattle.esx_model.specs.declared.scene.Vm.{Vm}
use Rattle.esx_model.specs.declared.scene.Site.{Site}
use Rattle.esx_model.specs.Places.{is_here, is_out}
use Rattle.esx_model.specs.Site.{vm_at, with_vm, place_at}
use Rattle.esx_model.specs.Hints.{placed}
use Rattle.esx_model.specs.event.Outcome.{Outcome, Gate, at_vm, unless, standing, is_stopping}

abbrev pub stop_gate : Standing → Gate
stop_gate m = (is_stopping m.state, NotRunning) ∷ []

-- an open period is dropped
unfoldable pub stop : Site → ℕ → Outcome
stop s n = at_vm (vm_at s n) (λ v. unless (stop_gate (standing v)) (Ok (answers.Done, with_vm s n (record v { state = Stopping; period = None }))))

abbrev pub drop_gate : Standing → ℕ → Bool → Gate
drop_gate m page kept = (not (is_stopping m.state), NotNeeded) ∷ (nat_le m.spec.max page, OutOfRange) ∷ (not kept, NotNeeded) ∷ []

unfoldable pub drop_page : Site → ℕ → ℕ → Outcome
drop_page s n page = at_vm (vm_at s n) (λ v. unless (drop_gate (standing v) page (is_here (place_at v page) || is_out (place_at v page))) (Ok (answers.Done, placed s n page Untouched)))

abbrev pub gone_gate : Standing → Gate
gone_gate m = (not (is_stopping m.state), NotNeeded) ∷ (nat_lt 0 (m.resident + m.out), PagesLeft) ∷ []

-- the machine without the overhead frame that it took last
abbrev pub without_last : Vm → Vm
without_last v = record v { overhead = take (length v.overhead - 1) v.overhead }

-- with the last overhead frame, or where there was none, the machine goes
abbrev pub give_back : Site → ℕ → Vm → Outcome
give_back s n v =
    if nat_lt 1 (length v.overhead) then Ok (answers.GivenBack (length v.overhead - 1), with_vm s n (without_last v))
    else Ok (answers.Gone, record s { vms = slice_set s.vms n None })

unfoldable pub gone : Site → ℕ → Outcome
gone s n = at_vm (vm_at s n) (λ v. unless (gone_gate (standing v)) (give_back s n v))
