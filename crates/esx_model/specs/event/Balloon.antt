-- A guest lends pages to the machine through its balloon driver (Waldspurger, "Ballooning").
use Rattle.std.specs.Prelude.{ℕ, ◌+◌, ◌-◌, Bool, false, ◌||◌, nat_le, if◌then◌else◌, Ok, not, ◌∷◌, []}
use Rattle.esx_events.specs.declared.event.Answer.TheVariants as answers
use Rattle.esx_events.specs.declared.event.Refusal.TheVariants.{OverGoal, NotLent, LentAlready}
use Rattle.esx_model.specs.declared.scene.Place.TheVariants.{Untouched, Lent}
use Rattle.esx_model.specs.declared.scene.Vm.{Vm}
use Rattle.esx_model.specs.declared.scene.Site.{Site}
use Rattle.esx_model.specs.Places.{is_lent_in}
use Rattle.esx_model.specs.Site.{vm_at, with_vm, place_at, lent}
use Rattle.esx_model.specs.Hints.{placed}
use Rattle.esx_model.specs.event.Outcome.{Outcome, Gate, at_vm, unless, standing, goal, running_gate, page_gate}
use Rattle.esx_model.specs.declared.look.Standing.{Standing}

-- the page is lent now
abbrev pub is_lent : Vm → ℕ → Bool
is_lent v page = is_lent_in v.epoch (place_at v page)

-- the machine when a page comes: one that is lent now pops the balloon, so that a reset is due
abbrev pub popped : ℕ → Vm → Vm
popped page v = record v { due = v.due || is_lent v page }

-- a reset that is due takes the place of what the driver asked for: all that was lent counts as untouched
abbrev pub unless_due : Site → ℕ → Vm → Outcome → Outcome
unless_due s n v o = if v.due then Ok (answers.Reset (v.epoch + 1), with_vm s n (record v { epoch = v.epoch + 1; due = false })) else o

unfoldable pub ask : Site → ℕ → Outcome
ask s n = at_vm (vm_at s n) (λ v. unless (running_gate (standing v)) (unless_due s n v (Ok (answers.Goal (goal (standing v)) (lent v) v.epoch, s))))

abbrev pub lend_gate : Bool → Standing → Gate
lend_gate already m = (already, LentAlready) ∷ (nat_le (goal m) m.lent, OverGoal) ∷ []

unfoldable pub lend : Site → ℕ → ℕ → Outcome
lend s n page = at_vm (vm_at s n) (λ v. unless (page_gate (standing v) page) (unless_due s n v
    (unless (lend_gate (is_lent v page) (standing v))
    (Ok (answers.Lent (lent v + 1) (goal (standing v)), placed s n page (Lent v.epoch))))))

abbrev pub take_back_gate : Bool → Gate
take_back_gate already = (not already, NotLent) ∷ []

unfoldable pub take_back : Site → ℕ → ℕ → Outcome
take_back s n page = at_vm (vm_at s n) (λ v. unless (page_gate (standing v) page) (unless_due s n v
    (unless (take_back_gate (is_lent v page))
    (Ok (answers.TakenBack (lent v - 1), placed s n page Untouched)))))
