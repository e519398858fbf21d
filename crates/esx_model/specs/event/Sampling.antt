-- Sample periods: how much of its memory a machine uses (Waldspurger, "Measuring Idle Memory").
use Rattle.std.specs.Prelude.{ℕ, ◌%◌, Bool, not, nat_lt, nat_le, ◌&&◌, List, [], ◌∷◌, ◌++◌, length, map, Option, Some, None, is_some, if◌then◌else◌, Ok}
use Rattle.esx_types.specs.declared.config.TheConstants.{MAX_LENGTH, MAX_SAMPLE}
use Rattle.esx_events.specs.declared.event.Answer.TheVariants as answers
use Rattle.esx_events.specs.declared.event.Refusal.TheVariants.{NotRunning, BadWords, SampleOpen}
use Rattle.esx_formulas.specs.declared.activity.Period.{Period}
use Rattle.esx_model.specs.declared.look.Standing.{Standing}
use Rattle.esx_model.specs.declared.scene.Vm.{Vm}
use Rattle.esx_model.specs.declared.scene.Site.{Site}
use Rattle.esx_formulas.specs.Average.{so_far}
use Rattle.esx_model.specs.Site.{vm_at, with_vm}
use Rattle.esx_model.specs.event.Outcome.{Outcome, Gate, at_vm, unless, standing, is_running}

-- 1 to `MAX_SAMPLE` pages, and 1 to `MAX_LENGTH` accesses
abbrev pub are_good_words : ℕ → ℕ → Bool
are_good_words count length = nat_le 1 count && nat_le count MAX_SAMPLE && nat_le 1 length && nat_le length MAX_LENGTH

abbrev pub sample_gate : Standing → ℕ → ℕ → Bool → Gate
sample_gate m count len open_now =
    (not (is_running m.state), NotRunning) ∷ (not (are_good_words count len), BadWords) ∷ (open_now, SampleOpen) ∷ []

-- a period as it opens: each word draws a page, and equal ones count each
abbrev pub opened_period : ℕ → ℕ → List ℕ → Period
opened_period max len words = record { length = len; pages = map (λ w. w % max) words; accessed = [] }

unfoldable pub sample : Site → ℕ → ℕ → List ℕ → Outcome
sample s n len words = at_vm (vm_at s n) (λ v. unless (sample_gate (standing v) (length words) len (is_some v.period))
    (Ok (answers.Opened len (length words), with_vm s n (record v { period = Some (opened_period v.spec.max len words) }))))

-- a machine whose period has come so far: the access that makes its length closes it
abbrev pub with_period : Vm → Period → Vm
with_period v p =
    if nat_lt (length p.accessed) p.length then record v { period = Some p }
    else record v { period = None; closed = v.closed ++ so_far p ∷ [] }

abbrev pub counted_in : ℕ → Vm → Option Period → Vm
counted_in page v None = v
counted_in page v (Some p) = with_period v (record p { accessed = p.accessed ++ page ∷ [] })

-- the machine after one more accepted access to a page
abbrev pub counted : ℕ → Vm → Vm
counted page v = counted_in page v v.period
