use Rattle.std.proofs.Common.{ℕ, refl, sym, subst, Result}
use Rattle.std.specs.Prelude.{IsOk}
use Rattle.esx_events.specs.declared.event.Refusal.{Refusal}
use Rattle.esx_model.specs.History.{History}
use Rattle.esx_journal.proofs.Dropping.{prune_none, prune_refused, prune_done}
use Rattle.esx_journal.proofs.Visiting.{takes_off}
use Rattle.esx_journal.proofs.laws.prune_takes_off.Goals as goal

pub returns-clause-missing : goal.returns-clause-missing
returns-clause-missing c = λ h node down. prune_none node h down

pub returns-clause-above : goal.returns-clause-above
returns-clause-above c = λ h node up on. prune_refused node h up on

pub returns-clause-accepted : goal.returns-clause-accepted
returns-clause-accepted c = λ h node up off. (let P : Result (ℕ × History) Refusal → Type 0 = IsOk in subst P (sym (prune_done node h up off)) refl)

pub returns-clause-rest : goal.returns-clause-rest
returns-clause-rest c = takes_off
