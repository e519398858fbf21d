use Rattle.std.proofs.Common.{◌≡◌, ◌∙◌, ap, sym, Some}
use Rattle.std.specs.Result.{result_err}
use Rattle.esx_refused.specs.Refused.{first_refused}
use Rattle.esx_refused.specs.Promised.{on_good, started_below}
use Rattle.esx_types.specs.declared.config.TheConstants.{VM_NUMBERS}
use Rattle.esx_refused.proofs.Sums.{first_by_sums}
use Rattle.esx_refused.proofs.Refusals.{found_refusal, found_machine, none_found}
use Rattle.esx_refused.proofs.opening.refused_opening.Goals as goal

pub returns-in-Ok : goal.returns-in-Ok
returns-in-Ok c =
    let site = c.args.site.now in
    let guests = c.args.guests.now in
    let first : c.err.result ≡ first_refused site guests =
    c.err.ensures.value ∙ ap result_err (c.started.ensures ∙ ap (λ r. on_good r (λ t. started_below site t.nodes guests VM_NUMBERS)) c.in-Ok.ensures.value) ∙ sym (first_by_sums site guests) in
    record { first = first; machine = found_machine site guests _ first; refusal = found_refusal site guests _ first; all_run = none_found site guests _ first }

pub returns-in-Err : goal.returns-in-Err
returns-in-Err c =
    let site = c.args.site.now in
    let guests = c.args.guests.now in
    let first : Some c.in-Err.first ≡ first_refused site guests =
    ap (λ r. result_err (on_good r (λ t. started_below site t.nodes guests VM_NUMBERS))) c.in-Err.ensures.value ∙ sym (first_by_sums site guests) in
    record { first = first; machine = found_machine site guests _ first; refusal = found_refusal site guests _ first; all_run = none_found site guests _ first }
