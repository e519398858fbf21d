use Rattle.std.proofs.Common.{rules, ◌≡◌, ◌+◌, length}
use Rattle.esx_opening.proofs.InTurn.{handed_on}
use Rattle.esx_program.proofs.RunLemmas.{all_run}
use Rattle.esx_program.proofs.running.play.Goals as goal

pub returns-in_err-console-clause-refused : goal.returns-in_err-console-clause-refused
returns-in_err-console-clause-refused g c = handed_on c.from_residual.result c.in_err-console.field-0.0 _ c.from_residual.ensures.1 (λ e is. c.in_err-console.ensures.refused e is)

pub returns-clause-ok : goal.returns-clause-ok
returns-clause-ok g c =
    let p = c.args.scenario.now in
    let on = c.in_ok-console.ensures.runs in
    let many : length c.in-Ok.gates.items ≡ length p.guests + 3 = search rules in record {
      opened = on.0;
      accepted = on.1;
      many = c.in_ok-console.ensures.many.0;
      runs = all_run c.in-Ok.gates.items p on.0 (length p.guests + 3) c.in_ok-console.field-0.ends.items c.in_ok-console.field-0.console many c.in_ok-console.ensures.many.0 on.2;
      legal = c.log.ensures.legal;
    }
