use Rattle.std.proofs.Common.{arith, sym, ◌∙◌}
use Rattle.std.proofs.lemmas.Fmt.{decimal_injective}
use Rattle.esx_session.proofs.CallLemmas.{small_known}
use Rattle.esx_session.proofs.line.caller_of.Goals as goal

pub returns-else-number-callers-clause-none : goal.returns-else-number-callers-clause-none
returns-else-number-callers-clause-none c = λ n known e.
    let fits = small_known c.args.version n known in
    let same = decimal_injective c.in_ok-number.number n c.in_ok-number.ensures.some.0 fits (sym c.in_ok-number.ensures.some.1 ∙ e) in
    omega arith
