use Rattle.std.proofs.Common.{◌≡◌, false, true, decimal, sym, ap, ◌∙◌}
use Rattle.esx_events.specs.Limits.{has_call}
use Rattle.esx_words.specs.Commands.{spelling}
use Rattle.esx_words.proofs.CommandLemmas.{one_call}
use Rattle.esx_session.proofs.CallLemmas.{fields_of_call, parts_of_call}
use Rattle.esx_session.proofs.line.call_of.Goals as goal

pub returns-in_default-clause-only : goal.returns-in_default-clause-only
returns-in_default-clause-only c = λ caller call is. c.in_default.ensures.none (decimal caller) (spelling call) (fields_of_call c.args.version c.args.line.now caller call is)

pub returns-in_default-caller_of-clause-only : goal.returns-in_default-caller_of-clause-only
returns-in_default-caller_of-clause-only c = λ caller call is.
    c.in_default-caller_of.ensures.none caller is.known (parts_of_call c.args.version c.args.line.now c.in-Some.number.now c.in-Some.command.now c.in-Some.ensures.cut caller call is).0

pub returns-in_default-2-clause-only : goal.returns-in_default-2-clause-only
returns-in_default-2-clause-only c = λ caller call is.
    rw c.in_default-2.is at c.in_ok-call.ensures.only call (parts_of_call c.args.version c.args.line.now c.in-Some.number.now c.in-Some.command.now c.in-Some.ensures.cut caller call is).1

pub returns-then-not-has_call-clause-only : goal.returns-then-not-has_call-clause-only
returns-then-not-has_call-clause-only c = λ caller call is.
    let read = rw c.in-Some-2.is at c.in_ok-call.ensures.found in
    let spelled = (parts_of_call c.args.version c.args.line.now c.in-Some.number.now c.in-Some.command.now c.in-Some.ensures.cut caller call is).1 in
    let same = one_call c.in-Some.command.now c.in-Some-2.call call read spelled in
    let no : false ≡ true = sym c.if-not-has_call.true ∙ c.has_call.ensures ∙ ap (has_call c.args.version) same ∙ is.has in cc
