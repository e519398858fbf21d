use Rattle.std.proofs.Common.{sym, ap, ◌∙◌}
use Rattle.esx_reading.specs.Fields.{fields, joined}
use Rattle.esx_reading.proofs.FieldLemmas.{joined_of_fields}
use Rattle.esx_reading.proofs.Results.{on_err}
use Rattle.esx_words.proofs.ListedLemmas.{some_words, fields_of_list}
use Rattle.esx_words.proofs.listed.tried.Goals as goal

pub returns-in_default-clause-only : goal.returns-in_default-clause-only
returns-in_default-clause-only c = λ events few are e. some_words events few.0 (sym e ∙ c.in_default.ensures)

pub returns-in_default-2-clause-only : goal.returns-in_default-2-clause-only
returns-in_default-2-clause-only c = λ events few are e.
    (rw c.in_default-2.is at c.in_ok-events.ensures.only) events few are (sym (joined_of_fields c.in-Some.text.now) ∙ ap joined (sym c.in-Some.ensures ∙ e))

pub returns-clause-found : goal.returns-clause-found
returns-clause-found c =
    let found = rw c.in-Some-2.is at c.in_ok-events.ensures.found in
    rw c.in-Some-new.ensures.value (found.0, found.1, c.in-Some.ensures ∙ ap fields found.2 ∙ fields_of_list _ found.0.0 found.1)

pub returns-in_err-events-clause-memory : goal.returns-in_err-events-clause-memory
returns-in_err-events-clause-memory c =
    on_err c.from_residual.result (rw (ap joined c.in-Some.ensures ∙ joined_of_fields c.in-Some.text.now) c.in_err-events.ensures.memory)
