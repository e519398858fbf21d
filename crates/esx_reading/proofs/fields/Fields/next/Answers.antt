use Rattle.std.proofs.Common.{sym, ◌∙◌, ap}
use Rattle.esx_reading.specs.Fields.{fields_left}
use Rattle.esx_reading.proofs.FieldLemmas.{next_field, last_field}
use Rattle.esx_reading.proofs.fields.Fields.next.Goals as goal

pub returns-in-Some-clause-left : goal.returns-in-Some-clause-left
returns-in-Some-clause-left c =
    sym c.self.view_is ∙ ap fields_left c.in_ok-rest.was
    ∙ next_field c.in_ok-rest.rest.now c.in-Some.field.now c.in-Some.later.now c.in-Some.ensures.0 c.in-Some.ensures.1

pub returns-in-None-clause-left : goal.returns-in-None-clause-left
returns-in-None-clause-left c = sym c.self.view_is ∙ ap fields_left c.in_ok-rest.was ∙ last_field c.in_ok-rest.rest.now c.in-None.ensures
