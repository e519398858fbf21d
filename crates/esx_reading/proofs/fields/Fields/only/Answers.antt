use Rattle.std.proofs.Common.{sym, ◌∙◌, ap}
use Rattle.esx_reading.specs.Fields.{fields_left}
use Rattle.esx_reading.proofs.OneFieldLemmas.{one_field, more_fields}
use Rattle.esx_reading.proofs.fields.Fields.only.Goals as goal

pub returns-then-contains-clause-none : goal.returns-then-contains-clause-none
returns-then-contains-clause-none c = λ field e.
    more_fields c.in_ok-text.text.now _ field c.as_bytes.ensures.value (sym c.contains.ensures.value ∙ c.if-contains.true)
    (sym (ap fields_left c.in_ok-text.was) ∙ c.self.view_is ∙ e)

pub returns-clause-some : goal.returns-clause-some
returns-clause-some c =
    sym c.self.view_is ∙ ap fields_left c.in_ok-text.was
    ∙ one_field c.in_ok-text.text.now _ c.as_bytes.ensures.value (sym c.contains.ensures.value ∙ c.if-contains.false)
