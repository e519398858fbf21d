use Rattle.std.proofs.Common.{sym, ◌∙◌}
use Rattle.esx_words.proofs.OperandLemmas.{found_none, found_more}
use Rattle.esx_words.proofs.EventLemmas.{spells_event, fields_of_event_line}
use Rattle.esx_words.proofs.event.event_of_text.Goals as goal

pub returns-clause-found : goal.returns-clause-found
returns-clause-found c =
    found_more c.event_of_fields.result _ _ (λ event h. spells_event c.args.text.now event h.0 (sym c.of.ensures ∙ h.1)) c.event_of_fields.ensures.found

pub returns-clause-only : goal.returns-clause-only
returns-clause-only c =
    found_none c.event_of_fields.result _ _ (λ none event is. none event is.range (c.of.ensures ∙ fields_of_event_line c.args.text.now event is)) c.event_of_fields.ensures.only
