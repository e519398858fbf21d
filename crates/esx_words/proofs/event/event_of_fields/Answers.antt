use Rattle.esx_words.proofs.OperandLemmas.{found_none}
use Rattle.esx_words.proofs.EventLemmas.{no_event_of}
use Rattle.esx_words.proofs.event.event_of_fields.Goals as goal

pub returns-clause-only : goal.returns-clause-only
returns-clause-only c = found_none c.event_of.result _ _
    (no_event_of c.in-Some-event_verb_of.verb c.in-Some.word.now c.args.fields.now _ c.in-Some-event_verb_of.ensures.found c.in-Some.ensures.left)
    c.event_of.ensures.only
