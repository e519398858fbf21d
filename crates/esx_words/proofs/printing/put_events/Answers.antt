use Rattle.std.proofs.Common.{ap, sym, ◌∙◌, List}
use Rattle.esx_events.specs.declared.event.Event.{Event}
use Rattle.esx_events.specs.declared.call.Call.TheVariants as calls
use Rattle.esx_words.specs.Commands.{spelling}
use Rattle.esx_words.proofs.PrintingLemmas.{puts_same, utf8_same, tried_is}
use Rattle.esx_words.proofs.printing.put_events.Goals as goal

pub returns-clause-bytes : goal.returns-clause-bytes
returns-clause-bytes g c =
    puts_same _ _ _ _ _ _ _ (tried_is c.in-Some.first.now c.in-Some.others.now ∙ ap (λ (es : List Event). spelling (calls.WhatIf es)) (sym c.in-Some.ensures.cases.0))
    c.put_tried.ensures.bytes

pub returns-clause-utf8 : goal.returns-clause-utf8
returns-clause-utf8 g c =
    utf8_same _ _ _ (tried_is c.in-Some.first.now c.in-Some.others.now ∙ ap (λ (es : List Event). spelling (calls.WhatIf es)) (sym c.in-Some.ensures.cases.0))
    c.put_tried.ensures.utf8
