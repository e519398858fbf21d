use Rattle.std.proofs.Common.{ap, sym}
use Rattle.esx_events.specs.declared.call.Call.{Call}
use Rattle.esx_words.specs.Commands.{spelling}
use Rattle.esx_words.proofs.PrintingLemmas.{puts_same, utf8_same}
use Rattle.esx_words.proofs.printing.put_command.Goals as goal

pub returns-in-Do-clause-bytes : goal.returns-in-Do-clause-bytes
returns-in-Do-clause-bytes g c = puts_same _ _ _ _ _ _ _ (sym (ap (λ (k : Call). spelling k) c.in-Do.is)) c.put_event.ensures.bytes

pub returns-in-Do-clause-utf8 : goal.returns-in-Do-clause-utf8
returns-in-Do-clause-utf8 g c = utf8_same _ _ _ (sym (ap (λ (k : Call). spelling k) c.in-Do.is)) c.put_event.ensures.utf8

pub returns-in-Undo-clause-bytes : goal.returns-in-Undo-clause-bytes
returns-in-Undo-clause-bytes g c = puts_same _ _ _ _ _ _ _ (sym (ap (λ (k : Call). spelling k) c.in-Undo.is)) c.put_number.ensures.bytes

pub returns-in-Undo-clause-utf8 : goal.returns-in-Undo-clause-utf8
returns-in-Undo-clause-utf8 g c = utf8_same _ _ _ (sym (ap (λ (k : Call). spelling k) c.in-Undo.is)) c.put_number.ensures.utf8

pub returns-in-Redo-clause-bytes : goal.returns-in-Redo-clause-bytes
returns-in-Redo-clause-bytes g c = puts_same _ _ _ _ _ _ _ (sym (ap (λ (k : Call). spelling k) c.in-Redo.is)) c.put_number-in-Redo.ensures.bytes

pub returns-in-Redo-clause-utf8 : goal.returns-in-Redo-clause-utf8
returns-in-Redo-clause-utf8 g c = utf8_same _ _ _ (sym (ap (λ (k : Call). spelling k) c.in-Redo.is)) c.put_number-in-Redo.ensures.utf8

pub returns-in-Goto-clause-bytes : goal.returns-in-Goto-clause-bytes
returns-in-Goto-clause-bytes g c = puts_same _ _ _ _ _ _ _ (sym (ap (λ (k : Call). spelling k) c.in-Goto.is)) c.put_number-in-Goto.ensures.bytes

pub returns-in-Goto-clause-utf8 : goal.returns-in-Goto-clause-utf8
returns-in-Goto-clause-utf8 g c = utf8_same _ _ _ (sym (ap (λ (k : Call). spelling k) c.in-Goto.is)) c.put_number-in-Goto.ensures.utf8

pub returns-in-Visit-clause-bytes : goal.returns-in-Visit-clause-bytes
returns-in-Visit-clause-bytes g c = puts_same _ _ _ _ _ _ _ (sym (ap (λ (k : Call). spelling k) c.in-Visit.is)) c.put_name.ensures.bytes

pub returns-in-Visit-clause-utf8 : goal.returns-in-Visit-clause-utf8
returns-in-Visit-clause-utf8 g c = utf8_same _ _ _ (sym (ap (λ (k : Call). spelling k) c.in-Visit.is)) c.put_name.ensures.utf8

pub returns-in-Mark-clause-bytes : goal.returns-in-Mark-clause-bytes
returns-in-Mark-clause-bytes g c = puts_same _ _ _ _ _ _ _ (sym (ap (λ (k : Call). spelling k) c.in-Mark.is)) c.put_name-in-Mark.ensures.bytes

pub returns-in-Mark-clause-utf8 : goal.returns-in-Mark-clause-utf8
returns-in-Mark-clause-utf8 g c = utf8_same _ _ _ (sym (ap (λ (k : Call). spelling k) c.in-Mark.is)) c.put_name-in-Mark.ensures.utf8

pub returns-in-Prune-clause-bytes : goal.returns-in-Prune-clause-bytes
returns-in-Prune-clause-bytes g c = puts_same _ _ _ _ _ _ _ (sym (ap (λ (k : Call). spelling k) c.in-Prune.is)) c.put_number-in-Prune.ensures.bytes

pub returns-in-Prune-clause-utf8 : goal.returns-in-Prune-clause-utf8
returns-in-Prune-clause-utf8 g c = utf8_same _ _ _ (sym (ap (λ (k : Call). spelling k) c.in-Prune.is)) c.put_number-in-Prune.ensures.utf8

pub returns-in-WhatIf-clause-bytes : goal.returns-in-WhatIf-clause-bytes
returns-in-WhatIf-clause-bytes g c = puts_same _ _ _ _ _ _ _ (sym (ap (λ (k : Call). spelling k) c.in-WhatIf.is)) (rw c.as_slice.ensures.value at c.put_events.ensures.bytes)

pub returns-in-WhatIf-clause-utf8 : goal.returns-in-WhatIf-clause-utf8
returns-in-WhatIf-clause-utf8 g c = utf8_same _ _ _ (sym (ap (λ (k : Call). spelling k) c.in-WhatIf.is)) (rw c.as_slice.ensures.value at c.put_events.ensures.utf8)

pub returns-in-OfVm-clause-bytes : goal.returns-in-OfVm-clause-bytes
returns-in-OfVm-clause-bytes g c = puts_same _ _ _ _ _ _ _ (sym (ap (λ (k : Call). spelling k) c.in-OfVm.is)) c.put_machine.ensures.bytes

pub returns-in-OfVm-clause-utf8 : goal.returns-in-OfVm-clause-utf8
returns-in-OfVm-clause-utf8 g c = utf8_same _ _ _ (sym (ap (λ (k : Call). spelling k) c.in-OfVm.is)) c.put_machine.ensures.utf8

pub returns-in-OfPage-clause-bytes : goal.returns-in-OfPage-clause-bytes
returns-in-OfPage-clause-bytes g c = puts_same _ _ _ _ _ _ _ (sym (ap (λ (k : Call). spelling k) c.in-OfPage.is)) c.put_place.ensures.bytes

pub returns-in-OfPage-clause-utf8 : goal.returns-in-OfPage-clause-utf8
returns-in-OfPage-clause-utf8 g c = utf8_same _ _ _ (sym (ap (λ (k : Call). spelling k) c.in-OfPage.is)) c.put_place.ensures.utf8

pub returns-in-Advise-clause-bytes : goal.returns-in-Advise-clause-bytes
returns-in-Advise-clause-bytes g c = puts_same _ _ _ _ _ _ _ (sym (ap (λ (k : Call). spelling k) c.in-Advise.is)) c.put_place-in-Advise.ensures.bytes

pub returns-in-Advise-clause-utf8 : goal.returns-in-Advise-clause-utf8
returns-in-Advise-clause-utf8 g c = utf8_same _ _ _ (sym (ap (λ (k : Call). spelling k) c.in-Advise.is)) c.put_place-in-Advise.ensures.utf8
