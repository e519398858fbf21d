use Rattle.std.proofs.Common.{ap, sym, ◌∙◌}
use Rattle.esx_events.specs.declared.event.Event.{Event}
use Rattle.esx_reading.specs.Fields.{joined}
use Rattle.esx_words.specs.Commands.{event_words}
use Rattle.esx_words.proofs.PrintingLemmas.{puts_same, utf8_same, sample_is}
use Rattle.esx_words.proofs.printing.put_event.Goals as goal

pub returns-in-Admit-clause-bytes : goal.returns-in-Admit-clause-bytes
returns-in-Admit-clause-bytes g c = puts_same _ _ _ _ _ _ _ (sym (ap (λ (e : Event). joined (event_words e)) c.in-Admit.is)) c.put_spec.ensures.bytes

pub returns-in-Admit-clause-utf8 : goal.returns-in-Admit-clause-utf8
returns-in-Admit-clause-utf8 g c = utf8_same _ _ _ (sym (ap (λ (e : Event). joined (event_words e)) c.in-Admit.is)) c.put_spec.ensures.utf8

pub returns-in-Start-clause-bytes : goal.returns-in-Start-clause-bytes
returns-in-Start-clause-bytes g c = puts_same _ _ _ _ _ _ _ (sym (ap (λ (e : Event). joined (event_words e)) c.in-Start.is)) c.put_machine.ensures.bytes

pub returns-in-Start-clause-utf8 : goal.returns-in-Start-clause-utf8
returns-in-Start-clause-utf8 g c = utf8_same _ _ _ (sym (ap (λ (e : Event). joined (event_words e)) c.in-Start.is)) c.put_machine.ensures.utf8

pub returns-in-Read-clause-bytes : goal.returns-in-Read-clause-bytes
returns-in-Read-clause-bytes g c = puts_same _ _ _ _ _ _ _ (sym (ap (λ (e : Event). joined (event_words e)) c.in-Read.is)) c.put_range.ensures.bytes

pub returns-in-Read-clause-utf8 : goal.returns-in-Read-clause-utf8
returns-in-Read-clause-utf8 g c = utf8_same _ _ _ (sym (ap (λ (e : Event). joined (event_words e)) c.in-Read.is)) c.put_range.ensures.utf8

pub returns-in-Write-clause-bytes : goal.returns-in-Write-clause-bytes
returns-in-Write-clause-bytes g c = puts_same _ _ _ _ _ _ _ (sym (ap (λ (e : Event). joined (event_words e)) c.in-Write.is)) (rw c.as_slice.ensures at c.put_written.ensures.bytes)

pub returns-in-Write-clause-utf8 : goal.returns-in-Write-clause-utf8
returns-in-Write-clause-utf8 g c = utf8_same _ _ _ (sym (ap (λ (e : Event). joined (event_words e)) c.in-Write.is)) (rw c.as_slice.ensures at c.put_written.ensures.utf8)

pub returns-in-Ask-clause-bytes : goal.returns-in-Ask-clause-bytes
returns-in-Ask-clause-bytes g c = puts_same _ _ _ _ _ _ _ (sym (ap (λ (e : Event). joined (event_words e)) c.in-Ask.is)) c.put_machine-in-Ask.ensures.bytes

pub returns-in-Ask-clause-utf8 : goal.returns-in-Ask-clause-utf8
returns-in-Ask-clause-utf8 g c = utf8_same _ _ _ (sym (ap (λ (e : Event). joined (event_words e)) c.in-Ask.is)) c.put_machine-in-Ask.ensures.utf8

pub returns-in-Lend-clause-bytes : goal.returns-in-Lend-clause-bytes
returns-in-Lend-clause-bytes g c = puts_same _ _ _ _ _ _ _ (sym (ap (λ (e : Event). joined (event_words e)) c.in-Lend.is)) c.put_place.ensures.bytes

pub returns-in-Lend-clause-utf8 : goal.returns-in-Lend-clause-utf8
returns-in-Lend-clause-utf8 g c = utf8_same _ _ _ (sym (ap (λ (e : Event). joined (event_words e)) c.in-Lend.is)) c.put_place.ensures.utf8

pub returns-in-TakeBack-clause-bytes : goal.returns-in-TakeBack-clause-bytes
returns-in-TakeBack-clause-bytes g c = puts_same _ _ _ _ _ _ _ (sym (ap (λ (e : Event). joined (event_words e)) c.in-TakeBack.is)) c.put_place-in-TakeBack.ensures.bytes

pub returns-in-TakeBack-clause-utf8 : goal.returns-in-TakeBack-clause-utf8
returns-in-TakeBack-clause-utf8 g c = utf8_same _ _ _ (sym (ap (λ (e : Event). joined (event_words e)) c.in-TakeBack.is)) c.put_place-in-TakeBack.ensures.utf8

pub returns-in-Sample-clause-bytes : goal.returns-in-Sample-clause-bytes
returns-in-Sample-clause-bytes g c = puts_same _ _ _ _ _ _ _ ((sample_is c.in-Sample.vm c.in-Sample.length c.in-Sample.words) ∙ sym (ap (λ (e : Event). joined (event_words e)) c.in-Sample.is)) (rw (c.as_slice-in-Sample.ensures, c.get.ensures) at c.put_sample.ensures.bytes)

pub returns-in-Sample-clause-utf8 : goal.returns-in-Sample-clause-utf8
returns-in-Sample-clause-utf8 g c = utf8_same _ _ _ ((sample_is c.in-Sample.vm c.in-Sample.length c.in-Sample.words) ∙ sym (ap (λ (e : Event). joined (event_words e)) c.in-Sample.is)) (rw (c.as_slice-in-Sample.ensures, c.get.ensures) at c.put_sample.ensures.utf8)

pub returns-in-Scan-clause-bytes : goal.returns-in-Scan-clause-bytes
returns-in-Scan-clause-bytes g c = puts_same _ _ _ _ _ _ _ (sym (ap (λ (e : Event). joined (event_words e)) c.in-Scan.is)) c.put_place-in-Scan.ensures.bytes

pub returns-in-Scan-clause-utf8 : goal.returns-in-Scan-clause-utf8
returns-in-Scan-clause-utf8 g c = utf8_same _ _ _ (sym (ap (λ (e : Event). joined (event_words e)) c.in-Scan.is)) c.put_place-in-Scan.ensures.utf8

pub returns-in-SwapOut-clause-bytes : goal.returns-in-SwapOut-clause-bytes
returns-in-SwapOut-clause-bytes g c = puts_same _ _ _ _ _ _ _ (sym (ap (λ (e : Event). joined (event_words e)) c.in-SwapOut.is)) c.put_drawn.ensures.bytes

pub returns-in-SwapOut-clause-utf8 : goal.returns-in-SwapOut-clause-utf8
returns-in-SwapOut-clause-utf8 g c = utf8_same _ _ _ (sym (ap (λ (e : Event). joined (event_words e)) c.in-SwapOut.is)) c.put_drawn.ensures.utf8

pub returns-in-Replace-clause-bytes : goal.returns-in-Replace-clause-bytes
returns-in-Replace-clause-bytes g c = puts_same _ _ _ _ _ _ _ (sym (ap (λ (e : Event). joined (event_words e)) c.in-Replace.is)) c.put_drawn_place.ensures.bytes

pub returns-in-Replace-clause-utf8 : goal.returns-in-Replace-clause-utf8
returns-in-Replace-clause-utf8 g c = utf8_same _ _ _ (sym (ap (λ (e : Event). joined (event_words e)) c.in-Replace.is)) c.put_drawn_place.ensures.utf8

pub returns-in-SetShares-clause-bytes : goal.returns-in-SetShares-clause-bytes
returns-in-SetShares-clause-bytes g c = puts_same _ _ _ _ _ _ _ (sym (ap (λ (e : Event). joined (event_words e)) c.in-SetShares.is)) c.put_place-in-SetShares.ensures.bytes

pub returns-in-SetShares-clause-utf8 : goal.returns-in-SetShares-clause-utf8
returns-in-SetShares-clause-utf8 g c = utf8_same _ _ _ (sym (ap (λ (e : Event). joined (event_words e)) c.in-SetShares.is)) c.put_place-in-SetShares.ensures.utf8

pub returns-in-SetTax-clause-bytes : goal.returns-in-SetTax-clause-bytes
returns-in-SetTax-clause-bytes g c = puts_same _ _ _ _ _ _ _ (sym (ap (λ (e : Event). joined (event_words e)) c.in-SetTax.is)) c.put_number.ensures.bytes

pub returns-in-SetTax-clause-utf8 : goal.returns-in-SetTax-clause-utf8
returns-in-SetTax-clause-utf8 g c = utf8_same _ _ _ (sym (ap (λ (e : Event). joined (event_words e)) c.in-SetTax.is)) c.put_number.ensures.utf8

pub returns-in-SetVmTax-clause-bytes : goal.returns-in-SetVmTax-clause-bytes
returns-in-SetVmTax-clause-bytes g c = puts_same _ _ _ _ _ _ _ (sym (ap (λ (e : Event). joined (event_words e)) c.in-SetVmTax.is)) c.put_place-in-SetVmTax.ensures.bytes

pub returns-in-SetVmTax-clause-utf8 : goal.returns-in-SetVmTax-clause-utf8
returns-in-SetVmTax-clause-utf8 g c = utf8_same _ _ _ (sym (ap (λ (e : Event). joined (event_words e)) c.in-SetVmTax.is)) c.put_place-in-SetVmTax.ensures.utf8

pub returns-in-Stop-clause-bytes : goal.returns-in-Stop-clause-bytes
returns-in-Stop-clause-bytes g c = puts_same _ _ _ _ _ _ _ (sym (ap (λ (e : Event). joined (event_words e)) c.in-Stop.is)) c.put_machine-in-Stop.ensures.bytes

pub returns-in-Stop-clause-utf8 : goal.returns-in-Stop-clause-utf8
returns-in-Stop-clause-utf8 g c = utf8_same _ _ _ (sym (ap (λ (e : Event). joined (event_words e)) c.in-Stop.is)) c.put_machine-in-Stop.ensures.utf8

pub returns-in-DropPage-clause-bytes : goal.returns-in-DropPage-clause-bytes
returns-in-DropPage-clause-bytes g c = puts_same _ _ _ _ _ _ _ (sym (ap (λ (e : Event). joined (event_words e)) c.in-DropPage.is)) c.put_place-in-DropPage.ensures.bytes

pub returns-in-DropPage-clause-utf8 : goal.returns-in-DropPage-clause-utf8
returns-in-DropPage-clause-utf8 g c = utf8_same _ _ _ (sym (ap (λ (e : Event). joined (event_words e)) c.in-DropPage.is)) c.put_place-in-DropPage.ensures.utf8

pub returns-in-Gone-clause-bytes : goal.returns-in-Gone-clause-bytes
returns-in-Gone-clause-bytes g c = puts_same _ _ _ _ _ _ _ (sym (ap (λ (e : Event). joined (event_words e)) c.in-Gone.is)) c.put_machine-in-Gone.ensures.bytes

pub returns-in-Gone-clause-utf8 : goal.returns-in-Gone-clause-utf8
returns-in-Gone-clause-utf8 g c = utf8_same _ _ _ (sym (ap (λ (e : Event). joined (event_words e)) c.in-Gone.is)) c.put_machine-in-Gone.ensures.utf8
