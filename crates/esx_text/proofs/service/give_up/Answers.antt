use Rattle.std.proofs.Common.{arith, refl}
use Rattle.esx_text.specs.declared.fault.ServeFault.TheVariants.{Write, OutOfMemory}
use Rattle.esx_text.proofs.SendingLemmas.{at_once, memory_kept, memory_unsent, streams_at_once, unsent_at_once}
use Rattle.esx_text.proofs.service.give_up.Goals as goal

pub returns-in-Ok-clause-fault : goal.returns-in-Ok-clause-fault
returns-in-Ok-clause-fault g c = λ caller before after unread left old f. memory_kept caller before after unread left old _ _ c.in-Ok.ensures.bytes f

pub returns-in-Ok-clause-at_once : goal.returns-in-Ok-clause-at_once
returns-in-Ok-clause-at_once g c = λ caller session unread calls. at_once caller session unread calls _ _ c.in-Ok.ensures.bytes

pub returns-in-Err-clause-fault : goal.returns-in-Err-clause-fault
returns-in-Err-clause-fault g c = λ caller before after unread left old f.
    rw c.in-Err.ensures.fault (memory_unsent caller before after unread left old _ _ c.in-Err.ensures.bytes f)

pub returns-in-Err-clause-at_once : goal.returns-in-Err-clause-at_once
returns-in-Err-clause-at_once g c = λ caller session unread calls.
    rw c.in-Err.ensures.fault (unsent_at_once caller session unread calls _ _ c.in-Err.ensures.bytes)

pub returns-in-Ok-clause-streams : goal.returns-in-Ok-clause-streams
returns-in-Ok-clause-streams g c = λ unread. streams_at_once OutOfMemory unread _ _ (λ h. cc) c.in-Ok.ensures.failures (omega (arith, c.in-Ok.ensures.flushes)) (λ h. c.in-Ok.ensures.sent)

pub returns-in-Err-clause-streams : goal.returns-in-Err-clause-streams
returns-in-Err-clause-streams g c = λ unread.
    let failures = rw c.in-Err.ensures.fault at c.in-Err.ensures.failures in
    rw c.in-Err.ensures.fault (streams_at_once Write unread _ _ (λ h. cc) failures (omega (arith, c.in-Err.ensures.flushes)) (λ h. absurd (h refl)))

pub returns-in-Ok-clause-fault_in : goal.returns-in-Ok-clause-fault_in
returns-in-Ok-clause-fault_in g c = λ manner caller before after unread left old f. memory_kept caller before after unread left old _ _ c.in-Ok.ensures.bytes f

pub returns-in-Ok-clause-at_once_in : goal.returns-in-Ok-clause-at_once_in
returns-in-Ok-clause-at_once_in g c = λ manner caller session unread calls. at_once caller session unread calls _ _ c.in-Ok.ensures.bytes

pub returns-in-Err-clause-fault_in : goal.returns-in-Err-clause-fault_in
returns-in-Err-clause-fault_in g c = λ manner caller before after unread left old f.
    rw c.in-Err.ensures.fault (memory_unsent caller before after unread left old _ _ c.in-Err.ensures.bytes f)

pub returns-in-Err-clause-at_once_in : goal.returns-in-Err-clause-at_once_in
returns-in-Err-clause-at_once_in g c = λ manner caller session unread calls.
    rw c.in-Err.ensures.fault (unsent_at_once caller session unread calls _ _ c.in-Err.ensures.bytes)
