use Rattle.std.proofs.Common.{◌∙◌}
use Rattle.esx_check.proofs.ReplayLemmas.{flush_fails, stop_flushed, text_flushed}
use Rattle.esx_check.proofs.replay.replay_calls.Goals as goal

pub returns-in-Ok-clause-ok : goal.returns-in-Ok-clause-ok
returns-in-Ok-clause-ok g c = λ site entries answers are.
    let written = c.write_replies-written in
    text_flushed written.result _ _ _ _ (written.ensures.ok site entries answers (c.into_vec.ensures ∙ are)) c.flush.ensures.bytes

pub returns-in-Ok-clause-fault : goal.returns-in-Ok-clause-fault
returns-in-Ok-clause-fault g c = λ site entries answers are.
    let written = c.write_replies-written in
    stop_flushed written.result site entries _ _ _ (written.ensures.fault site entries answers (c.into_vec.ensures ∙ are)) c.flush.ensures.bytes

pub returns-in-Err-clause-fault : goal.returns-in-Err-clause-fault
returns-in-Err-clause-fault g c = λ site entries answers are.
    let written = c.write_replies-written in
    let listed = c.into_vec.ensures ∙ are in
    flush_fails written.result site entries _ _ _ (written.ensures.ok site entries answers listed) (written.ensures.fault site entries answers listed) c.flush.ensures.bytes
