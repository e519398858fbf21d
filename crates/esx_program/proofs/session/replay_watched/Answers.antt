use Rattle.esx_program.proofs.session.replay_watched.Goals as goal

pub returns-clause-ok : goal.returns-clause-ok
returns-clause-ok g c = λ entries are.
    rw c.into_writer.ensures (rw c.new-watched.ensures at (c.replay_buffered-ended.ensures.ok entries are))

pub returns-clause-fault : goal.returns-clause-fault
returns-clause-fault g c = λ entries are.
    rw c.into_writer.ensures (rw c.new-watched.ensures at (c.replay_buffered-ended.ensures.fault entries are))
