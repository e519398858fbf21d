use Rattle.esx_session.proofs.EntryLemmas.{takes_entry}
use Rattle.esx_session.proofs.calls.read_entry.Goals as goal

pub returns-clause-ok : goal.returns-clause-ok
returns-clause-ok c = takes_entry c.args.version c.args.line.now c.args.place.now c.read_reply.new.place c.in-Some.caller c.in-Some.call c.in_ok-reply.reply (rw c.in-Some.is at c.in-Ok.ensures.found) c.in_ok-reply.ensures.ok
