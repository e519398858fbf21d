use Rattle.esx_check.proofs.NameLemmas.{printed_session, no_returns}
use Rattle.esx_check.proofs.laws.printed_log_is_read.Goals as goal

pub returns : goal.returns
returns c = λ s legal printable.
    c.read_as_printed.ensures s.site _ (printed_session c.told_reply.ensures s legal printable) (no_returns c.told_reply.ensures s legal printable)
