use Rattle.std.proofs.Common.{map}
use Rattle.esx_session.specs.Sessions.{logged, session_text}
use Rattle.esx_check.proofs.LawLemmas.{read_is_same}
use Rattle.esx_check.proofs.laws.printed_log_is_same.Goals as goal

pub returns : goal.returns
returns c = λ s site entries checked legal printable reads is.
    read_is_same s site entries checked (c.told_log_is_same.ensures s legal)
    (c.one_session.ensures (session_text s.site (map logged s.log)) site s.site entries _ reads (c.printed_log_is_read.ensures s legal printable))
    (c.one_check.ensures s.site _) is
