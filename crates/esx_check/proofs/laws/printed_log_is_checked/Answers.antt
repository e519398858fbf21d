use Rattle.std.proofs.Common.{map}
use Rattle.esx_session.specs.Sessions.{logged}
use Rattle.esx_check.proofs.laws.printed_log_is_checked.Goals as goal

pub returns : goal.returns
returns c = λ s legal printable. (s.site, map logged s.log, c.printed_log_is_read.ensures s legal printable, c.told_log_is_same.ensures s legal)
