use Rattle.std.proofs.Common.{length}
use Rattle.esx_session.proofs.ScriptLemmas.{IsScripted}
use Rattle.esx_session.proofs.parse.parse_script.Given as goal

abbrev pub invariant-loop-requests : goal.invariant-loop-requests
invariant-loop-requests l = IsScripted l.fn.text l.site l.entries l.requests

abbrev pub decreases-loop-requests : goal.decreases-loop-requests
decreases-loop-requests l = length l.entries.at.left
