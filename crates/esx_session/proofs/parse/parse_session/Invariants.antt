use Rattle.std.proofs.Common.{length}
use Rattle.esx_session.specs.Reading.{Follows}
use Rattle.esx_session.proofs.parse.parse_session.Given as goal

abbrev pub invariant-loop-entries : goal.invariant-loop-entries
invariant-loop-entries l = Follows l.fn.text l.site l.entries l.calls

abbrev pub decreases-loop-entries : goal.decreases-loop-entries
decreases-loop-entries l = length l.calls.at.left
