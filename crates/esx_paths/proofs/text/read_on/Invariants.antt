use Rattle.std.proofs.Common.{ℕ, List, length}
use Rattle.esx_types.specs.declared.config.Config.{Config}
use Rattle.esx_session.specs.declared.session.Entry.{Entry}
use Rattle.esx_session.specs.Reading.{Follows}
use Rattle.esx_check.proofs.TextLemmas.{ReadOn}
use Rattle.esx_paths.proofs.text.read_on.Given as goal

abbrev pub invariant-loop-later : goal.invariant-loop-later
invariant-loop-later l = (text : List ℕ) (site : Config) (done : List Entry) → Follows text site done l.initial.calls → ReadOn text site done l.calls

abbrev pub decreases-loop-later : goal.decreases-loop-later
decreases-loop-later l = length l.calls.at.left
