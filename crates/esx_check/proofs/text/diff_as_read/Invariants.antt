use Rattle.std.proofs.Common.{◌≡◌, ◌≤◌, ℕ, List, [], length}
use Rattle.esx_types.specs.declared.config.Config.{Config}
use Rattle.esx_console.specs.Calls.{opened_session}
use Rattle.esx_console.specs.Unlogged.{AnswersAs}
use Rattle.esx_session.specs.Reading.{Follows}
use Rattle.esx_check.specs.Gates.{PassedFor}
use Rattle.esx_check.proofs.TextLemmas.{SoFar}
use Rattle.esx_check.proofs.text.diff_as_read.Given as goal

abbrev pub invariant-loop-calls : goal.invariant-loop-calls
invariant-loop-calls g l = record {
  so_far : (text : List ℕ) (site : Config) → Follows text site [] l.fn.calls → AnswersAs l.initial.again.console (opened_session site) → SoFar text l.calls l.again.console l.count;
  count : l.count ≡ l.calls.count;
  few : l.again.console.jumps ≤ l.count;
  held : l.again.held ≡ [];
  gate : PassedFor g.G.Gate.passes l.count l.initial.gate l.gate;
}

abbrev pub decreases-loop-calls : goal.decreases-loop-calls
decreases-loop-calls g l = length l.calls.at.left
