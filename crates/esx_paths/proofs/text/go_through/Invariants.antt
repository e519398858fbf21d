use Rattle.std.proofs.Common.{◌≡◌, ℕ, List, [], length}
use Rattle.esx_types.specs.declared.config.Config.{Config}
use Rattle.esx_console.specs.Calls.{opened_session}
use Rattle.esx_session.specs.Reading.{Follows}
use Rattle.esx_check.specs.Gates.{PassedFor}
use Rattle.esx_paths.specs.Pasts.{IsPastOf}
use Rattle.esx_paths.proofs.Going.{SoFarKept}
use Rattle.esx_paths.proofs.text.go_through.Given as goal

abbrev pub invariant-loop-calls : goal.invariant-loop-calls
invariant-loop-calls g l = record {
  so_far : (text : List ℕ) (site : Config) → Follows text site [] l.fn.calls → IsPastOf l.fn.past (opened_session site) → SoFarKept text l.calls l.past;
  held : l.held ≡ [];
  gate : PassedFor g.G.Gate.passes l.past.calls l.initial.gate l.gate;
}

abbrev pub decreases-loop-calls : goal.decreases-loop-calls
decreases-loop-calls g l = length l.calls.at.left
