use Rattle.std.proofs.Common.{◌≡◌, List}
use Rattle.esx_types.specs.declared.config.Config.{Config}
use Rattle.esx_story.specs.Moments.{Moment}
use Rattle.esx_story.specs.Waits as story
use Rattle.esx_sums.specs.Accounts.{IsSums}
use Rattle.esx_sums.specs.Kept.{sums_of}
use Rattle.esx_account.specs.Account.{refusals_below}
use Rattle.esx_account.proofs.parts.refusals_of.Given as goal

abbrev pub invariant-loop-number : goal.invariant-loop-number
invariant-loop-number l = (c : Config) (ms : List Moment) (mets : List story.Met) → IsSums c ms mets (sums_of l.sums) → l.counts.items ≡ refusals_below l.number mets
