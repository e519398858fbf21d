use Rattle.std.proofs.Common.{◌≡◌, drop}
use Rattle.std.specs.List.{fold}
use Rattle.std.specs.Option.{ForSome}
use Rattle.esx_formulas.specs.Ratio.{IsRow}
use Rattle.esx_formulas.specs.Targets.{first_claim}
use Rattle.esx_machine.specs.Questions.{target_rows, claim_of, claim_step}
use Rattle.esx_machine.proofs.advice.first_of.Given as goal

abbrev pub invariant-loop-number : goal.invariant-loop-number
invariant-loop-number l =
    (fold claim_step (claim_of l.best) (target_rows l.tau l.number (drop l.number l.vms)) ≡ first_claim (target_rows l.tau 0 l.vms)) × ForSome l.best IsRow
