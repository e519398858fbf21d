use Rattle.esx_sums.proofs.Lawful.{least_first, most_first}
use Rattle.esx_sums.proofs.laws.extremes_are_first.Goals as goal

pub returns-clause-least : goal.returns-clause-least
returns-clause-least c = least_first

pub returns-clause-most : goal.returns-clause-most
returns-clause-most c = most_first
