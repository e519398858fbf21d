use Rattle.esx_machine.proofs.Flips.{again, leads_back, leads_to_one}
use Rattle.esx_machine.proofs.laws.there_and_back.Goals as goal

pub returns : goal.returns
returns c = record { one = leads_to_one; leads_back = leads_back; again = again }
