use Rattle.std.proofs.Common.{ap}
use Rattle.esx_machine.specs.Machine.{Kept, Back}
use Rattle.esx_machine.proofs.Flips.{again, leads_back}
use Rattle.esx_machine.proofs.laws.event_there_and_back.Goals as goal

pub returns : goal.returns
returns c = record {
  back = λ old new answer r d kept accepts. (accepts.back, leads_back r new old kept accepts.back);
  again = λ old new answer r d accepts. ap (λ (x : Kept × Back). x.1) (again r new old accepts.back);
}
