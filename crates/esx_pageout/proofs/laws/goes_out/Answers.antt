use Rattle.esx_pageout.proofs.Out.{goes_out}
use Rattle.esx_pageout.proofs.laws.goes_out.Goals as goal

pub returns : goal.returns
returns c = λ conf t n page word r is h. goes_out conf t n page word r is h
