use Rattle.esx_formulas.proofs.Claims.{comes_from_test, test_from_comes}
use Rattle.esx_formulas.proofs.laws.order_is_tested.Goals as goal

pub returns : goal.returns
returns c = λ a b. (comes_from_test a b, test_from_comes a b)
