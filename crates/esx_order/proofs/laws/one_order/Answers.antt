use Rattle.esx_order.proofs.Those.{order_is_one}
use Rattle.esx_order.proofs.laws.one_order.Goals as goal

pub returns : goal.returns
returns c = λ s order other x y. order_is_one s order other x y
