use Rattle.esx_order.proofs.Ranks.{are_ranked}
use Rattle.esx_order.proofs.laws.places_are_ranks.Goals as goal

pub returns : goal.returns
returns c = are_ranked
