use Rattle.std.proofs.Common.{◌+◌, ◌∙◌, ap}
use Rattle.std.specs.Prelude.{filter_map}
use Rattle.esx_paths.specs.declared.mets.Met.{Met}
use Rattle.esx_paths.specs.Makers.{refusals}
use Rattle.esx_paths.specs.Paths.{met_on, nodes_to, mets_off}
use Rattle.esx_paths.proofs.Lists.{in_order_length, mapped_and_not}
use Rattle.esx_paths.proofs.laws.refusals_add_up.Goals as goal

pub returns : goal.returns
returns c = λ s node.
    ap (λ n. n + mets_off s node) (in_order_length (λ (m : Met). m.at) (filter_map (met_on (nodes_to s node)) (refusals s))) ∙ mapped_and_not (met_on (nodes_to s node)) (refusals s)
