use Rattle.std.proofs.Common.{◌∙◌, List, ap}
use Rattle.std.specs.List.{slice_get}
use Rattle.esx_explained.specs.declared.operand.Operand.{Operand}
use Rattle.esx_explained.proofs.WordLemmas.{got}
use Rattle.esx_explained.proofs.operand.operand_at.Goals as goal

pub returns-in_default : goal.returns-in_default
returns-in_default c =
    c.copied.ensures ∙ (got c.get.result c.operands.result.now c.args.at c.get.ensures.lookup
    ∙ ap (λ (l : List Operand). slice_get l c.args.at) (c.operands.ensures c.in_default.not-Sample))
