use Rattle.std.proofs.Common.{rules, ◌∙◌, is_some}
use Rattle.std.proofs.lemmas.Iterator.{YieldsList-from_slice}
use Rattle.std.proofs.lemmas.Iterator.Consumers.{YieldsList-from_filter, count_from_yields_List}
use Rattle.std.proofs.lemmas.List.Sums.{length-filter}
use Rattle.esx_model.specs.declared.book.VmRow.{VmRow}
use Rattle.esx_plans.proofs.plan.ratios.machine_count.Goals as goal

pub returns : goal.returns
returns c = count_from_yields_List c.filter.result c.count.result c.count.ensures.ran (YieldsList-from_filter _ (is_some {T = VmRow}) (YieldsList-from_slice c.args.vms.now cc) c.filter.ensures.closure (λ x b q k. search rules)) ∙ length-filter (is_some {T = VmRow}) c.args.vms.now
