use Rattle.std.proofs.Common.{◌∙◌, List, map, ap}
use Rattle.std.specs.Borrow.{Bor}
use Rattle.esx_scenario.specs.declared.plan.Guest.{Guest}
use Rattle.esx_opening.specs.Orders.{in_order}
use Rattle.esx_program.proofs.EndLemmas.{all_named}
use Rattle.esx_program.proofs.ends.names_of.Goals as goal

pub returns : goal.returns
returns c =
    let ordered = ap (λ (l : List (Bor Guest)). map (λ (g : Bor Guest). g.now) l) c.deref.ensures.value ∙ c.in_ok-ordered.ensures.items in
    all_named c.deref.result.now (in_order c.args.guests.now) c.in_ok-names.names.items c.push.new.self.items c.push-2.new.self.items c.push-3.new.self.items
    ordered c.in_ok-names.ensures c.in_ok-push.ensures.items c.in_ok-push-2.ensures.items c.in_ok-push-3.ensures.items
