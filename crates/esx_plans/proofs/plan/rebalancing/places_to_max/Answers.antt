use Rattle.std.proofs.Common.{◌≡◌, ◌+◌, ◌<◌, ◌++◌, ℕ, List, length, get_or, drop, sym, ap, ◌∙◌, Option, None}
use Rattle.std.proofs.lemmas.List.{get_or_read}
use Rattle.esx_model.specs.declared.book.VmRow.{VmRow}
use Rattle.esx_tables.specs.declared.change.Change.{Change}
use Rattle.esx_plans.specs.plan.Ratios.{numbered}
use Rattle.esx_plans.specs.plan.Rebalancing.{to_max}
use Rattle.esx_plans.proofs.Loops.{passed_by, made_of, made_all}
use Rattle.esx_plans.proofs.plan.rebalancing.places_to_max.Goals.{in-Some+in_ok-push, in_default}
use Rattle.esx_plans.proofs.plan.rebalancing.places_to_max.Goals as goal

pub loop-number-preserved : goal.loop-number-preserved
loop-number-preserved c =
    let vms : List (Option VmRow) = c.args.vms.now in
    let n : ℕ = c.loop-number.number in
    let all : List Change = numbered to_max 0 vms in
    let below : n < length vms = c.loop-number-test.true in
    let at : get_or vms n None ≡ c.index-vms-number.result = sym (get_or_read vms n _ below c.index-vms-number.is None) in
    elim c.match-place.branch [
      | in-Some+in_ok-push w ↦ made_of to_max vms n w.in-Some.row w.new.result w.to_max.result c.loop-number.changes.items c.match-place.changes.items all below (at ∙ w.in-Some.is)
          (ap (λ x. x.items) w.changes-is ∙ w.in_ok-push.ensures.items) w.to_max.ensures w.new.ensures.value c.loop-number.invariant
      | in_default w ↦ (let same : c.match-place.changes.items ≡ c.loop-number.changes.items = ap (λ x. x.items) w.changes-is in
          ap (λ (xs : List Change). xs ++ numbered to_max (n + 1) (drop (n + 1) vms)) same ∙ passed_by to_max vms n c.loop-number.changes.items all below (at ∙ w.in_default.is) c.loop-number.invariant)
    ]

pub returns : goal.returns
returns c = made_all to_max c.args.vms.now c.loop-number.number c.loop-number.changes.items _ c.loop-number-test.false c.loop-number.invariant
