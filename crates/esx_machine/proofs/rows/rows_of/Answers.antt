use Rattle.std.proofs.Common.{◌≡◌, ◌+◌, ◌<◌, ◌++◌, ℕ, List, length, get_or, drop, sym, ap, ◌∙◌, arith, Option, None}
use Rattle.std.proofs.lemmas.List.{get_or_read}
use Rattle.esx_formulas.specs.declared.targets.Row.{Row}
use Rattle.esx_model.specs.declared.book.VmRow.{VmRow}
use Rattle.esx_plans.proofs.Loops.{passed_by, made_of, made_all}
use Rattle.esx_machine.specs.Questions.{target_row, target_rows}
use Rattle.esx_machine.proofs.rows.rows_of.Goals.{in-Some+in_ok-push, in_default}
use Rattle.esx_machine.proofs.rows.rows_of.Goals as goal

pub target_row-requires-clause-row : goal.target_row-requires-clause-row
target_row-requires-clause-row c =
    let vms : List (Option VmRow) = c.args.vms.now in
    c.requires.each c.loop-number.number c.in-Some.row (sym (get_or_read vms c.loop-number.number _ (omega arith) c.index-vms-number.is None) ∙ c.in-Some.is)

pub loop-number-preserved : goal.loop-number-preserved
loop-number-preserved c =
    let vms : List (Option VmRow) = c.args.vms.now in
    let n : ℕ = c.loop-number.number in
    let make : ℕ → VmRow → Row = target_row c.args.tau in
    let all : List Row = target_rows c.args.tau 0 vms in
    let below : n < length vms = c.loop-number-test.true in
    let at : get_or vms n None ≡ c.index-vms-number.result = sym (get_or_read vms n _ below c.index-vms-number.is None) in
    elim c.match-place.branch [
      | in-Some+in_ok-push w ↦ made_of make vms n w.in-Some.row w.new.result w.target_row.result c.loop-number.rows.items c.match-place.rows.items all below (at ∙ w.in-Some.is)
          (ap (λ x. x.items) w.rows-is ∙ w.in_ok-push.ensures.items) w.target_row.ensures.value w.new.ensures.value c.loop-number.invariant
      | in_default w ↦ (let same : c.match-place.rows.items ≡ c.loop-number.rows.items = ap (λ x. x.items) w.rows-is in
          ap (λ (xs : List Row). xs ++ target_rows c.args.tau (n + 1) (drop (n + 1) vms)) same ∙ passed_by make vms n c.loop-number.rows.items all below (at ∙ w.in_default.is) c.loop-number.invariant)
    ]

pub returns : goal.returns
returns c = made_all (target_row c.args.tau) c.args.vms.now c.loop-number.number c.loop-number.rows.items _ c.loop-number-test.false c.loop-number.invariant
