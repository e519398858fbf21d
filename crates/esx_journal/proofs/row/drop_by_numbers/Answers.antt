use Rattle.std.proofs.Common.{rules, ◌≡◌, ◌<◌, ◌≤◌, ◌+◌, ◌^◌, ◌∙◌, sym, ap, subst, arith, ℕ, List, length, slice_index_or, true}
use Rattle.esx_model.specs.Tree.{Node}
use Rattle.esx_journal.specs.Rows.{Row}
use Rattle.esx_journal.specs.Row.{AreNodes, Lost, Drops, emptied, lost_parent}
use Rattle.esx_journal.specs.Children.{AreLinked, has_record, no_row}
use Rattle.esx_journal.proofs.Lists.{set_length}
use Rattle.esx_journal.proofs.Losing.{one_if, emptied_at, linked_emptied, lost_most, parent_inside}
use Rattle.esx_journal.proofs.ByNumbers.{Passing, pass_first, pass_skip, pass_one, pass_ends, linked_ends}
use Rattle.esx_journal.proofs.row.drop_by_numbers.Goals as goal
use Rattle.esx_journal.proofs.row.drop_by_numbers.Goals.{then-has_lost_parent, else-has_lost_parent}

pub pass-init : goal.pass-init
pass-init c =
    let old : List Row = c.args.rows.now in
    let node : ℕ = c.args.node in
    let inside = c.requires.inside in
    let count : c.drop_record-gone.result ≡ one_if (has_record old node) = c.drop_record-gone.ensures.count in
    record {
      later = omega arith;
      size = ap length c.drop_record-gone.ensures.rows ∙ set_length old node (emptied (slice_index_or old node no_row));
      linked = subst AreLinked (sym c.drop_record-gone.ensures.rows) (linked_emptied old node c.requires.linked inside);
      passes = λ first nodes gone a lost. (
          let fits : node ≤ length nodes = (let s = lost.size in let t = a.size in omega arith) in
          subst (λ (r : List Row). Passing first r nodes node (node + 1) (gone + c.drop_record-gone.result)) (sym c.drop_record-gone.ensures.rows)
          (subst (λ (g : ℕ). Passing first (emptied_at old node) nodes node (node + 1) (gone + g)) (sym count) (pass_first first old nodes node gone a lost c.requires.some fits)));
    }

pub has_lost_parent-requires-clause-parent : goal.has_lost_parent-requires-clause-parent
has_lost_parent-requires-clause-parent c =
    let now : List Row = c.pass.rows in
    let t = c.pass-test.true in
    let l = c.len-at-end.ensures in
    let s = c.pass.invariant.size in
    let e = ap length c.drop_record-gone.ensures.rows in
    let k = set_length c.args.rows.now c.args.node (emptied (slice_index_or c.args.rows.now c.args.node no_row)) in
    let inside : c.pass.at < length now = omega arith in
    let part = c.requires.part in
    let up = parent_inside part.0 now part.1 c.args.node (part.2 + c.pass.gone) c.pass.at part.3 (c.pass.invariant.passes part.0 part.1 part.2 part.3 part.4).lost inside in
    omega arith

pub overflow_add-gone : goal.overflow_add-gone
overflow_add-gone c =
    let now : List Row = c.pass.rows in
    let part = c.requires.part in
    let old : List Row = part.0 in
    let nodes : List Node = part.1 in
    let gone : ℕ = part.2 in
    let passing = c.pass.invariant.passes old nodes gone part.3 part.4 in
    let tells : lost_parent now c.pass.at no_row ≡ true = sym c.has_lost_parent.ensures ∙ c.if-has_lost_parent.true in
    let t = c.pass-test.true in
    let l = c.len-at-end.ensures in
    let e = ap length c.drop_record-gone.ensures.rows in
    let k = set_length c.args.rows.now c.args.node (emptied (slice_index_or c.args.rows.now c.args.node no_row)) in
    let first = part.4.size in
    let size = part.3.size in
    let next = pass_one old now nodes c.args.node c.pass.at (gone + c.pass.gone) part.3 passing c.pass.invariant.later (omega arith) tells in
    let most = lost_most old (emptied_at now c.pass.at) nodes c.args.node (gone + c.pass.gone + one_if (has_record now c.pass.at)) part.3 next.lost in
    let count : c.drop_record-gone-then-has_lost_parent.result ≡ one_if (has_record now c.pass.at) = c.drop_record-gone-then-has_lost_parent.ensures.count in
    let small = c.requires.small in
    let fits : c.pass.gone + c.drop_record-gone-then-has_lost_parent.result < 2 ^ 32 = omega arith in
    search (rules, fits)

pub pass-preserved : goal.pass-preserved
pass-preserved c =
    let start : List Row = c.args.rows.now in
    let now : List Row = c.pass.rows in
    let at : ℕ = c.pass.at in
    let node : ℕ = c.args.node in
    let later = c.pass.invariant.later in
    let t = c.pass-test.true in
    let l = c.len-at-end.ensures in
    let e = ap length c.drop_record-gone.ensures.rows in
    let k = set_length start node (emptied (slice_index_or start node no_row)) in
    let size = c.pass.invariant.size in
    let inside : at < length now = omega arith in
    let told : c.has_lost_parent.result ≡ lost_parent now at no_row = c.has_lost_parent.ensures in
    let Is : List Row → ℕ → Type 0 = λ rows gone. record {
      later : node < at + 1;
      size : length rows ≡ length start;
      linked : AreLinked rows;
      passes : (old : List Row) (nodes : List Node) (before : ℕ) → AreNodes old nodes → Lost before old start nodes node → Passing old rows nodes node (at + 1) (before + gone);
    } in
    elim c.if-has_lost_parent.branch [
      | then-has_lost_parent w ↦ (
          let count : w.drop_record-gone-then-has_lost_parent.result ≡ one_if (has_record now at) = w.drop_record-gone-then-has_lost_parent.ensures.count in
          let rows = w.rows-is ∙ w.drop_record-gone-then-has_lost_parent.ensures.rows in
          let is : Is (emptied_at now at) (c.pass.gone + one_if (has_record now at)) = record {
            later = omega arith;
            size = set_length now at (emptied (slice_index_or now at no_row)) ∙ size;
            linked = linked_emptied now at c.pass.invariant.linked inside;
            passes = λ old nodes before a lost. (
                let first = lost.size in
                let many = a.size in
                let sum : before + c.pass.gone + one_if (has_record now at) ≡ before + (c.pass.gone + one_if (has_record now at)) = omega arith in
                subst (λ (g : ℕ). Passing old (emptied_at now at) nodes node (at + 1) g) sum
                (pass_one old now nodes node at (before + c.pass.gone) a (c.pass.invariant.passes old nodes before a lost) later (omega arith) (sym told ∙ w.if-has_lost_parent.true)));
          } in
          subst (λ (g : ℕ). Is c.if-has_lost_parent.rows g) (sym (w.gone-is ∙ ap (λ g. c.pass.gone + g) count)) (subst (λ (r : List Row). Is r (c.pass.gone + one_if (has_record now at))) (sym rows) is))
      | else-has_lost_parent w ↦ (
          let is : Is now c.pass.gone = record {
            later = omega arith;
            size = size;
            linked = c.pass.invariant.linked;
            passes = λ old nodes before a lost. (let first = lost.size in let many = a.size in
                pass_skip old now nodes node at (before + c.pass.gone) a (c.pass.invariant.passes old nodes before a lost) later (omega arith) (sym told ∙ w.if-has_lost_parent.false));
          } in
          subst (λ (g : ℕ). Is c.if-has_lost_parent.rows g) (sym w.gone-is) (subst (λ (r : List Row). Is r c.pass.gone) (sym w.rows-is) is))
    ]

pub returns-clause-drops : goal.returns-clause-drops
returns-clause-drops c = λ old nodes gone a lost.
    let now : List Row = c.pass.rows in
    let t = c.pass-test.false in
    let l = c.len-at-end.ensures in
    let e = ap length c.drop_record-gone.ensures.rows in
    let k = set_length c.args.rows.now c.args.node (emptied (slice_index_or c.args.rows.now c.args.node no_row)) in
    let inside = c.requires.inside in
    let first = lost.size in
    let size = a.size in
    subst (λ (r : List Row). Drops (gone + c.pass.gone) old r nodes c.args.node) (sym c.forget_children.ensures)
    (pass_ends old now nodes c.args.node c.pass.at (gone + c.pass.gone) a (c.pass.invariant.passes old nodes gone a lost) (omega arith) (omega arith))

pub returns-clause-linked : goal.returns-clause-linked
returns-clause-linked c =
    let now : List Row = c.pass.rows in
    let part = c.requires.part in
    let t = c.pass-test.false in
    let l = c.len-at-end.ensures in
    let e = ap length c.drop_record-gone.ensures.rows in
    let k = set_length c.args.rows.now c.args.node (emptied (slice_index_or c.args.rows.now c.args.node no_row)) in
    let inside = c.requires.inside in
    let first = part.4.size in
    let size = part.3.size in
    subst AreLinked (sym c.forget_children.ensures)
    (linked_ends part.0 now part.1 c.args.node c.pass.at (part.2 + c.pass.gone) part.3 (c.pass.invariant.passes part.0 part.1 part.2 part.3 part.4) c.pass.invariant.linked c.requires.some (omega arith) (omega arith))
