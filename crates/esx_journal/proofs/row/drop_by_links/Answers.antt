use Rattle.std.proofs.Common.{rules, ◌≡◌, ◌<◌, ◌+◌, ◌^◌, ◌∙◌, sym, ap, subst, arith, refl, ℕ, List, length, slice_index_or}
use Rattle.esx_model.specs.Tree.{Node}
use Rattle.esx_journal.specs.Rows.{Row}
use Rattle.esx_journal.specs.Row.{AreNodes, Lost, Drops, emptied}
use Rattle.esx_journal.specs.Children.{AreLinked, parent_of, has_record, first_of, next_of, no_row, unlinked}
use Rattle.esx_journal.proofs.Lists.{set_length}
use Rattle.esx_journal.proofs.Losing.{one_if, emptied_at, emptied_there, linked_emptied, lost_most}
use Rattle.esx_journal.proofs.ByLinks.{Walking, off_at, walk_first, walk_down, drop_here, walk_up, walk_ends}
use Rattle.esx_journal.proofs.row.drop_by_links.Goals as goal
use Rattle.esx_journal.proofs.row.drop_by_links.Goals.{then-first-ne0, else-first-ne0+else-at-node}

pub walk-init : goal.walk-init
walk-init c = record {
  inside = c.requires.inside;
  size = refl;
  linked = c.requires.linked;
  walks = λ nodes a. walk_first c.args.rows.now nodes c.args.node a c.requires.some (let i = c.requires.inside in let s = a.size in omega arith);
}

pub overflow_add-gone : goal.overflow_add-gone
overflow_add-gone c =
    let old : List Row = c.args.rows.now in
    let now : List Row = c.walk.rows in
    let at : ℕ = c.walk.at in
    let nodes = c.requires.nodes.0 in
    let a = c.requires.nodes.1 in
    let none : first_of now at ≡ 0 = sym c.first-first.ensures ∙ c.if-first-ne0.false in
    let here = drop_here old now nodes c.args.node at c.walk.gone a c.walk.invariant.linked (c.walk.invariant.walks nodes a) none in
    let most = lost_most old (emptied_at now at) nodes c.args.node (c.walk.gone + one_if (has_record now at)) a here.lost in
    let count : c.drop_record-gone.result ≡ one_if (has_record now at) = c.drop_record-gone.ensures.count in
    let size = a.size in
    let small = c.requires.small in
    let fits : c.walk.gone + c.drop_record-gone.result < 2 ^ 32 = omega arith in
    search (rules, fits)

pub returns-then-at-node-clause-lost : goal.returns-then-at-node-clause-lost
returns-then-at-node-clause-lost c = λ nodes a.
    let old : List Row = c.args.rows.now in
    let now : List Row = c.walk.rows in
    let at : ℕ = c.walk.at in
    let node : ℕ = c.args.node in
    let none : first_of now at ≡ 0 = sym c.first-first.ensures ∙ c.if-first-ne0.false in
    let here = drop_here old now nodes node at c.walk.gone a c.walk.invariant.linked (c.walk.invariant.walks nodes a) none in
    let count : c.drop_record-gone.result ≡ one_if (has_record now at) = c.drop_record-gone.ensures.count in
    subst (λ (r : List Row). Lost (c.walk.gone + c.drop_record-gone.result) old r nodes node) (sym c.drop_record-gone.ensures.rows)
    (subst (λ (g : ℕ). Lost (c.walk.gone + g) old (emptied_at now at) nodes node) (sym count) here.lost)

pub returns-then-at-node-clause-drops : goal.returns-then-at-node-clause-drops
returns-then-at-node-clause-drops c = λ t nodes a.
    let old : List Row = c.args.rows.now in
    let now : List Row = c.walk.rows in
    let at : ℕ = c.walk.at in
    let node : ℕ = c.args.node in
    let none : first_of now at ≡ 0 = sym c.first-first.ensures ∙ c.if-first-ne0.false in
    let here = drop_here old now nodes node at c.walk.gone a c.walk.invariant.linked (c.walk.invariant.walks nodes a) none in
    let all = walk_ends old (emptied_at now at) nodes node (c.walk.gone + one_if (has_record now at)) a here (emptied_there now at node c.walk.invariant.inside (sym c.if-at-node.true)) in
    let count : c.drop_record-gone.result ≡ one_if (has_record now at) = c.drop_record-gone.ensures.count in
    subst (λ (r : List Row). Drops (c.walk.gone + c.drop_record-gone.result) old r nodes node) (sym c.drop_record-gone.ensures.rows)
    (subst (λ (g : ℕ). Drops (c.walk.gone + g) old (emptied_at now at) nodes node) (sym count) all)

pub returns-then-at-node-clause-linked : goal.returns-then-at-node-clause-linked
returns-then-at-node-clause-linked c = subst AreLinked (sym c.drop_record-gone.ensures.rows) (linked_emptied c.walk.rows c.walk.at c.walk.invariant.linked c.walk.invariant.inside)

pub unlink-requires-clause-parent : goal.unlink-requires-clause-parent
unlink-requires-clause-parent c =
    let old : List Row = c.args.rows.now in
    let now : List Row = c.walk.rows in
    let at : ℕ = c.walk.at in
    let nodes = c.requires.nodes.0 in
    let a = c.requires.nodes.1 in
    let none : first_of now at ≡ 0 = sym c.first-first.ensures ∙ c.if-first-ne0.false in
    let p : ℕ = c.parent-parent.result in
    let is : p ≡ parent_of (emptied_at now at) at = c.parent-parent.ensures ∙ ap (λ rows. parent_of rows at) c.drop_record-gone.ensures.rows in
    let up = walk_up old now nodes c.args.node at c.walk.gone p a c.walk.invariant.linked (c.walk.invariant.walks nodes a) none c.if-at-node.false is in
    let l = ap length c.drop_record-gone.ensures.rows in
    let s = set_length now at (emptied (slice_index_or now at no_row)) in
    omega (arith, up.inside, l, s)

pub walk-preserved : goal.walk-preserved
walk-preserved c =
    let old : List Row = c.args.rows.now in
    let now : List Row = c.walk.rows in
    let at : ℕ = c.walk.at in
    let node : ℕ = c.args.node in
    let linked = c.walk.invariant.linked in
    let read : first_of now at ≡ c.first-first.result = sym c.first-first.ensures in
    let Is : List Row → ℕ → ℕ → Type 0 = λ rows next gone. record {
      inside : next < length rows;
      size : length rows ≡ length old;
      linked : AreLinked rows;
      walks : (nodes : List Node) → AreNodes old nodes → Walking old rows nodes node next gone;
    } in
    elim c.if-first-ne0.branch [
      | then-first-ne0 w ↦ (
          let first : ℕ = c.first-first.result in
          let some : 0 < first = (let t = w.if-first-ne0.true in omega arith) in
          let is : Is now first c.walk.gone = record {
            inside = (let o = linked.first at c.walk.invariant.inside (omega (arith, read, some)) in omega (arith, read, o.0));
            size = c.walk.invariant.size;
            linked = linked;
            walks = λ nodes a. walk_down old now nodes node at first c.walk.gone a linked (c.walk.invariant.walks nodes a) (sym read) some;
          } in
          subst (λ (n : ℕ). Is c.if-first-ne0.rows n c.if-first-ne0.gone) (sym w.at-is)
          (subst (λ (g : ℕ). Is c.if-first-ne0.rows first g) (sym w.gone-is) (subst (λ (r : List Row). Is r first c.walk.gone) (sym w.rows-is) is)))
      | else-first-ne0+else-at-node w ↦ (
          let none : first_of now at ≡ 0 = read ∙ w.if-first-ne0.false in
          let p : ℕ = w.parent-parent.result in
          let is : p ≡ parent_of (emptied_at now at) at = w.parent-parent.ensures ∙ ap (λ rows. parent_of rows at) w.drop_record-gone.ensures.rows in
          let rows : w.unlink.new.rows ≡ off_at now at p = w.unlink.ensures ∙ ap (λ rows. unlinked rows p (next_of rows at)) w.drop_record-gone.ensures.rows in
          let count : w.drop_record-gone.result ≡ one_if (has_record now at) = w.drop_record-gone.ensures.count in
          let a = c.requires.nodes.1 in
          let off = walk_up old now c.requires.nodes.0 node at c.walk.gone p a linked (c.walk.invariant.walks c.requires.nodes.0 a) none w.if-at-node.false is in
          let there : Is (off_at now at p) p (c.walk.gone + one_if (has_record now at)) = record {
            inside = omega (arith, off.inside, off.size);
            size = off.size ∙ c.walk.invariant.size;
            linked = off.linked;
            walks = λ nodes b. (walk_up old now nodes node at c.walk.gone p b linked (c.walk.invariant.walks nodes b) none w.if-at-node.false is).walking;
          } in
          subst (λ (n : ℕ). Is c.if-first-ne0.rows n c.if-first-ne0.gone) (sym w.at-is)
          (subst (λ (g : ℕ). Is c.if-first-ne0.rows p g) (sym (w.gone-is ∙ ap (λ g. c.walk.gone + g) count))
          (subst (λ (r : List Row). Is r p (c.walk.gone + one_if (has_record now at))) (sym (w.rows-is ∙ rows)) there)))
    ]

pub returns-clause-lost : goal.returns-clause-lost
returns-clause-lost c = λ nodes a. (c.walk.invariant.walks nodes a).dropped.lost
