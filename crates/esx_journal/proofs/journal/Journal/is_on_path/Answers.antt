use Rattle.std.proofs.Common.{◌≡◌, ◌≤◌, ◌||◌, ◌==◌, ◌∙◌, sym, ap, subst, arith, length, List}
use Rattle.esx_model.specs.Tree.{Move, parent, on_way}
use Rattle.esx_model.specs.History.{History}
use Rattle.esx_journal.specs.Children.{no_row}
use Rattle.esx_journal.specs.Journal.{Kept, Aims}
use Rattle.esx_journal.proofs.Paths.{parent_below, way_same}
use Rattle.esx_journal.proofs.Steps.{cursor_fits}
use Rattle.esx_journal.proofs.Dropping.{on_path_is}
use Rattle.esx_journal.proofs.journal.Journal.is_on_path.Goals as goal

pub climb-init : goal.climb-init
climb-init c =
    let k = c.self.invariant in
    let f = cursor_fits _ k.history k.aim k.holds in
    let s = k.holds.size in
    let p = k.holds.place in
    let v = ap (λ (x : Kept). length x.rows) c.self.view_is in
    let w = ap (λ (x : Kept). x.cursor) c.self.view_is in
    record { within = omega arith; same = λ h aim holds. ap (λ n. on_way h.nodes n c.args.node) (sym holds.place ∙ sym w) }

pub climb-smaller : goal.climb-smaller
climb-smaller c =
    let k = c.self.invariant in
    let s = k.holds.size in
    let v = ap (λ (x : Kept). length x.rows) c.self.view_is in
    let t = c.climb-test.true in
    let within = c.climb.invariant.within in
    let fits : c.climb.at ≤ length k.history.nodes = omega arith in
    let up = c.parent-at.ensures ∙ (k.holds.each c.climb.at no_row fits).up in
    let less = parent_below k.history.nodes c.climb.at k.holds.tree (omega arith) fits in
    omega arith

pub climb-preserved : goal.climb-preserved
climb-preserved c =
    let k = c.self.invariant in
    let s = k.holds.size in
    let v = ap (λ (x : Kept). length x.rows) c.self.view_is in
    let t = c.climb-test.true in
    let within = c.climb.invariant.within in
    let fits : c.climb.at ≤ length k.history.nodes = omega arith in
    let up = c.parent-at.ensures ∙ (k.holds.each c.climb.at no_row fits).up in
    let less = parent_below k.history.nodes c.climb.at k.holds.tree (omega arith) fits in
    let P : History → List Move → Kept → Type 0 = λ h aim x. Aims x h aim in
    record {
      within = omega arith;
      same = λ h aim holds. (
          let was = subst (P h aim) (sym c.self.view_is) holds in
          let z = was.size in
          let inside : c.climb.at ≤ length h.nodes = omega arith in
          let goes : c.parent-at.result ≡ parent h.nodes c.climb.at = c.parent-at.ensures ∙ (was.each c.climb.at no_row inside).up in
          c.climb.invariant.same h aim holds ∙ way_same h.nodes c.climb.at c.args.node was.tree (omega arith) inside (λ e. omega arith) ∙ ap (λ n. on_way h.nodes n c.args.node) (sym goes));
    }

pub returns : goal.returns
returns c =
    let within = c.climb.invariant.within in
    let f = c.climb-test.false in
    λ h aim holds. (let s = holds.size in
    on_path_is h.nodes c.climb.at c.args.node holds.tree (omega arith) (omega arith) ∙ ap (λ b. (c.args.node == 0) || b) (sym (c.climb.invariant.same h aim holds)))
