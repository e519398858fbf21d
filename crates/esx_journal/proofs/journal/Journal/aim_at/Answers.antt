use Rattle.std.proofs.Common.{◌≡◌, ◌<◌, ◌≤◌, ◌∙◌, ◌∷◌, sym, ap, subst, refl, arith, length, List, slice_index_or}
use Rattle.esx_model.specs.Tree.{Move, Down, parent}
use Rattle.esx_model.specs.History.{History}
use Rattle.esx_journal.specs.Rows.{Row}
use Rattle.esx_journal.specs.Journal.{Kept, Aims}
use Rattle.esx_journal.specs.Children.{AreLinked, no_row}
use Rattle.esx_journal.proofs.Linking.{linked_set}
use Rattle.esx_journal.proofs.Paths.{parent_below}
use Rattle.esx_journal.proofs.Sinking.{aims_at}
use Rattle.esx_journal.proofs.journal.Journal.aim_at.Goals as goal

pub set_last-requires : goal.set_last-requires
set_last-requires c =
    let k = c.self.invariant in
    let s = k.holds.size in
    let v = ap (λ (x : Kept). length x.rows) c.self.view_is in
    let some = c.requires.some in
    let within = c.requires.within in
    let fits : c.args.node ≤ length k.history.nodes = omega arith in
    let up = c.parent-parent.ensures ∙ (k.holds.each c.args.node no_row fits).up in
    let less = parent_below k.history.nodes c.args.node k.holds.tree some fits in
    omega arith

pub returns-clause-older : goal.returns-clause-older
returns-clause-older c =
    let k = c.self.invariant in
    let s = k.holds.size in
    let v = ap (λ (x : Kept). length x.rows) c.self.view_is in
    let some = c.requires.some in
    let within = c.requires.within in
    let fits : c.args.node ≤ length k.history.nodes = omega arith in
    let up = c.parent-parent.ensures ∙ (k.holds.each c.args.node no_row fits).up in
    let less = parent_below k.history.nodes c.args.node k.holds.tree some fits in
    omega arith

pub invariant_of-self : goal.invariant_of-self
invariant_of-self c =
    let k = c.self.invariant in
    let old : Kept = record { machine = c.self.inside.machine; rows = c.self.inside.rows; cursor = c.self.inside.cursor; depth = c.self.inside.depth; nodes = c.self.inside.nodes; marks = c.self.inside.marks } in
    let s = k.holds.size in
    let v = ap (λ (x : Kept). length x.rows) c.self.view_is in
    let some = c.requires.some in
    let within = c.requires.within in
    let fits : c.args.node ≤ length k.history.nodes = omega arith in
    let up = c.parent-parent.ensures ∙ (k.holds.each c.args.node no_row fits).up in
    let less = parent_below k.history.nodes c.args.node k.holds.tree some fits in
    let inside : c.parent-parent.result < length c.self.inside.rows = omega arith in
    let above : Row = slice_index_or c.self.inside.rows c.parent-parent.result no_row in
    let P : List Row → Type 0 = λ rows. Aims (record old { rows = rows }) k.history (Down c.args.node ∷ k.aim) in
    record {
      history = k.history;
      aim = Down c.args.node ∷ k.aim;
      holds = subst P (sym c.set_last.ensures) (aims_at old k.history k.aim c.args.node c.parent-parent.result above no_row k.holds some fits up refl);
      fits = k.fits;
      limit = k.limit;
      linked = subst AreLinked (sym c.set_last.ensures)
          (linked_set c.self.inside.rows c.parent-parent.result (record above { last = c.args.node }) k.linked inside (record { up = refl; first = refl; next = refl; less = λ e. e }));
    }

pub returns-clause-holds : goal.returns-clause-holds
returns-clause-holds c =
    let old : Kept = record { machine = c.self.inside.machine; rows = c.self.inside.rows; cursor = c.self.inside.cursor; depth = c.self.inside.depth; nodes = c.self.inside.nodes; marks = c.self.inside.marks } in
    let v = ap (λ (x : Kept). length x.rows) c.self.view_is in
    let some = c.requires.some in
    let within = c.requires.within in
    let P : History → List Move → Kept → Type 0 = λ m aim k. Aims k m aim in
    λ m aim h0. (let h : Aims old m aim = subst (P m aim) (sym c.self.view_is) h0 in
    let s = h.size in
    let fits : c.args.node ≤ length m.nodes = omega arith in
    let up : c.parent-parent.result ≡ parent m.nodes c.args.node = c.parent-parent.ensures ∙ (h.each c.args.node no_row fits).up in
    let above : Row = slice_index_or old.rows c.parent-parent.result no_row in
    let Q : List Row → Type 0 = λ rows. Aims (record old { rows = rows }) m (Down c.args.node ∷ aim) in
    (up, subst Q (sym c.set_last.ensures) (aims_at old m aim c.args.node c.parent-parent.result above no_row h some fits up refl)))
