use Rattle.std.proofs.Common.{ap, subst, arith, refl, ◌<◌, ◌-◌, List}
use Rattle.esx_model.specs.Tree.{Move, at}
use Rattle.esx_model.specs.History.{History, cursor, up_once}
use Rattle.esx_journal.specs.Children.{no_row}
use Rattle.esx_journal.specs.Journal.{Kept, Aims}
use Rattle.esx_journal.proofs.Paths.{parent_below}
use Rattle.esx_journal.proofs.Steps.{flips_up, went_up, cursor_fits, cursor_some}
use Rattle.esx_journal.proofs.journal.Journal.step_up.Goals as goal

pub flip-requires-clause-inside : goal.flip-requires-clause-inside
flip-requires-clause-inside c =
    let k = c.self.invariant in
    let f = cursor_fits _ k.history k.aim k.holds in
    let s = k.holds.size in
    let p = k.holds.place in
    omega arith

pub flip-requires-clause-fits : goal.flip-requires-clause-fits
flip-requires-clause-fits c =
    let k = c.self.invariant in
    let e = ap (λ (x : Kept). x.depth) c.self.view_is in
    flips_up _ k.history k.aim k.holds (let r = c.requires in omega arith)

pub parent-self-inside-requires : goal.parent-self-inside-requires
parent-self-inside-requires c =
    let k = c.self.invariant in
    let f = cursor_fits _ k.history k.aim k.holds in
    let s = k.holds.size in
    let p = k.holds.place in
    let e = c.flip.ensures.size in
    omega arith

pub invariant_of-self : goal.invariant_of-self
unfolding up_once
invariant_of-self c =
    let k = c.self.invariant in
    let e = ap (λ (x : Kept). x.depth) c.self.view_is in
    let deep : 0 < c.self.inside.depth = (let r = c.requires in omega arith) in
    let old : Kept = record { machine = c.self.inside.machine; rows = c.self.inside.rows; cursor = c.self.inside.cursor; depth = c.self.inside.depth; nodes = c.self.inside.nodes; marks = c.self.inside.marks } in
    let new : Kept = record { machine = c.flip.new.machine; rows = c.flip.new.self; cursor = c.parent-self-inside.result; depth = c.self.inside.depth - 1; nodes = c.self.inside.nodes; marks = c.self.inside.marks } in
    record {
      history = up_once k.history;
      aim = k.aim;
      holds = went_up old new k.history k.aim no_row k.holds deep c.flip.ensures.flips c.parent-self-inside.ensures (omega arith) refl refl;
      fits = k.fits;
      limit = k.limit;
      linked = c.flip.ensures.linked k.linked;
    }

pub returns-clause-holds : goal.returns-clause-holds
returns-clause-holds c =
    let e = ap (λ (x : Kept). x.depth) c.self.view_is in
    let deep : 0 < c.self.inside.depth = (let r = c.requires in omega arith) in
    let old : Kept = record { machine = c.self.inside.machine; rows = c.self.inside.rows; cursor = c.self.inside.cursor; depth = c.self.inside.depth; nodes = c.self.inside.nodes; marks = c.self.inside.marks } in
    let new : Kept = record { machine = c.flip.new.machine; rows = c.flip.new.self; cursor = c.parent-self-inside.result; depth = c.self.inside.depth - 1; nodes = c.self.inside.nodes; marks = c.self.inside.marks } in
    let P : Kept → Type 0 = λ k. (h : History) (aim : List Move) → Aims k h aim → Aims new (up_once h) aim in
    subst P c.self.view_is (λ m aim h. went_up old new m aim no_row h deep c.flip.ensures.flips c.parent-self-inside.ensures (omega arith) refl refl)

pub returns-clause-older : goal.returns-clause-older
unfolding up_once at
returns-clause-older c =
    let k = c.self.invariant in
    let e = ap (λ (x : Kept). x.depth) c.self.view_is in
    let deep : 0 < c.self.inside.depth = (let r = c.requires in omega arith) in
    let old : Kept = record { machine = c.self.inside.machine; rows = c.self.inside.rows; cursor = c.self.inside.cursor; depth = c.self.inside.depth; nodes = c.self.inside.nodes; marks = c.self.inside.marks } in
    let new : Kept = record { machine = c.flip.new.machine; rows = c.flip.new.self; cursor = c.parent-self-inside.result; depth = c.self.inside.depth - 1; nodes = c.self.inside.nodes; marks = c.self.inside.marks } in
    let there = (went_up old new k.history k.aim no_row k.holds deep c.flip.ensures.flips c.parent-self-inside.ensures (omega arith) refl refl).place in
    let less = parent_below k.history.nodes (cursor k.history) k.holds.tree (cursor_some old k.history k.aim k.holds deep) (cursor_fits old k.history k.aim k.holds) in
    let was = k.holds.place in
    let v = ap (λ (x : Kept). x.cursor) c.self.view_is in
    omega arith
