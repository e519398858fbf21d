use Rattle.std.proofs.Common.{◌≡◌, Some, sym, ap, subst, arith, ◌+◌, length, is_some}
use Rattle.esx_model.specs.History.{History}
use Rattle.esx_journal.specs.Row.{child_at}
use Rattle.esx_journal.specs.Journal.{Kept, Holds}
use Rattle.esx_journal.proofs.Steps.{cursor_fits}
use Rattle.esx_journal.specs.Children.{no_row}
use Rattle.esx_journal.proofs.Moves.{Looked, looks_first, looks_on, child_within, looks_end, redone_stops, lasts_fit}
use Rattle.esx_journal.proofs.journal.Journal.may_redo.Goals as goal

pub look-init : goal.look-init
look-init c =
    let k = c.self.invariant in
    let f = cursor_fits _ k.history k.aim k.holds in
    let s = k.holds.size in
    let p = k.holds.place in
    let v = ap (λ (x : Kept). length x.rows) c.self.view_is in
    let P : Kept → Type 0 = λ k. (m : History) → Holds k m → Looked m 0 c.self.inside.cursor in
    record { within = omega arith; looks = subst P c.self.view_is (λ m h. looks_first _ m h) }

pub child_of-requires-clause-inside : goal.child_of-requires-clause-inside
child_of-requires-clause-inside c =
    let k = c.self.invariant in
    let v = ap (λ (x : Kept). length x.rows) c.self.view_is in
    let f = c.look.invariant.within in
    omega arith

pub child_of-requires-clause-fits : goal.child_of-requires-clause-fits
child_of-requires-clause-fits c = lasts_fit _ c.self.invariant.history c.self.invariant.aim c.self.invariant.holds

pub returns-in-None : goal.returns-in-None
returns-in-None c =
    let old : Kept = record { machine = c.self.inside.machine; rows = c.self.inside.rows; cursor = c.self.inside.cursor; depth = c.self.inside.depth; nodes = c.self.inside.nodes; marks = c.self.inside.marks } in
    let P : History → Kept → Type 0 = λ m k. Holds k m in
    λ m h. (let e = looks_end old m c.look._gone c.look.at no_row (subst (P m) (sym c.self.view_is) h) (c.look.invariant.looks m h)
    (sym c.in-None.ensures) in
    ap is_some (sym (redone_stops m (c.look._gone + 1) c.args.count (omega arith) e)))

pub look-preserved : goal.look-preserved
look-preserved c =
    let k = c.self.invariant in
    let old : Kept = record { machine = c.self.inside.machine; rows = c.self.inside.rows; cursor = c.self.inside.cursor; depth = c.self.inside.depth; nodes = c.self.inside.nodes; marks = c.self.inside.marks } in
    let P : History → Kept → Type 0 = λ m k. Holds k m in
    let next : child_at old.rows c.look.at no_row ≡ Some c.in-Some.next = sym c.in-Some.ensures in
    let v = ap (λ (x : Kept). length x.rows) c.self.view_is in
    let w = c.look.invariant.within in
    let f = child_within old k.history k.aim c.look.at c.in-Some.next no_row k.holds (omega arith) next in
    record { within = omega arith; looks = λ m h. looks_on old m c.look._gone c.look.at c.in-Some.next no_row (subst (P m) (sym c.self.view_is) h) (c.look.invariant.looks m h) next }
