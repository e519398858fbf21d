use Rattle.std.proofs.Common.{rules, ◌≡◌, ◌∙◌, sym, subst, arith, refl, ◌<◌, ◌+◌, ◌^◌, ℕ, Some, List}
use Rattle.esx_model.specs.Tree.{Move, last_descent}
use Rattle.esx_model.specs.History.{History, cursor, down_to, if_alive}
use Rattle.esx_journal.specs.Row.{child_at}
use Rattle.esx_journal.specs.Journal.{Kept, Aims}
use Rattle.esx_journal.proofs.Steps.{flips_down, went_down, cursor_fits, is_child, IsChild}
use Rattle.esx_journal.specs.Children.{no_row}
use Rattle.esx_journal.proofs.Moves.{lasts_fit, child_aimed, depth_below}
use Rattle.esx_journal.proofs.journal.Journal.step_down.Goals as goal

-- the child that was found is the one where a redo goes
found : (j : Kept) (m : History) (aim : List Move) (n : ℕ) → Aims j m aim → Some n ≡ child_at j.rows j.cursor no_row → IsChild m aim n
found j m aim n h e = is_child m aim n h.lasts (sym (child_aimed j m aim no_row h) ∙ sym e)

pub child_of-requires-clause-inside : goal.child_of-requires-clause-inside
child_of-requires-clause-inside c =
    let k = c.self.invariant in
    let f = cursor_fits _ k.history k.aim k.holds in
    let s = k.holds.size in
    let p = k.holds.place in
    omega arith

pub child_of-requires-clause-fits : goal.child_of-requires-clause-fits
child_of-requires-clause-fits c = lasts_fit _ c.self.invariant.history c.self.invariant.aim c.self.invariant.holds

pub flip-requires-clause-inside : goal.flip-requires-clause-inside
flip-requires-clause-inside c =
    let k = c.self.invariant in
    let n = found _ k.history k.aim c.in-Some.next k.holds c.in-Some.ensures in
    let f = n.fits in
    let s = k.holds.size in
    omega arith

pub flip-requires-clause-fits : goal.flip-requires-clause-fits
flip-requires-clause-fits c =
    let k = c.self.invariant in
    flips_down _ k.history k.aim c.in-Some.next k.holds
    (found _ k.history k.aim c.in-Some.next k.holds c.in-Some.ensures)

pub overflow_add-self : goal.overflow_add-self
overflow_add-self c =
    let k = c.self.invariant in
    let n = found _ k.history k.aim c.in-Some.next k.holds c.in-Some.ensures in
    let b = depth_below _ k.history k.aim c.in-Some.next k.holds n in
    let l = k.limit in
    let s = k.fits in
    let fits : c.self.inside.depth + 1 < 2 ^ 32 = omega arith in
    search (rules, fits)

pub invariant_of-self : goal.invariant_of-self
invariant_of-self c =
    let k = c.self.invariant in
    let old : Kept = record { machine = c.self.inside.machine; rows = c.self.inside.rows; cursor = c.self.inside.cursor; depth = c.self.inside.depth; nodes = c.self.inside.nodes; marks = c.self.inside.marks } in
    let new : Kept = record { machine = c.flip.new.machine; rows = c.flip.new.self; cursor = c.in-Some.next; depth = c.self.inside.depth + 1; nodes = c.self.inside.nodes; marks = c.self.inside.marks } in
    let n = found old k.history k.aim c.in-Some.next k.holds c.in-Some.ensures in
    record {
      history = down_to k.history c.in-Some.next;
      aim = k.aim;
      holds = went_down old new k.history k.aim c.in-Some.next no_row k.holds n c.flip.ensures.flips refl refl refl refl;
      fits = k.fits;
      limit = k.limit;
      linked = c.flip.ensures.linked k.linked;
    }

pub returns-in-Some : goal.returns-in-Some
returns-in-Some c =
    let old : Kept = record { machine = c.self.inside.machine; rows = c.self.inside.rows; cursor = c.self.inside.cursor; depth = c.self.inside.depth; nodes = c.self.inside.nodes; marks = c.self.inside.marks } in
    let new : Kept = record { machine = c.flip.new.machine; rows = c.flip.new.self; cursor = c.in-Some.next; depth = c.self.inside.depth + 1; nodes = c.self.inside.nodes; marks = c.self.inside.marks } in
    let P : Kept → Type 0 = λ k. (m : History) (aim : List Move) (n : ℕ) → Aims k m aim → if_alive m.nodes (last_descent m.nodes aim (cursor m)) ≡ Some n → Aims new (down_to m n) aim in
    let found_it : Some c.in-Some.next ≡ child_at old.rows old.cursor no_row = c.in-Some.ensures in
    subst P c.self.view_is (λ m aim n h e.
    let same : Some c.in-Some.next ≡ Some n = found_it ∙ child_aimed old m aim no_row h ∙ e in
    let node : c.in-Some.next ≡ n = cc in
    let k = found old m aim c.in-Some.next h found_it in
    let Q : ℕ → Type 0 = λ x. Aims new (down_to m x) aim in
    subst Q node (went_down old new m aim c.in-Some.next no_row h k c.flip.ensures.flips refl refl refl refl))

pub returns-in_default : goal.returns-in_default
returns-in_default c =
    let old : Kept = record { machine = c.self.inside.machine; rows = c.self.inside.rows; cursor = c.self.inside.cursor; depth = c.self.inside.depth; nodes = c.self.inside.nodes; marks = c.self.inside.marks } in
    let P : History → List Move → Kept → Type 0 = λ m aim k. Aims k m aim in
    λ m aim n h e. absurd (c.in_default.not-Some n (c.child_of.ensures ∙ child_aimed old m aim no_row (subst (P m aim) (sym c.self.view_is) h) ∙ e))
