use Rattle.std.proofs.Common.{◌≡◌, sym, ap, subst, arith, refl, ℕ}
use Rattle.esx_model.specs.History.{History, undone, jumped}
use Rattle.esx_journal.specs.Journal.{Kept, Holds}
use Rattle.esx_journal.proofs.Steps.{holds_up}
use Rattle.esx_journal.proofs.Moves.{undone_more, undo_none, undo_some, holds_jumped}
use Rattle.esx_journal.proofs.journal.Journal.undo.Goals as goal

pub returns-then-self-count : goal.returns-then-self-count
returns-then-self-count c = λ m h. record { same = refl; why = refl; none = undo_none c.args.count m (let d = h.deep in let e = ap (λ (x : Kept). x.depth) c.self.view_is in omega arith) }

pub climb-init : goal.climb-init
unfolding undone
climb-init c = record { deep = omega arith; holds = λ m h. h }

pub climb-preserved : goal.climb-preserved
climb-preserved c = record {
  deep = (let d = c.climb.invariant.deep in let e = c.step_up.ensures.depth in omega arith);
  holds = λ m h. (let P : History → Type 0 = Holds c.step_up.new.self in subst P (sym (undone_more c.climb._gone m)) (holds_up _ (undone c.climb._gone m) (c.step_up.ensures.holds (undone c.climb._gone m) (undone c.climb._gone m).walk (c.climb.invariant.holds m h))));
}

pub returns : goal.returns
returns c = λ m h.
    let k : c.climb._gone ≡ c.args.count = omega arith in
    let P : ℕ → Type 0 = λ x. Holds c.climb.self (undone x m) in
    let there : Holds c.climb.self (jumped (undone c.args.count m)) = holds_jumped _ (undone c.args.count m) (subst P k (c.climb.invariant.holds m h)) in
    record {
      after = jumped (undone c.args.count m);
      gives = undo_some c.args.count m (let d = h.deep in let e = ap (λ (x : Kept). x.depth) c.self.view_is in omega arith);
      holds = there;
      stands = c.stand.ensures (jumped (undone c.args.count m)) there;
    }
