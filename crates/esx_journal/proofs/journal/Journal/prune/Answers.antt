use Rattle.std.proofs.Common.{◌≡◌, ◌∙◌, sym, ap, subst, arith, refl, length, false, ℕ, Ok}
use Rattle.esx_model.specs.History.{History}
use Rattle.esx_model.specs.Branching.{is_on_path}
use Rattle.esx_journal.specs.Journal.{Kept, Aims, Holds}
use Rattle.esx_journal.proofs.Dropping.{nodes_of, pruned, without, off_path, prune_none, prune_refused, prune_done}
use Rattle.esx_journal.proofs.Pruning.{dropped_length}
use Rattle.esx_journal.proofs.journal.Journal.prune.Goals as goal

pub returns-then-not-stands : goal.returns-then-not-stands
returns-then-not-stands c = λ h holds. record { same = refl; why = prune_none c.args.node h (sym (c.stands.ensures.told h h.walk holds) ∙ c.if-not-stands.true) }

pub returns-then-is_on_path : goal.returns-then-is_on_path
returns-then-is_on_path c = λ h holds. record {
  same = refl;
  why = prune_refused c.args.node h (sym (c.stands.ensures.told h h.walk holds) ∙ c.if-not-stands.false) (sym (c.is_on_path.ensures h h.walk holds) ∙ c.if-is_on_path.true);
}

pub invariant_of-self : goal.invariant_of-self
invariant_of-self c =
    let k = c.self.invariant in
    let P : Kept → Type 0 = λ x. Aims x k.history k.aim in
    let off = off_path k.history c.args.node (sym (c.is_on_path.ensures k.history k.aim (subst P c.self.view_is k.holds)) ∙ c.if-is_on_path.false) in
    let within = c.stands.ensures.within c.if-not-stands.false in
    let v = ap (λ (x : Kept). length x.rows) c.self.view_is in
    let s = k.holds.size in
    let drops = c.drop_below.ensures.drops k.history.nodes (nodes_of _ k.history k.aim k.holds) in
    record {
      history = without c.args.node k.history;
      aim = k.aim;
      holds = pruned _ c.drop_below.new.rows k.history k.aim c.args.node c.drop_below.result k.holds drops off.1 (omega arith);
      fits = (let l = dropped_length c.args.node k.history.nodes in let f = k.fits in omega arith);
      limit = k.limit;
      linked = c.drop_below.ensures.linked;
    }

pub returns : goal.returns
returns c =
    let old : Kept = record { machine = c.self.inside.machine; rows = c.self.inside.rows; cursor = c.self.inside.cursor; depth = c.self.inside.depth; nodes = c.self.inside.nodes; marks = c.self.inside.marks } in
    let P : History → Kept → Type 0 = λ h x. Holds x h in
    let within = c.stands.ensures.within c.if-not-stands.false in
    let v = ap (λ (x : Kept). length x.rows) c.self.view_is in
    λ h holds. (
    let was : Holds old h = subst (P h) (sym c.self.view_is) holds in
    let on : is_on_path h c.args.node ≡ false = sym (c.is_on_path.ensures h h.walk holds) ∙ c.if-is_on_path.false in
    let off = off_path h c.args.node on in
    let s = was.size in
    let drops = c.drop_below.ensures.drops h.nodes (nodes_of old h h.walk was) in
    record {
      after = without c.args.node h;
      gives = prune_done c.args.node h (sym (c.stands.ensures.told h h.walk holds) ∙ c.if-not-stands.false) on ∙ ap (λ (n : ℕ). Ok (n, without c.args.node h)) (sym drops.count);
      holds = pruned old c.drop_below.new.rows h h.walk c.args.node c.drop_below.result was drops off.1 (omega arith);
    })
