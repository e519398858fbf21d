use Rattle.std.proofs.Common.{rules, ◌≡◌, ◌∙◌, sym, ap, subst, arith, refl}
use Rattle.esx_model.specs.History.{History, redone, jumped}
use Rattle.esx_journal.specs.Journal.{Holds}
use Rattle.esx_journal.proofs.Steps.{holds_down, is_child, child_by}
use Rattle.esx_journal.proofs.Moves.{redone_back, none_by, some_by, redo_none, redo_some, holds_jumped}
use Rattle.esx_journal.proofs.journal.Journal.redo.Goals as goal

pub returns-then-not-may_redo : goal.returns-then-not-may_redo
returns-then-not-may_redo c = λ m h. record { same = refl; why = refl; none = redo_none c.args.count m (none_by (redone c.args.count m) (sym (c.may_redo.ensures m h) ∙ search rules)) }

pub descend-init : goal.descend-init
unfolding redone
descend-init c = λ m w h e. (let same : m ≡ w = cc in let P : History → Type 0 = Holds c.args.self.now in subst P same h)

pub descend-preserved : goal.descend-preserved
descend-preserved c = λ m w h e.
    let s = redone_back m w c.descend._gone e in
    let P : History → Type 0 = Holds c.step_down.new.self in
    let k = child_by s.before s.node s.is in
    let holds = c.descend.invariant m s.before h s.gives in
    subst P s.same (holds_down _ s.before s.node (is_child s.before s.before.walk s.node holds.lasts k) (c.step_down.ensures s.before s.before.walk s.node holds k))

pub returns : goal.returns
returns c = λ m h.
    let k : c.descend._gone ≡ c.args.count = omega arith in
    let there = some_by (redone c.args.count m) (sym (c.may_redo.ensures m h) ∙ search rules) in
    let holds : Holds c.descend.self (jumped there.0) = holds_jumped _ there.0 (c.descend.invariant m there.0 h (ap (λ x. redone x m) k ∙ there.1)) in
    record { after = jumped there.0; gives = redo_some c.args.count m there.0 there.1; holds = holds; stands = c.stand.ensures (jumped there.0) holds }
