use Rattle.std.proofs.Common.{◌≡◌, ◌∙◌, sym, ap, subst, refl, Result, Ok, Err, true, false, is_some, List, ℕ}
use Rattle.std.specs.Prelude.{IsErrAnd, IsOk}
use Rattle.esx_events.specs.declared.event.Refusal.{Refusal}
use Rattle.esx_events.specs.declared.event.Refusal.TheVariants.{OutOfMemory}
use Rattle.esx_events.specs.declared.call.NameRow.{NameRow}
use Rattle.esx_model.specs.History.{History}
use Rattle.esx_model.specs.Branching.{mark}
use Rattle.esx_journal.specs.Journal.{Kept, Holds, Names}
use Rattle.esx_journal.specs.Marks.{node_named}
use Rattle.esx_journal.proofs.Names.{with_name, mark_taken, mark_free, named_more}
use Rattle.esx_journal.proofs.journal.Journal.mark.Goals as goal

err_is : (r : Result ℕ Refusal) (e : Refusal) → IsErrAnd r (λ x. x ≡ e) → r ≡ Err e
err_is (Err x) e h = ap (λ y. Err y) h
err_is (Ok x) e h = absurd h

pub returns-then-is_some : goal.returns-then-is_some
returns-then-is_some c = λ h holds.
    let there : is_some (node_named c.args.name.now h.marks) ≡ true = sym (c.is_some.ensures ∙ ap is_some (c.node_at.ensures ∙ ap (λ n. node_named n c.self.inside.marks) c.as_str.ensures.value
    ∙ ap (λ (x : Kept). node_named c.args.name.now x.marks) c.self.view_is ∙ ap (node_named c.args.name.now) holds.names)) ∙ c.if-is_some.true in
    record { same = refl; why = λ o. mark_taken c.args.name.now h there; late = λ o. cc }

pub returns-in_err-add : goal.returns-in_err-add
returns-in_err-add c =
    let old : Kept = record { machine = c.self.inside.machine; rows = c.self.inside.rows; cursor = c.self.inside.cursor; depth = c.self.inside.depth; nodes = c.self.inside.nodes; marks = c.self.inside.marks } in
    let new : Kept = record old { marks = c.add.new.self } in
    let same : new ≡ c.args.self.now = ap (λ (m : List NameRow). record old { marks = m }) c.in_err-add.ensures.err ∙ c.self.view_is in
    λ h holds. (
    let free : is_some (node_named c.args.name.now h.marks) ≡ false = sym (c.is_some.ensures ∙ ap is_some (c.node_at.ensures ∙ ap (λ n. node_named n c.self.inside.marks) c.as_str.ensures.value
    ∙ ap (λ (x : Kept). node_named c.args.name.now x.marks) c.self.view_is ∙ ap (node_named c.args.name.now) holds.names)) ∙ c.if-is_some.false in
    let Q : Result ℕ Refusal → Type 0 = λ q. Names q c.args.self.now new (mark c.args.name.now h) in
    let P : Result History Refusal → Type 0 = IsOk in
    subst Q (sym (err_is c.from_residual.result OutOfMemory c.from_residual.ensures.1)) (record { same = same; why = λ o. absurd (o refl); late = λ o. subst P (sym (mark_free c.args.name.now h free)) refl }))

pub invariant_of-self-2 : goal.invariant_of-self-2
invariant_of-self-2 c =
    let k = c.self.invariant in
    record { history = with_name c.args.name.now k.history; aim = k.aim; holds = named_more _ k.history k.aim c.args.name.now c.add.new.self k.holds c.in_ok-add.ensures.ok; fits = k.fits; limit = k.limit; linked = k.linked }

pub returns : goal.returns
returns c =
    let old : Kept = record { machine = c.self.inside.machine; rows = c.self.inside.rows; cursor = c.self.inside.cursor; depth = c.self.inside.depth; nodes = c.self.inside.nodes; marks = c.self.inside.marks } in
    let P : History → Kept → Type 0 = λ h x. Holds x h in
    λ h holds. (
    let was : Holds old h = subst (P h) (sym c.self.view_is) holds in
    let free : is_some (node_named c.args.name.now h.marks) ≡ false = sym (c.is_some.ensures ∙ ap is_some (c.node_at.ensures ∙ ap (λ n. node_named n c.self.inside.marks) c.as_str.ensures.value
    ∙ ap (node_named c.args.name.now) was.names)) ∙ c.if-is_some.false in
    record { after = with_name c.args.name.now h; gives = mark_free c.args.name.now h free; holds = named_more old h h.walk c.args.name.now c.add.new.self was c.in_ok-add.ensures.ok; node = was.place })
