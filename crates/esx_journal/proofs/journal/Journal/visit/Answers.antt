use Rattle.std.proofs.Common.{◌∙◌, sym, ap, subst, refl, Result}
use Rattle.esx_events.specs.declared.event.Refusal.{Refusal}
use Rattle.esx_model.specs.History.{History}
use Rattle.esx_journal.specs.Journal.{Kept, Goes}
use Rattle.esx_journal.specs.Marks.{node_named}
use Rattle.esx_journal.proofs.Names.{visit_some, visit_none}
use Rattle.esx_journal.proofs.journal.Journal.visit.Goals as goal

pub returns-in-Some : goal.returns-in-Some
returns-in-Some c = λ h holds.
    let there = sym (c.node_at.ensures ∙ ap (λ n. node_named n c.self.inside.marks) c.as_str.ensures.value ∙ ap (λ (x : Kept). node_named c.args.name.now x.marks) c.self.view_is ∙ ap (node_named c.args.name.now) holds.names) ∙ c.in-Some.is in
    let P : Result History Refusal → Type 0 = λ d. Goes c.goto.result c.args.self.now c.goto.new.self d in
    subst P (sym (visit_some c.args.name.now h c.in-Some.node there)) (c.goto.ensures h holds)

pub returns-in-None : goal.returns-in-None
returns-in-None c = λ h holds.
    let none = sym (c.node_at.ensures ∙ ap (λ n. node_named n c.self.inside.marks) c.as_str.ensures.value ∙ ap (λ (x : Kept). node_named c.args.name.now x.marks) c.self.view_is ∙ ap (node_named c.args.name.now) holds.names) ∙ c.in-None.is in
    record { same = refl; why = visit_none c.args.name.now h none }
