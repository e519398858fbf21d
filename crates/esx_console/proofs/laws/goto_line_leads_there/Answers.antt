use Rattle.std.proofs.Common.{◌∙◌, sym, ap, subst, Result}
use Rattle.std.specs.Prelude.{IfOk}
use Rattle.esx_events.specs.declared.event.Refusal.{Refusal}
use Rattle.esx_events.specs.declared.event.Refusal.TheVariants.{NoSuchNode}
use Rattle.esx_model.specs.History.{History}
use Rattle.esx_model.specs.Console.{history, stand_of}
use Rattle.esx_journal.specs.Visits.{Visits}
use Rattle.esx_console.proofs.Reaching.{session_reached}
use Rattle.esx_console.proofs.Branches.{goes, goto_line, goto_told, goto_missed}
use Rattle.esx_console.proofs.laws.goto_line_leads_there.Goals as goal

pub returns-clause-accepted : goal.returns-clause-accepted
returns-clause-accepted c = λ s caller node up.
    let h = history s in
    let g = goes h node up in
    let P : Result History Refusal → Type 0 = λ d. IfOk d (λ after. Visits h after node) in
    let there : Visits h g.0 node = subst P g.1 (c.goto_leads_there.ensures.accepted s.site h node (session_reached s) up) in
    let Q : History → Type 0 = λ t. Visits h t node in
    subst Q (sym (goto_line s caller node g.0 g.1)) there

pub returns-clause-told : goal.returns-clause-told
returns-clause-told c = λ s caller node up. (let g = goes (history s) node up in goto_told s node g.0 g.1 ∙ ap stand_of (sym (goto_line s caller node g.0 g.1)))

pub returns-clause-missing : goal.returns-clause-missing
returns-clause-missing c = λ s node down. goto_missed s node NoSuchNode (c.goto_leads_there.ensures.refused (history s) node down)
