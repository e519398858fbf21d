use Rattle.std.proofs.Common.{◌∙◌, sym, ap, subst}
use Rattle.esx_events.specs.declared.call.Call.TheVariants as calls
use Rattle.esx_model.specs.History.{History}
use Rattle.esx_model.specs.Console.{history, stand_of}
use Rattle.esx_journal.specs.Turns.{Lengthens}
use Rattle.esx_console.proofs.Logs.{lined_history}
use Rattle.esx_console.proofs.Lines.{redo_after, redo_goes, said_redone, redo_stays}
use Rattle.esx_console.proofs.Reaching.{session_reached}
use Rattle.esx_console.proofs.laws.redo_line_lengthens.Goals as goal

pub returns-clause-accepted : goal.returns-clause-accepted
returns-clause-accepted c = λ s caller k told.
    let h = history s in
    let t = redo_goes s k told in
    let P : History → Type 0 = λ x. Lengthens h x k in
    subst P (sym (lined_history s caller (calls.Redo k) ∙ redo_after h t.0 k t.1)) (c.redo_lengthens.ensures s.site h t.0 k (session_reached s) t.1)

pub returns-clause-told : goal.returns-clause-told
returns-clause-told c = λ s caller k told.
    let t = redo_goes s k told in
    said_redone s t.0 k t.1 ∙ ap stand_of (sym (lined_history s caller (calls.Redo k) ∙ redo_after (history s) t.0 k t.1))

pub returns-clause-refused : goal.returns-clause-refused
returns-clause-refused c = λ s caller k told. redo_stays s caller k told
