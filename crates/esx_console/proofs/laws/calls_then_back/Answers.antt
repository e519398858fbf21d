use Rattle.std.proofs.Common.{◌∙◌, sym, subst, arith}
use Rattle.std.proofs.lemmas.List.Elements.{recursion_from_All}
use Rattle.esx_events.specs.declared.call.Call.TheVariants as calls
use Rattle.esx_model.specs.History.{History}
use Rattle.esx_model.specs.Console.{Session, history}
use Rattle.esx_journal.specs.Turns.{IsSamePlace}
use Rattle.esx_console.specs.Calls.{Asked, lined_all, TurnsOrAsks}
use Rattle.esx_console.proofs.Logs.{lined_history}
use Rattle.esx_console.proofs.Lines.{all_turns, undo_after, redo_after}
use Rattle.esx_console.proofs.Reaching.{session_reached}
use Rattle.esx_console.proofs.laws.calls_then_back.Goals as goal

pub returns-clause-by_redo : goal.returns-clause-by_redo
returns-clause-by_redo c = λ s asked caller k ok deep.
    let h = history s in
    let m : Session = lined_all s asked in
    let t = all_turns s asked (recursion_from_All (λ (x : Asked). TurnsOrAsks x.call) asked ok) in
    let depth = c.turns_add_up.ensures.depth s.site h (history m) t.0 (session_reached s) t.1 in
    let home = c.turns_lead_back.ensures.by_redo s.site h (history m) t.0 k (session_reached s) t.1 (omega arith) in
    let P : History → Type 0 = IsSamePlace h in
    subst P (sym (lined_history m caller (calls.Redo k) ∙ redo_after (history m) home.there k home.accepted)) home.same

pub returns-clause-by_undo : goal.returns-clause-by_undo
returns-clause-by_undo c = λ s asked caller k ok deep.
    let h = history s in
    let m : Session = lined_all s asked in
    let t = all_turns s asked (recursion_from_All (λ (x : Asked). TurnsOrAsks x.call) asked ok) in
    let depth = c.turns_add_up.ensures.depth s.site h (history m) t.0 (session_reached s) t.1 in
    let home = c.turns_lead_back.ensures.by_undo s.site h (history m) t.0 k (session_reached s) t.1 (omega arith) in
    let P : History → Type 0 = IsSamePlace h in
    subst P (sym (lined_history m caller (calls.Undo k) ∙ undo_after (history m) home.there k home.accepted)) home.same
