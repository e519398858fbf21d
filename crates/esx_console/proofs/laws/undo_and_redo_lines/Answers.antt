use Rattle.std.proofs.Common.{◌≡◌, ◌∙◌, sym, ap, subst, Some, List, length}
use Rattle.esx_events.specs.declared.event.Event.{Event}
use Rattle.esx_events.specs.declared.call.Call.TheVariants as calls
use Rattle.esx_events.specs.declared.call.Said.TheVariants as said
use Rattle.esx_model.specs.History.{History, cursor, here, redo}
use Rattle.esx_model.specs.Console.{Session, history, lined, stand_of}
use Rattle.esx_journal.specs.Turns.{IsSamePlace}
use Rattle.esx_console.proofs.Logs.{lined_history}
use Rattle.esx_console.proofs.Lines.{undo_after, redo_after, said_redone}
use Rattle.esx_console.proofs.Reaching.{session_reached}
use Rattle.esx_console.proofs.laws.undo_and_redo_lines.Goals as goal

same_stand : (h t : History) → IsSamePlace h t → stand_of t ≡ stand_of h
same_stand h t same = ap (λ n. said.Stand (record { node = n; depth = length (here t) })) same.node ∙ ap (λ (es : List Event). said.Stand (record { node = cursor h; depth = length es })) same.events

pub returns-clause-place : goal.returns-clause-place
returns-clause-place c = λ s caller other k deep.
    let h = history s in
    let u = c.undo_shortens.ensures.accepted s.site h k (session_reached s) deep in
    let m : Session = lined s caller (calls.Undo k) in
    let there : history m ≡ u.after = lined_history s caller (calls.Undo k) ∙ undo_after h u.after k u.accepted in
    let home = c.there_and_back.ensures s.site h u.after k (session_reached s) u.accepted in
    let back : redo k (history m) ≡ Some home.there = ap (redo k) there ∙ home.accepted in
    let P : History → Type 0 = IsSamePlace h in
    subst P (sym (lined_history m other (calls.Redo k) ∙ redo_after (history m) home.there k back)) home.same

pub returns-clause-told : goal.returns-clause-told
returns-clause-told c = λ s caller other k deep.
    let h = history s in
    let u = c.undo_shortens.ensures.accepted s.site h k (session_reached s) deep in
    let m : Session = lined s caller (calls.Undo k) in
    let there : history m ≡ u.after = lined_history s caller (calls.Undo k) ∙ undo_after h u.after k u.accepted in
    let home = c.there_and_back.ensures s.site h u.after k (session_reached s) u.accepted in
    said_redone m home.there k (ap (redo k) there ∙ home.accepted) ∙ same_stand h home.there home.same
