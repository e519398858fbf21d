use Rattle.std.proofs.Common.{◌≡◌, ◌∙◌, sym, ap, ◌-◌, take, Ok}
use Rattle.esx_types.specs.declared.config.Config.{Config}
use Rattle.esx_events.specs.declared.call.Call.TheVariants as calls
use Rattle.esx_model.specs.Replay.{replay_of}
use Rattle.esx_model.specs.History.{History, here, book_at}
use Rattle.esx_model.specs.Console.{history, lined, stand_of}
use Rattle.esx_console.specs.Calls.{depth_of}
use Rattle.esx_console.proofs.Keeps.{history_site}
use Rattle.esx_console.proofs.Logs.{lined_history}
use Rattle.esx_console.proofs.Lines.{undo_after, said_undone, undo_stays, undo_told}
use Rattle.esx_console.proofs.Reaching.{session_reached}
use Rattle.esx_console.proofs.laws.undo_line_shortens.Goals as goal

pub returns-clause-accepted : goal.returns-clause-accepted
returns-clause-accepted c = λ s caller k deep.
    let h = history s in
    let u = c.undo_shortens.ensures.accepted s.site h k (session_reached s) deep in
    let there : history (lined s caller (calls.Undo k)) ≡ u.after = lined_history s caller (calls.Undo k) ∙ undo_after h u.after k u.accepted in
    record {
      told = said_undone s u.after k u.accepted ∙ ap stand_of (sym there);
      events = ap here there ∙ u.events;
      book = ap (λ (x : Config). replay_of x (take (depth_of s - k) (here h))) (sym (history_site s)) ∙ u.book ∙ ap (λ (x : History). Ok (book_at x)) (sym there);
    }

pub returns-clause-told : goal.returns-clause-told
returns-clause-told c = λ s k deep. undo_told s k (c.undo_shortens.ensures.refused (history s) k deep)

pub returns-clause-refused : goal.returns-clause-refused
returns-clause-refused c = λ s caller k deep. undo_stays s caller k (c.undo_shortens.ensures.refused (history s) k deep)
