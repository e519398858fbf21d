use Rattle.std.proofs.Common.{refl, sym, []}
use Rattle.std.proofs.lemmas.List.Elements.{recursion_from_All}
use Rattle.esx_model.specs.Console.{history}
use Rattle.esx_console.specs.Calls.{Asked, lined_all, TurnsOrAsks}
use Rattle.esx_console.proofs.Lines.{all_turns}
use Rattle.esx_console.proofs.Reaching.{session_reached}
use Rattle.esx_journal.specs.Turns.{turned}
use Rattle.esx_console.proofs.laws.calls_that_cancel.Goals as goal

pub returns : goal.returns
unfolding turned
returns c = λ s asked ok deep.
    let t = all_turns s asked (recursion_from_All (λ (x : Asked). TurnsOrAsks x.call) asked ok) in
    c.turns_meet.ensures s.site (history s) (history s) (history (lined_all s asked)) [] t.0 (session_reached s) refl t.1 (sym deep)
