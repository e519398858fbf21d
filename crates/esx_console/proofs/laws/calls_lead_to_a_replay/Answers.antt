use Rattle.std.proofs.Common.{◌∙◌, sym, ap}
use Rattle.esx_types.specs.declared.config.Config.{Config}
use Rattle.esx_model.specs.Replay.{replay_of}
use Rattle.esx_model.specs.History.{here}
use Rattle.esx_model.specs.Console.{Session, history}
use Rattle.esx_console.specs.Calls.{opened_session, lined_all}
use Rattle.esx_console.proofs.Lines.{all_site}
use Rattle.esx_console.proofs.Reaching.{session_reached, replayed}
use Rattle.esx_console.proofs.laws.calls_lead_to_a_replay.Goals as goal

pub returns-clause-calls : goal.returns-clause-calls
returns-clause-calls c = λ site asked.
    let s : Session = lined_all (opened_session site) asked in
    let reached = session_reached s in
    ap (λ (k : Config). replay_of k (here (history s))) (sym (all_site (opened_session site) asked))
    ∙ replayed s (c.reached_path_runs.ensures.site s.site (history s) reached) (c.reached_path_runs.ensures.scene s.site (history s) reached)

pub returns-clause-sessions : goal.returns-clause-sessions
returns-clause-sessions c = λ s.
    let reached = session_reached s in
    replayed s (c.reached_path_runs.ensures.site s.site (history s) reached) (c.reached_path_runs.ensures.scene s.site (history s) reached)
