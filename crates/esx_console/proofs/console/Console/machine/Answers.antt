use Rattle.std.proofs.Common.{◌≡◌, ◌∙◌, ap, sym, subst, Ok}
use Rattle.esx_types.specs.declared.config.Config.{Config}
use Rattle.esx_model.specs.Replay.{replay_of}
use Rattle.esx_model.specs.History.{scene_at, here}
use Rattle.esx_model.specs.Console.{Session, history}
use Rattle.esx_machine.specs.Machine as machines
use Rattle.esx_machine.specs.Machine.{Shows, book_in}
use Rattle.esx_console.proofs.Keeps.{history_site}
use Rattle.esx_console.proofs.console.Console.machine.Goals as goal

pub returns-clause-config : goal.returns-clause-config
returns-clause-config g c =
    let s : Session = record { site = c.self.inside.site; log = g.L.Log.lines c.self.inside.log } in
    ap (λ (k : machines.Kept). k.config) (c.machine.ensures.tables (history s) c.self.invariant.journal_holds) ∙ history_site s ∙ ap (λ (t : Session). t.site) c.self.view_is

pub returns-clause-shows : goal.returns-clause-shows
returns-clause-shows g c =
    let s : Session = record { site = c.self.inside.site; log = g.L.Log.lines c.self.inside.log } in
    let P : Session → Type 0 = λ t. Shows c.machine.result.now (scene_at (history t)) in
    subst P c.self.view_is (c.machine.ensures.shows (history s) c.self.invariant.journal_holds)

pub returns-clause-replay : goal.returns-clause-replay
returns-clause-replay g c =
    let s : Session = record { site = c.self.inside.site; log = g.L.Log.lines c.self.inside.log } in
    let P : Session → Type 0 = λ t. replay_of t.site (here (history t)) ≡ Ok (book_in c.machine.result.now) in
    subst P c.self.view_is (ap (λ (k : Config). replay_of k (here (history s))) (sym (history_site s)) ∙ c.machine.ensures.replay (history s) c.self.invariant.journal_holds)
