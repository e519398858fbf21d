use Rattle.std.proofs.Common.{sym, ◌∙◌, ap, subst, ℕ}
use Rattle.esx_model.specs.Console.{Session, history, lined, IsLegal}
use Rattle.esx_console.specs.Console.{IsConsole}
use Rattle.esx_console.proofs.Logs.{keeps_line, kept_lines}
use Rattle.esx_console.proofs.console.Console.call_spelled.Goals as goal

pub invariant_of-self-2 : goal.invariant_of-self-2
invariant_of-self-2 g c =
    let s : Session = record { site = c.self.inside.site; log = g.L.Log.lines c.self.inside.log } in
    let heard = c.in_ok-heard.heard in
    let hears = c.in_ok-heard.ensures.ok (history s) c.self.invariant.journal_holds in
    let lines = kept_lines s _ _ _ c.args.caller c.args.call heard c.counted-jumps.result _ _ c.self.invariant hears c.counted-jumps.ensures
    c.in_ok-take_room.ensures.kept c.note.ensures in
    let P : Session → Type 0 = λ t. IsConsole t c.hear_to_keep.new.journal c.counted-jumps.result in
    let Q : ℕ → Type 0 = λ n. IsConsole (lined s c.args.caller c.args.call) c.hear_to_keep.new.journal n in
    subst P (sym lines) (subst Q (sym c.counted-jumps.ensures) (keeps_line s _ _ _ c.args.caller c.args.call heard c.self.invariant hears))

pub returns-clause-ok : goal.returns-clause-ok
returns-clause-ok g c =
    let s : Session = record { site = c.self.inside.site; log = g.L.Log.lines c.self.inside.log } in
    let heard = c.in_ok-heard.heard in
    let hears = c.in_ok-heard.ensures.ok (history s) c.self.invariant.journal_holds in
    let lines = kept_lines s _ _ _ c.args.caller c.args.call heard c.counted-jumps.result _ _ c.self.invariant hears c.counted-jumps.ensures
    c.in_ok-take_room.ensures.kept c.note.ensures in
    lines ∙ ap (λ t. lined t c.args.caller c.args.call) c.self.view_is

pub returns-clause-legal : goal.returns-clause-legal
returns-clause-legal g c =
    let s : Session = record { site = c.self.inside.site; log = g.L.Log.lines c.self.inside.log } in
    let heard = c.in_ok-heard.heard in
    let hears = c.in_ok-heard.ensures.ok (history s) c.self.invariant.journal_holds in
    let lines = kept_lines s _ _ _ c.args.caller c.args.call heard c.counted-jumps.result _ _ c.self.invariant hears c.counted-jumps.ensures
    c.in_ok-take_room.ensures.kept c.note.ensures in
    subst IsLegal (sym lines) (keeps_line s _ _ _ c.args.caller c.args.call heard c.self.invariant hears).legal
