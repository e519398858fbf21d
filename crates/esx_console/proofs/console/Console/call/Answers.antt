use Rattle.std.proofs.Common.{◌≡◌, sym, ◌∙◌, ap, subst, ℕ}
use Rattle.esx_events.specs.declared.call.Reply.{Reply}
use Rattle.esx_model.specs.Console.{Session, history, next_reply, lined, IsLegal}
use Rattle.esx_console.specs.declared.hearing.Heard.{Heard}
use Rattle.esx_console.specs.Console.{IsConsole}
use Rattle.esx_console.proofs.Logs.{heard_reply, keeps_line, kept_lines}
use Rattle.esx_console.proofs.Twice.{by_copy}
use Rattle.esx_console.proofs.console.Console.call.Goals as goal

pub invariant_of-self-2 : goal.invariant_of-self-2
invariant_of-self-2 g c =
    let s : Session = record { site = c.self.inside.site; log = g.L.Log.lines c.self.inside.log } in
    let heard : Heard = record { said = c.in_ok-heard.copy.said; jumped = c.in_ok-heard.heard.jumped } in
    let both = c.in_ok-heard.ensures.ok (history s) c.self.invariant.journal_holds in
    let hears = by_copy _ _ c.args.call c.in_ok-heard.heard c.in_ok-heard.copy both.0 both.1 in
    let lines = kept_lines s _ _ _ c.args.caller c.args.call heard c.counted-jumps.result _ _ c.self.invariant hears c.counted-jumps.ensures
    c.in_ok-take_room.ensures.kept c.note.ensures in
    let P : Session → Type 0 = λ t. IsConsole t c.hear_twice.new.journal c.counted-jumps.result in
    let Q : ℕ → Type 0 = λ n. IsConsole (lined s c.args.caller c.args.call) c.hear_twice.new.journal n in
    subst P (sym lines) (subst Q (sym c.counted-jumps.ensures) (keeps_line s _ _ _ c.args.caller c.args.call heard c.self.invariant hears))

pub returns-clause-ok : goal.returns-clause-ok
returns-clause-ok g c =
    let s : Session = record { site = c.self.inside.site; log = g.L.Log.lines c.self.inside.log } in
    let heard : Heard = record { said = c.in_ok-heard.copy.said; jumped = c.in_ok-heard.heard.jumped } in
    let both = c.in_ok-heard.ensures.ok (history s) c.self.invariant.journal_holds in
    let hears = by_copy _ _ c.args.call c.in_ok-heard.heard c.in_ok-heard.copy both.0 both.1 in
    let said = c.in_ok-heard.heard.said in
    let count : ◌≡◌ {A = Reply} (record { jumps = c.counted-jumps.result; said = said }) _ = ap (λ n. record { jumps = n; said = said }) c.counted-jumps.ensures in
    let lines = kept_lines s _ _ _ c.args.caller c.args.call heard c.counted-jumps.result _ _ c.self.invariant hears c.counted-jumps.ensures
    c.in_ok-take_room.ensures.kept c.note.ensures in (
      count ∙ (heard_reply s _ _ _ c.args.call c.in_ok-heard.heard c.self.invariant both.0 ∙ ap (λ t. next_reply t c.args.call) c.self.view_is),
      lines ∙ ap (λ t. lined t c.args.caller c.args.call) c.self.view_is,
    )

pub returns-clause-legal : goal.returns-clause-legal
returns-clause-legal g c =
    let s : Session = record { site = c.self.inside.site; log = g.L.Log.lines c.self.inside.log } in
    let heard : Heard = record { said = c.in_ok-heard.copy.said; jumped = c.in_ok-heard.heard.jumped } in
    let both = c.in_ok-heard.ensures.ok (history s) c.self.invariant.journal_holds in
    let hears = by_copy _ _ c.args.call c.in_ok-heard.heard c.in_ok-heard.copy both.0 both.1 in
    let lines = kept_lines s _ _ _ c.args.caller c.args.call heard c.counted-jumps.result _ _ c.self.invariant hears c.counted-jumps.ensures
    c.in_ok-take_room.ensures.kept c.note.ensures in
    subst IsLegal (sym lines) (keeps_line s _ _ _ c.args.caller c.args.call heard c.self.invariant hears).legal
