-- One more line on a legal log.
use Rattle.std.proofs.Common.{◌≡◌, refl, sym, ◌∙◌, ap, subst, ℕ, ◌+◌, ◌≤◌, Bool, true, false, if◌then◌else◌, List, [], ◌∷◌, ◌++◌, length, length-append, arith}
use Rattle.esx_types.specs.Ranges.{IsConfig}
use Rattle.esx_types.specs.declared.config.Config.{Config}
use Rattle.esx_events.specs.declared.call.Call.{Call}
use Rattle.esx_events.specs.declared.call.Reply.{Reply}
use Rattle.esx_events.specs.declared.call.Line.{Line}
use Rattle.esx_model.specs.History.{History, opened}
use Rattle.esx_model.specs.Console.{Session, history, history_from, after, reply_to, next_reply, lined, AreReplies, IsLegal}
use Rattle.esx_journal.specs.Journal.{Kept, Holds}
use Rattle.esx_console.specs.declared.hearing.Heard.{Heard}
use Rattle.esx_console.specs.Hearing.{Hears}
use Rattle.esx_console.specs.Console.{IsConsole}

pub history_end : (h : History) (log : List Line) (x : Line) → history_from h (log ++ x ∷ []) ≡ after (history_from h log) x.call
unfolding history_from
history_end h [] x = refl
history_end h (y ∷ log) x = history_end (after h y.call) log x

pub replies_end : (h : History) (log : List Line) (x : Line) → AreReplies h log → x.reply ≡ reply_to (history_from h log) x.call → AreReplies h (log ++ x ∷ [])
unfolding history_from
replies_end h [] x are is = (is, tt)
replies_end h (y ∷ log) x are is = (are.0, replies_end (after h y.call) log x are.1 is)

-- the reply that is heard is the definition's
pub heard_reply : (s : Session) (journal new : Kept) (jumps : ℕ) (call : Call) (heard : Heard) → IsConsole s journal jumps → Hears new (history s) call heard
    → ◌≡◌ {A = Reply} (record { jumps = jumps + (if heard.jumped then 1 else 0); said = heard.said }) (next_reply s call)
unfolding next_reply
heard_reply s journal new jumps call heard console hears =
    let count : jumps + (if heard.jumped then 1 else 0) ≡ (after (history s) call).jumps = ap (λ n. n + (if heard.jumped then 1 else 0)) console.jumps_are ∙ sym hears.jumps in
    ap (λ n. record { jumps = n; said = heard.said }) count ∙ ap (λ y. record { jumps = (after (history s) call).jumps; said = y }) hears.said_is

-- one more line, as it is heard
pub heard_line : (s : Session) (journal new : Kept) (jumps caller : ℕ) (call : Call) (heard : Heard) → IsConsole s journal jumps → Hears new (history s) call heard
    → ◌≡◌ {A = Session} (record { site = s.site; log = s.log ++ record { caller = caller; call = call; reply = record { jumps = jumps + (if heard.jumped then 1 else 0); said = heard.said } } ∷ [] })
    (lined s caller call)
heard_line s journal new jumps caller call heard console hears =
    ap (λ (r : Reply). record { site = s.site; log = s.log ++ record { caller = caller; call = call; reply = r } ∷ [] })
    (heard_reply s journal new jumps call heard console hears)

pub lined_history : (s : Session) (caller : ℕ) (call : Call) → history (lined s caller call) ≡ after (history s) call
lined_history s caller call = history_end (opened s.site) s.log (record { caller = caller; call = call; reply = next_reply s call })

pub lined_legal : (s : Session) (caller : ℕ) (call : Call) → IsLegal s → IsLegal (lined s caller call)
unfolding next_reply
lined_legal s caller call legal = replies_end (opened s.site) s.log (record { caller = caller; call = call; reply = next_reply s call }) legal refl

few : (jumps lines : ℕ) (jumped : Bool) (more : ℕ) → jumps ≤ lines → more ≡ lines + 1 → jumps + (if jumped then 1 else 0) ≤ more
few jumps lines true more h e = omega (arith, h, e)
few jumps lines false more h e = omega (arith, h, e)

pub keeps_line : (s : Session) (journal new : Kept) (jumps caller : ℕ) (call : Call) (heard : Heard) → IsConsole s journal jumps → Hears new (history s) call heard
    → IsConsole (lined s caller call) new (jumps + (if heard.jumped then 1 else 0))
keeps_line s journal new jumps caller call heard console hears =
    let then_is = lined_history s caller call in
    let P : History → Type 0 = λ h. Holds new h in
    record {
      config = console.config;
      legal = lined_legal s caller call console.legal;
      journal_holds = subst P (sym then_is) hears.holds;
      jumps_are = (ap (λ n. n + (if heard.jumped then 1 else 0)) console.jumps_are ∙ sym hears.jumps) ∙ sym (ap (λ (h : History). h.jumps) then_is);
      jumps_few = few jumps (length s.log) heard.jumped _ console.jumps_few (length-append s.log _);
    }

-- the lines that are kept after a call, given what was pushed and counted
pub kept_lines : (s : Session) (journal new : Kept) (jumps caller : ℕ) (call : Call) (heard : Heard) (count : ℕ) (room items : List Line) → IsConsole s journal jumps
    → Hears new (history s) call heard → count ≡ jumps + (if heard.jumped then 1 else 0) → room ≡ s.log
    → items ≡ room ++ record { caller = caller; call = call; reply = record { jumps = count; said = heard.said } } ∷ []
    → ◌≡◌ {A = Session} (record { site = s.site; log = items }) (lined s caller call)
kept_lines s journal new jumps caller call heard count room items console hears counted same pushed =
    let kept : List Line → ℕ → Session = λ l n. record { site = s.site; log = l ++ record { caller = caller; call = call; reply = record { jumps = n; said = heard.said } } ∷ [] } in
    let step : ◌≡◌ {A = Session} (record { site = s.site; log = items }) (kept room count) = ap (λ l. record { site = s.site; log = l }) pushed in
    step ∙ (ap (λ l. kept l count) same ∙ (ap (λ n. kept s.log n) counted ∙ heard_line s journal new jumps caller call heard console hears))

-- a console as it is opened
pub first_lines : (config : Config) (journal : Kept) → IsConfig config → Holds journal (opened config) → IsConsole (record { site = config; log = [] }) journal 0
unfolding history_from
first_lines config journal checked holds = record { config = checked; legal = tt; journal_holds = holds; jumps_are = refl; jumps_few = omega arith }
