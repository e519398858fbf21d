-- A log that is told, and gone through again.
use Rattle.std.proofs.Common.{◌≡◌, ℕ, List, [], ◌∷◌, ◌++◌, refl, sym, ◌∙◌, ap, subst, append_assoc, append-nil, length, map}
use Rattle.std.proofs.lemmas.List.{length-map}
use Rattle.std.proofs.lemmas.Simd.{map-map}
use Rattle.esx_types.specs.declared.config.Config.{Config}
use Rattle.esx_events.specs.declared.call.Call.{Call}
use Rattle.esx_events.specs.declared.call.Line.{Line}
use Rattle.esx_model.specs.History.{History, opened}
use Rattle.esx_model.specs.Console.{Session, history, history_from, after, next_reply, lined, AreReplies, IsLegal}
use Rattle.esx_console.specs.Calls.{opened_session, lined_all}
use Rattle.esx_session.specs.declared.session.Entry.{Entry}
use Rattle.esx_session.specs.Sessions.{logged}
use Rattle.esx_check.specs.declared.check.Checked.{Checked}
use Rattle.esx_check.specs.declared.check.Checked.TheVariants.{Same}
use Rattle.esx_check.specs.Again.{asked, made, replies_again}
use Rattle.esx_check.specs.Checks.{Checks, replies_told}
use Rattle.esx_check.proofs.AgainLemmas.{text_of}

history_end : (h : History) (log : List Line) (x : Line) → history_from h (log ++ x ∷ []) ≡ after (history_from h log) x.call
unfolding history_from
history_end h [] x = refl
history_end h (y ∷ log) x = history_end (after h y.call) log x

lined_history : (s : Session) (caller : ℕ) (call : Call) → history (lined s caller call) ≡ after (history s) call
lined_history s caller call = history_end (opened s.site) s.log (record { caller = caller; call = call; reply = next_reply s call })

-- lines whose replies are right are the lines of their calls
lines_again : (site : Config) (log later : List Line) → AreReplies (history (record { site = site; log = log })) later
    → lined_all (record { site = site; log = log }) (map asked (map logged later)) ≡ record { site = site; log = log ++ later }
unfolding lined_all next_reply
lines_again site log [] are = ap (λ l. record { site = site; log = l }) (sym (append-nil log))
lines_again site log (x ∷ later) are =
    let s : Session = record { site = site; log = log } in
    let line : Line = record { caller = x.caller; call = x.call; reply = next_reply s x.call } in
    let same : line ≡ x = ap (λ r. record { caller = x.caller; call = x.call; reply = r }) (sym are.0) in
    let P : History → Type 0 = λ h. AreReplies h later in
    lines_again site (log ++ line ∷ []) later (subst P (sym (lined_history s x.caller x.call)) are.1)
    ∙ ap (λ l. record { site = site; log = l }) (append_assoc log (line ∷ []) later ∙ ap (λ y. log ++ y ∷ later) same)

made_of_log : (s : Session) → IsLegal s → made s.site (map logged s.log) ≡ s
unfolding made history_from
made_of_log s legal = lines_again s.site [] s.log legal

pub told_is_same : (s : Session) → IsLegal s → Checks s.site (map logged s.log) (Same (length s.log))
told_is_same s legal = (
  sym (length-map s.log logged),
  ap (λ (t : Session). map text_of t.log) (made_of_log s legal) ∙ sym (map-map (λ (e : Entry). e.reply) logged s.log),
)

-- the lines that calls add, and what is told of them where their replies are those that stand with the calls
record Adds (s : Session) (entries : List Entry) : Type 0 where
  later : List Line
  log : (lined_all s (map asked entries)).log ≡ s.log ++ later
  told : map text_of later ≡ replies_told entries → map logged later ≡ entries

told_more : (line : Line) (later : List Line) (e : Entry) (entries : List Entry) → line.caller ≡ e.caller → line.call ≡ e.call
    → (map text_of later ≡ replies_told entries → map logged later ≡ entries)
    → map text_of (line ∷ later) ≡ replies_told (e ∷ entries) → map logged (line ∷ later) ≡ e ∷ entries
told_more line later e entries caller call told same =
    let first : text_of line ≡ e.reply = cc in
    let others : map text_of later ≡ replies_told entries = cc in
    let head : logged line ≡ e = ap (λ n. record { caller = n; call = line.call; reply = text_of line }) caller
    ∙ ap (λ c. record { caller = e.caller; call = c; reply = text_of line }) call ∙ ap (λ r. record { caller = e.caller; call = e.call; reply = r }) first in
    ap (λ x. x ∷ map logged later) head ∙ ap (λ xs. e ∷ xs) (told others)

adds : (s : Session) (entries : List Entry) → Adds s entries
unfolding lined_all
adds s [] = record { later = []; log = sym (append-nil s.log); told = λ _. refl }
adds s (e ∷ entries) =
    let line : Line = record { caller = e.caller; call = e.call; reply = next_reply s e.call } in
    let more = adds (lined s e.caller e.call) entries in
    record {
      later = line ∷ more.later;
      log = more.log ∙ append_assoc s.log (line ∷ []) more.later;
      told = told_more line more.later e entries refl refl more.told;
    }

pub same_is_told : (site : Config) (entries : List Entry) → replies_again site entries ≡ replies_told entries → map logged (made site entries).log ≡ entries
unfolding made
same_is_told site entries same =
    let added = adds (opened_session site) entries in
    ap (map logged) added.log ∙ added.told (sym (ap (map text_of) added.log) ∙ same)

pub read_is_same : (s : Session) (site : Config) (entries : List Entry) (checked : Checked)
    → Checks s.site (map logged s.log) (Same (length s.log)) → (site ≡ s.site) × (entries ≡ map logged s.log)
    → ((c d : Checked) → Checks s.site (map logged s.log) c → Checks s.site (map logged s.log) d → c ≡ d)
    → Checks site entries checked → checked ≡ Same (length s.log)
read_is_same s site entries checked same is one checks = one checked (Same (length s.log)) (rw (is.0, is.1) at checks) same
