-- What is kept after a call where no log is.
use Rattle.std.proofs.Common.{◌≡◌, refl, sym, ◌∙◌, ap, subst, ℕ, ◌+◌, ◌≤◌, Bool, true, false, if◌then◌else◌, arith}
use Rattle.esx_types.specs.Ranges.{IsConfig}
use Rattle.esx_types.specs.declared.config.Config.{Config}
use Rattle.esx_events.specs.declared.call.Call.{Call}
use Rattle.esx_events.specs.declared.call.Reply.{Reply}
use Rattle.esx_model.specs.History.{History, opened}
use Rattle.esx_model.specs.Console.{Session, history, history_from, after, next_reply, lined}
use Rattle.esx_journal.specs.Journal as journals
use Rattle.esx_journal.specs.Journal.{Holds}
use Rattle.esx_console.specs.declared.hearing.Heard.{Heard}
use Rattle.esx_console.specs.Hearing.{Hears}
use Rattle.esx_console.specs.Calls.{opened_session}
use Rattle.esx_console.specs.Unlogged.{Kept, AnswersAs}
use Rattle.esx_console.proofs.Logs.{lined_history}

-- the jumps are counted on as the definition's
counted_on : (s : Session) (kept : Kept) (new : journals.Kept) (call : Call) (heard : Heard) (count : ℕ) → AnswersAs kept s → Hears new (history s) call heard
    → count ≡ kept.jumps + (if heard.jumped then 1 else 0) → count ≡ (after (history s) call).jumps
counted_on s kept new call heard count answers hears counted = counted ∙ ap (λ n. n + (if heard.jumped then 1 else 0)) answers.jumps_are ∙ sym hears.jumps

-- the reply that is heard is the definition's
pub told_reply : (s : Session) (kept : Kept) (new : journals.Kept) (call : Call) (heard : Heard) (count : ℕ) → AnswersAs kept s → Hears new (history s) call heard
    → count ≡ kept.jumps + (if heard.jumped then 1 else 0) → ◌≡◌ {A = Reply} (record { jumps = count; said = heard.said }) (next_reply s call)
unfolding next_reply
told_reply s kept new call heard count answers hears counted =
    ap (λ n. record { jumps = n; said = heard.said }) (counted_on s kept new call heard count answers hears counted)
    ∙ ap (λ y. record { jumps = (after (history s) call).jumps; said = y }) hears.said_is

-- and what is kept is what a session with one more line leads to
pub answers_on : (s : Session) (kept : Kept) (new : journals.Kept) (caller : ℕ) (call : Call) (heard : Heard) (count : ℕ) → AnswersAs kept s → Hears new (history s) call heard
    → count ≡ kept.jumps + (if heard.jumped then 1 else 0) → AnswersAs (record { journal = new; jumps = count }) (lined s caller call)
answers_on s kept new caller call heard count answers hears counted =
    let then_is = lined_history s caller call in
    let P : History → Type 0 = λ h. Holds new h in
    record {
      config = answers.config;
      journal_holds = subst P (sym then_is) hears.holds;
      jumps_are = counted_on s kept new call heard count answers hears counted ∙ sym (ap (λ (h : History). h.jumps) then_is);
    }

-- a journal that did not change answers as it did
pub answers_still : (s : Session) (old new : journals.Kept) (jumps : ℕ) → AnswersAs (record { journal = old; jumps = jumps }) s → new ≡ old
    → AnswersAs (record { journal = new; jumps = jumps }) s
answers_still s old new jumps answers same = rw same answers

pub at_most_one : (jumps count : ℕ) (jumped : Bool) → count ≡ jumps + (if jumped then 1 else 0) → count ≤ jumps + 1
at_most_one jumps count true e = omega arith
at_most_one jumps count false e = omega arith

-- a site as it is opened
pub first_answers : (site : Config) (journal : journals.Kept) → IsConfig site → Holds journal (opened site) → AnswersAs (record { journal = journal; jumps = 0 }) (opened_session site)
unfolding history_from
first_answers site journal checked holds = record { config = checked; journal_holds = holds; jumps_are = refl }
