-- What is done with a file and with streams, by the word that asks for it.
use Rattle.std.proofs.Common.{◌≡◌, ◌⊎◌, ap, subst, cond, nat_le, length, Bool, true, false, ◌+◌, ℕ, List, [], Option, Some, None, Result, Ok, Err, refl, inl, inr, arith}
use Rattle.std.specs.Prelude.{codes, IsSome}
use Rattle.std.specs.Option.{ok_or}
use Rattle.std.specs.Result.{IfOk, IfErr, IsErrOf, OnOk}
use Rattle.std.specs.IoError.{error_kind}
use Rattle.std.specs.Io.KnownBytes.{Appends}
use Rattle.std.specs.declared.io.ErrorKind.{ErrorKind}
use Rattle.std.specs.declared.io.ErrorKind.TheVariants as kind
use Rattle.clap.specs.Words.{Text as Word}
use Rattle.esx_types.specs.declared.config.Config.{Config}
use Rattle.esx_reading.specs.declared.fault.TextFault.{TextFault}
use Rattle.esx_reading.specs.declared.fault.TextFault.TheVariants as text
use Rattle.esx_session.specs.declared.session.Entry.{Entry}
use Rattle.esx_text.specs.States.{SinkState, SourceState}
use Rattle.esx_check.specs.Replays.{replay_text, write_faults}
use Rattle.esx_check.specs.declared.fault.OutputFault.{OutputFault}
use Rattle.esx_check.specs.declared.fault.OutputFault.TheVariants as output
use Rattle.esx_events.specs.declared.event.Refusal.{Refusal}
use Rattle.esx_events.specs.declared.event.Refusal.TheVariants as refusals
use Rattle.esx_model.specs.History.{History}
use Rattle.esx_model.specs.Console.{history}
use Rattle.esx_check.specs.Again.{made}
use Rattle.esx_paths.specs.declared.at.At.{At}
use Rattle.esx_paths.specs.declared.at.At.TheVariants.{End, Node, Name}
use Rattle.esx_paths.specs.declared.path.Path.{Path}
use Rattle.esx_paths.specs.Ats.{node_at}
use Rattle.esx_reports.specs.declared.fault.ReportFault.{ReportFault}
use Rattle.esx_reports.specs.declared.fault.ReportFault.TheVariants as report
use Rattle.esx_reports.specs.declared.question.Question.{Question}
use Rattle.esx_reports.specs.declared.question.What.{What}
use Rattle.esx_reports.specs.declared.question.What.TheVariants as whats
use Rattle.esx_program.specs.declared.words.Asked.{Asked}
use Rattle.esx_program.specs.declared.words.Asked.TheVariants.{Console, Record, Run as RunOf, Replay, Check, Diff, Migrate, Report as ReportOf, Help}
use Rattle.esx_program.specs.declared.Done.{Done}
use Rattle.esx_program.specs.declared.Done.TheVariants.{Served, Recorded, Ran, Replayed, Checked, Compared, Migrated, Answered, Helped}
use Rattle.esx_program.specs.declared.Failure.{Failure}
use Rattle.esx_program.specs.declared.Failure.TheVariants.{Words, Text, Serve, Output, Run, Report}
use Rattle.esx_program.specs.Doing.{Does, EndsCheck, EndsDiff, LacksSite}
use Rattle.esx_reports.specs.Answers.{HasNoAnswer, LacksPage}
use Rattle.esx_reports.specs.Telling.{IsUnanswered}
use Rattle.esx_program.specs.Reporting.{EndsReport, TellsAnswer, TellsNoAnswer}
use Rattle.esx_program.specs.Failing.{AnswersQuestion, LacksAnswer, MayFail, WantsScenario, WantsSession}
use Rattle.esx_program.specs.Files.{HasText, HasLongText, LacksCheck, LacksLongText, LacksScenario, LacksSession, Opened}
use Rattle.esx_program.specs.Given.{open_fault}
use Rattle.esx_program.specs.Sessions.{GivenOut, IsNotReplayed, IsReplayed, ReplayEnds}
use Rattle.esx_program.specs.Status.{IsNotChecked, TellsCheck, TellsDiff, TellsNoCheck, TellsNoDiff, word_of_done, word_of_what}
use Rattle.esx_program.specs.Words.{asked_of, question_of}
use Rattle.esx_program.proofs.FileLemmas.{text_refused}
use Rattle.esx_program.proofs.SessionLemmas.{faults_of}

module _ {A : Type 0} (asked : Word × Option A) (some : IsSome asked.1) where
  -- a file that could not be opened
  unopened_may_fail : (k : ErrorKind) → MayFail asked (Text (open_fault k))
  unopened_may_fail kind.OutOfMemory = some
  unopened_may_fail _ = some

  -- a fault of a scenario that is named
  no_scenario_may_fail : (read : Opened) (e : TextFault) → WantsScenario asked → LacksScenario read e → MayFail asked (Text e)
  no_scenario_may_fail (Err error) e word n = rw n (unopened_may_fail (error_kind error))
  no_scenario_may_fail (Ok states) text.NotToml word n = (some, word)
  no_scenario_may_fail (Ok states) (text.BadKey path) word n = (some, word)
  no_scenario_may_fail (Ok states) (text.BadLine k) word n = absurd n
  no_scenario_may_fail (Ok states) text.NotText word n = some
  no_scenario_may_fail (Ok states) (text.Differs k) word n = absurd n
  no_scenario_may_fail (Ok states) text.Read word n = some
  no_scenario_may_fail (Ok states) text.Write word n = absurd n
  no_scenario_may_fail (Ok states) text.OutOfMemory word n = some

  -- a fault of a session that is named
  no_session_may_fail : (read : Opened) (e : TextFault) → WantsSession asked → LacksSession read e → MayFail asked (Text e)
  no_session_may_fail (Err error) e word n = rw n (unopened_may_fail (error_kind error))
  no_session_may_fail (Ok states) text.NotToml word n = absurd n
  no_session_may_fail (Ok states) (text.BadKey path) word n = absurd n
  no_session_may_fail (Ok states) (text.BadLine k) word n = (some, word)
  no_session_may_fail (Ok states) text.NotText word n = some
  no_session_may_fail (Ok states) (text.Differs k) word n = absurd n
  no_session_may_fail (Ok states) text.Read word n = some
  no_session_may_fail (Ok states) text.Write word n = absurd n
  no_session_may_fail (Ok states) text.OutOfMemory word n = some

  -- the same where it is checked
  no_check_may_fail : (read : Opened) (e : TextFault) → WantsSession asked → LacksCheck read e → MayFail asked (Text e)
  no_check_may_fail (Err error) e word n = rw n (unopened_may_fail (error_kind error))
  no_check_may_fail (Ok states) text.NotToml word n = absurd n
  no_check_may_fail (Ok states) (text.BadKey path) word n = absurd n
  no_check_may_fail (Ok states) (text.BadLine k) word n = (some, word)
  no_check_may_fail (Ok states) text.NotText word n = some
  no_check_may_fail (Ok states) (text.Differs k) word n = absurd n
  no_check_may_fail (Ok states) text.Read word n = some
  no_check_may_fail (Ok states) text.Write word n = absurd n
  no_check_may_fail (Ok states) text.OutOfMemory word n = some

module _ {A : Type 0} (asked : Word × Option A) (some : IsSome asked.1) where
  -- and a fault of a long text
  no_long_text_may_fail : (read : Opened) (e : TextFault) → LacksLongText read e → MayFail asked (Text e)
  no_long_text_may_fail (Err error) e n = rw n (unopened_may_fail asked some (error_kind error))
  no_long_text_may_fail (Ok states) text.NotToml n = absurd n
  no_long_text_may_fail (Ok states) (text.BadKey path) n = absurd n
  no_long_text_may_fail (Ok states) (text.BadLine k) n = absurd n
  no_long_text_may_fail (Ok states) text.NotText n = some
  no_long_text_may_fail (Ok states) (text.Differs k) n = absurd n
  no_long_text_may_fail (Ok states) text.Read n = some
  no_long_text_may_fail (Ok states) text.Write n = absurd n
  no_long_text_may_fail (Ok states) text.OutOfMemory n = some

-- each question is asked by one of two words
asks_question : (what : What) → (word_of_what what ≡ codes "report") ⊎ (word_of_what what ≡ codes "why")
asks_question whats.Report = inl refl
asks_question (whats.Table table) = inl refl
asks_question whats.Changes = inl refl
asks_question whats.Steps = inl refl
asks_question (whats.Why vm page) = inr refl

-- Why a question has no answer.

no_name : (o : Option ℕ) (r : Refusal) (word : Word) → ok_or o refusals.NoSuchName ≡ Err r → LacksAnswer word (report.Refused r)
no_name None r word is = (let same : refusals.NoSuchName ≡ r = cc in subst (λ (e : Refusal). LacksAnswer word (report.Refused e)) same tt)
no_name (Some n) r word is = cc

no_node : (at : At) (h : History) (r : Refusal) (word : Word) → node_at at h ≡ Err r → LacksAnswer word (report.Refused r)
no_node End h r word is = cc
no_node (Node n) h r word is = of (nat_le n (length h.nodes)) is
  where
    of : (b : Bool) → cond b (Ok n) (Err refusals.NoSuchNode) ≡ Err r → LacksAnswer word (report.Refused r)
    of true is = cc
    of false is = (let same : refusals.NoSuchNode ≡ r = cc in subst (λ (e : Refusal). LacksAnswer word (report.Refused e)) same tt)
no_node (Name name) h r word is = no_name _ r word is

no_page : (site : Config) (entries : List Entry) (way : Path) (vm : ℕ) (page : Option ℕ) (r : Refusal) → LacksPage site entries way vm page r → LacksAnswer (codes "why") (report.Refused r)
no_page site entries way vm page refusals.NoVm is = refl
no_page site entries way vm page refusals.VmThere is = absurd is
no_page site entries way vm page refusals.BadSpec is = absurd is
no_page site entries way vm page refusals.NoMemoryReserve is = absurd is
no_page site entries way vm page refusals.NoSwapReserve is = absurd is
no_page site entries way vm page refusals.NotRunning is = absurd is
no_page site entries way vm page refusals.OutOfRange is = refl
no_page site entries way vm page refusals.Held is = absurd is
no_page site entries way vm page refusals.Short is = absurd is
no_page site entries way vm page refusals.OverGoal is = absurd is
no_page site entries way vm page refusals.NotLent is = absurd is
no_page site entries way vm page refusals.LentAlready is = absurd is
no_page site entries way vm page (refusals.NotNow level) is = absurd is
no_page site entries way vm page refusals.AtTarget is = absurd is
no_page site entries way vm page refusals.NotResident is = absurd is
no_page site entries way vm page refusals.BadWords is = absurd is
no_page site entries way vm page refusals.NotNeeded is = absurd is
no_page site entries way vm page refusals.PagesLeft is = absurd is
no_page site entries way vm page refusals.NothingToUndo is = absurd is
no_page site entries way vm page refusals.NothingToRedo is = absurd is
no_page site entries way vm page refusals.NoSuchNode is = tt
no_page site entries way vm page refusals.NameTaken is = absurd is
no_page site entries way vm page refusals.NoSuchName is = tt
no_page site entries way vm page refusals.OnPath is = absurd is
no_page site entries way vm page refusals.Full is = absurd is
no_page site entries way vm page refusals.OutOfMemory is = absurd is
no_page site entries way vm page refusals.SampleOpen is = absurd is

no_answer : (what : What) (site : Config) (entries : List Entry) (way : Path) (r : Refusal) → HasNoAnswer what site entries way (report.Refused r) → LacksAnswer (word_of_what what) (report.Refused r)
no_answer whats.Report site entries way r is = cc
no_answer (whats.Table table) site entries way r is = cc
no_answer whats.Changes site entries way r is = cc
no_answer whats.Steps site entries way r is = cc
no_answer (whats.Why vm page) site entries way r is = no_page site entries way vm page r is

no_text_lacked : (what : What) (site : Config) (entries : List Entry) (way : Path) (e : TextFault) → HasNoAnswer what site entries way (report.Text e) → ⊥
no_text_lacked whats.Report site entries way e is = cc
no_text_lacked (whats.Table table) site entries way e is = cc
no_text_lacked whats.Changes site entries way e is = cc
no_text_lacked whats.Steps site entries way e is = cc
no_text_lacked (whats.Why vm page) site entries way e is = cc

text_may_lack : (q : Question) (bytes : List ℕ) (e : TextFault) → IsUnanswered bytes q (report.Text e) → LacksAnswer (word_of_what q.what) (report.Text e)
text_may_lack q bytes text.NotToml (inl none) = absurd none
text_may_lack q bytes text.NotToml (inr lacks) = absurd (no_text_lacked q.what lacks.meant.site lacks.meant.entries lacks.way text.NotToml lacks.none)
text_may_lack q bytes (text.BadKey path) (inl none) = absurd none
text_may_lack q bytes (text.BadKey path) (inr lacks) = absurd (no_text_lacked q.what lacks.meant.site lacks.meant.entries lacks.way (text.BadKey path) lacks.none)
text_may_lack q bytes text.NotText (inl none) = absurd none
text_may_lack q bytes text.NotText (inr lacks) = absurd (no_text_lacked q.what lacks.meant.site lacks.meant.entries lacks.way text.NotText lacks.none)
text_may_lack q bytes (text.Differs k) (inl none) = absurd none
text_may_lack q bytes (text.Differs k) (inr lacks) = absurd (no_text_lacked q.what lacks.meant.site lacks.meant.entries lacks.way (text.Differs k) lacks.none)
text_may_lack q bytes text.Read (inl none) = absurd none
text_may_lack q bytes text.Read (inr lacks) = absurd (no_text_lacked q.what lacks.meant.site lacks.meant.entries lacks.way text.Read lacks.none)
text_may_lack q bytes text.Write (inl none) = absurd none
text_may_lack q bytes text.Write (inr lacks) = absurd (no_text_lacked q.what lacks.meant.site lacks.meant.entries lacks.way text.Write lacks.none)
text_may_lack q bytes (text.BadLine n) none = tt
text_may_lack q bytes text.OutOfMemory none = tt

refusal_may_lack : (q : Question) (bytes : List ℕ) (r : Refusal) → IsUnanswered bytes q (report.Refused r) → LacksAnswer (word_of_what q.what) (report.Refused r)
refusal_may_lack q bytes r (inl none) = no_node q.at (history (made none.0 none.1)) r (word_of_what q.what) none.3
refusal_may_lack q bytes r (inr lacks) = no_answer q.what lacks.meant.site lacks.meant.entries lacks.way r lacks.none

may_lack : (q : Question) (bytes : List ℕ) (e : ReportFault) (out out' : SinkState) → TellsNoAnswer bytes q (Report e) out out' → LacksAnswer (word_of_what q.what) e
may_lack q bytes (report.Text e) out out' none = text_may_lack q bytes e none.0
may_lack q bytes (report.Differs number) out out' none = tt
may_lack q bytes (report.Refused r) out out' none = refusal_may_lack q bytes r none.0
may_lack q bytes (report.Output e) out out' none = tt

no_site_may_fail : (word : Word) → (word ≡ codes "console") ⊎ ((word ≡ codes "record") ⊎ (word ≡ codes "run")) → (file : Option Opened) (e : TextFault) → LacksSite file e
    → MayFail {A = Opened} (word, file) (Text e)
no_site_may_fail word is None e n = absurd n
no_site_may_fail word is (Some read) e n = no_scenario_may_fail (word, Some read) refl read e is n

module _ (unread left : SourceState) (errors errors' out out' : SinkState) where
  -- what was done is what is asked for
  pub does_word : (asked : Asked Opened) (ended : Result Done Failure) → Does asked ended unread left errors errors' out out'
      → IfOk ended (λ done. word_of_done done ≡ (asked_of asked).0)
  does_word (Console file manner) (Ok Served) d = refl
  does_word (Console file manner) (Ok Recorded) d = absurd d.0
  does_word (Console file manner) (Ok Ran) d = absurd d.0
  does_word (Console file manner) (Ok Replayed) d = absurd d.0
  does_word (Console file manner) (Ok (Checked c)) d = absurd d.0
  does_word (Console file manner) (Ok (Compared c)) d = absurd d.0
  does_word (Console file manner) (Ok (Migrated c)) d = absurd d.0
  does_word (Console file manner) (Ok (Answered what)) d = absurd d.0
  does_word (Console file manner) (Ok Helped) d = absurd d.0
  does_word (Record file) (Ok Served) d = absurd d
  does_word (Record file) (Ok Recorded) d = refl
  does_word (Record file) (Ok Ran) d = absurd d
  does_word (Record file) (Ok Replayed) d = absurd d
  does_word (Record file) (Ok (Checked c)) d = absurd d
  does_word (Record file) (Ok (Compared c)) d = absurd d
  does_word (Record file) (Ok (Migrated c)) d = absurd d
  does_word (Record file) (Ok (Answered what)) d = absurd d
  does_word (Record file) (Ok Helped) d = absurd d
  does_word (RunOf file) (Ok Served) d = absurd d.0
  does_word (RunOf file) (Ok Recorded) d = absurd d.0
  does_word (RunOf file) (Ok Ran) d = refl
  does_word (RunOf file) (Ok Replayed) d = absurd d.0
  does_word (RunOf file) (Ok (Checked c)) d = absurd d.0
  does_word (RunOf file) (Ok (Compared c)) d = absurd d.0
  does_word (RunOf file) (Ok (Migrated c)) d = absurd d.0
  does_word (RunOf file) (Ok (Answered what)) d = absurd d.0
  does_word (RunOf file) (Ok Helped) d = absurd d.0
  does_word (Replay file) (Ok Served) d = absurd d.0
  does_word (Replay file) (Ok Recorded) d = absurd d.0
  does_word (Replay file) (Ok Ran) d = absurd d.0
  does_word (Replay file) (Ok Replayed) d = refl
  does_word (Replay file) (Ok (Checked c)) d = absurd d.0
  does_word (Replay file) (Ok (Compared c)) d = absurd d.0
  does_word (Replay file) (Ok (Migrated c)) d = absurd d.0
  does_word (Replay file) (Ok (Answered what)) d = absurd d.0
  does_word (Replay file) (Ok Helped) d = absurd d.0
  does_word (Check file) (Ok Served) d = absurd d.0
  does_word (Check file) (Ok Recorded) d = absurd d.0
  does_word (Check file) (Ok Ran) d = absurd d.0
  does_word (Check file) (Ok Replayed) d = absurd d.0
  does_word (Check file) (Ok (Checked c)) d = refl
  does_word (Check file) (Ok (Compared c)) d = absurd d.0
  does_word (Check file) (Ok (Migrated c)) d = absurd d.0
  does_word (Check file) (Ok (Answered what)) d = absurd d.0
  does_word (Check file) (Ok Helped) d = absurd d.0
  does_word (Diff file) (Ok Served) d = absurd d.0
  does_word (Diff file) (Ok Recorded) d = absurd d.0
  does_word (Diff file) (Ok Ran) d = absurd d.0
  does_word (Diff file) (Ok Replayed) d = absurd d.0
  does_word (Diff file) (Ok (Checked c)) d = absurd d.0
  does_word (Diff file) (Ok (Compared c)) d = refl
  does_word (Diff file) (Ok (Migrated c)) d = absurd d.0
  does_word (Diff file) (Ok (Answered what)) d = absurd d.0
  does_word (Diff file) (Ok Helped) d = absurd d.0
  does_word (Migrate file) (Ok Served) d = absurd d.0
  does_word (Migrate file) (Ok Recorded) d = absurd d.0
  does_word (Migrate file) (Ok Ran) d = absurd d.0
  does_word (Migrate file) (Ok Replayed) d = absurd d.0
  does_word (Migrate file) (Ok (Checked c)) d = absurd d.0
  does_word (Migrate file) (Ok (Compared c)) d = absurd d.0
  does_word (Migrate file) (Ok (Migrated c)) d = refl
  does_word (Migrate file) (Ok (Answered what)) d = absurd d.0
  does_word (Migrate file) (Ok Helped) d = absurd d.0
  does_word (ReportOf file q) (Ok Served) d = absurd d.0
  does_word (ReportOf file q) (Ok Recorded) d = absurd d.0
  does_word (ReportOf file q) (Ok Ran) d = absurd d.0
  does_word (ReportOf file q) (Ok Replayed) d = absurd d.0
  does_word (ReportOf file q) (Ok (Checked c)) d = absurd d.0
  does_word (ReportOf file q) (Ok (Compared c)) d = absurd d.0
  does_word (ReportOf file q) (Ok (Migrated c)) d = absurd d.0
  does_word (ReportOf file q) (Ok (Answered what)) d = ap word_of_what d.0.2.0
  does_word (ReportOf file q) (Ok Helped) d = absurd d.0
  does_word Help (Ok Served) d = absurd d.0
  does_word Help (Ok Recorded) d = absurd d.0
  does_word Help (Ok Ran) d = absurd d.0
  does_word Help (Ok Replayed) d = absurd d.0
  does_word Help (Ok (Checked c)) d = absurd d.0
  does_word Help (Ok (Compared c)) d = absurd d.0
  does_word Help (Ok (Migrated c)) d = absurd d.0
  does_word Help (Ok (Answered what)) d = absurd d.0
  does_word Help (Ok Helped) d = refl
  does_word asked (Err e) d = tt

  -- and a question that was answered is the one that was asked
  pub does_question : (asked : Asked Opened) (ended : Result Done Failure) → Does asked ended unread left errors errors' out out'
      → IfOk ended (λ done. AnswersQuestion done (question_of asked))
  does_question asked (Ok Served) d = tt
  does_question asked (Ok Recorded) d = tt
  does_question asked (Ok Ran) d = tt
  does_question asked (Ok Replayed) d = tt
  does_question asked (Ok (Checked c)) d = tt
  does_question asked (Ok (Compared c)) d = tt
  does_question asked (Ok (Migrated c)) d = tt
  does_question asked (Ok Helped) d = tt
  does_question (Console file manner) (Ok (Answered what)) d = absurd d.0
  does_question (Record file) (Ok (Answered what)) d = absurd d
  does_question (RunOf file) (Ok (Answered what)) d = absurd d.0
  does_question (Replay file) (Ok (Answered what)) d = absurd d.0
  does_question (Check file) (Ok (Answered what)) d = absurd d.0
  does_question (Diff file) (Ok (Answered what)) d = absurd d.0
  does_question (Migrate file) (Ok (Answered what)) d = absurd d.0
  does_question Help (Ok (Answered what)) d = absurd d.0
  does_question (ReportOf file q) (Ok (Answered what)) d = d.0.2.0
  does_question asked (Err e) d = tt

  -- it fails only as that may fail
  pub does_fail : (asked : Asked Opened) (ended : Result Done Failure) → Does asked ended unread left errors errors' out out'
      → IfErr ended (MayFail (asked_of asked))
  does_fail asked (Ok done) d = tt
  does_fail (Console file manner) (Err Words) d = absurd d.0
  does_fail (Console file manner) (Err (Text e)) d = no_site_may_fail (codes "console") (inl refl) file e d.0.0
  does_fail (Console file manner) (Err (Serve e)) d = inl refl
  does_fail (Console file manner) (Err (Output e)) d = absurd d.0
  does_fail (Console file manner) (Err (Run e)) d = absurd d.0
  does_fail (Console file manner) (Err (Report e)) d = absurd d.0
  does_fail (Record file) (Err Words) d = absurd d
  does_fail (Record file) (Err (Text e)) d = no_site_may_fail (codes "record") (inr (inl refl)) file e d.0
  does_fail (Record file) (Err (Serve e)) d = inr refl
  does_fail (Record file) (Err (Output e)) d = absurd d
  does_fail (Record file) (Err (Run e)) d = absurd d
  does_fail (Record file) (Err (Report e)) d = absurd d
  does_fail (RunOf file) (Err Words) d = absurd d.0
  does_fail (RunOf file) (Err (Text e)) d = no_scenario_may_fail (asked_of (RunOf file)) refl file e (inr (inr refl)) d.0.0
  does_fail (RunOf file) (Err (Serve e)) d = absurd d.0
  does_fail (RunOf file) (Err (Output e)) d = absurd d.0
  does_fail (RunOf file) (Err (Run e)) d = refl
  does_fail (RunOf file) (Err (Report e)) d = absurd d.0
  does_fail (Replay file) (Err Words) d = absurd d.0
  does_fail (Replay file) (Err (Text e)) d = no_session_may_fail (asked_of (Replay file)) refl file e (inl refl) d.0.0
  does_fail (Replay file) (Err (Serve e)) d = absurd d.0
  does_fail (Replay file) (Err (Output e)) d = inl (inl refl)
  does_fail (Replay file) (Err (Run e)) d = absurd d.0
  does_fail (Replay file) (Err (Report e)) d = absurd d.0
  does_fail (Check file) (Err Words) d = absurd d.0
  does_fail (Check file) (Err (Text e)) d = no_check_may_fail (asked_of (Check file)) refl file e (inr (inl refl)) d.0.0
  does_fail (Check file) (Err (Serve e)) d = absurd d.0
  does_fail (Check file) (Err (Output e)) d = inl (inr (inl refl))
  does_fail (Check file) (Err (Run e)) d = absurd d.0
  does_fail (Check file) (Err (Report e)) d = absurd d.0
  does_fail (Diff file) (Err Words) d = absurd d.0
  does_fail (Diff file) (Err (Text e)) d = no_check_may_fail (asked_of (Diff file)) refl file e (inr (inr (inl refl))) d.0.0
  does_fail (Diff file) (Err (Serve e)) d = absurd d.0
  does_fail (Diff file) (Err (Output e)) d = inl (inr (inr (inl refl)))
  does_fail (Diff file) (Err (Run e)) d = absurd d.0
  does_fail (Diff file) (Err (Report e)) d = absurd d.0
  does_fail (Migrate file) (Err Words) d = absurd d.0
  does_fail (Migrate file) (Err (Text e)) d = no_session_may_fail (asked_of (Migrate file)) refl file e (inr (inr (inr refl))) d.0.0
  does_fail (Migrate file) (Err (Serve e)) d = absurd d.0
  does_fail (Migrate file) (Err (Output e)) d = inl (inr (inr (inr refl)))
  does_fail (Migrate file) (Err (Run e)) d = absurd d.0
  does_fail (Migrate file) (Err (Report e)) d = absurd d.0
  does_fail (ReportOf file q) (Err Words) d = absurd d.0
  does_fail (ReportOf file q) (Err (Text e)) d = no_long_text_may_fail (asked_of (ReportOf file q)) refl file e d.0.0
  does_fail (ReportOf file q) (Err (Serve e)) d = absurd d.0
  does_fail (ReportOf file q) (Err (Output e)) d = absurd d.0
  does_fail (ReportOf file q) (Err (Run e)) d = absurd d.0
  does_fail (ReportOf file q) (Err (Report e)) d = (asks_question q.what, may_lack q d.0.0 e out out' d.0.2)
  does_fail Help (Err Words) d = absurd d.0
  does_fail Help (Err (Text e)) d = absurd d.0
  does_fail Help (Err (Serve e)) d = absurd d.0
  does_fail Help (Err (Output e)) d = inr refl
  does_fail Help (Err (Run e)) d = absurd d.0
  does_fail Help (Err (Report e)) d = absurd d.0

-- the text of a file was checked
module _ (read : Opened) (out out' : SinkState) (bytes : List ℕ) (here : HasText read bytes) where
  not_checked : (e : TextFault) → IsNotChecked bytes e → LacksCheck read e
  not_checked text.NotToml n = absurd n
  not_checked (text.BadKey path) n = absurd n
  not_checked (text.BadLine k) n = text_refused read bytes (text.BadLine k) here n (λ h. cc)
  not_checked text.NotText n = absurd n
  not_checked (text.Differs k) n = absurd n
  not_checked text.Read n = absurd n
  not_checked text.Write n = absurd n
  not_checked text.OutOfMemory n = text_refused read bytes text.OutOfMemory here tt (λ h. n)

  pub file_checked : (ended : Result Done Failure) → IfOk ended (λ done. TellsCheck bytes done out out') → IfErr ended (λ e. TellsNoCheck bytes e out out')
      → EndsCheck read ended out out'
  file_checked (Ok Served) ok fault = absurd ok
  file_checked (Ok Recorded) ok fault = absurd ok
  file_checked (Ok Ran) ok fault = absurd ok
  file_checked (Ok Replayed) ok fault = absurd ok
  file_checked (Ok (Checked c)) ok fault = (bytes, here, ok.0, ok.1)
  file_checked (Ok (Compared c)) ok fault = absurd ok
  file_checked (Ok (Migrated c)) ok fault = absurd ok
  file_checked (Ok (Answered what)) ok fault = absurd ok
  file_checked (Ok Helped) ok fault = absurd ok
  file_checked (Err Words) ok fault = absurd fault
  file_checked (Err (Text e)) ok fault = (not_checked e fault.0, fault.1)
  file_checked (Err (Serve e)) ok fault = absurd fault
  file_checked (Err (Output e)) ok fault = (bytes, here, fault.0, fault.1, fault.2)
  file_checked (Err (Run e)) ok fault = absurd fault
  file_checked (Err (Report e)) ok fault = absurd fault

  pub file_compared : (ended : Result Done Failure) → IfOk ended (λ done. TellsDiff bytes done out out') → IfErr ended (λ e. TellsNoDiff bytes e out out')
      → EndsDiff read ended out out'
  file_compared (Ok Served) ok fault = absurd ok
  file_compared (Ok Recorded) ok fault = absurd ok
  file_compared (Ok Ran) ok fault = absurd ok
  file_compared (Ok Replayed) ok fault = absurd ok
  file_compared (Ok (Checked c)) ok fault = absurd ok
  file_compared (Ok (Compared c)) ok fault = (bytes, here, ok.0, ok.1, ok.2, ok.3)
  file_compared (Ok (Migrated c)) ok fault = absurd ok
  file_compared (Ok (Answered what)) ok fault = absurd ok
  file_compared (Ok Helped) ok fault = absurd ok
  file_compared (Err Words) ok fault = absurd fault
  file_compared (Err (Text e)) ok fault = (not_checked e fault.0, fault.1)
  file_compared (Err (Serve e)) ok fault = absurd fault
  file_compared (Err (Output e)) ok fault = (bytes, here, fault.0, fault.1, fault.2)
  file_compared (Err (Run e)) ok fault = absurd fault
  file_compared (Err (Report e)) ok fault = absurd fault

-- a question was asked about the text of a file
module _ (read : Opened) (q : Question) (out out' : SinkState) (bytes : List ℕ) (here : HasLongText read bytes) where
  pub file_asked : (ended : Result Done Failure) → IfOk ended (λ done. TellsAnswer bytes q done out out') → IfErr ended (λ e. TellsNoAnswer bytes q e out out')
      → EndsReport read q ended out out'
  file_asked (Ok Served) ok fault = absurd ok
  file_asked (Ok Recorded) ok fault = absurd ok
  file_asked (Ok Ran) ok fault = absurd ok
  file_asked (Ok Replayed) ok fault = absurd ok
  file_asked (Ok (Checked c)) ok fault = absurd ok
  file_asked (Ok (Compared c)) ok fault = absurd ok
  file_asked (Ok (Migrated c)) ok fault = absurd ok
  file_asked (Ok (Answered what)) ok fault = (bytes, here, ok)
  file_asked (Ok Helped) ok fault = absurd ok
  file_asked (Err Words) ok fault = absurd fault
  file_asked (Err (Text e)) ok fault = absurd fault
  file_asked (Err (Serve e)) ok fault = absurd fault
  file_asked (Err (Output e)) ok fault = absurd fault
  file_asked (Err (Run e)) ok fault = absurd fault
  file_asked (Err (Report e)) ok fault = (bytes, here, fault)

-- a session was gone through again, or not to its end
pub replayed : (site : Config) (entries : List Entry) (out out' : SinkState) (r : Result (Unit {0}) OutputFault)
    → OnOk r (Appends out.contents out'.contents (replay_text site entries)) → out'.failures ≡ out.failures + write_faults r
    → out'.flushes + write_faults r ≡ out.flushes + 1 → ((IsErrOf r output.Write → ⊥) → out'.waiting ≡ []) → OnOk r (IsReplayed site entries out out')
replayed site entries out out' (Ok done) told failures flushes sent =
    record { told = told; failures = omega (arith, failures); flushes = omega (arith, flushes); sent = sent (λ h. cc) }
replayed site entries out out' (Err e) told failures flushes sent = tt

pub not_replayed : (site : Config) (entries : List Entry) (out out' : SinkState) (r : Result (Unit {0}) OutputFault)
    → IfErr r (λ e. (taken : Option (List ℕ)) × ReplayEnds e site entries out.contents taken × GivenOut e taken out'.contents)
    → out'.failures ≡ out.failures + write_faults r → out'.flushes + write_faults r ≡ out.flushes + 1 → ((IsErrOf r output.Write → ⊥) → out'.waiting ≡ [])
    → IfErr r (λ e. IsNotReplayed e site entries out out')
not_replayed site entries out out' (Ok done) stops failures flushes sent = tt
not_replayed site entries out out' (Err e) stops failures flushes sent = record {
  taken = stops.0;
  ends = stops.1;
  given = stops.2;
  failures = rw (faults_of e) at failures;
  flushes = rw (faults_of e) at flushes;
  sent = λ other. sent (λ h. other (cc));
}
