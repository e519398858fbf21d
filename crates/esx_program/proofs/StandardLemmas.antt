-- Files and streams of the standard library, as sources and sinks.
use Rattle.std.proofs.Common.{◌≡◌, ◌∙◌, List, Option, Some, None, Result, Ok, Err, refl, subst, sym}
use Rattle.std.specs.Prelude.{ℕ, IsSome}
use Rattle.std.specs.Result.{IfErr, IfOk}
use Rattle.std.specs.declared.io.Error.{Error}
use Rattle.clap.specs.Words.{Text as Word}
use Rattle.esx_reading.specs.declared.fault.TextFault.TheVariants as text
use Rattle.esx_text.specs.States.{SinkState, SourceState}
use Rattle.esx_reports.specs.declared.question.Question.{Question}
use Rattle.esx_program.specs.declared.words.Asked.{Asked}
use Rattle.esx_program.specs.declared.Done.{Done}
use Rattle.esx_program.specs.declared.Failure.{Failure}
use Rattle.esx_program.specs.declared.Failure.TheVariants.{Words, Text, Serve, Output, Run, Report}
use Rattle.esx_program.specs.Doing.{Does, DoesOver}
use Rattle.esx_program.specs.Failing.{AnswersQuestion, MayFail}
use Rattle.esx_program.specs.Files.{AreLeft, IsFile, IsLeft, IsSame, MayBeLeft, Opened}
use Rattle.esx_program.specs.Status.{word_of_done}
use Rattle.esx_program.specs.Words.{AskAlike, MayBe, asked_of, question_of}
use Rattle.esx_program.proofs.DoingLemmas.{does_fail, does_question, does_word}

-- a source of a file's bytes that was left so
file_there : {F G : Type 0} (remaining : F → Option (List ℕ)) (given : G → Option (List ℕ)) (state : G → SourceState) → ((g : G) → (state g).remaining ≡ given g)
    → (opened : Result F Error) (other left : Result G Error) (read : Opened) → IsSame remaining given opened other → IsLeft state other left read → IsFile remaining opened read
file_there remaining given state seen (Ok file) (Ok source) (Ok l) (Ok states) same so = rw so.0 (seen source) ∙ same
file_there remaining given state seen (Ok file) (Ok source) (Ok l) (Err e) same so = absurd so
file_there remaining given state seen (Ok file) (Ok source) (Err e) read same so = absurd so
file_there remaining given state seen (Ok file) (Err e) left read same so = absurd same
file_there remaining given state seen (Err e) (Ok source) left read same so = absurd same
file_there remaining given state seen (Err e) (Err d) (Ok l) read same so = absurd so
file_there remaining given state seen (Err e) (Err d) (Err c) (Ok states) same so = absurd so
file_there remaining given state seen (Err e) (Err d) (Err c) (Err b) same so = so.1 ∙ same

-- the same where a file may be named
file_may_be_there : {F G : Type 0} (remaining : F → Option (List ℕ)) (given : G → Option (List ℕ)) (state : G → SourceState) → ((g : G) → (state g).remaining ≡ given g)
    → (opened : Option (Result F Error)) (other left : Option (Result G Error)) (read : Option Opened)
    → MayBe (IsSame remaining given) opened other → MayBeLeft state other left read → MayBe (IsFile remaining) opened read
file_may_be_there remaining given state seen None None None None same so = tt
file_may_be_there remaining given state seen None None None (Some r) same so = absurd so
file_may_be_there remaining given state seen None None (Some l) read same so = absurd so
file_may_be_there remaining given state seen None (Some o) left read same so = absurd same
file_may_be_there remaining given state seen (Some a) None left read same so = absurd same
file_may_be_there remaining given state seen (Some a) (Some o) None read same so = absurd so
file_may_be_there remaining given state seen (Some a) (Some o) (Some l) None same so = absurd so
file_may_be_there remaining given state seen (Some a) (Some o) (Some l) (Some r) same so = file_there remaining given state seen a o l r same so

pub files_there : {F G : Type 0} (remaining : F → Option (List ℕ)) (given : G → Option (List ℕ)) (state : G → SourceState) → ((g : G) → (state g).remaining ≡ given g)
    → (wanted : Asked (Result F Error)) (other left : Asked (Result G Error)) (read : Asked Opened)
    → AskAlike (IsSame remaining given) wanted other → AreLeft state other left read → AskAlike (IsFile remaining) wanted read
files_there remaining given state seen wanted other left read same so = record {
  word = so.word.1 ∙ same.word;
  file = file_may_be_there remaining given state seen (asked_of wanted).1 (asked_of other).1 (asked_of left).1 (asked_of read).1 same.file so.file;
  question = so.question ∙ same.question;
  manner = so.manner ∙ same.manner;
}

-- the same is asked for, with a file where a file is named
pub named_alike : {F G : Type 0} (R : F → G → Type 0) (a : Option F) (b : Option G) → MayBe R a b → IsSome b → IsSome a
named_alike R None None alike some = some
named_alike R None (Some b) alike some = absurd alike
named_alike R (Some a) b alike some = refl

-- it fails as it may fail with another file
pub may_fail_so : {A B : Type 0} (asked : Word × Option A) (other : Word × Option B) → other.0 ≡ asked.0 → (IsSome other.1 → IsSome asked.1)
    → (failure : Failure) → MayFail other failure → MayFail asked failure
may_fail_so asked other word named Words m = m
may_fail_so asked other word named (Text text.NotToml) m = (named m.0, rw word at m.1)
may_fail_so asked other word named (Text (text.BadKey path)) m = (named m.0, rw word at m.1)
may_fail_so asked other word named (Text (text.BadLine n)) m = (named m.0, rw word at m.1)
may_fail_so asked other word named (Text text.NotText) m = named m
may_fail_so asked other word named (Text (text.Differs k)) m = m
may_fail_so asked other word named (Text text.Read) m = named m
may_fail_so asked other word named (Text text.Write) m = m
may_fail_so asked other word named (Text text.OutOfMemory) m = named m
may_fail_so asked other word named (Serve e) m = rw word at m
may_fail_so asked other word named (Output e) m = rw word at m
may_fail_so asked other word named (Run e) m = sym word ∙ m
may_fail_so asked other word named (Report e) m = (rw word at m.0, rw word at m.1)

word_so : (r : Result Done Failure) (a b : Word) → a ≡ b → IfOk r (λ done. word_of_done done ≡ a) → IfOk r (λ done. word_of_done done ≡ b)
word_so (Ok done) a b same w = w ∙ same
word_so (Err e) a b same w = tt

question_so : (r : Result Done Failure) (a b : Option Question) → a ≡ b → IfOk r (λ done. AnswersQuestion done a) → IfOk r (λ done. AnswersQuestion done b)
question_so (Ok done) a b same answers = subst (AnswersQuestion done) same answers
question_so (Err e) a b same answers = tt

pub may_fail_alike : {F G : Type 0} (R : F → G → Type 0) (a : Asked F) (b : Asked G) → AskAlike R a b → (r : Result Done Failure)
    → IfErr r (MayFail (asked_of b)) → IfErr r (MayFail (asked_of a))
may_fail_alike R a b alike (Ok done) m = tt
may_fail_alike R a b alike (Err failure) m = may_fail_so (asked_of a) (asked_of b) alike.word (named_alike R (asked_of a).1 (asked_of b).1 alike.file) failure m

-- what was done of a source of a file's bytes, and of sources and sinks of these bytes
pub over_ends : {F G : Type 0} (remaining : F → Option (List ℕ)) (given : G → Option (List ℕ)) (state : G → SourceState) → ((g : G) → (state g).remaining ≡ given g)
    → (wanted : Asked (Result F Error)) (other after : Asked (Result G Error)) (read : Asked Opened)
    → AskAlike (IsSame remaining given) wanted other → AreLeft state other after read
    → (ended : Result Done Failure) (source source' : SourceState) (told told' written written' : SinkState) → Does read ended source source' told told' written written'
    → (unread left errors errors' out out' : Option (List ℕ)) → source.remaining ≡ unread → told.contents ≡ errors → written.contents ≡ out
    → left ≡ source'.remaining → errors' ≡ told'.contents → out' ≡ written'.contents → DoesOver remaining wanted ended unread left errors errors' out out'
over_ends remaining given state seen wanted other after read same left_so ended source source' told told' written written' does unread left errors errors' out out' a b c d e f = record {
  read = read;
  file = files_there remaining given state seen wanted other after read same left_so;
  source = source;
  source' = source';
  told = told;
  told' = told';
  written = written;
  written' = written';
  before = (a, b, c);
  after = (sym d, sym e, sym f);
  does = does;
}

module _ {F : Type 0} (remaining : F → Option (List ℕ)) (wanted : Asked (Result F Error)) (ended : Result Done Failure) (unread left errors errors' out out' : Option (List ℕ))
    (d : DoesOver remaining wanted ended unread left errors errors' out out') where
  -- what was done is what is asked for
  pub over_word : IfOk ended (λ done. word_of_done done ≡ (asked_of wanted).0)
  over_word = word_so ended (asked_of d.read).0 (asked_of wanted).0 d.file.word (does_word d.source d.source' d.told d.told' d.written d.written' d.read ended d.does)

  -- and a question that was answered is the one that was asked
  pub over_question : IfOk ended (λ done. AnswersQuestion done (question_of wanted))
  over_question = question_so ended (question_of d.read) (question_of wanted) d.file.question (does_question d.source d.source' d.told d.told' d.written d.written' d.read ended d.does)

  -- it fails only as that may fail
  pub over_fail : IfErr ended (MayFail (asked_of wanted))
  over_fail = may_fail_alike (IsFile remaining) wanted d.read d.file ended (does_fail d.source d.source' d.told d.told' d.written d.written' d.read ended d.does)
