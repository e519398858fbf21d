-- What the program's words ask for.
use Rattle.std.specs.Prelude.{◌≡◌, ℕ, true, [], List, Option, Some, None, codes, option_map, option_and_then, if◌then◌else◌}
use Rattle.std.specs.Option.{option_map_or}
use Rattle.std.specs.Str.{bytes_eq}
use Rattle.std.specs.Borrow.{Bor}
use Rattle.clap.specs.Simple.{on_top}
use Rattle.clap.specs.declared.builder.action.ArgAction.TheVariants.{SetTrue}
use Rattle.clap.specs.Words.{App, Row, Rule, Text, fault_of, first_of, new_app, new_rule, subcommand_of, with_rule, with_subcommand}
use Rattle.esx_events.specs.Names.{is_name}
use Rattle.esx_scenario.specs.Lines.{number_in}
use Rattle.esx_paths.specs.declared.at.At.{At}
use Rattle.esx_paths.specs.declared.at.At.TheVariants.{End, Node, Name}
use Rattle.esx_reports.specs.declared.question.Table.{Table}
use Rattle.esx_reports.specs.declared.question.Table.TheVariants.{Losses, Guests, Site}
use Rattle.esx_reports.specs.declared.question.What.{What}
use Rattle.esx_reports.specs.declared.question.What.TheVariants as whats
use Rattle.esx_reports.specs.declared.question.Question.{Question}
use Rattle.esx_text.specs.declared.echo.Manner.{Manner}
use Rattle.esx_text.specs.declared.echo.Manner.TheVariants.{Plain, Echoed}
use Rattle.esx_program.specs.Status.{word_of_what}
use Rattle.esx_program.specs.declared.words.Asked.{Asked}
use Rattle.esx_program.specs.declared.words.Asked.TheVariants.{Console, Record, Run, Replay, Check, Diff, Migrate, Report, Help}

-- a word, and at most one file behind it
abbrev pub with_file : Text → App
with_file word = with_rule (new_app word) (new_rule (codes "file"))

-- the same, and a value that `--` and its name stand before
abbrev pub with_named : Text → App → App
with_named name app = with_rule app (record (new_rule name) { long = Some name })

-- `console` and a file, and by its name whether each command is echoed
abbrev pub console_app : App
console_app = with_rule (with_file (codes "console")) (record (new_rule (codes "echo")) { long = Some (codes "echo"); action = Some SetTrue })

-- `report` and a file, and by their names a node and a table
abbrev pub report_app : App
report_app = with_named (codes "csv") (with_named (codes "at") (with_file (codes "report")))

-- `why`, a file, a guest and one of its pages, and by its name a node
abbrev pub why_app : App
why_app = with_named (codes "at") (with_rule (with_rule (with_file (codes "why")) (new_rule (codes "vm"))) (new_rule (codes "page")))

-- a command that answers `help` with no help of its own
abbrev pub without_help : App → App
without_help = on_top (λ s. record s { disable_help_subcommand = true })

-- nothing, or `help`, or `report` or `why` and a question, or one of the seven other words and at most one file
abbrev pub program_app : App
program_app =
    with_subcommand (with_subcommand (with_subcommand (with_subcommand (with_subcommand (with_subcommand (with_subcommand (with_subcommand (with_subcommand (with_subcommand
    (without_help (new_app (codes "esxplan")))
    console_app.top) (with_file (codes "record")).top) (with_file (codes "replay")).top) (with_file (codes "check")).top) (with_file (codes "diff")).top)
    (with_file (codes "migrate")).top) report_app.top) why_app.top) (new_app (codes "help")).top) (with_file (codes "run")).top

-- the word that asks for it, and what it names
abbrev pub asked_of : {F : Type 0} → Asked F → Text × Option F
asked_of (Console file manner) = (codes "console", file)
asked_of (Record file) = (codes "record", file)
asked_of (Run file) = (codes "run", Some file)
asked_of (Replay file) = (codes "replay", Some file)
asked_of (Check file) = (codes "check", Some file)
asked_of (Diff file) = (codes "diff", Some file)
asked_of (Migrate file) = (codes "migrate", Some file)
asked_of (Report file question) = (word_of_what question.what, Some file)
asked_of Help = (codes "help", None)

-- the question that is asked of the file
abbrev pub question_of : {F : Type 0} → Asked F → Option Question
question_of (Report file question) = Some question
question_of _ = None

-- in which manner a console is to answer
abbrev pub manner_of : {F : Type 0} → Asked F → Manner
manner_of (Console file manner) = manner
manner_of _ = Plain

-- a word, the path behind it, a question, and in which manner a console answers
pub record InFull : Type 0 where
  pub word : Text
  pub file : Option Text
  pub question : Option Question
  pub manner : Manner

-- all that is named where it is asked for
abbrev pub named_in_full : Asked (Bor Text) → InFull
named_in_full asked = record { word = (asked_of asked).0; file = option_map (λ f. f.now) (asked_of asked).1; question = question_of asked; manner = manner_of asked }

-- neither, or both are so
abbrev pub MayBe : {F G : Type 0} → (F → G → Type 0) → Option F → Option G → Type 0
MayBe R None None = Unit {0}
MayBe R (Some a) (Some b) = R a b
MayBe R a b = ⊥

-- the same word asks for both, and so are the files that they name; the question and the manner are the same
pub record AskAlike {F G : Type 0} (R : F → G → Type 0) (a : Asked F) (b : Asked G) : Type 0 where
  pub word : (asked_of b).0 ≡ (asked_of a).0
  pub file : MayBe R (asked_of a).1 (asked_of b).1
  pub question : question_of b ≡ question_of a
  pub manner : manner_of b ≡ manner_of a

-- the words say no less and no more than may stand there, and ask for no help by a flag
abbrev pub HaveNoFault : List Text → Type 0
HaveNoFault words = fault_of program_app words ≡ []

-- the table of an account with this name
abbrev pub table_named : Text → Option Table
table_named text =
    if bytes_eq text (codes "losses") then Some Losses
    else (if bytes_eq text (codes "guests") then Some Guests
    else (if bytes_eq text (codes "site") then Some Site else None))

-- the node with this number, or with this name
abbrev pub node_named : Text → Option At
node_named text = option_map_or (λ n. Some (Node n)) (number_in text) (if is_name text then Some (Name text) else None)

-- the node that is named, or the one where the session ends
abbrev pub at_named : Option Text → Option At
at_named None = Some End
at_named (Some text) = node_named text

-- the table that is named, or all of them
abbrev pub what_reported : Option Text → Option What
what_reported None = Some whats.Report
what_reported (Some text) =
    if bytes_eq text (codes "changes") then Some whats.Changes
    else (if bytes_eq text (codes "steps") then Some whats.Steps else option_map (λ table. whats.Table table) (table_named text))

-- the page that is named, or none
abbrev pub page_named : Option Text → Option (Option ℕ)
page_named None = Some None
page_named (Some text) = option_map (λ n. Some n) (number_in text)

-- the losses of a guest, or of one of its pages
abbrev pub what_explained : Option Text → Option Text → Option What
what_explained vm page = option_and_then (λ n. option_map (λ p. whats.Why n p) (page_named page)) (option_and_then number_in vm)

-- the question of both
abbrev pub question_at : Option At → Option What → Option Question
question_at node what = option_and_then (λ n. option_map (λ w. record { at = n; what = w }) what) node

-- what a question asks for of a file
abbrev pub of_question : Option Text → Option Question → Option InFull
of_question file question = option_and_then (λ q. option_map (λ f. record { word = word_of_what q.what; file = Some f; question = Some q; manner = Plain }) file) question

-- a word that is asked for so with a file, or without one
abbrev pub with_word : Text → Option Text → InFull
with_word word file = record { word = word; file = file; question = None; manner = Plain }

-- the same of a word that wants a file
abbrev pub with_its_file : Text → Option Text → Option InFull
with_its_file word file = option_map (λ f. with_word word (Some f)) file

-- what another word and the file behind it ask for: a console and a recording need no file, and help takes none
abbrev pub of_file : Text → Option Text → Manner → Option InFull
of_file word file manner =
    if bytes_eq word (codes "run") then with_its_file (codes "run") file
    else (if bytes_eq word (codes "replay") then with_its_file (codes "replay") file
    else (if bytes_eq word (codes "check") then with_its_file (codes "check") file
    else (if bytes_eq word (codes "diff") then with_its_file (codes "diff") file
    else (if bytes_eq word (codes "migrate") then with_its_file (codes "migrate") file
    else (if bytes_eq word (codes "record") then Some (with_word (codes "record") file)
    else (if bytes_eq word (codes "help") then Some (with_word (codes "help") None)
    else Some (record (with_word (codes "console") file) { manner = manner })))))))

-- the flag that asks for an echo, as it was found
abbrev pub manner_of_flag : Option Text → Manner
manner_of_flag None = Plain
manner_of_flag (Some flag) = if bytes_eq flag (codes "true") then Echoed else Plain

-- what a word and what stands behind it ask for
abbrev pub asked_by : Text → List Row → Option InFull
asked_by word rows =
    let file = first_of (codes "file") rows in
    let node = at_named (first_of (codes "at") rows) in
    if bytes_eq word (codes "report") then of_question file (question_at node (what_reported (first_of (codes "csv") rows)))
    else (if bytes_eq word (codes "why") then of_question file (question_at node (what_explained (first_of (codes "vm") rows) (first_of (codes "page") rows)))
    else of_file word file (manner_of_flag (first_of (codes "echo") rows)))

-- the same of the words behind the program's name; without a word it is a console
abbrev pub asked_at : Option (Text × List Row) → Option InFull
asked_at None = Some (with_word (codes "console") None)
asked_at (Some found) = asked_by found.0 found.1

-- what the words ask for, if it is anything
abbrev pub asked_in : List Text → Option InFull
asked_in words = asked_at (subcommand_of program_app words)
