-- What is done with a file and with streams where something is asked for.
use Rattle.std.specs.Prelude.{◌≡◌, ◌⊎◌, ℕ, List, Option, Some, None, Result, Ok, Err, false, map, string_bytes}
use Rattle.std.specs.Borrow.{Bor}
use Rattle.std.specs.Vec.Iter.{into_iter_items}
use Rattle.std.specs.declared.io.Error.{Error}
use Rattle.clap.specs.Words.{Text as Word, takes}
use Rattle.esx_types.specs.declared.config.Config.{Config}
use Rattle.esx_types.specs.declared.config.TheConstants.{MAX_NODES}
use Rattle.esx_reading.specs.declared.fault.TextFault.{TextFault}
use Rattle.esx_reading.specs.declared.fault.TextFault.TheVariants as text
use Rattle.esx_scenario.specs.Plans.{Plan}
use Rattle.esx_session.specs.declared.session.Entry.{Entry}
use Rattle.esx_text.specs.States.{SourceState, SinkState}
use Rattle.esx_text.specs.declared.echo.Manner.{Manner}
use Rattle.esx_recording.specs.Recording.{Records, RecordStops}
use Rattle.esx_check.specs.Checks.{ChecksText, checked_text}
use Rattle.esx_check.specs.Differences.{ComparesText, checked_of, compared_text}
use Rattle.esx_check.specs.declared.check.Checked.{Checked as Outcome}
use Rattle.esx_check.specs.declared.difference.Compared.{Compared as Comparison}
use Rattle.esx_check.specs.declared.fault.OutputFault.TheVariants as output
use Rattle.esx_program.specs.declared.words.Asked.{Asked}
use Rattle.esx_program.specs.declared.words.Asked.TheVariants as asked
use Rattle.esx_program.specs.declared.Done.{Done}
use Rattle.esx_program.specs.declared.Done.TheVariants.{Served, Recorded, Ran, Replayed, Checked, Compared, Migrated, Helped}
use Rattle.esx_program.specs.declared.Failure.{Failure}
use Rattle.esx_program.specs.declared.Failure.TheVariants.{Words, Text, Serve, Output, Run}
use Rattle.esx_program.specs.Failing.{Asks}
use Rattle.esx_program.specs.Files.{Opened, IsFile, HasScenario, HasSession, HasText, LacksCheck, LacksScenario, LacksSession}
use Rattle.esx_program.specs.Given.{Args}
use Rattle.esx_program.specs.Help.{help_text}
use Rattle.esx_program.specs.Reporting.{EndsReport}
use Rattle.esx_program.specs.Runs.{Plays, RunStops}
use Rattle.esx_program.specs.Sessions.{IsTold, IsNotTold, IsReplayed, IsNotReplayed, IsMigrated, IsNotMigrated}
use Rattle.esx_program.specs.Streams.{IsServed}
use Rattle.esx_program.specs.Words.{AskAlike, asked_in, named_in_full, program_app}

-- the program's own site
abbrev pub own_site : Config
own_site = record { frames = 20; page = 16; slots = 8; tau = 75; high = 6; soft = 4; hard = 2; low = 1; nodes = MAX_NODES }

-- the site of the scenario in a file, or the program's own where no file is named
abbrev pub IsSiteAsked : Option Opened → Config → Type 0
IsSiteAsked None site = site ≡ own_site
IsSiteAsked (Some read) site = (plan : Plan) × HasScenario read plan × (site ≡ plan.site)

-- why there is no such site
abbrev pub LacksSite : Option Opened → TextFault → Type 0
LacksSite None e = ⊥
LacksSite (Some read) e = LacksScenario read e

-- A console ends: all input was answered at that site, or it was served up to a fault. Or the file that is named has no site, and nothing was read or written.
abbrev pub EndsConsole : Option Opened → Manner → Result Done Failure → SourceState → SourceState → SinkState → SinkState → Type 0
EndsConsole file manner (Ok Served) unread left out out' = (site : Config) × IsSiteAsked file site × (count : ℕ) × IsServed manner site (Ok count) unread left out out'
EndsConsole file manner (Err (Text e)) unread left out out' = LacksSite file e × (left ≡ unread) × (out' ≡ out)
EndsConsole file manner (Err (Serve e)) unread left out out' = (site : Config) × IsSiteAsked file site × IsServed manner site (Err e) unread left out out'
EndsConsole file manner ended unread left out out' = ⊥

-- A recording ends: all commands were made at that site and their session was written, or it stopped. Or the file that is named has no site, and nothing was read or written.
abbrev pub EndsRecord : Option Opened → Result Done Failure → SourceState → SourceState → SinkState → SinkState → SinkState → SinkState → Type 0
EndsRecord file (Ok Recorded) unread left errors errors' out out' = (site : Config) × IsSiteAsked file site × (count : ℕ) × Records site count unread left errors errors' out out'
EndsRecord file (Err (Text e)) unread left errors errors' out out' = LacksSite file e × (left ≡ unread) × (errors' ≡ errors) × (out' ≡ out)
EndsRecord file (Err (Serve e)) unread left errors errors' out out' = (site : Config) × IsSiteAsked file site × RecordStops e site unread left errors errors' out out'
EndsRecord file ended unread left errors errors' out out' = ⊥

-- A run ends: the scenario in a file was run and told, or its run stopped. Or there is no such scenario, and nothing was written.
abbrev pub EndsRun : Opened → Result Done Failure → SinkState → SinkState → SinkState → SinkState → Type 0
EndsRun read (Ok Ran) errors errors' out out' = (plan : Plan) × HasScenario read plan × Plays plan errors errors' out out'
EndsRun read (Err (Text e)) errors errors' out out' = LacksScenario read e × (errors' ≡ errors) × (out' ≡ out)
EndsRun read (Err (Run e)) errors errors' out out' = (plan : Plan) × HasScenario read plan × RunStops e plan errors errors' out out'
EndsRun read ended errors errors' out out' = ⊥

-- A replay ends: the replies of the session in a file were written, or writing them stopped. Or there is no such session, and nothing was written.
abbrev pub EndsReplay : Opened → Result Done Failure → SinkState → SinkState → Type 0
EndsReplay read (Ok Replayed) out out' = (site : Config) × (entries : List Entry) × HasSession read site entries × IsReplayed site entries out out'
EndsReplay read (Err (Text e)) out out' = LacksSession read e × (out' ≡ out)
EndsReplay read (Err (Output e)) out out' = (site : Config) × (entries : List Entry) × HasSession read site entries × IsNotReplayed e site entries out out'
EndsReplay read ended out out' = ⊥

-- A check ends: what the session in a file comes to was written as a line, or a front of it. Or there is none to check, and nothing was written.
abbrev pub EndsCheck : Opened → Result Done Failure → SinkState → SinkState → Type 0
EndsCheck read (Ok (Checked checked)) out out' = (bytes : List ℕ) × HasText read bytes × ChecksText bytes checked × IsTold (checked_text checked) out out'
EndsCheck read (Err (Text e)) out out' = LacksCheck read e × (out' ≡ out)
EndsCheck read (Err (Output e)) out out' =
    (bytes : List ℕ) × HasText read bytes × (checked : Outcome) × ChecksText bytes checked × IsNotTold e (checked_text checked) out out'
EndsCheck read ended out out' = ⊥

-- A comparison ends: what the session in a file comes to was written, with a difference whole, or a front of it. Or there is none to check, and nothing was written.
abbrev pub EndsDiff : Opened → Result Done Failure → SinkState → SinkState → Type 0
EndsDiff read (Ok (Compared checked)) out out' =
    (bytes : List ℕ) × HasText read bytes × (c : Comparison) × ComparesText bytes c × (checked ≡ checked_of c) × IsTold (compared_text c) out out'
EndsDiff read (Err (Text e)) out out' = LacksCheck read e × (out' ≡ out)
EndsDiff read (Err (Output e)) out out' =
    (bytes : List ℕ) × HasText read bytes × (c : Comparison) × ComparesText bytes c × IsNotTold e (compared_text c) out out'
EndsDiff read ended out out' = ⊥

-- A migration ends: the session in a file was written in version 2, or the line of its first call with another reply, or writing that stopped. Or there is no such session, and nothing was written.
abbrev pub EndsMigrate : Opened → Result Done Failure → SinkState → SinkState → Type 0
EndsMigrate read (Ok (Migrated checked)) out out' = (site : Config) × (entries : List Entry) × HasSession read site entries × IsMigrated site entries checked out out'
EndsMigrate read (Err (Text e)) out out' = LacksSession read e × (out' ≡ out)
EndsMigrate read (Err (Output e)) out out' = (site : Config) × (entries : List Entry) × HasSession read site entries × IsNotMigrated e site entries out out'
EndsMigrate read ended out out' = ⊥

-- Help ends: the words of the program were written, or after a fault of writing a front of them.
abbrev pub EndsHelp : Result Done Failure → SinkState → SinkState → Type 0
EndsHelp (Ok Helped) out out' = IsTold help_text out out'
EndsHelp (Err (Output output.Write)) out out' = IsNotTold output.Write help_text out out'
EndsHelp ended out out' = ⊥

-- What is asked for was done, and ended so: with what a source had, with what was told of errors, and with what was written. The streams that it takes no part in are as they were.
abbrev pub Does : Asked Opened → Result Done Failure → SourceState → SourceState → SinkState → SinkState → SinkState → SinkState → Type 0
Does (asked.Console file manner) ended unread left errors errors' out out' = EndsConsole file manner ended unread left out out' × (errors' ≡ errors)
Does (asked.Record file) ended unread left errors errors' out out' = EndsRecord file ended unread left errors errors' out out'
Does (asked.Run read) ended unread left errors errors' out out' = EndsRun read ended errors errors' out out' × (left ≡ unread)
Does (asked.Replay read) ended unread left errors errors' out out' = EndsReplay read ended out out' × (left ≡ unread) × (errors' ≡ errors)
Does (asked.Check read) ended unread left errors errors' out out' = EndsCheck read ended out out' × (left ≡ unread) × (errors' ≡ errors)
Does (asked.Diff read) ended unread left errors errors' out out' = EndsDiff read ended out out' × (left ≡ unread) × (errors' ≡ errors)
Does (asked.Migrate read) ended unread left errors errors' out out' = EndsMigrate read ended out out' × (left ≡ unread) × (errors' ≡ errors)
Does (asked.Report read question) ended unread left errors errors' out out' = EndsReport read question ended out out' × (left ≡ unread) × (errors' ≡ errors)
Does asked.Help ended unread left errors errors' out out' = EndsHelp ended out out' × (left ≡ unread) × (errors' ≡ errors)

-- The same of a file and of ends of the standard library, of which only the bytes are known.
pub record DoesOver {F : Type 0} (remaining : F → Option (List ℕ)) (wanted : Asked (Result F Error)) (ended : Result Done Failure)
    (unread left errors errors' out out' : Option (List ℕ)) : Type 0 where
  pub read : Asked Opened
  pub file : AskAlike (IsFile remaining) wanted read
  pub source : SourceState
  pub source' : SourceState
  pub told : SinkState
  pub told' : SinkState
  pub written : SinkState
  pub written' : SinkState
  pub before : (source.remaining ≡ unread) × (told.contents ≡ errors) × (written.contents ≡ out)
  pub after : (source'.remaining ≡ left) × (told'.contents ≡ errors') × (written'.contents ≡ out')
  pub does : Does read ended source source' told told' written written'

-- words that ask for nothing, or that there was no memory for
abbrev pub AskForNothing : List Word → Result Done Failure → Type 0
AskForNothing words (Err Words) = (takes program_app words ≡ false) ⊎ (asked_in words ≡ None)
AskForNothing words (Err (Text text.OutOfMemory)) = Unit {0}
AskForNothing words ended = ⊥

-- What the words ask for was done, with the file that they name as it was opened. Or they ask for nothing, and the streams are as they were.
abbrev pub DoesWords : {F : Type 0} → (F → Option (List ℕ)) → List Word → Result Done Failure
    → Option (List ℕ) → Option (List ℕ) → Option (List ℕ) → Option (List ℕ) → Option (List ℕ) → Option (List ℕ) → Type 0
DoesWords {F} remaining words ended unread left errors errors' out out' =
    ((named : Asked (Bor Word)) × Asks words (named_in_full named) × (wanted : Asked (Result F Error)) × AskAlike (λ _ _. Unit {0}) named wanted
    × DoesOver remaining wanted ended unread left errors errors' out out')
    ⊎ (AskForNothing words ended × (left ≡ unread) × (errors' ≡ errors) × (out' ≡ out))

-- the same of the words that the program was given, where they could be read
abbrev pub DoesGiven : {F : Type 0} → (F → Option (List ℕ)) → Result Args Error → Result Done Failure
    → Option (List ℕ) → Option (List ℕ) → Option (List ℕ) → Option (List ℕ) → Option (List ℕ) → Option (List ℕ) → Type 0
DoesGiven remaining (Ok args) ended unread left errors errors' out out' =
    DoesWords remaining (map string_bytes (into_iter_items args)) ended unread left errors errors' out out'
DoesGiven remaining (Err e) ended unread left errors errors' out out' = (left ≡ unread) × (errors' ≡ errors) × (out' ≡ out)
