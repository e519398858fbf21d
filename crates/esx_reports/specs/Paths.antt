-- The path that a question is about, or why there is none.
use Rattle.std.specs.Prelude.{◌≡◌, ◌≢◌, ℕ, List, length, Err, IsOk}
use Rattle.esx_types.specs.declared.config.Config.{Config}
use Rattle.esx_events.specs.declared.event.Refusal.{Refusal}
use Rattle.esx_events.specs.declared.event.Refusal.TheVariants.{OutOfMemory}
use Rattle.esx_model.specs.Console.{Session, history}
use Rattle.esx_reading.specs.declared.fault.TextFault.TheVariants as faults
use Rattle.esx_session.specs.declared.session.Entry.{Entry}
use Rattle.esx_session.specs.Sessions.{Reads, HasOpening, IsRefused}
use Rattle.esx_check.specs.declared.check.Checked.TheVariants as checked
use Rattle.esx_check.specs.declared.fault.OutputFault.TheVariants as output
use Rattle.esx_check.specs.Again.{made}
use Rattle.esx_check.specs.Checks.{Checks, ChecksText}
use Rattle.esx_paths.specs.declared.at.At.{At}
use Rattle.esx_paths.specs.declared.path.Path.{Path}
use Rattle.esx_paths.specs.Ats.{node_at, IsPathAt}
use Rattle.esx_reports.specs.declared.fault.ReportFault.{ReportFault}
use Rattle.esx_reports.specs.declared.fault.ReportFault.TheVariants.{Text, Differs, Refused, Output}

-- the text is that of a session, each call of which has its reply
pub record IsTrueSession (text : List ℕ) (site : Config) (entries : List Entry) : Type 0 where
  pub reads : Reads text site entries
  pub same : Checks site entries (checked.Same (length entries))

-- it is the path to the node that is meant of such a session
pub record IsPathMeant (text : List ℕ) (at : At) (told : Path) : Type 0 where
  pub site : Config
  pub entries : List Entry
  pub true : IsTrueSession text site entries
  pub path : IsPathAt (made site entries) at told

-- memory ran out
abbrev pub no_memory : ReportFault
no_memory = Output output.OutOfMemory

-- a refusal is told as it is, but for want of memory
abbrev pub IsFaultOf : Refusal → ReportFault → Type 0
IsFaultOf refusal (Refused told) = (refusal ≢ OutOfMemory) × (told ≡ refusal)
IsFaultOf refusal (Output output.OutOfMemory) = refusal ≡ OutOfMemory
IsFaultOf refusal _ = ⊥

-- no such node is meant, or memory ran out where one is
abbrev pub HasNoNode : Session → At → ReportFault → Type 0
HasNoNode s at (Refused refusal) = node_at at (history s) ≡ Err refusal
HasNoNode s at (Output output.OutOfMemory) = IsOk (node_at at (history s))
HasNoNode s at _ = ⊥

-- the text is no session, or memory ran out as one was checked; or it is not a true one, or no such node is meant of it, or memory ran out where one is
abbrev pub HasNoPath : List ℕ → At → ReportFault → Type 0
HasNoPath text at (Text faults.OutOfMemory) = HasOpening text
HasNoPath text at (Text e) = IsRefused e text
HasNoPath text at (Differs number) = ChecksText text (checked.Differs number)
HasNoPath text at (Refused refusal) = (site : Config) × (entries : List Entry) × IsTrueSession text site entries × (node_at at (history (made site entries)) ≡ Err refusal)
HasNoPath text at (Output output.OutOfMemory) = (site : Config) × (entries : List Entry) × IsTrueSession text site entries × IsOk (node_at at (history (made site entries)))
HasNoPath text at (Output output.Write) = ⊥
