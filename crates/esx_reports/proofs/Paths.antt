-- Why there is no path.
use Rattle.std.proofs.Common.{◌≡◌, ◌≢◌, ℕ, List, refl, ap, sym, ◌∙◌, Err}
use Rattle.std.specs.Prelude.{IsOk}
use Rattle.esx_events.specs.declared.event.Refusal.{Refusal}
use Rattle.esx_events.specs.declared.event.Refusal.TheVariants.{OutOfMemory}
use Rattle.esx_model.specs.Console.{Session, history}
use Rattle.esx_reading.specs.declared.fault.TextFault.{TextFault}
use Rattle.esx_reading.specs.declared.fault.TextFault.TheVariants as faults
use Rattle.esx_session.specs.Sessions.{HasOpening, IsRefused}
use Rattle.esx_check.specs.declared.fault.OutputFault.TheVariants as output
use Rattle.esx_paths.specs.declared.at.At.{At}
use Rattle.esx_paths.specs.Ats.{node_at}
use Rattle.esx_reports.specs.declared.fault.ReportFault.{ReportFault}
use Rattle.esx_reports.specs.declared.fault.ReportFault.TheVariants.{Text, Differs, Refused, Output}
use Rattle.esx_reports.specs.Paths.{IsFaultOf, HasNoNode, HasNoPath}

pub no_node : (s : Session) (at : At) (refusal : Refusal) (fault : ReportFault) → IsFaultOf refusal fault
    → (refusal ≢ OutOfMemory → node_at at (history s) ≡ Err refusal) → (refusal ≡ OutOfMemory → IsOk (node_at at (history s))) → HasNoNode s at fault
no_node s at refusal (Text e) is err late = is
no_node s at refusal (Differs number) is err late = is
no_node s at refusal (Refused told) is err late = err is.0 ∙ ap (λ (e : Refusal). Err e) (sym is.1)
no_node s at refusal (Output output.OutOfMemory) is err late = late is
no_node s at refusal (Output output.Write) is err late = is

-- a text that could not be checked
pub no_text : (text : List ℕ) (at : At) (e : TextFault) → IsRefused e text → (e ≡ faults.OutOfMemory → HasOpening text) → HasNoPath text at (Text e)
no_text text at faults.NotToml is opening = is
no_text text at (faults.BadKey path) is opening = is
no_text text at (faults.BadLine n) is opening = is
no_text text at faults.NotText is opening = is
no_text text at (faults.Differs k) is opening = is
no_text text at faults.Read is opening = is
no_text text at faults.Write is opening = is
no_text text at faults.OutOfMemory is opening = opening refl
