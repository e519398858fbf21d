-- What a run of a scenario leaves, and what is told of it.
use Rattle.std.specs.Prelude.{◌≡◌, ℕ, ◌+◌, Bool, true, false, List, [], map, length, Option, Some, None, Result, Ok, Err, OnOk}
use Rattle.std.specs.Io.KnownBytes.{Appends}
use Rattle.esx_types.specs.declared.ends.SinkFailed.{SinkFailed}
use Rattle.esx_events.specs.declared.event.Refusal.{Refusal}
use Rattle.esx_model.specs.Console.{Session, IsLegal}
use Rattle.esx_console.specs.Calls.{opened_session}
use Rattle.esx_scenario.specs.Plans.{Plan}
use Rattle.esx_refused.specs.declared.coming.RefusedOpening.{RefusedOpening}
use Rattle.esx_refused.specs.Refused.{first_refused}
use Rattle.esx_opening.specs.Openings.{opening_events, AreAccepted, IsRefusedAt}
use Rattle.esx_workers.specs.declared.end.End.{End}
use Rattle.esx_work.specs.Runs.{RunsOn}
use Rattle.esx_work.specs.Sites.{IsRunOf}
use Rattle.esx_writing.specs.Writing.{Writes, WritesFront, sink_faults}
use Rattle.esx_session.specs.Sessions.{session_text, logged}
use Rattle.esx_text.specs.States.{SinkState}
use Rattle.esx_program.specs.Ends.{ends_text}
use Rattle.esx_program.specs.declared.running.RunFault.{RunFault}
use Rattle.esx_program.specs.declared.running.RunFault.TheVariants.{Refused, RefusedAt, Write, OutOfMemory}
use Rattle.esx_opening.specs.declared.opening.SiteFault.{SiteFault}
use Rattle.esx_opening.specs.declared.opening.SiteFault.TheVariants as site

-- The console goes on from the opening of the scenario with the runs of its workers, to each of which every gate was open, and its log is legal.
pub record IsPlayed (p : Plan) (console : Session) (ends : List End) : Type 0 where
  pub opened : Session
  pub accepted : AreAccepted (opening_events p.guests) (opened_session p.site) opened
  pub many : length ends ≡ length p.guests + 3
  pub runs : RunsOn opened (length p.guests + 3) (λ k e lines. IsRunOf p (Unit {0}) k e lines) ends console
  pub legal : IsLegal console

-- the session of a console
abbrev pub told_session : Session → List ℕ
told_session console = session_text console.site (map logged console.log)

-- The ends of the workers were told, and none of them waits. Or one write or flush failed, and a front of them was written.
pub record AreTold (p : Plan) (ends : List End) (old new : SinkState) : Type 0 where
  pub ended : Result (Unit {0}) SinkFailed
  pub written : Writes old.contents new.contents (ends_text p.guests ends) ended
  pub failures : new.failures ≡ old.failures + sink_faults ended
  pub flushes : new.flushes + sink_faults ended ≡ old.flushes + 1
  pub sent : OnOk ended (new.waiting ≡ [])

-- one write or the flush failed, and a front of the session was written
pub record StopsTelling (console : Session) (out out' : SinkState) : Type 0 where
  pub taken : Option (List ℕ)
  pub front : WritesFront out.contents taken (told_session console)
  pub rest : List ℕ
  pub out_of_it : Appends out'.contents taken rest
  pub failures : out'.failures ≡ out.failures + 1
  pub flushes : out'.flushes ≡ out.flushes

-- a call of the opening was refused so
abbrev pub IsRefusedOpening : Plan → Refusal → Type 0
IsRefusedOpening p e = IsRefusedAt (opening_events p.guests) (opened_session p.site) e

-- such a call, and its machine: the first of the scenario that is refused
abbrev pub RefusesMachine : Plan → Refusal → RefusedOpening → Type 0
RefusesMachine p e machine = IsRefusedOpening p e × (first_refused p.site p.guests ≡ Some machine) × (machine.refusal ≡ e)

-- a call of the opening was refused so: the same with its machine
abbrev pub IsWithMachine : Plan → RunFault → RunFault → Type 0
IsWithMachine p (Refused e) told = (machine : RefusedOpening) × (told ≡ RefusedAt e machine) × RefusesMachine p e machine
IsWithMachine p fault told = told ≡ fault

-- where the run is told to somebody, a refusal names its machine, and only there
abbrev pub IsNamedTo : Bool → RunFault → Type 0
IsNamedTo somebody (Refused e) = somebody ≡ false
IsNamedTo somebody (RefusedAt e machine) = somebody ≡ true
IsNamedTo somebody Write = Unit {0}
IsNamedTo somebody OutOfMemory = Unit {0}

-- a site that was not opened, as a fault of the run
abbrev pub fault_of : SiteFault → RunFault
fault_of (site.Refused e) = Refused e
fault_of site.OutOfMemory = OutOfMemory

-- a session that was not written, as a fault of the run
abbrev pub written_as : Result (Unit {0}) SinkFailed → Result (Unit {0}) RunFault
written_as (Ok v) = Ok v
written_as (Err e) = Err Write

-- why there was no run, before its machine is known
abbrev pub NotPlayed : RunFault → Plan → Type 0
NotPlayed (Refused e) p = IsRefusedOpening p e
NotPlayed (RefusedAt e machine) p = ⊥
NotPlayed Write p = ⊥
NotPlayed OutOfMemory p = Unit {0}

-- The ends of the workers were told at one place, where they could be, and the session at another.
pub record Plays (p : Plan) (errors errors' out out' : SinkState) : Type 0 where
  pub console : Session
  pub ends : List End
  pub played : IsPlayed p console ends
  pub told : AreTold p ends errors errors'
  pub session_told : Appends out.contents out'.contents (told_session console)
  pub failures : out'.failures ≡ out.failures
  pub flushes : out'.flushes ≡ out.flushes + 1
  pub sent : out'.waiting ≡ []

-- The ends were told, where they could be, and a front of the session.
pub record PlaysFront (p : Plan) (errors errors' out out' : SinkState) : Type 0 where
  pub console : Session
  pub ends : List End
  pub played : IsPlayed p console ends
  pub told : AreTold p ends errors errors'
  pub stops : StopsTelling console out out'

-- Where there was no run nothing was told. After a fault of writing the ends were told, and a front of the session.
abbrev pub RunStops : RunFault → Plan → SinkState → SinkState → SinkState → SinkState → Type 0
RunStops (Refused e) p errors errors' out out' = IsRefusedOpening p e × (errors' ≡ errors) × (out' ≡ out)
RunStops (RefusedAt e machine) p errors errors' out out' = RefusesMachine p e machine × (errors' ≡ errors) × (out' ≡ out)
RunStops Write p errors errors' out out' = PlaysFront p errors errors' out out'
RunStops OutOfMemory p errors errors' out out' = (errors' ≡ errors) × (out' ≡ out)
