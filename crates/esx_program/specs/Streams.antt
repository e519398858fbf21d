-- What comes out of a buffer of answers.
use Rattle.std.specs.Prelude.{ℕ, List, ◌++◌, ◌≡◌, Option, Result, IfOk, IfErr}
use Rattle.std.specs.Io.KnownBytes.{Appends}
use Rattle.esx_types.specs.declared.config.Config.{Config}
use Rattle.esx_model.specs.Console.{Session}
use Rattle.esx_text.specs.Answers.{AnswersIn, EndsEarlyIn}
use Rattle.esx_text.specs.declared.echo.Manner.{Manner}
use Rattle.esx_text.specs.declared.fault.ServeFault.{ServeFault}
use Rattle.esx_text.specs.declared.fault.ServeFault.TheVariants.{Read, Write, OutOfMemory}
use Rattle.esx_text.specs.States.{LeavesStreams, SourceState, SinkState}
use Rattle.esx_program.specs.Site.{at_opening}

-- All that was taken came out, or after a fault of writing a front of it.
abbrev pub ComesOut : ServeFault → Option (List ℕ) → Option (List ℕ) → Type 0
ComesOut Read taken out = taken ≡ out
ComesOut Write taken out = (rest : List ℕ) × Appends out taken rest
ComesOut OutOfMemory taken out = taken ≡ out

-- A front of what waited was written, and the rest waits.
abbrev pub Sends : Option (List ℕ) → Option (List ℕ) → List ℕ → List ℕ → Type 0
Sends old new waited waits = (front : List ℕ) × (waited ≡ front ++ waits) × Appends old new front

-- A site was served in some manner from its opening on: all input was answered, or all up to a fault, and the streams were left as `serve` leaves them.
pub record IsServed (manner : Manner) (site : Config) (ended : Result ℕ ServeFault) (unread left : SourceState) (out out' : SinkState) : Type 0 where
  pub ok : IfOk ended (λ n. (after : Session) × AnswersIn manner 0 n (at_opening site) after unread.remaining left.remaining out.contents out'.contents)
  pub fault : IfErr ended (λ e. (after : Session) × (taken : Option (List ℕ))
      × EndsEarlyIn manner e 0 (at_opening site) after unread.remaining left.remaining unread.calls left.calls out.contents taken
      × ComesOut e taken out'.contents)
  pub streams : LeavesStreams ended unread left out out'
