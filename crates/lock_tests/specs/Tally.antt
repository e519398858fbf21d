-- What a tally's log says.
use Rattle.std.specs.Prelude.{ℕ, ◌-◌, ◌==◌, List, length, cond}
use Rattle.esx_events.specs.declared.call.Line.{Line}
use Rattle.esx_events.specs.declared.call.Call.TheVariants.{Stand}
use Rattle.esx_events.specs.declared.call.Said.TheVariants.{Refused}
use Rattle.esx_events.specs.declared.event.Refusal.TheVariants.{Full}
use Rattle.esx_types.specs.declared.level.Level.{Level}
use Rattle.esx_types.specs.declared.level.Level.TheVariants.{High, Soft}
use Rattle.esx_types.specs.declared.config.Config.{Config}

abbrev pub line_of : ℕ → ℕ → Line
line_of caller number = record { caller = caller; call = Stand; reply = record { jumps = number; said = Refused Full } }

abbrev pub anything : Config → List Line → Type 0
anything site log = Unit {0}

abbrev pub tally_gauge : Config → List Line → ℕ × Level
tally_gauge site log = cond (site.frames == 0) (0, High) (site.frames - length log, Soft)
