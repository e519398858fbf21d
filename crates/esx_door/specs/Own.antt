-- The lines of one caller.
use Rattle.std.specs.Prelude.{ℕ, ◌==◌, List, filter}
use Rattle.esx_events.specs.declared.call.Call.{Call}
use Rattle.esx_events.specs.declared.call.Reply.{Reply}
use Rattle.esx_events.specs.declared.call.Line.{Line}

abbrev pub line : ℕ → Call → Reply → Line
line caller call reply = record { caller = caller; call = call; reply = reply }

abbrev pub lines_of : ℕ → List Line → List Line
lines_of k log = filter (λ x. x.caller == k) log
