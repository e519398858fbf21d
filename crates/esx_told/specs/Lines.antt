-- The lines of a log that is kept as a text.
use Rattle.std.specs.Prelude.{List, ◌++◌}
use Rattle.esx_events.specs.declared.call.Line.{Line}
use Rattle.esx_told.specs.declared.text_log.TextLog.{TextLog}
use Rattle.esx_told.specs.Told.{pending}

abbrev pub lines_of : TextLog → List Line
lines_of log = log.listed.value ++ pending log.latest
