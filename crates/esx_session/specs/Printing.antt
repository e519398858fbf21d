-- What is printed of a line of a log.
use Rattle.std.specs.Prelude.{ℕ, List}
use Rattle.esx_events.specs.declared.call.Line.{Line}
use Rattle.esx_session.specs.Sessions.{entry_text, logged}

abbrev pub line_text : Line → List ℕ
line_text line = entry_text (logged line)
