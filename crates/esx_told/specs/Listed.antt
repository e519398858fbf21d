-- A list that grows at its end.
use Rattle.std.specs.Prelude.{List, [], ◌∷◌, ◌++◌, Option, None, Some}
use Rattle.esx_events.specs.declared.call.Line.{Line}

abbrev pub listed_lines : Option (List Line × Line) → List Line
listed_lines None = []
listed_lines (Some both) = both.0 ++ both.1 ∷ []
