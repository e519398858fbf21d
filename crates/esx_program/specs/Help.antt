-- What is told of the program's words.
use Rattle.std.specs.Prelude.{ℕ, List}
use Rattle.esx_program.specs.declared.help.TheConstants.{HELP}

-- each word in a line, and below it an example
abbrev pub help_text : List ℕ
help_text = HELP.now
