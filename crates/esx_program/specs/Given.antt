-- What the program is given: its words, and files that it opens.
use Rattle.std.specs.Prelude.{◌≡◌, Result, Ok, Err, String, Vec}
use Rattle.std.specs.IoError.{error_kind}
use Rattle.std.specs.Vec.Iter.{into_iter_items}
use Rattle.std.specs.declared.io.Error.{Error}
use Rattle.std.specs.declared.io.ErrorKind.{ErrorKind}
use Rattle.std.specs.declared.io.ErrorKind.TheVariants as kind
use Rattle.std.specs.declared.alloc.Global.{Global}
use Rattle.std.specs.declared.vec.IntoIter.{IntoIter}
use Rattle.esx_reading.specs.declared.fault.TextFault.{TextFault}
use Rattle.esx_reading.specs.declared.fault.TextFault.TheVariants as text
use Rattle.esx_program.specs.declared.Failure.{Failure}
use Rattle.esx_program.specs.declared.Failure.TheVariants.{Words, Text}

-- memory ran out, or the file cannot be read
abbrev pub open_fault : ErrorKind → TextFault
open_fault kind.OutOfMemory = text.OutOfMemory
open_fault _ = text.Read

-- memory ran out, or a word is no text
abbrev pub words_failure : ErrorKind → Failure
words_failure kind.OutOfMemory = Text text.OutOfMemory
words_failure _ = Words

-- the program's words, its name first
abbrev pub Args : Type 0
Args = IntoIter (String Global) Global

-- the words that were given, where there was memory for them
abbrev pub GivesWords : Result Args Error → Result (Vec (String Global) Global) Failure → Type 0
GivesWords (Ok args) (Ok words) = words.items ≡ into_iter_items args
GivesWords (Ok args) (Err failure) = failure ≡ Text text.OutOfMemory
GivesWords (Err e) result = result ≡ Err (words_failure (error_kind e))
