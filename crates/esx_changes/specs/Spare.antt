-- What a machine has more than its least.
use Rattle.std.specs.Prelude.{Bool, false, Option, Some, None}
use Rattle.esx_model.specs.declared.book.VmRow.{VmRow}
use Rattle.esx_model.specs.Tables.{standing_of}
use Rattle.esx_model.specs.event.Paging.{has_more}

-- the machine has more than its least
abbrev pub has_spare : Option VmRow → Bool
has_spare None = false
has_spare (Some v) = has_more (standing_of v)
