-- How a refused machine is told.
use Rattle.std.specs.Prelude.{ℕ, List, [], ◌++◌, codes, decimal, Option, Some, None}
use Rattle.esx_refused.specs.declared.coming.Lack.{Lack}
use Rattle.esx_refused.specs.declared.coming.RefusedOpening.{RefusedOpening}

abbrev pub lack_text : Option Lack → List ℕ
lack_text None = []
lack_text (Some lack) = codes ": " ++ (decimal lack.asked ++ (codes " of " ++ decimal lack.had))

abbrev pub refused_text : RefusedOpening → List ℕ
refused_text r = codes " vm " ++ (decimal r.vm ++ lack_text r.lack)
