-- Machines that are drawn.
use Rattle.std.specs.Prelude.{◌%◌, List, [], ◌∷◌, length, slice_get, Option}
use Rattle.rand_pcg.specs.Lcg.{Lcg}
use Rattle.esx_workers.specs.declared.machine.Machine.{Machine}
use Rattle.esx_workers.specs.Draws.{word, after_word}

-- the machine at the place that is the next word, modulo their number; none where there are none
abbrev pub drawn : List Machine → Lcg → Option Machine
drawn machines g = slice_get machines (word g % length machines)

-- the generator after it
abbrev pub after_drawn : List Machine → Lcg → Lcg
after_drawn [] g = g
after_drawn (m ∷ ms) g = after_word g
