-- Sums as they are kept.
use Rattle.std.specs.Prelude.{◌<◌, vec_len, vec_capacity}
use Rattle.esx_sums.specs.declared.sums.Sums.{Sums}
use Rattle.esx_sums.specs.Sums as specs

abbrev pub sums_of : Sums → specs.Sums
sums_of s = record { now = s.lives; past = s.past.items; levels = s.levels; site = s.site; level = s.level; refused = s.refused }

-- there is room for one more life that is over
abbrev pub HasSpace : Sums → Type 0
HasSpace s = vec_len s.past < vec_capacity s.past
