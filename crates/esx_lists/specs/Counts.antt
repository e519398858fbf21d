-- What one item adds to a count.
use Rattle.std.specs.Prelude.{ℕ, Bool, if◌then◌else◌}

abbrev pub one : Bool → ℕ
one counted = if counted then 1 else 0
