-- Room for the steps of an event.
use Rattle.std.specs.Prelude.{ℕ, ◌+◌, ◌≤◌}
use Rattle.esx_types.specs.declared.config.TheConstants.{VM_NUMBERS}

-- a list of so many, with room for so many, has room for one more of each machine
abbrev pub HasRoom : ℕ → ℕ → Type 0
HasRoom len capacity = len + VM_NUMBERS ≤ capacity
