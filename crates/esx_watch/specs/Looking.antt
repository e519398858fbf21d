-- From which number on nothing is told of a machine.
use Rattle.std.specs.Prelude.{ℕ, ◌≤◌, ◌≡◌, List, Option, None, slice_index_or}
use Rattle.esx_types.specs.declared.config.TheConstants.{VM_NUMBERS}
use Rattle.esx_figures.specs.declared.figures.Figures.{Figures}

-- from this number on nothing is told of any machine
pub record IsBlankFrom (all : List (Option Figures)) (numbers : ℕ) : Type 0 where
  pub few : numbers ≤ VM_NUMBERS
  pub past : (n : ℕ) → numbers ≤ n → slice_index_or all n None ≡ None
