-- The limits that a text's version sets.
use Rattle.std.specs.Prelude.{ℕ, Bool, true, false}
use Rattle.esx_types.specs.declared.config.TheConstants.{CALLERS, VM_NUMBERS}
use Rattle.esx_types.specs.declared.version.TheConstants.{CALLERS_OF_VERSION_ONE, VM_NUMBERS_OF_VERSION_ONE}
use Rattle.esx_types.specs.declared.version.Version.{Version}
use Rattle.esx_types.specs.declared.version.Version.TheVariants.{One, Two}

-- a machine's number is below this
abbrev pub vm_numbers : Version → ℕ
vm_numbers One = VM_NUMBERS_OF_VERSION_ONE
vm_numbers Two = VM_NUMBERS

-- a caller's number is below this
abbrev pub callers : Version → ℕ
callers One = CALLERS_OF_VERSION_ONE
callers Two = CALLERS

-- a machine may have a tax of its own
abbrev pub has_own_taxes : Version → Bool
has_own_taxes One = false
has_own_taxes Two = true
