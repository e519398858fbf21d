-- The numbers of text faults.
use Rattle.std.specs.Prelude.{ℕ}
use Rattle.esx_reading.specs.declared.fault.TextFault.{TextFault}
use Rattle.esx_reading.specs.declared.fault.TextFault.TheVariants.{NotToml, BadKey, BadLine, NotText, Differs, Read, Write, OutOfMemory}

abbrev pub fault_number : TextFault → ℕ
fault_number NotToml = 40
fault_number (BadKey path) = 41
fault_number (BadLine n) = 42
fault_number NotText = 43
fault_number (Differs k) = 44
fault_number Read = 45
fault_number Write = 46
fault_number OutOfMemory = 26
