use Rattle.std.proofs.Common.{◌≡◌, ◌<◌, ◌^◌, take}
use Rattle.std.specs.Str.Parse.{AllDigits, digits_value}
use Rattle.esx_reading.proofs.fields.number_of_digits.Given as goal

abbrev pub invariant-loop-byte : goal.invariant-loop-byte
invariant-loop-byte l = record {
  small : l.number < 2 ^ 64;
  digits : AllDigits 10 (take l.byte-index l.bytes);
  value : l.number ≡ digits_value 10 (take l.byte-index l.bytes);
}
