use Rattle.std.proofs.Common.{◌≡◌, ◌<◌, ◌^◌, take}
use Rattle.std.specs.Str.Parse.{AllDigits, digits_value}
use Rattle.esx_reading.proofs.fields.digits_from.Given as goal

abbrev pub invariant-loop-i : goal.invariant-loop-i
invariant-loop-i l = record {
  small : l.number < 2 ^ 64;
  digits : AllDigits 10 (take l.i l.bytes);
  value : l.number ≡ digits_value 10 (take l.i l.bytes);
}
