use Rattle.std.proofs.Common.{◌≡◌, ◌+◌, ◌*◌, length, take}
use Rattle.esx_reading.proofs.HexField.{HasRead}
use Rattle.esx_reading.proofs.written.read_into.Given as goal

abbrev pub invariant-loop-sixteen : goal.invariant-loop-sixteen
invariant-loop-sixteen l = record {
  read : HasRead (take l.at l.bytes) l.rest l.digits;
  place : 2 * l.at + length l.rest ≡ length l.digits;
  room : length l.digits ≡ 2 * length l.bytes;
}

abbrev pub decreases-loop-sixteen : goal.decreases-loop-sixteen
decreases-loop-sixteen l = length l.rest

abbrev pub invariant-loop-pair : goal.invariant-loop-pair
invariant-loop-pair l = record {
  read : HasRead (take l.at l.bytes) l.rest l.digits;
  place : 2 * l.at + length l.rest ≡ length l.digits;
  room : length l.digits ≡ 2 * length l.bytes;
}

abbrev pub decreases-loop-pair : goal.decreases-loop-pair
decreases-loop-pair l = length l.rest
