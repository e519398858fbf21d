use Rattle.std.proofs.Common.{◌≡◌, take}
use Rattle.esx_check.proofs.comparing.common_front.Given as goal

abbrev pub invariant-loop-i : goal.invariant-loop-i
invariant-loop-i l = take l.i l.other ≡ take l.i l.text
