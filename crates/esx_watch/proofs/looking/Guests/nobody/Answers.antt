use Rattle.std.proofs.Common.{arith}
use Rattle.esx_types.specs.declared.config.TheConstants.{VM_NUMBERS}
use Rattle.esx_watch.proofs.Listed.{blank_at}
use Rattle.esx_watch.proofs.looking.Guests.nobody.Goals as goal

pub invariant_of-result : goal.invariant_of-result
invariant_of-result c = record { few = omega arith; past = λ n behind. blank_at VM_NUMBERS n }
