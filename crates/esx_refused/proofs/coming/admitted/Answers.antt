use Rattle.std.proofs.Common.{◌∙◌, ◌+◌, arith, sym}
use Rattle.esx_types.specs.declared.config.TheConstants.{VM_NUMBERS}
use Rattle.esx_refused.proofs.Loops.{nobody_came, one_more_came, refused_at_last}
use Rattle.esx_refused.proofs.coming.admitted.Goals as goal

pub loop-number-init : goal.loop-number-init
loop-number-init c = record {
  come = nobody_came c.args.site.now c.args.guests.now;
  within = record { nodes = omega arith; memory = omega arith; swap = omega arith };
}

pub loop-number-preserved : goal.loop-number-preserved
loop-number-preserved c = record {
  come = one_more_came c.args.site.now c.args.guests.now c.loop-number.number c.loop-number.so_far c.loop-number.invariant.come ∙ sym c.in-Ok.ensures.value;
  within = c.in-Ok.ensures.within;
}

pub returns-in-Err-clause-value : goal.returns-in-Err-clause-value
returns-in-Err-clause-value c =
    sym (refused_at_last c.args.site.now c.args.guests.now (c.loop-number.number + 1) VM_NUMBERS c.in-Err.first (omega (arith, c.loop-number-test.true))
    (one_more_came c.args.site.now c.args.guests.now c.loop-number.number c.loop-number.so_far c.loop-number.invariant.come ∙ sym c.in-Err.ensures.value))
