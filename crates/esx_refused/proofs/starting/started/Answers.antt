use Rattle.std.proofs.Common.{◌∙◌, ◌+◌, arith, sym}
use Rattle.esx_types.specs.declared.config.TheConstants.{VM_NUMBERS}
use Rattle.esx_refused.proofs.Loops.{nobody_started, one_more_started, short_at_last}
use Rattle.esx_refused.proofs.starting.started.Goals as goal

pub loop-number-init : goal.loop-number-init
loop-number-init c = record { started = nobody_started c.args.site.now c.args.nodes c.args.guests.now; within = c.requires }

pub loop-number-preserved : goal.loop-number-preserved
loop-number-preserved c = record {
  started = one_more_started c.args.site.now c.args.guests.now c.loop-number.number c.args.nodes c.loop-number.made c.loop-number.invariant.started ∙ sym c.in-Ok.ensures.value;
  within = c.in-Ok.ensures.within;
}

pub returns-in-Err : goal.returns-in-Err
returns-in-Err c =
    sym (short_at_last c.args.site.now c.args.nodes c.args.guests.now (c.loop-number.number + 1) VM_NUMBERS c.in-Err.first (omega (arith, c.loop-number-test.true))
    (one_more_started c.args.site.now c.args.guests.now c.loop-number.number c.args.nodes c.loop-number.made c.loop-number.invariant.started ∙ sym c.in-Err.ensures.value))
