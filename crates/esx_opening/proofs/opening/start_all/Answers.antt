use Rattle.std.specs.Borrow.{Bor}
use Rattle.esx_scenario.specs.declared.plan.Guest.{Guest}
use Rattle.esx_opening.specs.Openings.{starts_of}
use Rattle.esx_opening.proofs.InTurn.{accepted_none, each_accepted, each_refused, each_begun, handed_on}
use Rattle.esx_opening.proofs.opening.start_all.Goals as goal

pub loop-guest-init : goal.loop-guest-init
loop-guest-init c = accepted_none c.args.console.now

pub loop-guest-preserved : goal.loop-guest-preserved
loop-guest-preserved c =
    each_accepted (λ (x : Bor Guest). starts_of x.now) c.args.guests.now c.loop-guest.guest-index c.guest-item.result c.args.console.now c.loop-guest.console c.start_one.new.console c.loop-guest-test.true c.guest-item.is c.loop-guest.invariant c.in_ok-start_one.ensures.ok

pub returns-in_err-start_one-clause-refused : goal.returns-in_err-start_one-clause-refused
returns-in_err-start_one-clause-refused c =
    handed_on c.from_residual.result c.in_err-start_one.field-0.0 _ c.from_residual.ensures.1
    (λ e is. each_refused (λ (x : Bor Guest). starts_of x.now) c.args.guests.now c.loop-guest.guest-index c.guest-item.result c.args.console.now c.loop-guest.console c.start_one.new.console e c.loop-guest-test.true c.guest-item.is c.loop-guest.invariant (c.in_err-start_one.ensures.refused e is))

pub returns-in_err-start_one-clause-late : goal.returns-in_err-start_one-clause-late
returns-in_err-start_one-clause-late c =
    handed_on c.from_residual.result c.in_err-start_one.field-0.0 _ c.from_residual.ensures.1
    (λ is. each_begun (λ (x : Bor Guest). starts_of x.now) c.args.guests.now c.loop-guest.guest-index c.guest-item.result c.args.console.now c.loop-guest.console c.start_one.new.console c.loop-guest-test.true c.guest-item.is c.loop-guest.invariant (c.in_err-start_one.ensures.late is))
