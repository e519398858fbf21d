use Rattle.std.specs.Borrow.{Bor}
use Rattle.esx_events.specs.declared.event.Event.TheVariants.{Admit}
use Rattle.esx_scenario.specs.declared.plan.Guest.{Guest}
use Rattle.esx_opening.specs.Openings.{admit_of}
use Rattle.esx_opening.proofs.InTurn.{accepted_none, accepted_one, each_accepted, each_refused, each_begun, refused_one, begun_none, handed_on}
use Rattle.esx_opening.proofs.opening.admit_all.Goals as goal

pub loop-guest-init : goal.loop-guest-init
loop-guest-init c = accepted_none c.args.console.now

pub loop-guest-preserved : goal.loop-guest-preserved
loop-guest-preserved c =
    let ok = c.in_ok-accept.ensures.ok in
    let g = c.guest-item.result in
    each_accepted (λ (x : Bor Guest). admit_of x.now) c.args.guests.now c.loop-guest.guest-index g c.args.console.now c.loop-guest.console c.accept.new.console c.loop-guest-test.true c.guest-item.is c.loop-guest.invariant
    (accepted_one (Admit g.now.vm g.now.spec) c.loop-guest.console c.accept.new.console ok.0 ok.1)

pub returns-in_err-accept-clause-refused : goal.returns-in_err-accept-clause-refused
returns-in_err-accept-clause-refused c =
    let g = c.guest-item.result in
    handed_on c.from_residual.result c.in_err-accept.field-0.0 _ c.from_residual.ensures.1
    (λ e is. each_refused (λ (x : Bor Guest). admit_of x.now) c.args.guests.now c.loop-guest.guest-index g c.args.console.now c.loop-guest.console c.accept.new.console e c.loop-guest-test.true c.guest-item.is c.loop-guest.invariant
    (refused_one (Admit g.now.vm g.now.spec) c.loop-guest.console c.accept.new.console e (c.in_err-accept.ensures.refused e is)))

pub returns-in_err-accept-clause-late : goal.returns-in_err-accept-clause-late
returns-in_err-accept-clause-late c =
    let g = c.guest-item.result in
    handed_on c.from_residual.result c.in_err-accept.field-0.0 _ c.from_residual.ensures.1
    (λ is. each_begun (λ (x : Bor Guest). admit_of x.now) c.args.guests.now c.loop-guest.guest-index g c.args.console.now c.loop-guest.console c.accept.new.console c.loop-guest-test.true c.guest-item.is c.loop-guest.invariant
    (begun_none (admit_of g.now) c.loop-guest.console c.accept.new.console (c.in_err-accept.ensures.late is)))
