use Rattle.std.proofs.Common.{[], ◌∷◌}
use Rattle.esx_events.specs.declared.event.Event.TheVariants.{Start}
use Rattle.esx_opening.proofs.InTurn.{accepted_none, accepted_one, again_accepted, again_refused, again_begun, refused_one, begun_none, handed_on}
use Rattle.esx_opening.proofs.opening.start_one.Goals as goal

pub loop-init : goal.loop-init
loop-init c = accepted_none c.args.console.now

pub loop-preserved : goal.loop-preserved
loop-preserved c =
    let ok = c.in_ok-accept.ensures.ok in
    again_accepted (Start c.args.vm) c.loop.counter c.args.console.now c.loop.console c.accept.new.console c.loop.invariant (accepted_one (Start c.args.vm) c.loop.console c.accept.new.console ok.0 ok.1)

pub returns-in_err-accept-clause-refused : goal.returns-in_err-accept-clause-refused
returns-in_err-accept-clause-refused c =
    handed_on c.from_residual.result c.in_err-accept.field-0.0 _ c.from_residual.ensures.1
    (λ e is. again_refused (Start c.args.vm) c.loop.counter c.args.frames c.args.console.now c.loop.console c.accept.new.console e c.loop-test.true c.loop.invariant
    (refused_one (Start c.args.vm) c.loop.console c.accept.new.console e (c.in_err-accept.ensures.refused e is)))

pub returns-in_err-accept-clause-late : goal.returns-in_err-accept-clause-late
returns-in_err-accept-clause-late c =
    handed_on c.from_residual.result c.in_err-accept.field-0.0 _ c.from_residual.ensures.1
    (λ is. again_begun (Start c.args.vm) c.loop.counter c.args.frames c.args.console.now c.loop.console c.accept.new.console c.loop-test.true c.loop.invariant
    (begun_none (Start c.args.vm ∷ []) c.loop.console c.accept.new.console (c.in_err-accept.ensures.late is)))
