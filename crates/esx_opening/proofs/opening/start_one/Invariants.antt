use Rattle.std.proofs.Common.{replicate}
use Rattle.esx_events.specs.declared.event.Event.TheVariants.{Start}
use Rattle.esx_opening.specs.Openings.{AreAccepted}
use Rattle.esx_opening.proofs.opening.start_one.Given as goal

abbrev pub invariant-loop : goal.invariant-loop
invariant-loop l = AreAccepted (replicate l.counter (Start l.vm)) l.initial.console l.console
