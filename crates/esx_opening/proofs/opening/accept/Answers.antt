use Rattle.std.proofs.Common.{◌∙◌, ap, ⊎_elim}
use Rattle.esx_events.specs.declared.call.Reply.{Reply}
use Rattle.esx_opening.proofs.InTurn.{said_event}
use Rattle.esx_opening.proofs.opening.accept.Goals as goal

pub unreachable-requires : goal.unreachable-requires
unreachable-requires c =
    let is = ap (λ (r : Reply). r.said) c.in_ok-call.ensures.ok.0 in
    ⊎_elim (λ a. c.in_default.not-Done a.0 (is ∙ a.1)) (λ e. c.in_default.not-Refused e.0 (is ∙ e.1)) (said_event c.args.console.now c.args.event)
