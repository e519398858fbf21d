use Rattle.std.proofs.Common.{ap, sym, ◌∙◌, ◌∷◌}
use Rattle.esx_reading.proofs.FieldLemmas.{some_field, others_of}
use Rattle.esx_session.proofs.CallLemmas.{line_of_parts}
use Rattle.esx_session.proofs.line.parted.Goals as goal

pub returns-in_err-number-clause-none : goal.returns-in_err-number-clause-none
returns-in_err-number-clause-none c = rw c.from_residual.ensures (λ number command e. let both = sym e ∙ (sym c.of-fields.ensures ∙ c.in_err-number.ensures.left) in cc)

pub returns-in_err-command-clause-none : goal.returns-in_err-command-clause-none
returns-in_err-command-clause-none c = rw c.from_residual-in_err-command.ensures (λ number command e.
    some_field command (sym (others_of _ _ _ _ (sym (sym c.of-fields.ensures ∙ c.in_ok-number.ensures.left) ∙ e)) ∙ c.in_err-command.ensures))

pub returns-clause-cut : goal.returns-clause-cut
returns-clause-cut c = sym c.of-fields.ensures ∙ c.in_ok-number.ensures.left ∙ ap (λ v. c.in_ok-number.number.now ∷ v) c.in_ok-command.ensures

pub returns-clause-whole : goal.returns-clause-whole
returns-clause-whole c = line_of_parts c.args.line.now c.in_ok-number.number.now c.in_ok-command.command.now
    (sym c.of-fields.ensures ∙ c.in_ok-number.ensures.left ∙ ap (λ v. c.in_ok-number.number.now ∷ v) c.in_ok-command.ensures)
