use Rattle.std.proofs.Common.{ap, sym, ◌∙◌}
use Rattle.esx_scenario.proofs.LineLemmas.{text_none, text_within, text_past}
use Rattle.esx_scenario.proofs.line.line_of_text.Goals as goal
use Rattle.esx_scenario.specs.Lines.{line_in}

pub returns-in_default-clause-exact : goal.returns-in_default-clause-exact
returns-in_default-clause-exact c = sym (text_none _ _ _ (ap line_in (sym c.of.ensures) ∙ sym c.in_ok-line.ensures ∙ c.in_default.is))

pub returns-then-stays_within-clause-exact : goal.returns-then-stays_within-clause-exact
returns-then-stays_within-clause-exact c = sym (text_within _ _ _ c.in-Some.line (ap line_in (sym c.of.ensures) ∙ sym c.in_ok-line.ensures ∙ c.in-Some.is) (sym c.stays_within.ensures ∙ c.if-stays_within.true))

pub returns-else-stays_within-clause-exact : goal.returns-else-stays_within-clause-exact
returns-else-stays_within-clause-exact c = sym (text_past _ _ _ c.in-Some.line (ap line_in (sym c.of.ensures) ∙ sym c.in_ok-line.ensures ∙ c.in-Some.is) (sym c.stays_within.ensures ∙ c.if-stays_within.false))
