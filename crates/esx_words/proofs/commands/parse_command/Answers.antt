use Rattle.std.proofs.Common.{sym, ◌∙◌}
use Rattle.esx_words.proofs.OperandLemmas.{found_none, found_more}
use Rattle.esx_words.proofs.CommandLemmas.{spells, fields_of_command}
use Rattle.esx_words.proofs.commands.parse_command.Goals as goal

pub returns-clause-found : goal.returns-clause-found
returns-clause-found c =
    found_more c.call_of.result _ _ (λ call h. spells c.args.text.now call h.0 (sym c.of.ensures ∙ h.1)) c.call_of.ensures.found

pub returns-clause-only : goal.returns-clause-only
returns-clause-only c =
    found_none c.call_of.result _ _ (λ none call is. none call is.range (c.of.ensures ∙ fields_of_command c.args.text.now call is)) c.call_of.ensures.only
