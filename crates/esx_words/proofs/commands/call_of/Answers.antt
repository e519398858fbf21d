use Rattle.esx_words.proofs.OperandLemmas.{found_none}
use Rattle.esx_words.proofs.CommandLemmas.{none_of}
use Rattle.esx_words.proofs.commands.call_of.Goals as goal

pub returns-clause-only : goal.returns-clause-only
returns-clause-only c = found_none c.operands_of.result _ _
    (none_of c.in-Some-verb_of.verb c.in-Some.word.now c.args.fields.now _ c.in-Some-verb_of.ensures.found c.in-Some.ensures.left)
    c.operands_of.ensures.only
