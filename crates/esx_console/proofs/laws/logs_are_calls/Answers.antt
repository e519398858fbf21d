use Rattle.esx_console.specs.Calls.{opened_session}
use Rattle.esx_console.proofs.Lines.{all_legal, asked_of, legal_asked}
use Rattle.esx_console.proofs.laws.logs_are_calls.Goals as goal

pub returns-clause-made : goal.returns-clause-made
returns-clause-made c = λ site asked. all_legal (opened_session site) asked tt

pub returns-clause-all : goal.returns-clause-all
returns-clause-all c = λ s legal. (asked_of s.log, legal_asked s legal)
