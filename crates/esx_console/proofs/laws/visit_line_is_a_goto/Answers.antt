use Rattle.esx_model.specs.Console.{history}
use Rattle.esx_console.proofs.Reaching.{session_reached}
use Rattle.esx_console.proofs.Branches.{visit_replies, visit_lines}
use Rattle.esx_console.proofs.laws.visit_line_is_a_goto.Goals as goal

pub returns-clause-told : goal.returns-clause-told
returns-clause-told c = λ s. visit_replies s (c.visit_is_a_goto.ensures.listed s.site (history s) (session_reached s))

pub returns-clause-place : goal.returns-clause-place
returns-clause-place c = λ s caller other. visit_lines s caller other (c.visit_is_a_goto.ensures.listed s.site (history s) (session_reached s))
