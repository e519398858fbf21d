use Rattle.esx_reports.proofs.Answered.{path_in, answered, unanswered}
use Rattle.esx_reports.proofs.telling.answer_of.Goals as goal

pub returns-clause-answer : goal.returns-clause-answer
returns-clause-answer g c =
    let meant = c.in_ok-path.ensures.path in
    let there = path_in c.args.text.now c.args.question c.in_ok-path.path meant in
    answered c.args.text.now c.args.question c.in_ok-path.path meant c.answer_to.result (c.answer_to.ensures.answer meant.site meant.entries there)

pub returns-clause-fault : goal.returns-clause-fault
returns-clause-fault g c =
    let meant = c.in_ok-path.ensures.path in
    let there = path_in c.args.text.now c.args.question c.in_ok-path.path meant in
    unanswered c.args.text.now c.args.question c.in_ok-path.path meant c.answer_to.result (c.answer_to.ensures.none meant.site meant.entries there)
