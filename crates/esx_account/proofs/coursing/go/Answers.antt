use Rattle.esx_account.proofs.Coursed.{never_refused}
use Rattle.esx_account.proofs.coursing.go.Goals as goal

pub want_of_memory-requires : goal.want_of_memory-requires
want_of_memory-requires c = λ other. (
    let is = c.requires in
    never_refused is.site is.events c.args.event.now c.in-Err.refusal is.scene is.runs ((c.in-Err.ensures is.site is.events is.course).1 other))

pub returns-in-Ok : goal.returns-in-Ok
returns-in-Ok c = λ site es course. (let on = c.in-Ok.ensures site es course in (on.0, (c.in-Ok._answer, on.1)))
