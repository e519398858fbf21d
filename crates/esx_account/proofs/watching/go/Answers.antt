use Rattle.esx_account.proofs.Front.{not_refused}
use Rattle.esx_account.proofs.watching.go.Goals as goal

pub want_of_memory-requires : goal.want_of_memory-requires
want_of_memory-requires c = λ other. (
    let is = c.requires in
    not_refused is.config is.events c.args.event.now c.in-Err.refusal is.scene is.runs ((c.in-Err.ensures is.config is.events is.watch).1 other))

pub returns-in-Ok : goal.returns-in-Ok
returns-in-Ok c = λ site es watch. (c.in-Ok.ensures site es watch).0
