use Rattle.std.proofs.Common.{refl, ◌∙◌}
use Rattle.esx_watch.specs.Logs.{log_of}
use Rattle.esx_watch.proofs.Going.{goes_on}
use Rattle.esx_watch.proofs.log.Log.go_on.Goals as goal

pub returns : goal.returns
returns c = λ config ms x log nexts.
    goes_on c.sharing_is_told.ensures.sharing config ms x (log_of c.args.self.now) _ c.args.machine.now c.args.parted c.args.joined c.args.host log nexts c.shift.ensures c.sum-site.ensures.value
    (λ t shows is. c.all_figures-guests.ensures t shows (c.as_slice.ensures ∙ is)) refl c.tell_event.ensures
