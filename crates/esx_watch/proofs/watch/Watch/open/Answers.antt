use Rattle.std.proofs.Common.{ap, ◌∙◌}
use Rattle.esx_model.specs.Readings.{sum_of}
use Rattle.esx_model.specs.Replay.{opening}
use Rattle.esx_watch.specs.Logs.{log_of}
use Rattle.esx_watch.specs.Watches.{watched}
use Rattle.esx_watch.proofs.Going.{book_shown, log_opens}
use Rattle.esx_watch.proofs.Watching.{watch_opens}
use Rattle.esx_watch.proofs.watch.Watch.open.Goals as goal

pub returns-clause-opens : goal.returns-clause-opens
returns-clause-opens c =
    let fine = c.in_ok-machine.ensures in
    let k = c.in_ok-machine.machine in
    let site = c.args.site in
    watch_opens site (watched k c.in_ok-log.log) fine.checked fine.shows.0 fine.shows.1
    (log_opens site (log_of c.in_ok-log.log) c.sum.result c.in_ok-log.ensures (c.sum.ensures.value ∙ ap sum_of (book_shown site k (opening site) fine.shows.1 fine.shows.0)))
