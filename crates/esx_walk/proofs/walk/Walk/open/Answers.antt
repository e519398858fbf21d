use Rattle.esx_walk.specs.Kept.{account_of}
use Rattle.esx_walk.proofs.Walking.{walk_opens}
use Rattle.esx_walk.proofs.walk.Walk.open.Goals as goal

pub returns-clause-opens : goal.returns-clause-opens
returns-clause-opens c =
    let fine = c.in_ok-machine.ensures in
    walk_opens c.args.site (record { machine = c.in_ok-machine.machine; account = account_of c.in_ok-account.account }) fine.checked fine.shows.0 fine.shows.1 (c.in_ok-account.ensures c.args.site)
