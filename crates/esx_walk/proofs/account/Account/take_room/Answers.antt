use Rattle.esx_walk.specs.Kept.{account_of}
use Rattle.esx_walk.proofs.Going.{room_so, same_so}
use Rattle.esx_walk.proofs.account.Account.take_room.Goals as goal

pub returns-clause-same : goal.returns-clause-same
returns-clause-same c = λ config ms mets s account.
    room_so config ms mets s (account_of c.args.self.now) c.args.number c.args.pages _ _ c.in_ok-reserve.ensures.items c.in_ok-make_places.ensures.ok account
