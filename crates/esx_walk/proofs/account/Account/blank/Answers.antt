use Rattle.std.proofs.Common.{◌∙◌}
use Rattle.esx_walk.proofs.Going.{blank_is}
use Rattle.esx_walk.proofs.account.Account.blank.Goals as goal

pub returns : goal.returns
returns c = blank_is c.new.result.items c.from_vec.result c.from_vec-2.result c.new.ensures.items (c.from_vec.ensures ∙ c.in_ok-lives.ensures) (c.from_vec-2.ensures ∙ c.in_ok-places.ensures)
