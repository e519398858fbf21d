-- An account as a walk keeps it.
use Rattle.std.specs.Prelude.{◌<◌, vec_len, vec_capacity}
use Rattle.esx_walk.specs.declared.account.Account.{Account}
use Rattle.esx_walk.specs.Account as specs

abbrev pub account_of : Account → specs.Account
account_of a = record { events = a.events; losses = a.losses.items; lives = a.lives; places = a.places }

-- there is room for one more loss
abbrev pub HasSpace : Account → Type 0
HasSpace a = vec_len a.losses < vec_capacity a.losses
