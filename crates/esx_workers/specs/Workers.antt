-- What workers ask, and how they go on.
use Rattle.std.specs.Prelude.{Option, Some}
use Rattle.esx_events.specs.declared.call.Call.{Call}
use Rattle.esx_events.specs.declared.call.Reply.{Reply}
use Rattle.esx_workers.specs.declared.end.How.{How}
use Rattle.esx_workers.specs.declared.end.How.TheVariants.{Turns}
use Rattle.esx_workers.specs.declared.worker.Worker.{Worker}
use Rattle.esx_workers.specs.declared.worker.Worker.TheVariants.{Guest, Sharer, Swapper, Policy}
use Rattle.esx_workers.specs.Visiting.{guest_asks, guest_hears, guest_rest}
use Rattle.esx_workers.specs.Sharing.{sharer_asks, sharer_asked}
use Rattle.esx_workers.specs.Swapping.{swapper_asks, swapper_asked}
use Rattle.esx_workers.specs.Policing.{policy_asks, policy_asked}

-- the next call, if there is one
abbrev pub asks : Worker → Option Call
asks (Guest w) = guest_asks w
asks (Sharer w) = sharer_asks w
asks (Swapper w) = swapper_asks w
asks (Policy w) = Some (policy_asks w)

-- the worker once it has asked
abbrev pub asked : Worker → Worker
asked (Guest w) = Guest w
asked (Sharer w) = Sharer (sharer_asked w)
asked (Swapper w) = Swapper (swapper_asked w)
asked (Policy w) = Policy (policy_asked w)

-- and once it has heard the reply
abbrev pub hears : Worker → Reply → Worker
hears (Guest w) reply = Guest (guest_hears w reply)
hears (Sharer w) reply = Sharer w
hears (Swapper w) reply = Swapper w
hears (Policy w) reply = Policy w

-- how it ends where it makes no more calls
abbrev pub rest : Worker → How
rest (Guest w) = guest_rest w
rest (Sharer w) = Turns
rest (Swapper w) = Turns
rest (Policy w) = Turns
