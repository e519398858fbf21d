-- What the paging worker asks.
use Rattle.std.specs.Prelude.{Option, Some, None}
use Rattle.rand_pcg.specs.Lcg.{Lcg}
use Rattle.esx_events.specs.declared.call.Call.{Call}
use Rattle.esx_events.specs.declared.call.Call.TheVariants.{Do}
use Rattle.esx_events.specs.declared.event.Event.TheVariants.{SwapOut}
use Rattle.esx_workers.specs.declared.machine.Machine.{Machine}
use Rattle.esx_workers.specs.declared.swapping.SwapperWorker.{SwapperWorker}
use Rattle.esx_workers.specs.Draws.{word, after_word}
use Rattle.esx_workers.specs.Machines.{drawn, after_drawn}

-- the machine, and the next word
abbrev pub swap_of : Lcg → Option Machine → Option Call
swap_of g None = None
swap_of g (Some m) = Some (Do (SwapOut m.vm (word g)))

-- the generator after the word, where there is a machine
abbrev pub after_swap : Lcg → Option Machine → Lcg
after_swap g None = g
after_swap g (Some m) = after_word g

abbrev pub swapper_asks : SwapperWorker → Option Call
swapper_asks w = swap_of (after_drawn w.machines.now w.rng) (drawn w.machines.now w.rng)

abbrev pub swapper_asked : SwapperWorker → SwapperWorker
swapper_asked w = record w { rng = after_swap (after_drawn w.machines.now w.rng) (drawn w.machines.now w.rng) }
