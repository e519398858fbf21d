-- What the sharing worker asks.
use Rattle.std.specs.Prelude.{◌%◌, Option, Some, None}
use Rattle.rand_pcg.specs.Lcg.{Lcg}
use Rattle.esx_events.specs.declared.call.Call.{Call}
use Rattle.esx_events.specs.declared.call.Call.TheVariants.{Do}
use Rattle.esx_events.specs.declared.event.Event.TheVariants.{Scan}
use Rattle.esx_workers.specs.declared.machine.Machine.{Machine}
use Rattle.esx_workers.specs.declared.sharing.SharerWorker.{SharerWorker}
use Rattle.esx_workers.specs.Draws.{word, after_word}
use Rattle.esx_workers.specs.Machines.{drawn, after_drawn}

-- a page of the machine, by the next word
abbrev pub scan_of : Lcg → Option Machine → Option Call
scan_of g None = None
scan_of g (Some m) = Some (Do (Scan m.vm (word g % m.pages)))

-- the generator after the page, where there is a machine
abbrev pub after_page : Lcg → Option Machine → Lcg
after_page g None = g
after_page g (Some m) = after_word g

abbrev pub sharer_asks : SharerWorker → Option Call
sharer_asks w = scan_of (after_drawn w.machines.now w.rng) (drawn w.machines.now w.rng)

abbrev pub sharer_asked : SharerWorker → SharerWorker
sharer_asked w = record w { rng = after_page (after_drawn w.machines.now w.rng) (drawn w.machines.now w.rng) }
