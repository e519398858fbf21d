-- What the policy worker asks.
use Rattle.std.specs.Prelude.{ℕ, ◌+◌, Option, Some, None, slice_get}
use Rattle.esx_events.specs.declared.call.Call.{Call}
use Rattle.esx_events.specs.declared.call.Call.TheVariants.{Do}
use Rattle.esx_events.specs.declared.event.Event.TheVariants.{Rebalance, Sample}
use Rattle.esx_workers.specs.declared.machine.Machine.{Machine}
use Rattle.esx_workers.specs.declared.policing.PolicyWorker.{PolicyWorker}
use Rattle.esx_workers.specs.Draws.{words_of, after_words}

-- a new period of the machine, with words that are drawn
abbrev pub new_period : PolicyWorker → ℕ → Call
new_period w vm = Do (Sample vm w.length (words_of w.sample w.rng))

-- a new period of the machine whose turn it is; a rebalance after the last one
abbrev pub sample_of : PolicyWorker → Option Machine → Call
sample_of w None = Do Rebalance
sample_of w (Some m) = new_period w m.vm

-- the next machine's turn, or the first one's
abbrev pub sampled : PolicyWorker → Option Machine → PolicyWorker
sampled w None = record w { next = 0 }
sampled w (Some m) = record w { next = w.next + 1; rng = after_words w.sample w.rng }

abbrev pub policy_asks : PolicyWorker → Call
policy_asks w = sample_of w (slice_get w.machines.now w.next)

abbrev pub policy_asked : PolicyWorker → PolicyWorker
policy_asked w = sampled w (slice_get w.machines.now w.next)
