-- Worked examples, by computation: what a guest knows of its machine after some events, and that its own events alone make it.
use Rattle.std.specs.Prelude.{◌≡◌, ℕ, Bool, true, false, List, [], ◌∷◌, replicate, Option, Some, None, Result, Ok, Err}
use Rattle.std.proofs.Common.{refl}
use Rattle.esx_types.specs.declared.config.Config.{Config}
use Rattle.esx_types.specs.declared.vm.VmState.{VmState}
use Rattle.esx_types.specs.declared.vm.VmState.TheVariants.{Running, Stopping}
use Rattle.esx_events.specs.declared.event.Event.{Event}
use Rattle.esx_events.specs.declared.event.Event.TheVariants.{Admit, Start, Read, Write, Lend, TakeBack, Sample, Rebalance, Scan, SwapOut, Replace, SetShares, Stop, DropPage, Gone}
use Rattle.esx_events.specs.declared.event.Refusal.{Refusal}
use Rattle.esx_model.specs.declared.scene.Scene.{Scene}
use Rattle.esx_model.specs.Memory.{Cell, Memory, memory_at, memory_after, memory_along, own_events}
use Rattle.esx_model.specs.Replay.{run}
use Rattle.esx_model.proofs.rows.Replies.{site, spec, replies_of}

memory_in : Config → ℕ → Result Scene (ℕ × Refusal) → Option Memory
memory_in c n (Err e) = None
memory_in c n (Ok t) = memory_at c t.site n

-- the memory of a machine after a path
unfoldable memory_then : Config → List Event → ℕ → Option Memory
unfolding memory_in replies_of
memory_then c es n = memory_in c n (run c es)

-- it is this, and the machine's own events make it
abbrev IsMemory : Config → List Event → ℕ → Option Memory → Type 0
IsMemory c es n o = (memory_then c es n ≡ o) × (memory_along c n (own_events n es) None ≡ o)

abbrev cell : List ℕ → Option ℕ → Cell
cell bytes lent = record { bytes = bytes; lent = lent }

abbrev blank : Cell
blank = cell (replicate 16 0) None

abbrev lent_in : ℕ → Cell
lent_in epoch = cell (replicate 16 0) (Some epoch)

-- a page that begins with this byte
abbrev first : ℕ → Cell
first byte = cell (byte ∷ replicate 15 0) None

abbrev memory : VmState → ℕ → ℕ → ℕ → Bool → List Cell → Memory
memory state wanted held epoch due pages = record { state = state; wanted = wanted; held = held; epoch = epoch; due = due; pages = pages }

abbrev small : Config
small = site 8 16 8 75 6 4 2 1 16777216

-- two pages of five are lent
abbrev lending : List Event
lending = Admit 0 (spec 2 8 1 1000 4) ∷ Start 0 ∷ Write 0 4 0 (42 ∷ []) ∷ Read 0 1 0 1 ∷ Read 0 2 0 1 ∷ Read 0 3 0 1 ∷ Read 0 0 0 1 ∷ Rebalance ∷ Lend 0 4 ∷ Lend 0 3 ∷ []

-- a page that is lent has lost its bytes
lent : IsMemory small lending 0 (Some (memory Running 1 1 0 false (blank ∷ blank ∷ blank ∷ lent_in 0 ∷ lent_in 0 ∷ blank ∷ blank ∷ blank ∷ [])))
unfolding memory_then memory_along memory_after
lent = (refl, refl)

-- one that is written pops the balloon, which is a matter of all loans; it is lent no more
popped : IsMemory small (Admit 0 (spec 2 8 1 1000 4) ∷ Start 0 ∷ Write 0 4 0 (42 ∷ []) ∷ Read 0 1 0 1 ∷ Read 0 2 0 1 ∷ Read 0 3 0 1 ∷ Read 0 0 0 1 ∷ Rebalance ∷ Lend 0 4 ∷ Lend 0 3 ∷ Write 0 4 0 (7 ∷ []) ∷ []) 0
    (Some (memory Running 1 1 0 true (blank ∷ blank ∷ blank ∷ lent_in 0 ∷ first 7 ∷ blank ∷ blank ∷ blank ∷ [])))
unfolding memory_then memory_along memory_after
popped = (refl, refl)

-- then a lend has no other effect than the reset: a new epoch, in which nothing was lent
reset : IsMemory small
    (Admit 0 (spec 2 8 1 1000 4) ∷ Start 0 ∷ Write 0 4 0 (42 ∷ []) ∷ Read 0 1 0 1 ∷ Read 0 2 0 1 ∷ Read 0 3 0 1 ∷ Read 0 0 0 1 ∷ Rebalance ∷ Lend 0 4 ∷ Lend 0 3 ∷ Write 0 4 0 (7 ∷ []) ∷ Lend 0 4 ∷ [])
    0 (Some (memory Running 1 1 1 false (blank ∷ blank ∷ blank ∷ lent_in 0 ∷ first 7 ∷ blank ∷ blank ∷ blank ∷ [])))
unfolding memory_then memory_along memory_after
reset = (refl, refl)

-- a page that is taken back is lent no more
taken_back : IsMemory small (Admit 0 (spec 2 8 1 1000 4) ∷ Start 0 ∷ Write 0 4 0 (42 ∷ []) ∷ Read 0 1 0 1 ∷ Read 0 2 0 1 ∷ Read 0 3 0 1 ∷ Read 0 0 0 1 ∷ Rebalance ∷ Lend 0 4 ∷ Lend 0 3 ∷ TakeBack 0 3 ∷ []) 0
    (Some (memory Running 1 1 0 false (blank ∷ blank ∷ blank ∷ blank ∷ lent_in 0 ∷ blank ∷ blank ∷ blank ∷ [])))
unfolding memory_then memory_along memory_after
taken_back = (refl, refl)

-- A neighbour shares a page and writes its own, the page is paged out, the other's shares and sample change: of all this a guest knows nothing.
abbrev beside : List Event
beside =
    Admit 0 (spec 1 6 1 1000 0) ∷ Admit 1 (spec 1 4 1 1000 0) ∷ Start 0 ∷ Start 1 ∷ Write 0 0 0 (42 ∷ []) ∷ Write 1 0 0 (42 ∷ []) ∷ Scan 1 0 ∷ Scan 0 0 ∷ Write 1 0 0 (43 ∷ []) ∷ Read 1 1 0 1 ∷ Read 1 2 0 1
    ∷ Read 1 3 0 1 ∷ Read 0 1 0 1 ∷ SetShares 0 1 ∷ Sample 0 1 (0 ∷ []) ∷ Rebalance ∷ SwapOut 0 0 ∷ SwapOut 1 0 ∷ []

own_pages : IsMemory small beside 0 (Some (memory Running 1 1 0 false (first 42 ∷ blank ∷ blank ∷ blank ∷ blank ∷ blank ∷ [])))
unfolding memory_then memory_along memory_after
own_pages = (refl, refl)

neighbours_pages : IsMemory small beside 1 (Some (memory Running 1 1 0 false (first 43 ∷ blank ∷ blank ∷ blank ∷ [])))
unfolding memory_then memory_along memory_after
neighbours_pages = (refl, refl)

-- and these are the events that are its own
own_of_both : own_events 0 beside ≡ Admit 0 (spec 1 6 1 1000 0) ∷ Start 0 ∷ Write 0 0 0 (42 ∷ []) ∷ Read 0 1 0 1 ∷ []
own_of_both = refl

-- A page that was lent takes the place of another: the balloon pops, and no page's bytes change.
replaced : IsMemory small
    (Admit 0 (spec 3 7 1 1000 4) ∷ Admit 1 (spec 3 6 1 1000 0) ∷ Start 0 ∷ Start 1 ∷ Write 0 0 0 (9 ∷ []) ∷ Read 0 1 0 1 ∷ Write 0 2 0 (42 ∷ []) ∷ Read 1 0 0 1 ∷ Read 1 1 0 1 ∷ Read 1 2 0 1 ∷ Rebalance ∷ Lend 0 2
    ∷ Read 0 3 0 1 ∷ Replace 0 2 0 ∷ [])
    0 (Some (memory Running 1 1 0 true (first 9 ∷ blank ∷ blank ∷ blank ∷ blank ∷ blank ∷ blank ∷ [])))
unfolding memory_then memory_along memory_after
replaced = (refl, refl)

-- Of two overhead frames one is given back,
one_frame_back : IsMemory small (Admit 0 (spec 1 2 2 1000 0) ∷ Start 0 ∷ Start 0 ∷ Write 0 1 0 (5 ∷ []) ∷ Stop 0 ∷ DropPage 0 1 ∷ Gone 0 ∷ []) 0 (Some (memory Stopping 2 1 0 false (blank ∷ blank ∷ [])))
unfolding memory_then memory_along memory_after
one_frame_back = (refl, refl)

-- and with the last the machine goes.
gone_with_the_last : IsMemory small (Admit 0 (spec 1 2 2 1000 0) ∷ Start 0 ∷ Start 0 ∷ Write 0 1 0 (5 ∷ []) ∷ Stop 0 ∷ DropPage 0 1 ∷ Gone 0 ∷ Gone 0 ∷ []) 0 None
unfolding memory_then memory_along memory_after
gone_with_the_last = (refl, refl)

-- Under its number a new one comes, and has nothing of it.
new_machine : IsMemory small (Admit 0 (spec 1 2 1 1000 0) ∷ Start 0 ∷ Write 0 1 0 (5 ∷ []) ∷ Stop 0 ∷ DropPage 0 1 ∷ Gone 0 ∷ Admit 0 (spec 1 2 1 1000 0) ∷ Start 0 ∷ []) 0 (Some (memory Running 1 1 0 false (blank ∷ blank ∷ [])))
unfolding memory_then memory_along memory_after
new_machine = (refl, refl)
