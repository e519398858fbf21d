use Rattle.std.proofs.Common.{arith}
use Rattle.sha2.specs.Sha256.{schedule}
use Rattle.esx_formulas.specs.Lanes.{block}
use Rattle.esx_formulas.proofs.LaneFacts.{IsLane_at, first_word_is}
use Rattle.esx_formulas.proofs.lanes.schedules.Goals as goal

pub load-init : goal.load-init
load-init c = λ j low. record { words = λ t h. absurd (omega arith); sums = λ t h. absurd (omega arith) }

pub load-preserved : goal.load-preserved
load-preserved c = λ j low.
    let b = block c.args.blocks.now j in
    c.put.ensures j (schedule b 48) low (c.load.invariant j low) (first_word_is b c.load.t _ (omega arith) (c.words_at.ensures j low))

pub next-init : goal.next-init
next-init c = λ j low. IsLane_at _ _ j (schedule (block c.args.blocks.now j) 48) _ _ (omega arith) (c.load.invariant j low)

pub next-preserved : goal.next-preserved
next-preserved c = λ j low.
    let b = block c.args.blocks.now j in
    let half = c.put_next_four.ensures j b low (c.next.invariant j low) in
    IsLane_at _ _ j (schedule b 48) _ _ (omega arith) (c.put_next_four-in-next.ensures j b low half)

pub returns : goal.returns
returns c = λ j low. (IsLane_at _ _ j (schedule (block c.args.blocks.now j) 48) _ 64 (omega arith) (c.next.invariant j low)).sums
