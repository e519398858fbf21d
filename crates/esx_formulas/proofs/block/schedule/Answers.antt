use Rattle.std.proofs.Common.{arith}
use Rattle.sha2.specs.Sha256.{schedule}
use Rattle.esx_formulas.proofs.LaneFacts.{IsLane_at, first_word_is}
use Rattle.esx_formulas.proofs.block.schedule.Goals as goal

pub load-init : goal.load-init
load-init c = record { words = λ t h. absurd (omega arith); sums = λ t h. absurd (omega arith) }

pub load-preserved : goal.load-preserved
load-preserved c =
    let b = c.args.block.now in
    let word = first_word_is b c.load.t _ (omega arith) c.word_at.ensures in
    c.put.ensures (schedule b 48) c.load.invariant word

pub next-init : goal.next-init
next-init c = IsLane_at _ _ 0 (schedule c.args.block.now 48) _ _ (omega arith) c.load.invariant

pub next-preserved : goal.next-preserved
next-preserved c =
    let b = c.args.block.now in
    let ws = schedule b 48 in
    let s1 = c.put_next.ensures b c.next.invariant in
    let s2 = c.put_next-in-next.ensures b s1 in
    let s3 = c.put_next-in-next-2.ensures b (IsLane_at _ _ 0 ws _ _ (omega arith) s2) in
    let s4 = c.put_next-in-next-3.ensures b (IsLane_at _ _ 0 ws _ _ (omega arith) s3) in
    IsLane_at _ _ 0 ws _ _ (omega arith) s4

pub returns : goal.returns
returns c =
    let ws = schedule c.args.block.now 48 in
    (IsLane_at _ _ 0 ws _ 64 (omega arith) c.next.invariant).sums
