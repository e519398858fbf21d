use Rattle.std.proofs.Common.{arith}
use Rattle.sha2.specs.Sha256.{schedule}
use Rattle.esx_formulas.proofs.LaneFacts.{IsLane_at}
use Rattle.esx_formulas.proofs.lanes.put_next_four.Goals as goal

pub returns : goal.returns
returns c = λ j b low held.
    let s1 = c.put_next.ensures j b low held in
    let s2 = c.put_next-2.ensures j b low s1 in
    let s3 = c.put_next-3.ensures j b low (IsLane_at _ _ j (schedule b 48) _ _ (omega arith) s2) in
    let s4 = c.put_next-4.ensures j b low (IsLane_at _ _ j (schedule b 48) _ _ (omega arith) s3) in
    IsLane_at _ _ j (schedule b 48) _ _ (omega arith) s4
