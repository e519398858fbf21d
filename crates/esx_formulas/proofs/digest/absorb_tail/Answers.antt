use Rattle.std.proofs.Common.{◌∙◌, ap, arith}
use Rattle.sha2.specs.Sha256.{hash_after}
use Rattle.esx_formulas.proofs.DigestFacts.{five_blocks, hash_after-take}
use Rattle.esx_formulas.proofs.digest.absorb_tail.Goals as goal

pub returns-then-count-eq1 : goal.returns-then-count-eq1
returns-then-count-eq1 c =
    let s = c.args.state.now in
    let p = c.args.tail.now in
    c.absorb_one.ensures ∙ hash_after-take s p 64 1 (omega arith) (omega arith)
    ∙ ap (hash_after s p) (omega arith)

pub returns-then-count-le4 : goal.returns-then-count-le4
returns-then-count-le4 c =
    let p = c.args.tail.now in
    c.absorb.ensures
    ∙ hash_after-take c.args.state.now p 256 c.args.count (omega arith) (omega arith)

pub returns-else-count-le4 : goal.returns-else-count-le4
returns-else-count-le4 c =
    rw (c.absorb_one-else-count-le4.ensures, c.absorb-else-count-le4.ensures)
    (five_blocks c.args.state.now c.args.tail.now c.args.count (omega arith) (omega arith))
