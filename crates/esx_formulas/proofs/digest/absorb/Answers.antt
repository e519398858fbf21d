use Rattle.std.proofs.Common.{refl, ap, sym, ◌∙◌, arith}
use Rattle.sha2.specs.Sha256.{compress, hash_after, schedule}
use Rattle.sha2.proofs.Absorbing256.{hash_after_next}
use Rattle.esx_formulas.specs.Lanes.{block}
use Rattle.esx_formulas.proofs.digest.absorb.Goals as goal

pub lanes-init : goal.lanes-init
unfolding hash_after
lanes-init c = refl

pub lanes-preserved : goal.lanes-preserved
unfolding compress
lanes-preserved c =
    let b = block c.args.blocks.now c.lanes.lane in
    c.compress.ensures (schedule b 48) (c.schedules.ensures c.lanes.lane (omega arith))
    ∙ ap (λ h. compress h b) c.lanes.invariant ∙ sym (hash_after_next c.args.state.now c.args.blocks.now c.lanes.lane)

pub returns : goal.returns
returns c = c.lanes.invariant ∙ ap (hash_after c.args.state.now c.args.blocks.now) (omega arith)
