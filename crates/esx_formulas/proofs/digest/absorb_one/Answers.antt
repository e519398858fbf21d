use Rattle.std.proofs.Common.{◌∙◌}
use Rattle.sha2.specs.Sha256.{compress, schedule}
use Rattle.esx_formulas.proofs.DigestFacts.{one_block}
use Rattle.esx_formulas.proofs.digest.absorb_one.Goals as goal

pub returns : goal.returns
unfolding compress
returns c =
    let b = c.args.block.now in
    c.compress.ensures (schedule b 48) c.schedule.ensures ∙ one_block c.args.state.now b c.requires
