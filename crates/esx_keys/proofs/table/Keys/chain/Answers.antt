use Rattle.std.proofs.Common.{◌<◌, length, ap, ◌∙◌, arith}
use Rattle.std.proofs.lemmas.List.{get_or_read}
use Rattle.esx_keys.specs.Table.{head_count}
use Rattle.esx_keys.specs.Arena.{no_chain}
use Rattle.esx_keys.proofs.Tables.{chain_length-counted}
use Rattle.esx_keys.proofs.table.Keys.chain.Goals as goal

pub returns : goal.returns
returns c =
    let slots = c.self.inside.slots.items in
    let chains = c.self.inside.chains.items in
    let below : c.args.head < head_count (length slots) = rw (← c.self.view_is) at c.requires in
    let within : c.args.head < length chains = omega (arith, c.self.invariant.heads) in
    let read = get_or_read chains c.args.head c.index.result.now within c.index.ensures no_chain in
    rw (← c.self.view_is) (ap (λ x. x.len) read ∙ c.self.invariant.linked.counted c.args.head within ∙ chain_length-counted slots c.args.head c.self.invariant.distinct below)
