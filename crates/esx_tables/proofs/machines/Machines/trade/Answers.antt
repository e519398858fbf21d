use Rattle.std.proofs.Common.{◌<◌, length, None, ap, ◌∙◌, arith}
use Rattle.std.proofs.lemmas.List.{get_or_default}
use Rattle.esx_tables.specs.Promised.{memory_of, swap_of, IsFew}
use Rattle.esx_tables.proofs.Promised.{frames_fit, slots_fit}
use Rattle.esx_tables.proofs.machines.Machines.trade.Goals as goal

pub overflow_add-self : goal.overflow_add-self
overflow_add-self c =
    let rows = c.self.inside.rows in
    let there : c.args.at < length rows = omega (arith, c.if-at-len.true, c.len.ensures) in
    let gone = c.trade.ensures.row ∙ get_or_default rows c.args.at c.args.row.now None there in
    let few : IsFew c.args.row.now = record {
      memory = omega (arith, c.memory_of-memory.ensures.value, c.memory_of-memory.ensures.most);
      swap = omega (arith, c.swap_of-swap.ensures.value, c.swap_of-swap.ensures.most);
    } in
    let fit = (frames_fit rows c.self.inside.used c.self.inside.memory c.self.inside.swap c.args.at c.args.row.now c.self.invariant there few).1 in
    let goes = c.memory_of.ensures.value ∙ ap memory_of gone in
    omega (arith, fit, goes, c.memory_of-memory.ensures.value)

pub overflow_add-self-then-at-len : goal.overflow_add-self-then-at-len
overflow_add-self-then-at-len c =
    let rows = c.self.inside.rows in
    let there : c.args.at < length rows = omega (arith, c.if-at-len.true, c.len.ensures) in
    let gone = c.trade.ensures.row ∙ get_or_default rows c.args.at c.args.row.now None there in
    let few : IsFew c.args.row.now = record {
      memory = omega (arith, c.memory_of-memory.ensures.value, c.memory_of-memory.ensures.most);
      swap = omega (arith, c.swap_of-swap.ensures.value, c.swap_of-swap.ensures.most);
    } in
    let fit = (slots_fit rows c.self.inside.used c.self.inside.memory c.self.inside.swap c.args.at c.args.row.now c.self.invariant there few).1 in
    let goes = c.swap_of.ensures.value ∙ ap swap_of gone in
    omega (arith, fit, goes, c.swap_of-swap.ensures.value)
