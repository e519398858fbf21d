use Rattle.std.proofs.Common.{length-set, arith}
use Rattle.std.proofs.lemmas.List.{get_or_default}
use Rattle.esx_keys.specs.Arena.{vacant_slot}
use Rattle.esx_keys.proofs.Shifts.{first_within, len_fits, IsLinked-moved}
use Rattle.esx_keys.proofs.arena.move_first.Goals as goal

pub overflow_add-chains : goal.overflow_add-chains
overflow_add-chains c =
    omega (arith, len_fits c.requires.linked c.args.from c.args.to c.args.key c.args.entry c.requires.from_within c.requires.from_filled c.requires.to_right c.requires.apart)

pub returns-clause-linked : goal.returns-clause-linked
returns-clause-linked c =
    let linked = c.requires.linked in
    let within = first_within linked c.args.from c.args.to c.args.key c.args.entry c.requires.from_within c.requires.from_filled c.requires.to_right c.requires.apart in
    let moved = IsLinked-moved linked c.args.from c.args.to c.args.key c.args.entry c.requires.from_within c.requires.from_filled c.requires.to_right c.requires.apart in
    rw (length-set, length-set, get_or_default c.args.slots.now _ c.index-slots-source.result vacant_slot within) moved
