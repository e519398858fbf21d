use Rattle.std.proofs.Common.{ap, ◌∙◌, length, length-set}
use Rattle.esx_keys.specs.Arena.{table_of}
use Rattle.esx_keys.proofs.Arenas.{heads-is_power, IsArena-from, has_free}
use Rattle.esx_keys.specs.Table.{entry_count}
use Rattle.esx_keys.proofs.Counts.{entry_count-with_entry_at}
use Rattle.esx_keys.proofs.Puts.{IsDistinct-put, table_of-put}
use Rattle.esx_keys.proofs.Tables.{absent_from_entry_at}
use Rattle.esx_keys.proofs.arena.insert.Goals as goal

pub head_of-head-requires : goal.head_of-head-requires
head_of-head-requires c = heads-is_power _ _ c.requires.arena

pub move_first-requires-clause-from_filled : goal.move_first-requires-clause-from_filled
move_first-requires-clause-from_filled c = (has_free _ _ c.requires.arena c.requires.room).filled

pub returns-clause-arena : goal.returns-clause-arena
returns-clause-arena c =
    let free = has_free _ _ c.requires.arena c.requires.room in
    let absent = absent_from_entry_at _ _ _ c.requires.arena.distinct c.requires.vacant in
    let distinct = IsDistinct-put c.args.slots.now _ c.args.key _ c.args.entry free.within free.free c.requires.arena.distinct absent in
    let written = c.move_first.ensures.written in
    IsArena-from _ _ _ _ c.requires.arena (ap length written ∙ length-set _ _ _) c.move_first.ensures.chain_count c.move_first.ensures.linked (rw written distinct)

pub returns-clause-table : goal.returns-clause-table
returns-clause-table c =
    let free = has_free _ _ c.requires.arena c.requires.room in
    let absent = absent_from_entry_at _ _ _ c.requires.arena.distinct c.requires.vacant in
    ap table_of c.move_first.ensures.written ∙ table_of-put c.args.slots.now _ c.args.key _ c.args.entry free.within free.free c.requires.arena.distinct absent

pub returns-clause-count : goal.returns-clause-count
returns-clause-count c =
    ap entry_count (returns-clause-table c) ∙ entry_count-with_entry_at (table_of c.args.slots.now) c.args.key c.args.entry c.requires.vacant
