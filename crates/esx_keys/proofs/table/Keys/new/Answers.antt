use Rattle.std.proofs.Common.{◌≡◌, ◌+◌, ◌<◌, ◌^◌, set, replicate, length, ap, ◌∙◌}
use Rattle.esx_keys.specs.Table.{head_count, entry_count, no_entries}
use Rattle.esx_keys.specs.Arena.{no_chain}
use Rattle.esx_keys.proofs.Counts.{entry_count-no_entries}
use Rattle.esx_keys.proofs.Heads.{next_power_of_two-fits, head_count-least}
use Rattle.esx_keys.proofs.Starts.{IsArena-free, table_of-free}
use Rattle.esx_keys.proofs.table.Keys.new.Goals as goal

pub empty_chains-requires : goal.empty_chains-requires
empty_chains-requires c =
    let next = c.next_power_of_two-heads.ensures in
    next_power_of_two-fits c.args.room _ c.ranges.room.fits (next.power, next.lower_bound, next.upper_bound)

pub invariant_of-result : goal.invariant_of-result
invariant_of-result c =
    let slots = c.in_ok-slots.slots.items in
    let chains = c.in_ok-chains.chains.items in
    let next = c.next_power_of_two-heads.ensures in
    let count : length slots ≡ c.args.room = c.in_ok-slots.ensures.count in
    let heads : head_count c.args.room ≡ c.next_power_of_two-heads.result = head_count-least c.args.room _ c.ranges.room.fits (next.power, next.lower_bound, next.upper_bound) in
    let empty : chains ≡ set (replicate (head_count (length slots) + 1) no_chain) (head_count (length slots)) (record { first = 0; len = length slots }) = rw (count, heads) c.in_ok-chains.ensures in
    let fits : length slots < 2 ^ 32 = rw count c.ranges.room.fits in
    IsArena-free slots chains c.in_ok-slots.ensures.free fits empty

pub returns-clause-table : goal.returns-clause-table
returns-clause-table c =
    table_of-free c.in_ok-slots.slots.items c.in_ok-slots.ensures.free ∙ ap no_entries c.in_ok-slots.ensures.count

pub returns-clause-count : goal.returns-clause-count
returns-clause-count c = ap entry_count (returns-clause-table c) ∙ entry_count-no_entries c.args.room
