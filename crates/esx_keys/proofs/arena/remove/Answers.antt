use Rattle.std.proofs.Common.{◌-◌, sym, ap, ◌∙◌, refl, length, length-set}
use Rattle.std.proofs.lemmas.List.{get_or_read}
use Rattle.esx_keys.specs.Arena.{slot_group, vacant_slot, table_of}
use Rattle.esx_keys.proofs.Arenas.{heads-is_power, linked_of, IsArena-from, has_first}
use Rattle.esx_keys.proofs.Counts.{fewer_entries, entry_at-gone}
use Rattle.esx_keys.proofs.Shifts.{IsLinked-rewritten}
use Rattle.esx_keys.proofs.Tables.{entry_at-found, entry_at-absent, without_entry_at-absent}
use Rattle.esx_keys.proofs.Takes.{IsDistinct-taken, table_of-taken}
use Rattle.esx_keys.proofs.arena.remove.Goals as goal

pub find-requires-clause-heads : goal.find-requires-clause-heads
find-requires-clause-heads c = heads-is_power _ _ c.requires

pub returns-in_err-at-clause-value : goal.returns-in_err-at-clause-value
returns-in_err-at-clause-value c =
    c.from_residual.ensures ∙ sym (entry_at-absent c.args.slots.now c.args.key c.args.kind c.in_err-at.ensures.found)

pub returns-in_err-at-clause-table : goal.returns-in_err-at-clause-table
returns-in_err-at-clause-table c =
    let absent = entry_at-absent c.args.slots.now c.args.key c.args.kind c.in_err-at.ensures.found in
    sym (without_entry_at-absent (table_of c.args.slots.now) c.args.key c.args.kind absent)

pub head_of-head-requires : goal.head_of-head-requires
head_of-head-requires c = heads-is_power _ _ c.requires

pub move_first-requires-clause-linked : goal.move_first-requires-clause-linked
move_first-requires-clause-linked c =
    let slots = c.args.slots.now in
    let chained = has_first slots c.args.chains.now c.in_ok-at.at c.args.key c.head_of-head.result c.args.kind c.head_of-head.ensures c.requires c.in_ok-at.ensures.found in
    let first = get_or_read slots _ c.index-slots-chains.result chained.within c.index-slots-chains.is vacant_slot in
    let taken = get_or_read slots c.in_ok-at.at c.index-slots-at.result c.in_ok-at.ensures.within c.index-slots-at.is vacant_slot in
    IsLinked-rewritten (linked_of _ _ c.requires) c.in_ok-at.at _ c.in_ok-at.ensures.within (ap (slot_group (length c.args.chains.now - 1)) first ∙ chained.same_group) (ap (λ s. s.next) taken)

pub returns-clause-arena : goal.returns-clause-arena
returns-clause-arena c =
    let slots = c.args.slots.now in
    let chained = has_first slots c.args.chains.now c.in_ok-at.at c.args.key c.head_of-head.result c.args.kind c.head_of-head.ensures c.requires c.in_ok-at.ensures.found in
    let first = get_or_read slots _ c.index-slots-chains.result chained.within c.index-slots-chains.is vacant_slot in
    let distinct = IsDistinct-taken slots c.in_ok-at.at _ _ _ c.in_ok-at.ensures.within chained.within (ap (λ s. s.key) first) (ap (λ s. s.entry) first) refl c.requires.distinct in
    let written = c.move_first.ensures.written in
    IsArena-from _ _ _ _ c.requires (ap length written ∙ length-set _ _ _ ∙ length-set _ _ _) c.move_first.ensures.chain_count c.move_first.ensures.linked (rw written distinct)

pub returns-clause-value : goal.returns-clause-value
returns-clause-value c =
    let taken = get_or_read c.args.slots.now c.in_ok-at.at c.index-slots-at.result c.in_ok-at.ensures.within c.index-slots-at.is vacant_slot in
    ap (λ s. s.entry) taken ∙ sym (entry_at-found c.args.slots.now c.in_ok-at.at c.args.key c.args.kind c.requires.distinct c.in_ok-at.ensures.found)

pub returns-clause-table : goal.returns-clause-table
returns-clause-table c =
    let slots = c.args.slots.now in
    let chained = has_first slots c.args.chains.now c.in_ok-at.at c.args.key c.head_of-head.result c.args.kind c.head_of-head.ensures c.requires c.in_ok-at.ensures.found in
    let first = get_or_read slots _ c.index-slots-chains.result chained.within c.index-slots-chains.is vacant_slot in
    ap table_of c.move_first.ensures.written
    ∙ table_of-taken slots c.in_ok-at.at _ _ _ c.in_ok-at.ensures.within chained.within (ap (λ s. s.key) first) (ap (λ s. s.entry) first) refl c.args.key c.args.kind c.requires.distinct c.in_ok-at.ensures.found

pub returns-clause-count : goal.returns-clause-count
returns-clause-count c =
    fewer_entries (table_of c.args.slots.now) _ c.args.key c.args.kind _ (returns-clause-value c) (returns-clause-table c)

pub returns-clause-gone : goal.returns-clause-gone
returns-clause-gone c = entry_at-gone (table_of c.args.slots.now) _ c.args.key c.args.kind (returns-clause-table c)

pub returns-in_err-at-clause-gone : goal.returns-in_err-at-clause-gone
returns-in_err-at-clause-gone c = entry_at-absent c.args.slots.now c.args.key c.args.kind c.in_err-at.ensures.found
