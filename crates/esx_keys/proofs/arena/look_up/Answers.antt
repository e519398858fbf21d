use Rattle.std.proofs.Common.{sym, ap, ◌∙◌}
use Rattle.std.proofs.lemmas.List.{get_or_default}
use Rattle.esx_keys.specs.Arena.{vacant_slot}
use Rattle.esx_keys.proofs.Arenas.{heads-is_power}
use Rattle.esx_keys.proofs.Tables.{entry_at-found, entry_at-absent}
use Rattle.esx_keys.proofs.arena.look_up.Goals as goal

pub find-requires-clause-heads : goal.find-requires-clause-heads
find-requires-clause-heads c = heads-is_power _ _ c.requires

pub returns-in_err-at : goal.returns-in_err-at
returns-in_err-at c =
    c.from_residual.ensures ∙ sym (entry_at-absent c.args.slots.now c.args.key c.args.kind c.in_err-at.ensures.found)

pub returns : goal.returns
returns c =
    let read = get_or_default c.args.slots.now c.in_ok-at.at c.index-slots-at.result vacant_slot c.in_ok-at.ensures.within in
    ap (λ s. s.entry) read ∙ sym (entry_at-found c.args.slots.now c.in_ok-at.at c.args.key c.args.kind c.requires.distinct c.in_ok-at.ensures.found)
