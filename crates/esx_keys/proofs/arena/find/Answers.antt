use Rattle.std.proofs.Common.{sym, subst}
use Rattle.std.proofs.lemmas.Bool.{false≢true}
use Rattle.std.proofs.lemmas.List.{get_or_read}
use Rattle.esx_keys.specs.Arena.{Holds, slot_at, vacant_slot}
use Rattle.esx_keys.proofs.Walks.{Walks-none, Walks-more}
use Rattle.esx_keys.proofs.arena.find.Goals as goal

pub loop-passed-init : goal.loop-passed-init
loop-passed-init c = rw c.head_of.ensures (Walks-none _ _ _ c.args.key c.args.kind c.requires.linked)

pub loop-passed-preserved : goal.loop-passed-preserved
loop-passed-preserved c =
    let left = rw c.head_of.ensures at c.loop-passed-test.true in
    let walk = c.loop-passed.invariant in
    let slot = get_or_read c.args.slots.now c.loop-passed.at c.index-slots-at.result (walk.within left) c.index-slots-at.is vacant_slot in
    let other : Holds (slot_at c.args.slots.now c.loop-passed.at) c.args.key c.args.kind → ⊥ =
    λ holds. false≢true (c.if-holds.ensures.1 (subst (λ s. Holds s c.args.key c.args.kind) (sym slot) holds)) in
    rw slot (Walks-more _ _ _ _ _ _ _ left other walk)
