-- What holds of each arena.
use Rattle.std.proofs.Common.{◌≡◌, ◌≢◌, ℕ, ◌+◌, ◌-◌, ◌%◌, ◌<◌, List, length, None, ◌∙◌, sym, ap, subst, arith}
use Rattle.std.specs.Int.{IsPowerOfTwo}
use Rattle.esx_keys.specs.declared.entry.Kind.{Kind}
use Rattle.esx_keys.specs.declared.arena.Slot.{Slot}
use Rattle.esx_keys.specs.declared.arena.Chain.{Chain}
use Rattle.esx_keys.specs.Table.{head_count, entry_count}
use Rattle.esx_keys.specs.Arena.{IsArena, IsLinked, IsDistinct, Holds, slot_at, chain_at, slot_group, table_of}
use Rattle.esx_keys.proofs.Heads.{head_count-is_power}
use Rattle.esx_keys.proofs.Puts.{vacant_from_group}
use Rattle.esx_keys.proofs.Tables.{some_free}
use Rattle.esx_keys.proofs.Walks.{slot_group-held, held_within}

pub heads_of : (slots : List Slot) (chains : List Chain) → IsArena slots chains → length chains - 1 ≡ head_count (length slots)
heads_of slots chains arena = omega (arith, arena.heads)

pub heads-is_power : (slots : List Slot) (chains : List Chain) → IsArena slots chains → IsPowerOfTwo (length chains - 1)
heads-is_power slots chains arena = let power = head_count-is_power (length slots) in (power.0, heads_of slots chains arena ∙ power.1)

pub linked_of : (slots : List Slot) (chains : List Chain) → IsArena slots chains → IsLinked (length chains - 1) slots chains
linked_of slots chains arena = subst (λ h. IsLinked h slots chains) (sym (heads_of slots chains arena)) arena.linked

-- an arena of the same size, linked and with one entry of a kind under a key, is an arena
pub IsArena-from : (slots slots' : List Slot) (chains chains' : List Chain) → IsArena slots chains → length slots' ≡ length slots → length chains' ≡ length chains → IsLinked (length chains' - 1) slots' chains' → IsDistinct slots' → IsArena slots' chains'
IsArena-from slots slots' chains chains' arena same_slots same_chains linked distinct =
    let heads : length chains' ≡ head_count (length slots') + 1 = same_chains ∙ arena.heads ∙ ap (λ n. head_count n + 1) (sym same_slots) in
    let count : length chains' - 1 ≡ head_count (length slots') = omega (arith, heads) in
    record { heads = heads; linked = subst (λ h. IsLinked h slots' chains') count linked; distinct = distinct }

-- where there is room, the last chain has a slot, and it is free
pub record HasFree (slots : List Slot) (chains : List Chain) : Type 0 where
  pub filled : 0 < (chain_at chains (length chains - 1)).len
  pub within : (chain_at chains (length chains - 1)).first < length slots
  pub free : (slot_at slots (chain_at chains (length chains - 1)).first).entry ≡ None

pub has_free : (slots : List Slot) (chains : List Chain) → IsArena slots chains → entry_count (table_of slots) < length slots → HasFree slots chains
has_free slots chains arena room =
    let linked = linked_of slots chains arena in
    let last = length chains - 1 in
    let inside : last < length chains = omega (arith, linked.chain_count) in
    let filled : 0 < (chain_at chains last).len = omega (arith, linked.counted last inside, some_free last slots linked.some_head arena.distinct room) in
    record {
      filled = filled;
      within = linked.links.first_within last inside filled;
      free = vacant_from_group last (slot_at slots (chain_at chains last).first) linked.some_head (linked.links.first_group last inside filled);
    }

-- where a slot has an entry, its chain has a first slot, in the same chain
pub record HasFirst (slots : List Slot) (chains : List Chain) (at head : ℕ) : Type 0 where
  pub head_within : head < length chains
  pub filled : 0 < (chain_at chains head).len
  pub within : (chain_at chains head).first < length slots
  pub same_group : slot_group (length chains - 1) (slot_at slots (chain_at chains head).first) ≡ slot_group (length chains - 1) (slot_at slots at)
  pub apart : head ≢ length chains - 1

pub has_first : (slots : List Slot) (chains : List Chain) (at key head : ℕ) (kind : Kind) → head ≡ key % (length chains - 1) → IsArena slots chains → Holds (slot_at slots at) key kind → HasFirst slots chains at head
has_first slots chains at key head kind right arena holds =
    let linked = linked_of slots chains arena in
    let positive = linked.some_head in
    let below : head < length chains - 1 = omega arith in
    let inside : head < length chains = omega arith in
    let group = slot_group-held (length chains - 1) (slot_at slots at) key kind holds ∙ sym right in
    let lens = ap (λ g. (chain_at chains g).len) group in
    let filled : 0 < (chain_at chains head).len = omega (arith, linked.links.ranked at (held_within slots at key kind holds)) in
    record {
      head_within = inside;
      filled = filled;
      within = linked.links.first_within head inside filled;
      same_group = linked.links.first_group head inside filled ∙ sym group;
      apart = λ e. omega arith;
    }
