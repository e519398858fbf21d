-- A walk along a chain.
use Rattle.std.proofs.Common.{◌≡◌, ℕ, ◌+◌, ◌%◌, ◌<◌, ◌≤◌, List, length, Option, Some, None, refl, sym, ap, subst, ◌∙◌, inl, inr, arith}
use Rattle.std.proofs.lemmas.Bool.{cases_eq, cases_lt}
use Rattle.std.proofs.lemmas.List.{get_or_past}
use Rattle.std.specs.Option.{option_map}
use Rattle.esx_keys.specs.declared.entry.Entry.{Entry}
use Rattle.esx_keys.specs.declared.entry.Kind.{Kind}
use Rattle.esx_keys.specs.declared.arena.Slot.{Slot}
use Rattle.esx_keys.specs.declared.arena.Chain.{Chain}
use Rattle.esx_keys.specs.Kinds.{kind_of}
use Rattle.esx_keys.specs.Arena.{IsLinked, Holds, group_of, slot_group, slot_at, chain_at, vacant_slot}

-- a slot with an entry under a key stands in the chain of the key's head
group_of-filled : (heads key : ℕ) (kind : Kind) (o : Option Entry) → option_map kind_of o ≡ Some kind → group_of heads key o ≡ key % heads
group_of-filled heads key kind None e = absurd (cc)
group_of-filled heads key kind (Some entry) e = refl

pub slot_group-held : (heads : ℕ) (s : Slot) (key : ℕ) (kind : Kind) → Holds s key kind → slot_group heads s ≡ key % heads
slot_group-held heads s key kind holds =
    group_of-filled heads s.key kind s.entry holds.same_kind ∙ ap (λ k. k % heads) holds.same_key

pub held_within : (slots : List Slot) (i key : ℕ) (kind : Kind) → Holds (slot_at slots i) key kind → i < length slots
held_within slots i key kind holds =
    elim (cases_lt i (length slots)) [
      | inl lt ↦ lt
      | inr past ↦
          let is_vacant : None ≡ (slot_at slots i).entry = sym (ap (λ s. s.entry) (get_or_past slots i vacant_slot past)) in
          let found = holds.same_kind in
          absurd (cc)
    ]

-- after `passed` slots of the chain under the key's head, the walk has come to the slot `at`, and no
-- slot with the entry is passed
pub record Walks (heads : ℕ) (slots : List Slot) (chains : List Chain) (key : ℕ) (kind : Kind) (at passed : ℕ) : Type 0 where
  pub linked : IsLinked heads slots chains
  pub within : passed < (chain_at chains (key % heads)).len → at < length slots
  pub same_chain : passed < (chain_at chains (key % heads)).len → slot_group heads (slot_at slots at) ≡ key % heads
  pub rank : passed < (chain_at chains (key % heads)).len → linked.rank at + passed + 1 ≡ (chain_at chains (key % heads)).len
  pub later : (i : ℕ) → Holds (slot_at slots i) key kind → linked.rank i + passed < (chain_at chains (key % heads)).len

head_within : (heads : ℕ) (slots : List Slot) (chains : List Chain) (key : ℕ) → IsLinked heads slots chains → key % heads < length chains
head_within heads slots chains key linked =
    let positive = linked.some_head in
    let count = linked.chain_count in
    omega arith

pub Walks-none : (heads : ℕ) (slots : List Slot) (chains : List Chain) (key : ℕ) (kind : Kind) → IsLinked heads slots chains → Walks heads slots chains key kind (chain_at chains (key % heads)).first 0
Walks-none heads slots chains key kind linked =
    let h = key % heads in
    let inside = head_within heads slots chains key linked in
    record {
      linked = linked;
      within = λ filled. linked.links.first_within h inside filled;
      same_chain = λ filled. linked.links.first_group h inside filled;
      rank = λ filled. omega (arith, linked.links.first_rank h inside filled);
      later = λ i holds.
          let below = linked.links.ranked i (held_within slots i key kind holds) in
          let same = ap (λ g. (chain_at chains g).len) (slot_group-held heads (slot_at slots i) key kind holds) in
          omega arith;
    }

pub Walks-more : (heads : ℕ) (slots : List Slot) (chains : List Chain) (key : ℕ) (kind : Kind) (at passed : ℕ) → passed < (chain_at chains (key % heads)).len → (Holds (slot_at slots at) key kind → ⊥) → Walks heads slots chains key kind at passed → Walks heads slots chains key kind (slot_at slots at).next (passed + 1)
Walks-more heads slots chains key kind at passed left other walk =
    let inside = walk.within left in
    let rank = walk.rank left in
    let links = walk.linked.links in
    record {
      linked = walk.linked;
      within = λ more. links.within at inside (omega arith);
      same_chain = λ more. links.together at inside (omega arith) ∙ walk.same_chain left;
      rank = λ more. omega (arith, links.falling at inside (omega arith));
      later = λ i holds.
          let before = walk.later i holds in
          elim (cases_eq (walk.linked.rank i) (walk.linked.rank at)) [
            | inl same ↦
                let group = slot_group-held heads (slot_at slots i) key kind holds ∙ sym (walk.same_chain left) in
                let is_at : i ≡ at = links.apart i at (held_within slots i key kind holds) inside group same in
                absurd (other (subst (λ k. Holds (slot_at slots k) key kind) is_at holds))
            | inr apart ↦ omega arith
          ];
    }

pub Walks-all : (heads : ℕ) (slots : List Slot) (chains : List Chain) (key : ℕ) (kind : Kind) (at passed : ℕ) → (chain_at chains (key % heads)).len ≤ passed → Walks heads slots chains key kind at passed → (i : ℕ) → Holds (slot_at slots i) key kind → ⊥
Walks-all heads slots chains key kind at passed done walk i holds = omega (arith, walk.later i holds)
