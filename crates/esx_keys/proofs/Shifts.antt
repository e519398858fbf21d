-- A write of one slot keeps the chains, or moves the slot to another.
use Rattle.std.proofs.Common.{◌≡◌, ◌≢◌, ℕ, ◌+◌, ◌-◌, ◌<◌, ◌^◌, cond, eqb, List, length, set, Option, Some, None, count_by, refl, sym, ap, subst, ◌∙◌, inl, inr, arith}
use Rattle.std.proofs.lemmas.Bool.{cases_eq, eq-eqb, ne_eqb, cond-true, cond-false}
use Rattle.std.proofs.lemmas.List.{length-set, get_or-set_other}
use Rattle.std.proofs.lemmas.List.Sums.{sum_by-set, count_by-le-length}
use Rattle.std.proofs.lemmas.Grind.{get_or-set_at}
use Rattle.esx_keys.specs.declared.entry.Entry.{Entry}
use Rattle.esx_keys.specs.declared.arena.Slot.{Slot}
use Rattle.esx_keys.specs.declared.arena.Chain.{Chain}
use Rattle.esx_keys.specs.Links.{Links}
use Rattle.esx_keys.specs.Arena.{IsLinked, group_of, slot_group, slot_at, chain_at, vacant_slot, no_chain}
use Rattle.esx_keys.proofs.Moved.{MovesFirst, Links-moved}

group_of-within : (heads key : ℕ) (o : Option Entry) → 0 < heads → group_of heads key o < heads + 1
group_of-within heads key None positive = omega arith
group_of-within heads key (Some entry) positive = omega arith

-- one more in the list that it joins, one fewer in the list that it leaves
module _ (was now before after : ℕ) (h : ℕ) (apart : was ≢ now) (e : after + cond (eqb was h) 1 0 ≡ before + cond (eqb now h) 1 0) where
  count_left : h ≡ was → after + 1 ≡ before
  count_left same =
      omega (arith, e, cond-true {A = ℕ} (eqb was h) 1 0 (eq-eqb was h (sym same)), cond-false {A = ℕ} (eqb now h) 1 0 (ne_eqb now h (λ x. apart (sym same ∙ sym x))))

  count_joined : h ≡ now → after ≡ before + 1
  count_joined same =
      omega (arith, e, cond-true {A = ℕ} (eqb now h) 1 0 (eq-eqb now h (sym same)), cond-false {A = ℕ} (eqb was h) 1 0 (ne_eqb was h (λ x. apart (x ∙ same))))

  count_kept : h ≢ was → h ≢ now → after ≡ before
  count_kept not_was not_now =
      omega (arith, e, cond-false {A = ℕ} (eqb was h) 1 0 (ne_eqb was h (λ x. not_was (sym x))), cond-false {A = ℕ} (eqb now h) 1 0 (ne_eqb now h (λ x. not_now (sym x))))

-- what the places of a list show, and how many they are, is all that is linked
Links-same : (n n' m : ℕ) (group rank next first len group' next' : ℕ → ℕ) → n ≡ n' → ((k : ℕ) → group k ≡ group' k) → ((k : ℕ) → next k ≡ next' k) → Links n m group rank next first len → Links n' m group' rank next' first len
Links-same n n' m group rank next first len group' next' e g x links =
    let Shape : ℕ × (ℕ → ℕ) × (ℕ → ℕ) → Type 0 = λ p. Links p.0 m p.1 rank p.2 first len in
    subst Shape (λ t. (e t, λ k. g k t, λ k. x k t)) links

module _ {heads : ℕ} {slots : List Slot} {chains : List Chain} (linked : IsLinked heads slots chains) where
  -- a slot has another content of the same chain
  module _ (i : ℕ) (s : Slot) (within : i < length slots) (same_group : slot_group heads s ≡ slot_group heads (slot_at slots i)) (same_next : s.next ≡ (slot_at slots i).next) where
    kept : {A : Type 0} (f : Slot → A) → f s ≡ f (slot_at slots i) → (k : ℕ) → f (slot_at slots k) ≡ f (slot_at (set slots i s) k)
    kept f e k =
        elim (cases_eq k i) [
          | inl same ↦ ap (λ j. f (slot_at slots j)) same ∙ sym e ∙ ap f (sym (get_or-set_at slots i k s vacant_slot same within))
          | inr apart ↦ ap f (sym (get_or-set_other slots i k s vacant_slot apart))
        ]

    pub IsLinked-rewritten : IsLinked heads (set slots i s) chains
    IsLinked-rewritten =
        record {
          chain_count = linked.chain_count;
          some_head = linked.some_head;
          fits = rw (length-set slots i s) linked.fits;
          rank = linked.rank;
          links = Links-same _ _ _ _ _ _ _ _ _ _ (sym (length-set slots i s)) (kept (slot_group heads) same_group) (kept (λ x. x.next) same_next) linked.links;
          counted = λ h lt. linked.counted h lt ∙ omega (arith, sum_by-set (λ x. cond (eqb (slot_group heads x) h) 1 0) slots i s vacant_slot within, ap {B = ℕ} (λ g. cond (eqb g h) 1 0) same_group);
        }

  -- the first slot of chain a goes to the front of chain b, with this content
  module _ (a b key : ℕ) (entry : Option Entry) (a_within : a < length chains) (filled : 0 < (chain_at chains a).len) (right : b ≡ group_of heads key entry) (apart : a ≢ b) where
    abbrev pub f : ℕ
    f = (chain_at chains a).first

    abbrev pub moved_slot : Slot
    moved_slot = record { key = key; entry = entry; next = (chain_at chains b).first }

    abbrev pub left_chain : Chain
    left_chain = record { first = (slot_at slots f).next; len = (chain_at chains a).len - 1 }

    abbrev pub joined_chain : Chain
    joined_chain = record { first = f; len = (chain_at chains b).len + 1 }

    abbrev pub slots' : List Slot
    slots' = set slots f moved_slot

    abbrev pub chains' : List Chain
    chains' = set (set chains a left_chain) b joined_chain

    b_within : b < length chains
    b_within = omega (arith, group_of-within heads key entry linked.some_head, linked.chain_count)

    pub first_within : f < length slots
    first_within = linked.links.first_within a a_within filled

    was_in : slot_group heads (slot_at slots f) ≡ a
    was_in = linked.links.first_group a a_within filled

    slot_moved : (i : ℕ) → i ≡ f → slot_at slots' i ≡ moved_slot
    slot_moved i e = get_or-set_at slots f i moved_slot vacant_slot e first_within

    slot_kept : (i : ℕ) → i ≢ f → slot_at slots' i ≡ slot_at slots i
    slot_kept i ne = get_or-set_other slots f i moved_slot vacant_slot ne

    chain_left : (h : ℕ) → h ≡ a → chain_at chains' h ≡ left_chain
    chain_left h e = get_or-set_other _ b h joined_chain no_chain (λ x. apart (sym e ∙ x)) ∙ get_or-set_at chains a h left_chain no_chain e a_within

    chain_joined : (h : ℕ) → h ≡ b → chain_at chains' h ≡ joined_chain
    chain_joined h e = get_or-set_at _ b h joined_chain no_chain e (rw (length-set chains a left_chain) b_within)

    chain_kept : (h : ℕ) → h ≢ a → h ≢ b → chain_at chains' h ≡ chain_at chains h
    chain_kept h na nb = get_or-set_other _ b h joined_chain no_chain nb ∙ get_or-set_other chains a h left_chain no_chain na

    abbrev rank' : ℕ → ℕ
    rank' i = cond (eqb i f) (chain_at chains b).len (linked.rank i)

    moves : MovesFirst a b f (λ i. slot_group heads (slot_at slots i)) linked.rank (λ i. (slot_at slots i).next) (λ h. (chain_at chains h).first) (λ h. (chain_at chains h).len) (λ i. slot_group heads (slot_at slots' i)) rank' (λ i. (slot_at slots' i).next) (λ h. (chain_at chains' h).first) (λ h. (chain_at chains' h).len)
    moves =
        record {
          was_first = refl;
          lists_apart = apart;
          filled = filled;
          group_moved = λ i e. ap (slot_group heads) (slot_moved i e) ∙ sym right;
          group_kept = λ i ne. ap (slot_group heads) (slot_kept i ne);
          rank_moved = λ i e. cond-true _ _ _ (eq-eqb i f e);
          rank_kept = λ i ne. cond-false _ _ _ (ne_eqb i f ne);
          next_moved = λ i e. ap (λ s. s.next) (slot_moved i e);
          next_kept = λ i ne. ap (λ s. s.next) (slot_kept i ne);
          first_left = λ h e. ap (λ c. c.first) (chain_left h e);
          first_joined = λ h e. ap (λ c. c.first) (chain_joined h e);
          first_kept = λ h na nb. ap (λ c. c.first) (chain_kept h na nb);
          len_left = λ h e. omega (arith, filled, ap (λ c. c.len) (chain_left h e));
          len_joined = λ h e. ap (λ c. c.len) (chain_joined h e);
          len_kept = λ h na nb. ap (λ c. c.len) (chain_kept h na nb);
        }

    counts : (h : ℕ) → count_by (λ s. eqb (slot_group heads s) h) slots' + cond (eqb a h) 1 0 ≡ count_by (λ s. eqb (slot_group heads s) h) slots + cond (eqb b h) 1 0
    counts h =
        omega (arith, sum_by-set (λ s. cond (eqb (slot_group heads s) h) 1 0) slots f moved_slot vacant_slot first_within, ap {B = ℕ} (λ g. cond (eqb g h) 1 0) was_in, ap {B = ℕ} (λ g. cond (eqb g h) 1 0) right)

    counted : (h : ℕ) → h < length chains → (chain_at chains' h).len ≡ count_by (λ s. eqb (slot_group heads s) h) slots'
    counted h lt =
        let before = linked.counted h lt in
        elim (cases_eq h a) [
          | inl e ↦
              omega (arith, count_left a b _ _ h apart (counts h) e, ap (λ c. c.len) (chain_left h e), ap (λ x. (chain_at chains x).len) e)
          | inr na ↦
              elim (cases_eq h b) [
                | inl e ↦
                    omega (arith, count_joined a b _ _ h apart (counts h) e, ap (λ c. c.len) (chain_joined h e), ap (λ x. (chain_at chains x).len) e)
                | inr nb ↦
                    omega (arith, count_kept a b _ _ h apart (counts h) na nb, ap (λ c. c.len) (chain_kept h na nb))
              ]
        ]

    chains_kept : length chains' ≡ length chains
    chains_kept = length-set _ b joined_chain ∙ length-set chains a left_chain

    slots_kept : length slots' ≡ length slots
    slots_kept = length-set slots f moved_slot

    -- the list that the slot joins has room for it in 32 bits
    pub len_fits : (chain_at chains b).len + 1 < 2 ^ 32
    len_fits =
        let after = count_by-le-length (λ s. eqb (slot_group heads s) b) slots' in
        omega (arith, count_joined a b _ _ b apart (counts b) refl, linked.counted b b_within, slots_kept, linked.fits)

    pub IsLinked-moved : IsLinked heads slots' chains'
    IsLinked-moved =
        record {
          chain_count = chains_kept ∙ linked.chain_count;
          some_head = linked.some_head;
          fits = rw slots_kept linked.fits;
          rank = rank';
          links = rw (slots_kept, chains_kept) (Links-moved linked.links a_within b_within moves);
          counted = λ h lt. counted h (omega (arith, chains_kept));
        }
