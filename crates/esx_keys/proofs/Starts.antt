-- The arena with no entry.
use Rattle.std.proofs.Common.{◌≡◌, ◌≢◌, ℕ, ◌+◌, ◌-◌, ◌<◌, ◌^◌, eqb, List, length, set, replicate, Some, None, count_by, sym, ap, ◌∙◌, inl, inr, arith, length-set}
use Rattle.std.proofs.lemmas.Bool.{cases_eq, cases_lt, eq-eqb, ne_eqb}
use Rattle.std.proofs.lemmas.List.{get_or-set_other, get_or-replicate, get_or_past, length-replicate}
use Rattle.std.proofs.lemmas.Grind.{get_or-set_at}
use Rattle.std.specs.Option.{option_map}
use Rattle.std.specs.FinMap.{from_entries}
use Rattle.esx_keys.specs.declared.entry.Kind.{Kind}
use Rattle.esx_keys.specs.declared.arena.Slot.{Slot}
use Rattle.esx_keys.specs.declared.arena.Chain.{Chain}
use Rattle.esx_keys.specs.Kinds.{kind_of}
use Rattle.esx_keys.specs.Links.{Links}
use Rattle.esx_keys.specs.Table.{head_count, no_entries}
use Rattle.esx_keys.specs.Arena.{AreFree, IsArena, Holds, group_of, slot_group, shared_of, hint_of, shared_in, hint_in, slot_at, chain_at, table_of, vacant_slot, no_chain}
use Rattle.esx_keys.proofs.Lists.{filter_map-none, count_by-all, count_by-none}
use Rattle.esx_keys.proofs.Heads.{head_count-positive}

module _ (slots : List Slot) (free : AreFree slots) where
  no_entry : (i : ℕ) → (slot_at slots i).entry ≡ None
  no_entry i =
      elim (cases_lt i (length slots)) [
        | inl lt ↦ ap (λ s. s.entry) (free i lt)
        | inr past ↦ ap (λ s. s.entry) (get_or_past slots i vacant_slot past)
      ]

  pub table_of-free : table_of slots ≡ no_entries (length slots)
  table_of-free =
      let shared = ap from_entries (filter_map-none shared_in slots vacant_slot (λ i. ap (shared_of (slot_at slots i).key) (no_entry i))) in
      let hints = ap from_entries (filter_map-none hint_in slots vacant_slot (λ i. ap (hint_of (slot_at slots i).key) (no_entry i))) in
      λ t. record { room = length slots; shared = shared t; hints = hints t }

module _ (slots : List Slot) (chains : List Chain) (free : AreFree slots) (fits : length slots < 2 ^ 32) (empty : chains ≡ set (replicate (head_count (length slots) + 1) no_chain) (head_count (length slots)) (record { first = 0; len = length slots })) where
  abbrev heads : ℕ
  heads = head_count (length slots)

  in_last : (i : ℕ) → slot_group heads (slot_at slots i) ≡ heads
  in_last i = ap (group_of heads (slot_at slots i).key) (no_entry slots free i)

  last_chain : (h : ℕ) → h ≡ heads → chain_at chains h ≡ record { first = 0; len = length slots }
  last_chain h e = ap (λ cs. chain_at cs h) empty ∙ get_or-set_at _ heads h _ no_chain e (omega (arith, length-replicate (heads + 1) no_chain))

  other_chain : (h : ℕ) → h ≢ heads → h < heads + 1 → chain_at chains h ≡ no_chain
  other_chain h ne lt = ap (λ cs. chain_at cs h) empty ∙ get_or-set_other _ heads h _ no_chain ne ∙ get_or-replicate (heads + 1) h no_chain no_chain lt

  chains_counted : length chains ≡ heads + 1
  chains_counted = ap length empty ∙ length-set _ heads _ ∙ length-replicate (heads + 1) no_chain

  filled_last : (h : ℕ) → h < length chains → 0 < (chain_at chains h).len → h ≡ heads
  filled_last h lt filled =
      elim (cases_eq h heads) [
        | inl e ↦ e
        | inr ne ↦
            let nothing = ap (λ x. x.len) (other_chain h ne (omega (arith, chains_counted))) in
            absurd (omega arith)
      ]

  free_links : Links (length slots) (length chains) (λ i. slot_group heads (slot_at slots i)) (λ i. length slots - 1 - i) (λ i. (slot_at slots i).next) (λ h. (chain_at chains h).first) (λ h. (chain_at chains h).len)
  free_links =
      record {
        grouped = λ i lt. omega (arith, in_last i, chains_counted);
        ranked = λ i lt. omega (arith, ap (λ x. x.len) (last_chain (slot_group heads (slot_at slots i)) (in_last i)));
        within = λ i lt ranked. omega (arith, ap (λ s. s.next) (free i lt));
        together = λ i lt ranked. in_last _ ∙ sym (in_last i);
        falling = λ i lt ranked. omega (arith, ap (λ s. s.next) (free i lt));
        first_within = λ h lt filled. let last = last_chain h (filled_last h lt filled) in omega (arith, ap (λ x. x.first) last, ap (λ x. x.len) last);
        first_group = λ h lt filled. in_last _ ∙ sym (filled_last h lt filled);
        first_rank = λ h lt filled. let last = last_chain h (filled_last h lt filled) in omega (arith, ap (λ x. x.first) last, ap (λ x. x.len) last);
        apart = λ i j li lj group rank. omega arith;
      }

  all_counted : (h : ℕ) → h < length chains → (chain_at chains h).len ≡ count_by (λ s. eqb (slot_group heads s) h) slots
  all_counted h lt =
      elim (cases_eq h heads) [
        | inl e ↦
            ap (λ x. x.len) (last_chain h e)
            ∙ sym (count_by-all (λ s. eqb (slot_group heads s) h) slots vacant_slot (λ i. eq-eqb _ h (in_last i ∙ sym e)))
        | inr ne ↦
            ap (λ x. x.len) (other_chain h ne (omega (arith, chains_counted)))
            ∙ sym (count_by-none (λ s. eqb (slot_group heads s) h) slots vacant_slot (λ i. ne_eqb _ h (λ e. ne (sym e ∙ in_last i))))
      ]

  no_holding : (i q : ℕ) (kind : Kind) → Holds (slot_at slots i) q kind → ⊥
  no_holding i q kind holds =
      let no_kind : option_map kind_of None ≡ Some kind = ap (option_map kind_of) (sym (no_entry slots free i)) ∙ holds.same_kind in
      absurd (cc)

  pub IsArena-free : IsArena slots chains
  IsArena-free =
      record {
        heads = chains_counted;
        linked = record {
          chain_count = chains_counted;
          some_head = head_count-positive (length slots);
          fits = fits;
          rank = λ i. length slots - 1 - i;
          links = free_links;
          counted = all_counted;
        };
        distinct = λ i j q kind a b. absurd (no_holding i q kind a);
      }
