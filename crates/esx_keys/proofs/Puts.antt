-- An entry comes into a free slot.
use Rattle.std.proofs.Common.{◌≡◌, ◌≢◌, ℕ, ◌<◌, List, length, set, Option, Some, None, refl, sym, ap, subst, ◌∙◌, inl, inr, arith, length-set}
use Rattle.std.proofs.lemmas.Bool.{cases_eq}
use Rattle.std.proofs.lemmas.List.{get_or-set_same, get_or-set_other}
use Rattle.esx_keys.specs.declared.entry.Entry.{Entry}
use Rattle.esx_keys.specs.declared.entry.Entry.TheVariants.{Shared, Hint}
use Rattle.esx_keys.specs.declared.entry.Kind.{Kind}
use Rattle.esx_keys.specs.declared.arena.Slot.{Slot}
use Rattle.esx_keys.specs.Kinds.{kind_of}
use Rattle.esx_keys.specs.Table.{with_entry_at}
use Rattle.esx_keys.specs.Arena.{Holds, IsDistinct, shared_of, hint_of, shared_in, hint_in, slot_at, slot_group, group_of, table_of, vacant_slot}
use Rattle.esx_keys.proofs.Picked.{filter_map-set_same, from_entries-set}
use Rattle.esx_keys.proofs.Tables.{IsKeyed-shared, IsKeyed-hint}
use Rattle.std.specs.FinMap.{from_entries}

vacant_group : (heads key : ℕ) (o : Option Entry) → 0 < heads → group_of heads key o ≡ heads → o ≡ None
vacant_group heads key None positive e = refl
vacant_group heads key (Some entry) positive e = absurd (omega arith)

-- a slot of the last chain is free
pub vacant_from_group : (heads : ℕ) (s : Slot) → 0 < heads → slot_group heads s ≡ heads → s.entry ≡ None
vacant_from_group heads s positive e = vacant_group heads s.key s.entry positive e

some_kind : (a b : Kind) → Some a ≡ Some b → a ≡ b
some_kind a b e = cc

module _ (slots : List Slot) (f key next : ℕ) (entry : Entry) (within : f < length slots) (free : (slot_at slots f).entry ≡ None) (distinct : IsDistinct slots) (absent : (i : ℕ) → Holds (slot_at slots i) key (kind_of entry) → ⊥) where
  abbrev put_slot : Slot
  put_slot = record { key = key; entry = Some entry; next = next }

  written : (i : ℕ) → i ≡ f → slot_at (set slots f put_slot) i ≡ put_slot
  written i e = ap (slot_at (set slots f put_slot)) e ∙ get_or-set_same slots f put_slot vacant_slot within

  kept : (i : ℕ) → i ≢ f → slot_at (set slots f put_slot) i ≡ slot_at slots i
  kept i ne = get_or-set_other slots f i put_slot vacant_slot ne

  -- no other slot has the entry's kind under its key
  alone : (i j q : ℕ) (kind : Kind) → i ≡ f → j ≢ f → Holds (slot_at (set slots f put_slot) i) q kind → Holds (slot_at (set slots f put_slot) j) q kind → ⊥
  alone i j q kind e ne a b =
      let here : Holds put_slot q kind = subst (λ s. Holds s q kind) (written i e) a in
      let there : Holds (slot_at slots j) q kind = subst (λ s. Holds s q kind) (kept j ne) b in
      let same_kind : kind_of entry ≡ kind = some_kind _ _ here.same_kind in
      absent j (record { same_key = there.same_key ∙ sym here.same_key; same_kind = there.same_kind ∙ ap Some (sym same_kind) })

  pub IsDistinct-put : IsDistinct (set slots f (record { key = key; entry = Some entry; next = next }))
  IsDistinct-put i j q kind a b =
      elim (cases_eq i f) [
        | inl ei ↦
            elim (cases_eq j f) [
              | inl ej ↦ ei ∙ sym ej
              | inr nj ↦ absurd (alone i j q kind ei nj a b)
            ]
        | inr ni ↦
            elim (cases_eq j f) [
              | inl ej ↦ absurd (alone j i q kind ej ni b a)
              | inr nj ↦
                  distinct i j q kind
                  (subst (λ s. Holds s q kind) (kept i ni) a)
                  (subst (λ s. Holds s q kind) (kept j nj) b)
            ]
      ]

  no_frame : shared_in (slot_at slots f) ≡ None
  no_frame = ap (shared_of (slot_at slots f).key) free

  no_page : hint_in (slot_at slots f) ≡ None
  no_page = ap (hint_of (slot_at slots f).key) free

  table_with : (o : Entry) → o ≡ entry → IsDistinct (set slots f (record { key = key; entry = Some o; next = next })) → table_of (set slots f (record { key = key; entry = Some o; next = next })) ≡ with_entry_at (table_of slots) key o
  table_with (Shared frame) e distinct_after =
      let y : Slot = record { key = key; entry = Some (Shared frame); next = next } in
      let shared = from_entries-set shared_in vacant_slot refl slots f y key frame within no_frame refl (IsKeyed-shared slots distinct) (IsKeyed-shared _ distinct_after) in
      let hints = ap from_entries (filter_map-set_same hint_in slots f y vacant_slot (sym no_page)) in
      λ t. record { room = length-set slots f y t; shared = shared t; hints = hints t }
  table_with (Hint vm page) e distinct_after =
      let y : Slot = record { key = key; entry = Some (Hint vm page); next = next } in
      let shared = ap from_entries (filter_map-set_same shared_in slots f y vacant_slot (sym no_frame)) in
      let hints = from_entries-set hint_in vacant_slot refl slots f y key (vm, page) within no_page refl (IsKeyed-hint slots distinct) (IsKeyed-hint _ distinct_after) in
      λ t. record { room = length-set slots f y t; shared = shared t; hints = hints t }

  pub table_of-put : table_of (set slots f (record { key = key; entry = Some entry; next = next })) ≡ with_entry_at (table_of slots) key entry
  table_of-put = table_with entry refl IsDistinct-put
