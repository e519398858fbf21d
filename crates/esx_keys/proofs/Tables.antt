-- The maps that the slots make: what a look-up finds, and how many entries there are.
use Rattle.std.proofs.Common.{◌≡◌, ℕ, ◌+◌, ◌%◌, ◌<◌, true, cond, eqb, List, [], ◌∷◌, length, Option, Some, None, count_by, refl, sym, ap, ◌∙◌, inl, inr, arith}
use Rattle.std.proofs.lemmas.Bool.{cases_eq, eq-eqb, ne_eqb, cond-true, cond-false}
use Rattle.std.proofs.lemmas.List.{length-map}
use Rattle.std.proofs.lemmas.List.Sums.{sum_by-cons}
use Rattle.std.proofs.lemmas.Option.{some_pair_parts}
use Rattle.std.specs.Option.{option_map}
use Rattle.std.specs.Ordering.{nat_cmp, eq_by_cmp}
use Rattle.std.specs.Cmp.{nat_cmp_total}
use Rattle.std.specs.FinMap.{FinMap, get, remove, len, keys, entries, get-from_entries, get-remove, len-entries, same_map, nat_cmp-IsAntisymmetric}
use Rattle.esx_keys.specs.declared.entry.Entry.{Entry}
use Rattle.esx_keys.specs.declared.entry.Entry.TheVariants.{Shared, Hint}
use Rattle.esx_keys.specs.declared.entry.Kind.{Kind}
use Rattle.esx_keys.specs.declared.entry.Kind.TheVariants.{Shared as SharedKind, Hint as HintKind}
use Rattle.esx_keys.specs.declared.arena.Slot.{Slot}
use Rattle.esx_keys.specs.Kinds.{kind_of}
use Rattle.esx_keys.specs.Table.{KeyTable, entry_count, entry_at, without_entry_at, head_count, falls_to, chain_length}
use Rattle.esx_keys.specs.Arena.{Holds, IsDistinct, shared_of, hint_of, shared_in, hint_in, slot_at, slot_group, group_of, table_of, vacant_slot}
use Rattle.esx_keys.proofs.Lists.{count_by-true, option_map-none}
use Rattle.esx_keys.proofs.Picked.{IsKeyed, find-found, find-absent, passes, count_by-keys, tie_same, tie_apart}

shared_of-kind : (key : ℕ) (o : Option Entry) (q v : ℕ) → shared_of key o ≡ Some (q, v) → (key ≡ q) × (option_map kind_of o ≡ Some SharedKind)
shared_of-kind key None q v e = absurd (cc)
shared_of-kind key (Some (Shared frame)) q v e = ((some_pair_parts key q frame v e).0, refl)
shared_of-kind key (Some (Hint vm page)) q v e = absurd (cc)

hint_of-kind : (key : ℕ) (o : Option Entry) (q : ℕ) (v : ℕ × ℕ) → hint_of key o ≡ Some (q, v) → (key ≡ q) × (option_map kind_of o ≡ Some HintKind)
hint_of-kind key None q v e = absurd (cc)
hint_of-kind key (Some (Shared frame)) q v e = absurd (cc)
hint_of-kind key (Some (Hint vm page)) q v e = ((some_pair_parts key q (vm, page) v e).0, refl)

pub shared_holds : (s : Slot) (q v : ℕ) → shared_in s ≡ Some (q, v) → Holds s q SharedKind
shared_holds s q v e = let parts = shared_of-kind s.key s.entry q v e in record { same_key = parts.0; same_kind = parts.1 }

pub hint_holds : (s : Slot) (q : ℕ) (v : ℕ × ℕ) → hint_in s ≡ Some (q, v) → Holds s q HintKind
hint_holds s q v e = let parts = hint_of-kind s.key s.entry q v e in record { same_key = parts.0; same_kind = parts.1 }

-- one slot at most gives a frame, or a page, under a key
pub IsKeyed-shared : (slots : List Slot) → IsDistinct slots → IsKeyed shared_in vacant_slot refl slots
IsKeyed-shared slots distinct i j q v w a b = distinct i j q SharedKind (shared_holds _ q v a) (shared_holds _ q w b)

pub IsKeyed-hint : (slots : List Slot) → IsDistinct slots → IsKeyed hint_in vacant_slot refl slots
IsKeyed-hint slots distinct i j q v w a b = distinct i j q HintKind (hint_holds _ q v a) (hint_holds _ q w b)

-- the entry of a slot is what the maps give under its key
pub shared_of-entry : (key : ℕ) (o : Option Entry) → option_map kind_of o ≡ Some SharedKind → (v : ℕ) × (shared_of key o ≡ Some (key, v)) × (o ≡ Some (Shared v))
shared_of-entry key None e = absurd (cc)
shared_of-entry key (Some (Shared frame)) e = (frame, refl, refl)
shared_of-entry key (Some (Hint vm page)) e = absurd (cc)

pub hint_of-entry : (key : ℕ) (o : Option Entry) → option_map kind_of o ≡ Some HintKind → (v : ℕ × ℕ) × (hint_of key o ≡ Some (key, v)) × (o ≡ Some (Hint v.0 v.1))
hint_of-entry key None e = absurd (cc)
hint_of-entry key (Some (Shared frame)) e = absurd (cc)
hint_of-entry key (Some (Hint vm page)) e = ((vm, page), refl, refl)

one_shared : (slots : List Slot) → IsDistinct slots → (i q v : ℕ) → shared_in (slot_at slots i) ≡ Some (q, v) → (j w : ℕ) → shared_in (slot_at slots j) ≡ Some (q, w) → w ≡ v
one_shared slots distinct i q v a j w b =
    let same = IsKeyed-shared slots distinct j i q w v b a in
    (some_pair_parts q q w v (sym b ∙ ap (λ k. shared_in (slot_at slots k)) same ∙ a)).1

one_hint : (slots : List Slot) → IsDistinct slots → (i q : ℕ) (v : ℕ × ℕ) → hint_in (slot_at slots i) ≡ Some (q, v) → (j : ℕ) (w : ℕ × ℕ) → hint_in (slot_at slots j) ≡ Some (q, w) → w ≡ v
one_hint slots distinct i q v a j w b =
    let same = IsKeyed-hint slots distinct j i q w v b a in
    (some_pair_parts q q w v (sym b ∙ ap (λ k. hint_in (slot_at slots k)) same ∙ a)).1

pub entry_at-found : (slots : List Slot) (i q : ℕ) (kind : Kind) → IsDistinct slots → Holds (slot_at slots i) q kind → entry_at (table_of slots) q kind ≡ (slot_at slots i).entry
entry_at-found slots i q SharedKind distinct holds =
    let s = slot_at slots i in
    let here = shared_of-entry s.key s.entry holds.same_kind in
    let there : shared_in s ≡ Some (q, here.0) = here.1 ∙ ap (λ k. Some (k, here.0)) holds.same_key in
    ap (option_map (λ frame. Shared frame)) (get-from_entries nat_cmp_total _ q ∙ find-found shared_in vacant_slot refl slots q here.0 i there (one_shared slots distinct i q here.0 there)) ∙ sym here.2
entry_at-found slots i q HintKind distinct holds =
    let s = slot_at slots i in
    let here = hint_of-entry s.key s.entry holds.same_kind in
    let there : hint_in s ≡ Some (q, here.0) = here.1 ∙ ap (λ k. Some (k, here.0)) holds.same_key in
    ap (option_map (λ hint. Hint hint.0 hint.1)) (get-from_entries nat_cmp_total _ q ∙ find-found hint_in vacant_slot refl slots q here.0 i there (one_hint slots distinct i q here.0 there)) ∙ sym here.2

pub entry_at-absent : (slots : List Slot) (q : ℕ) (kind : Kind) → ((i : ℕ) → Holds (slot_at slots i) q kind → ⊥) → entry_at (table_of slots) q kind ≡ None
entry_at-absent slots q SharedKind absent =
    ap (option_map (λ frame. Shared frame)) (get-from_entries nat_cmp_total _ q ∙ find-absent shared_in vacant_slot refl slots q (λ j w e. absent j (shared_holds _ q w e)))
entry_at-absent slots q HintKind absent =
    ap (option_map (λ hint. Hint hint.0 hint.1)) (get-from_entries nat_cmp_total _ q ∙ find-absent hint_in vacant_slot refl slots q (λ j w e. absent j (hint_holds _ q w e)))

-- where a look-up finds nothing, no slot has the entry
pub absent_from_entry_at : (slots : List Slot) (q : ℕ) (kind : Kind) → IsDistinct slots → entry_at (table_of slots) q kind ≡ None → (i : ℕ) → Holds (slot_at slots i) q kind → ⊥
absent_from_entry_at slots q kind distinct nothing i holds =
    let found = entry_at-found slots i q kind distinct holds in
    let is_kind = holds.same_kind in
    let no_entry : None ≡ (slot_at slots i).entry = sym nothing ∙ found in
    let no_kind : option_map kind_of None ≡ Some kind = ap (option_map kind_of) no_entry ∙ is_kind in
    absurd (cc)

pub remove-absent : {X : Type 0} (m : FinMap nat_cmp X) (k : ℕ) → get m k ≡ None → remove m k ≡ m
remove-absent m k nothing = same_map nat_cmp_total nat_cmp-IsAntisymmetric _ _ (λ q. get-remove nat_cmp_total m k q ∙ at_key q)
  where
    at_key : (q : ℕ) → cond (eq_by_cmp nat_cmp q k) None (get m q) ≡ get m q
    at_key q =
        elim (cases_eq q k) [
          | inl e ↦ cond-true _ _ _ (tie_same q k e) ∙ sym nothing ∙ ap (get m) (sym e)
          | inr ne ↦ cond-false _ _ _ (tie_apart q k ne)
        ]

-- to take out what is not there changes nothing
pub without_entry_at-absent : (t : KeyTable) (q : ℕ) (kind : Kind) → entry_at t q kind ≡ None → without_entry_at t q kind ≡ t
without_entry_at-absent t q SharedKind nothing = ap (λ m. record t { shared = m }) (remove-absent t.shared q (option_map-none _ _ nothing))
without_entry_at-absent t q HintKind nothing = ap (λ m. record t { hints = m }) (remove-absent t.hints q (option_map-none _ _ nothing))

-- an entry of a head's chain is a shared frame or a hint whose key falls to the head
chain_share : (room h key : ℕ) (o : Option Entry) → h < head_count room → cond {A = ℕ} (eqb (group_of (head_count room) key o) h) 1 0 ≡ cond (passes (falls_to room h) (shared_of key o)) 1 0 + cond (passes (falls_to room h) (hint_of key o)) 1 0
unfolding falls_to
chain_share room h key None below = ap {B = ℕ} (λ b. cond b 1 0) (ne_eqb (head_count room) h (λ e. omega arith))
chain_share room h key (Some (Shared frame)) below = omega arith
chain_share room h key (Some (Hint vm page)) below = omega arith

count_by-chain : (room h : ℕ) (slots : List Slot) → h < head_count room → count_by (λ s. eqb (slot_group (head_count room) s) h) slots ≡ count_by (λ s. passes (falls_to room h) (shared_in s)) slots + count_by (λ s. passes (falls_to room h) (hint_in s)) slots
count_by-chain room h [] below = refl
count_by-chain room h (s ∷ slots) below =
    omega (arith, count_by-chain room h slots below, chain_share room h s.key s.entry below, sum_by-cons (λ x. cond (eqb (slot_group (head_count room) x) h) 1 0) s slots, sum_by-cons (λ x. cond (passes (falls_to room h) (shared_in x)) 1 0) s slots, sum_by-cons (λ x. cond (passes (falls_to room h) (hint_in x)) 1 0) s slots)

pub chain_length-counted : (slots : List Slot) (h : ℕ) → IsDistinct slots → h < head_count (length slots) → count_by (λ s. eqb (slot_group (head_count (length slots)) s) h) slots ≡ chain_length (table_of slots) h
chain_length-counted slots h distinct below =
    omega (arith, count_by-chain (length slots) h slots below, count_by-keys shared_in vacant_slot refl (falls_to (length slots) h) slots (IsKeyed-shared slots distinct), count_by-keys hint_in vacant_slot refl (falls_to (length slots) h) slots (IsKeyed-hint slots distinct))

-- a slot is free, or has a shared frame or a hint
slot_share : (heads key : ℕ) (o : Option Entry) → 0 < heads → cond {A = ℕ} (eqb (group_of heads key o) heads) 1 0 + cond (passes (λ k. true) (shared_of key o)) 1 0 + cond (passes (λ k. true) (hint_of key o)) 1 0 ≡ 1
slot_share heads key None positive = omega (arith, ap {B = ℕ} (λ b. cond b 1 0) (eq-eqb heads heads refl))
slot_share heads key (Some (Shared frame)) positive = omega (arith, ap {B = ℕ} (λ b. cond b 1 0) (ne_eqb (key % heads) heads (λ e. omega arith)))
slot_share heads key (Some (Hint vm page)) positive = omega (arith, ap {B = ℕ} (λ b. cond b 1 0) (ne_eqb (key % heads) heads (λ e. omega arith)))

count_by-slots : (heads : ℕ) (slots : List Slot) → 0 < heads → count_by (λ s. eqb (slot_group heads s) heads) slots + count_by (λ s. passes (λ k. true) (shared_in s)) slots + count_by (λ s. passes (λ k. true) (hint_in s)) slots ≡ length slots
count_by-slots heads [] positive = refl
count_by-slots heads (s ∷ slots) positive =
    omega (arith, count_by-slots heads slots positive, slot_share heads s.key s.entry positive, sum_by-cons (λ x. cond (eqb (slot_group heads x) heads) 1 0) s slots, sum_by-cons (λ x. cond (passes (λ k. true) (shared_in x)) 1 0) s slots, sum_by-cons (λ x. cond (passes (λ k. true) (hint_in x)) 1 0) s slots)

len-counted : {X : Type 0} (m : FinMap nat_cmp X) → len m ≡ count_by (λ k. true) (keys m)
len-counted m = len-entries m ∙ sym (length-map (entries m) (λ e. e.0)) ∙ sym (count_by-true (keys m))

-- where fewer entries stand than there is room for, a slot is free
pub some_free : (heads : ℕ) (slots : List Slot) → 0 < heads → IsDistinct slots → entry_count (table_of slots) < length slots → 0 < count_by (λ s. eqb (slot_group heads s) heads) slots
some_free heads slots positive distinct fewer =
    omega (arith, count_by-slots heads slots positive, len-counted (table_of slots).shared, len-counted (table_of slots).hints, count_by-keys shared_in vacant_slot refl (λ k. true) slots (IsKeyed-shared slots distinct), count_by-keys hint_in vacant_slot refl (λ k. true) slots (IsKeyed-hint slots distinct), fewer)
