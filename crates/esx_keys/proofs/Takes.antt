-- An entry goes, and the first of its chain comes into its slot.
use Rattle.std.proofs.Common.{◌≡◌, ◌≢◌, ℕ, ◌<◌, List, length, set, Option, Some, None, refl, sym, ap, subst, ◌∙◌, inl, inr, length-set}
use Rattle.std.proofs.lemmas.Bool.{cases_eq}
use Rattle.std.proofs.lemmas.List.{get_or-set_same, get_or-set_other}
use Rattle.std.specs.Option.{option_map}
use Rattle.esx_keys.specs.declared.entry.Entry.{Entry}
use Rattle.esx_keys.specs.declared.entry.Entry.TheVariants.{Shared, Hint}
use Rattle.esx_keys.specs.declared.entry.Kind.{Kind}
use Rattle.esx_keys.specs.declared.entry.Kind.TheVariants.{Shared as SharedKind, Hint as HintKind}
use Rattle.esx_keys.specs.declared.arena.Slot.{Slot}
use Rattle.esx_keys.specs.Kinds.{kind_of}
use Rattle.esx_keys.specs.Table.{without_entry_at}
use Rattle.esx_keys.specs.Arena.{Holds, IsDistinct, shared_of, hint_of, shared_in, hint_in, slot_at, table_of, vacant_slot}
use Rattle.esx_keys.proofs.Picked.{Refills, from_entries-taken, from_entries-refilled}
use Rattle.esx_keys.proofs.Tables.{IsKeyed-shared, IsKeyed-hint, shared_of-entry, hint_of-entry}

shared_of-hint : (key : ℕ) (o : Option Entry) → option_map kind_of o ≡ Some HintKind → shared_of key o ≡ None
shared_of-hint key None e = refl
shared_of-hint key (Some (Shared frame)) e = absurd (cc)
shared_of-hint key (Some (Hint vm page)) e = refl

hint_of-shared : (key : ℕ) (o : Option Entry) → option_map kind_of o ≡ Some SharedKind → hint_of key o ≡ None
hint_of-shared key None e = refl
hint_of-shared key (Some (Shared frame)) e = refl
hint_of-shared key (Some (Hint vm page)) e = absurd (cc)

same_content : (s t : Slot) (q : ℕ) (kind : Kind) → s.key ≡ t.key → s.entry ≡ t.entry → Holds s q kind → Holds t q kind
same_content s t q kind k e holds =
    record { same_key = sym k ∙ holds.same_key; same_kind = ap (option_map kind_of) (sym e) ∙ holds.same_kind }

-- slot `at` has got the content of slot f, and f has become free
module _ (slots : List Slot) (at f : ℕ) (moved freed : Slot) (at_within : at < length slots) (f_within : f < length slots) (same_key : moved.key ≡ (slot_at slots f).key) (same_entry : moved.entry ≡ (slot_at slots f).entry) (is_free : freed.entry ≡ None) where
  abbrev after : List Slot
  after = set (set slots at moved) f freed

  gone : (i : ℕ) → i ≡ f → slot_at after i ≡ freed
  gone i e = ap (slot_at after) e ∙ get_or-set_same (set slots at moved) f freed vacant_slot (rw (length-set slots at moved) f_within)

  filled : (i : ℕ) → i ≢ f → i ≡ at → slot_at after i ≡ moved
  filled i ne e = get_or-set_other (set slots at moved) f i freed vacant_slot ne ∙ ap (slot_at (set slots at moved)) e ∙ get_or-set_same slots at moved vacant_slot at_within

  kept : (i : ℕ) → i ≢ f → i ≢ at → slot_at after i ≡ slot_at slots i
  kept i ne apart = get_or-set_other (set slots at moved) f i freed vacant_slot ne ∙ get_or-set_other slots at i moved vacant_slot apart

  refills-shared : Refills shared_in vacant_slot refl slots after at f
  refills-shared =
      record {
        gone = λ i e. ap shared_in (gone i e) ∙ ap (shared_of freed.key) is_free;
        filled = λ i ne e. ap shared_in (filled i ne e) ∙ (λ t. shared_of (same_key t) (same_entry t));
        kept = λ i ne apart. ap shared_in (kept i ne apart);
      }

  refills-hint : Refills hint_in vacant_slot refl slots after at f
  refills-hint =
      record {
        gone = λ i e. ap hint_in (gone i e) ∙ ap (hint_of freed.key) is_free;
        filled = λ i ne e. ap hint_in (filled i ne e) ∙ (λ t. hint_of (same_key t) (same_entry t));
        kept = λ i ne apart. ap hint_in (kept i ne apart);
      }

  not_freed : (i q : ℕ) (kind : Kind) → Holds (slot_at after i) q kind → i ≢ f
  not_freed i q kind holds e =
      let no_entry : None ≡ (slot_at after i).entry = sym is_free ∙ ap (λ s. s.entry) (sym (gone i e)) in
      let no_kind : option_map kind_of None ≡ Some kind = ap (option_map kind_of) no_entry ∙ holds.same_kind in
      absurd (cc)

  from_f : (i q : ℕ) (kind : Kind) → i ≡ at → Holds (slot_at after i) q kind → Holds (slot_at slots f) q kind
  from_f i q kind e holds =
      let to_moved = filled i (not_freed i q kind holds) e in
      same_content _ _ q kind (ap (λ s. s.key) to_moved ∙ same_key) (ap (λ s. s.entry) to_moved ∙ same_entry) holds

  from_itself : (i q : ℕ) (kind : Kind) → i ≢ at → Holds (slot_at after i) q kind → Holds (slot_at slots i) q kind
  from_itself i q kind apart holds = subst (λ s. Holds s q kind) (kept i (not_freed i q kind holds) apart) holds

  pub IsDistinct-taken : IsDistinct slots → IsDistinct (set (set slots at moved) f freed)
  IsDistinct-taken distinct i j q kind a b =
      elim (cases_eq i at) [
        | inl ei ↦
            elim (cases_eq j at) [
              | inl ej ↦ ei ∙ sym ej
              | inr nj ↦ absurd (not_freed j q kind b (sym (distinct f j q kind (from_f i q kind ei a) (from_itself j q kind nj b))))
            ]
        | inr ni ↦
            elim (cases_eq j at) [
              | inl ej ↦ absurd (not_freed i q kind a (distinct i f q kind (from_itself i q kind ni a) (from_f j q kind ej b)))
              | inr nj ↦ distinct i j q kind (from_itself i q kind ni a) (from_itself j q kind nj b)
            ]
      ]

  room_kept : length (set (set slots at moved) f freed) ≡ length slots
  room_kept = length-set (set slots at moved) f freed ∙ length-set slots at moved

  pub table_of-taken : (q : ℕ) (kind : Kind) → IsDistinct slots → Holds (slot_at slots at) q kind → table_of (set (set slots at moved) f freed) ≡ without_entry_at (table_of slots) q kind
  table_of-taken q SharedKind distinct holds =
      let s = slot_at slots at in
      let here = shared_of-entry s.key s.entry holds.same_kind in
      let there : shared_in s ≡ Some (q, here.0) = here.1 ∙ ap (λ k. Some (k, here.0)) holds.same_key in
      let shared = from_entries-taken shared_in vacant_slot refl slots after at f refills-shared q here.0 (IsKeyed-shared slots distinct) there in
      let hints = from_entries-refilled hint_in vacant_slot refl slots after at f refills-hint (IsKeyed-hint slots distinct) (hint_of-shared s.key s.entry holds.same_kind) in
      λ t. record { room = room_kept t; shared = shared t; hints = hints t }
  table_of-taken q HintKind distinct holds =
      let s = slot_at slots at in
      let here = hint_of-entry s.key s.entry holds.same_kind in
      let there : hint_in s ≡ Some (q, here.0) = here.1 ∙ ap (λ k. Some (k, here.0)) holds.same_key in
      let shared = from_entries-refilled shared_in vacant_slot refl slots after at f refills-shared (IsKeyed-shared slots distinct) (shared_of-hint s.key s.entry holds.same_kind) in
      let hints = from_entries-taken hint_in vacant_slot refl slots after at f refills-hint q here.0 (IsKeyed-hint slots distinct) there in
      λ t. record { room = room_kept t; shared = shared t; hints = hints t }
