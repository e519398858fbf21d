-- How the table lays out its entries. No public clause cites this module.
use Rattle.std.specs.Prelude.{◌≡◌, ℕ, ◌+◌, ◌%◌, ◌==◌, ◌<◌, ◌^◌, List, length, Option, Some, None, option_map, count_by, slice_index_or, filter_map}
use Rattle.std.specs.FinMap.{from_entries}
use Rattle.esx_keys.specs.declared.entry.Entry.{Entry}
use Rattle.esx_keys.specs.declared.entry.Entry.TheVariants.{Shared, Hint}
use Rattle.esx_keys.specs.declared.entry.Kind.{Kind}
use Rattle.esx_keys.specs.declared.arena.Slot.{Slot}
use Rattle.esx_keys.specs.declared.arena.Chain.{Chain}
use Rattle.esx_keys.specs.Kinds.{kind_of}
use Rattle.esx_keys.specs.Links.{Links}
use Rattle.esx_keys.specs.Table.{KeyTable, head_count}

abbrev pub vacant_slot : Slot
vacant_slot = record { key = 0; entry = None; next = 0 }

abbrev pub no_chain : Chain
no_chain = record { first = 0; len = 0 }

abbrev pub slot_at : List Slot → ℕ → Slot
slot_at slots i = slice_index_or slots i vacant_slot

abbrev pub chain_at : List Chain → ℕ → Chain
chain_at chains h = slice_index_or chains h no_chain

-- each slot names the next, and has no entry
abbrev pub AreFree : List Slot → Type 0
AreFree slots =
    (i : ℕ) → i < length slots → slot_at slots i ≡ record { key = 0; entry = None; next = i + 1 }

-- the chain of a slot: that of its key's head, or the last, of the free slots
abbrev pub group_of : ℕ → ℕ → Option Entry → ℕ
group_of heads key None = heads
group_of heads key (Some entry) = key % heads

abbrev pub slot_group : ℕ → Slot → ℕ
slot_group heads s = group_of heads s.key s.entry

-- an entry of this kind stands there under this key
pub record Holds (s : Slot) (key : ℕ) (kind : Kind) : Type 0 where
  pub same_key : s.key ≡ key
  pub same_kind : option_map kind_of s.entry ≡ Some kind

-- the slots stand in the chains, and each chain's length counts them
pub record IsLinked (heads : ℕ) (slots : List Slot) (chains : List Chain) : Type 0 where
  pub chain_count : length chains ≡ heads + 1
  pub some_head : 0 < heads
  pub fits : length slots < 2 ^ 32
  pub rank : ℕ → ℕ
  pub links : Links (length slots) (length chains) (λ i. slot_group heads (slot_at slots i)) rank (λ i. (slot_at slots i).next) (λ h. (chain_at chains h).first) (λ h. (chain_at chains h).len)
  pub counted : (h : ℕ) → h < length chains → (chain_at chains h).len ≡ count_by (λ s. slot_group heads s == h) slots

-- one entry of a kind at most stands under a key
abbrev pub IsDistinct : List Slot → Type 0
IsDistinct slots =
    (i j key : ℕ) (kind : Kind) → Holds (slot_at slots i) key kind → Holds (slot_at slots j) key kind → i ≡ j

pub record IsArena (slots : List Slot) (chains : List Chain) : Type 0 where
  pub heads : length chains ≡ head_count (length slots) + 1
  pub linked : IsLinked (head_count (length slots)) slots chains
  pub distinct : IsDistinct slots

abbrev pub shared_of : ℕ → Option Entry → Option (ℕ × ℕ)
shared_of key None = None
shared_of key (Some (Shared frame)) = Some (key, frame)
shared_of key (Some (Hint vm page)) = None

abbrev pub hint_of : ℕ → Option Entry → Option (ℕ × (ℕ × ℕ))
hint_of key None = None
hint_of key (Some (Shared frame)) = None
hint_of key (Some (Hint vm page)) = Some (key, (vm, page))

-- the key and the frame of a slot with a shared frame
abbrev pub shared_in : Slot → Option (ℕ × ℕ)
shared_in s = shared_of s.key s.entry

-- the key and the page of a slot with a hint
abbrev pub hint_in : Slot → Option (ℕ × (ℕ × ℕ))
hint_in s = hint_of s.key s.entry

abbrev pub table_of : List Slot → KeyTable
table_of slots =
    record {
      room = length slots;
      shared = from_entries (filter_map shared_in slots);
      hints = from_entries (filter_map hint_in slots);
    }
