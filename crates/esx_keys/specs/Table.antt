-- What a contract sees of the table: room, a map by key, and a map by short.
use Rattle.std.specs.Prelude.{ℕ, zero, suc, ◌+◌, ◌*◌, ◌%◌, ◌==◌, nat_le, Bool, if◌then◌else◌, Option, option_map, count_by, refl}
use Rattle.std.specs.Ordering.{nat_cmp}
use Rattle.std.specs.FinMap.{FinMap, empty, get, insert, remove, len, keys, code}
use Rattle.std.specs.Coded.{Coded, code_by, coded×, coded_ℕ}
use Rattle.esx_keys.specs.declared.entry.Entry.{Entry}
use Rattle.esx_keys.specs.declared.entry.Entry.TheVariants.{Shared, Hint}
use Rattle.esx_keys.specs.declared.entry.Kind.{Kind}
use Rattle.esx_keys.specs.declared.entry.Kind.TheVariants.{Shared as SharedKind, Hint as HintKind}
use Rattle.esx_keys.specs.Kinds.{kind_of, number_of}

-- how many entries it holds at most, the shared frame under each key, and the hint, a virtual
-- machine and its page, under each short
pub record KeyTable : Type 0 where
  pub room : ℕ
  pub shared : FinMap nat_cmp ℕ
  pub hints : FinMap nat_cmp (ℕ × ℕ)

abbrev pub key_table_code : Coded KeyTable
key_table_code =
    code_by
    (ℕ × (FinMap nat_cmp ℕ × FinMap nat_cmp (ℕ × ℕ)))
    (coded× coded_ℕ (coded× (code coded_ℕ coded_ℕ) (code coded_ℕ (coded× coded_ℕ coded_ℕ))))
    (λ t. (t.room, (t.shared, t.hints)))
    (λ p. record { room = p.0; shared = p.1.0; hints = p.1.1 })
    (λ _. refl)

-- a table with this room and no entry
abbrev pub no_entries : ℕ → KeyTable
no_entries room = record { room = room; shared = empty; hints = empty }

-- how many entries stand
abbrev pub entry_count : KeyTable → ℕ
entry_count t = len t.shared + len t.hints

-- the entry of this kind that stands under a number
abbrev pub entry_at : KeyTable → ℕ → Kind → Option Entry
entry_at t number SharedKind = option_map (λ frame. Shared frame) (get t.shared number)
entry_at t number HintKind = option_map (λ hint. Hint hint.0 hint.1) (get t.hints number)

-- the table with one more entry under a number
abbrev pub with_entry_at : KeyTable → ℕ → Entry → KeyTable
with_entry_at t number (Shared frame) = record t { shared = insert t.shared number frame }
with_entry_at t number (Hint vm page) = record t { hints = insert t.hints number (vm, page) }

-- the table with no entry of this kind under a number
abbrev pub without_entry_at : KeyTable → ℕ → Kind → KeyTable
without_entry_at t number SharedKind = record t { shared = remove t.shared number }
without_entry_at t number HintKind = record t { hints = remove t.hints number }

-- the entry that a look-up of this kind finds under a key: a hint under the key's short
abbrev pub entry_under : KeyTable → ℕ → Kind → Option Entry
entry_under t key kind = entry_at t (number_of key kind) kind

-- the table with one more entry under a key, a hint under the key's short
abbrev pub with_entry : KeyTable → ℕ → Entry → KeyTable
with_entry t key entry = with_entry_at t (number_of key (kind_of entry)) entry

-- the table with no entry of this kind under a key, no hint under the key's short
abbrev pub without_entry : KeyTable → ℕ → Kind → KeyTable
without_entry t key kind = without_entry_at t (number_of key kind) kind

-- the first of p, 2 * p, 4 * p .. that is not less than n, after so many doublings at most
abbrev pub doubled_to : ℕ → ℕ → ℕ → ℕ
doubled_to zero p n = p
doubled_to (suc more) p n = if nat_le n p then p else doubled_to more (2 * p) n

-- the least power of two that is not less than the room, a number of 32 bits
unfoldable pub head_count : ℕ → ℕ
head_count room = doubled_to 32 1 room

-- whether a number, a key or a short, falls to this head
unfoldable pub falls_to : ℕ → ℕ → ℕ → Bool
falls_to room head number = number % head_count room == head

-- how many entries stand under this head
abbrev pub chain_length : KeyTable → ℕ → ℕ
chain_length t head =
    count_by (falls_to t.room head) (keys t.shared) + count_by (falls_to t.room head) (keys t.hints)
