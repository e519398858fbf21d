-- How many entries stand after a put or a take.
use Rattle.std.proofs.Common.{◌≡◌, ℕ, ◌+◌, ◌-◌, Option, Some, None, is_some, refl, sym, ap, ◌∙◌, inl, inr, arith}
use Rattle.std.proofs.lemmas.Bool.{cases_eq, cond-true, cond-false}
use Rattle.std.specs.Option.{option_map, OnSome}
use Rattle.std.specs.Ordering.{nat_cmp}
use Rattle.std.specs.Cmp.{nat_cmp_total}
use Rattle.std.specs.FinMap.{FinMap, get, insert, remove, len, len-insert, len-remove, len-empty, empty_of_len, get-empty, get-remove}
use Rattle.esx_keys.specs.declared.entry.Entry.{Entry}
use Rattle.esx_keys.specs.declared.entry.Entry.TheVariants.{Shared, Hint}
use Rattle.esx_keys.specs.declared.entry.Kind.{Kind}
use Rattle.esx_keys.specs.declared.entry.Kind.TheVariants.{Shared as SharedKind, Hint as HintKind}
use Rattle.esx_keys.specs.Kinds.{kind_of}
use Rattle.esx_keys.proofs.Lists.{option_map-none, option_map-some}
use Rattle.esx_keys.proofs.Picked.{tie_same}
use Rattle.esx_keys.specs.Table.{KeyTable, entry_count, entry_at, with_entry_at, without_entry_at, no_entries}

len-new : {X : Type 0} (m : FinMap nat_cmp X) (k : ℕ) (v : X) → get m k ≡ None → len (insert m k v) ≡ len m + 1
len-new m k v nothing = len-insert nat_cmp_total m k v ∙ cond-false (is_some (get m k)) (len m) (len m + 1) (ap is_some nothing)

len-gone : {X : Type 0} (m : FinMap nat_cmp X) (k : ℕ) (v : X) → get m k ≡ Some v → len (remove m k) + 1 ≡ len m
len-gone {X} m k v here =
    let fewer : len (remove m k) ≡ len m - 1 = len-remove nat_cmp_total m k ∙ cond-true (is_some (get m k)) (len m - 1) (len m) (ap is_some here) in
    elim (cases_eq (len m) 0) [
      | inl none ↦
          let nothing : get m k ≡ None = ap (λ n. get n k) (empty_of_len m none) ∙ get-empty nat_cmp k in
          absurd (cc)
      | inr some ↦ omega arith
    ]

pub entry_count-with_entry_at : (t : KeyTable) (key : ℕ) (entry : Entry) → entry_at t key (kind_of entry) ≡ None → entry_count (with_entry_at t key entry) ≡ entry_count t + 1
entry_count-with_entry_at t key (Shared frame) nothing = omega (arith, len-new t.shared key frame (option_map-none _ _ nothing))
entry_count-with_entry_at t key (Hint vm page) nothing = omega (arith, len-new t.hints key (vm, page) (option_map-none _ _ nothing))

pub entry_count-without_entry_at : (t : KeyTable) (key : ℕ) (kind : Kind) (entry : Entry) → entry_at t key kind ≡ Some entry → entry_count (without_entry_at t key kind) + 1 ≡ entry_count t
entry_count-without_entry_at t key SharedKind entry here =
    let found = option_map-some _ (get t.shared key) entry here in
    let fewer : len (remove t.shared key) + 1 ≡ len t.shared = len-gone t.shared key found.0 found.1 in
    omega arith
entry_count-without_entry_at t key HintKind entry here =
    let found = option_map-some _ (get t.hints key) entry here in
    let fewer : len (remove t.hints key) + 1 ≡ len t.hints = len-gone t.hints key found.0 found.1 in
    omega arith

-- a look-up finds entries of its own kind
pub kind_of-found : (t : KeyTable) (key : ℕ) (kind : Kind) (entry : Entry) → entry_at t key kind ≡ Some entry → kind_of entry ≡ kind
kind_of-found t key SharedKind entry here = let found = option_map-some _ _ entry here in ap kind_of (sym found.2)
kind_of-found t key HintKind entry here = let found = option_map-some _ _ entry here in ap kind_of (sym found.2)

-- where a look-up finds an entry, one entry fewer stands without it
pub fewer_entries : (t u : KeyTable) (key : ℕ) (kind : Kind) (o : Option Entry) → o ≡ entry_at t key kind → u ≡ without_entry_at t key kind → OnSome o (entry_count u + 1 ≡ entry_count t)
fewer_entries t u key kind None e rest = tt
fewer_entries t u key kind (Some entry) e rest = ap (λ x. entry_count x + 1) rest ∙ entry_count-without_entry_at t key kind entry (sym e)

removed : {X : Type 0} (m : FinMap nat_cmp X) (key : ℕ) → get (remove m key) key ≡ None
removed m key = get-remove nat_cmp_total m key key ∙ cond-true _ _ _ (tie_same key key refl)

-- what was taken out is not found again
pub entry_at-gone : (t u : KeyTable) (key : ℕ) (kind : Kind) → u ≡ without_entry_at t key kind → entry_at u key kind ≡ None
entry_at-gone t u key SharedKind rest =
    ap (λ x. entry_at x key SharedKind) rest ∙ ap (option_map (λ frame. Shared frame)) (removed t.shared key)
entry_at-gone t u key HintKind rest =
    ap (λ x. entry_at x key HintKind) rest ∙ ap (option_map (λ hint. Hint hint.0 hint.1)) (removed t.hints key)

-- a new table has no entry
pub entry_count-no_entries : (room : ℕ) → entry_count (no_entries room) ≡ 0
entry_count-no_entries room = omega (arith, len-empty nat_cmp ℕ, len-empty nat_cmp (ℕ × ℕ))
