-- Keys of a table, tried one after another.
use Rattle.std.specs.Prelude.{ℕ, ◌++◌, ◌≡◌, List, nat_le, ◌&&◌, ℤ, pos, negsuc, Option, Some, None, Result, Ok, Err, if◌then◌else◌, string_bytes}
use Rattle.std.specs.Borrow.{Bor}
use Rattle.std.specs.Option.{option_and_then, unwrap_or}
use Rattle.toml.specs.Data.{Data, integer, as_integer, Members, get_member, as_table}
use Rattle.esx_reading.specs.declared.fault.TextFault.{TextFault}
use Rattle.esx_reading.specs.declared.fault.TextFault.TheVariants.{BadKey, OutOfMemory}

-- a value, or the path of the first bad key
abbrev pub Tried : Type 0 → Type 0
Tried A = Result A (List ℕ)

-- the next keys, if those before are good
infixl 10 ◌>>=◌
unfoldable pub ◌>>=◌ : {A B : Type 0} → Tried A → (A → Tried B) → Tried B
Ok x >>= f = f x
Err path >>= f = Err path

-- the keys of a table that stands under a path
unfoldable pub below : {A : Type 0} → List ℕ → Tried A → Tried A
below prefix (Ok x) = Ok x
below prefix (Err key) = Err (prefix ++ key)

-- the value, unless there is none: then the key is bad
unfoldable pub at_key : {A : Type 0} → List ℕ → Option A → Tried A
at_key key (Some x) = Ok x
at_key key None = Err key

-- the number, if it is in the range
abbrev pub integer_within : ℕ → ℕ → ℤ → Option ℕ
integer_within least most (pos n) = if nat_le least n && nat_le n most then Some n else None
integer_within least most (negsuc n) = None

-- the integer, if it is in the range
unfoldable pub within : ℕ → ℕ → Data → Option ℕ
within least most d = option_and_then (integer_within least most) (as_integer d)

-- the integer of a key that has to be there
unfoldable pub required : Members → List ℕ → ℕ → ℕ → Tried ℕ
required t key least most = at_key key (option_and_then (within least most) (get_member key t))

-- the integer of a key that may be left out
unfoldable pub optional : Members → List ℕ → ℕ → ℕ → ℕ → Tried ℕ
optional t key least most default = at_key key (within least most (unwrap_or (get_member key t) (integer (pos default))))

-- the integer of a key that may be left out, if it is there
abbrev pub if_given : List ℕ → ℕ → ℕ → Option Data → Tried (Option ℕ)
if_given key least most None = Ok None
if_given key least most (Some d) = do
  n ← at_key key (within least most d)
  Ok (Some n)

unfoldable pub given : Members → List ℕ → ℕ → ℕ → Tried (Option ℕ)
given t key least most = if_given key least most (get_member key t)

-- the table at a key
unfoldable pub table_at : Members → List ℕ → Option Members
table_at t key = option_and_then as_table (get_member key t)

-- what a table's keys come to, by their names in it
abbrev pub Tries : {A : Type 0} → Tried A → Result A (Bor (List ℕ)) → Type 0
Tries tried (Ok x) = tried ≡ Ok x
Tries tried (Err key) = tried ≡ Err key.now

-- What keys come to, by their paths, unless memory ran out.
abbrev pub Gives : {A : Type 0} → Tried A → Result A TextFault → Type 0
Gives tried (Ok x) = tried ≡ Ok x
Gives tried (Err (BadKey path)) = tried ≡ Err (string_bytes path)
Gives tried (Err OutOfMemory) = Unit {0}
Gives tried (Err _) = ⊥

-- a fault that names the path, unless memory ran out
abbrev pub Names : List ℕ → TextFault → Type 0
Names path (BadKey text) = string_bytes text ≡ path
Names path OutOfMemory = Unit {0}
Names path _ = ⊥
