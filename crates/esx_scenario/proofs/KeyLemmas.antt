-- Keys that are tried one after another.
use Rattle.std.proofs.Common.{◌≡◌, ◌≢◌, ◌%◌, ℕ, ◌≤◌, List, false, Option, Some, None, Result, Ok, Err, Bor, refl, sym, arith, ℤ, le-leb, nat_le, ◌&&◌}
use Rattle.std.specs.Prelude.{ok_or, IsErrAnd}
use Rattle.toml.specs.Data.{Data, Members, as_integer, get_member, as_table}
use Rattle.std.specs.Prelude.{codes}
use Rattle.std.proofs.lemmas.Bool.Decides.{Decides-eqb}
use Rattle.esx_scenario.specs.Sites.{whole_page}
use Rattle.esx_scenario.specs.Keys.{Tried, Tries, ◌>>=◌, at_key, within, integer_within, required, optional, given, table_at}

-- a step that gave a value leads to the next one
pub then_ok : {A B : Type 0} (r : Tried A) (f : A → Tried B) (x : A) (s : Tried B) → r ≡ Ok x → f x ≡ s → (r >>= f) ≡ s
unfolding ◌>>=◌
then_ok r f x s e h = rw e h

-- a bad key is the last that is tried
pub then_err : {A B : Type 0} (r : Tried A) (f : A → Tried B) (path : List ℕ) → r ≡ Err path → (r >>= f) ≡ Err path
unfolding ◌>>=◌
then_err r f path e = rw e refl

-- a bad key is handed on
pub refuses : {A : Type 0} (tried : Tried A) (key : Bor (List ℕ)) (r : Result A (Bor (List ℕ))) → IsErrAnd r (λ e. e ≡ key) → tried ≡ Err key.now → Tries tried r
refuses tried key (Ok x) e h = absurd e
refuses tried key (Err k) e h = rw e h

pub at_key_tries : {A : Type 0} (key : Bor (List ℕ)) (found given : Option A) → found ≡ given → (r : Result A (Bor (List ℕ))) → r ≡ ok_or given key → Tries (at_key key.now found) r
unfolding at_key
at_key_tries key found (Some x) e r s = rw (e, s) refl
at_key_tries key found None e r s = rw (e, s) refl

pub within_integer : (least most : ℕ) (d : Data) (z : ℤ) → as_integer d ≡ Some z → integer_within least most z ≡ within least most d
unfolding within
within_integer least most d z e = rw e refl

pub within_none : (least most : ℕ) (d : Data) → as_integer d ≡ None → None ≡ within least most d
unfolding within
within_none least most d e = rw e refl

pub required_found : (t : Members) (key : Bor (List ℕ)) (least most : ℕ) (d : Data) (found : Option ℕ) (r : Result ℕ (Bor (List ℕ)))
    → Some d ≡ get_member key.now t → found ≡ within least most d → r ≡ ok_or found key → Tries (required t key.now least most) r
unfolding required
required_found t key least most d found r g w o = rw (← g) (at_key_tries key (within least most d) found (sym w) r o)

pub required_missing : (t : Members) (key : List ℕ) (least most : ℕ) → None ≡ get_member key t → required t key least most ≡ Err key
unfolding required at_key
required_missing t key least most g = rw (← g) refl

pub optional_found : (t : Members) (key : Bor (List ℕ)) (least most default : ℕ) (d : Data) (found : Option ℕ) (r : Result ℕ (Bor (List ℕ)))
    → Some d ≡ get_member key.now t → found ≡ within least most d → r ≡ ok_or found key → Tries (optional t key.now least most default) r
unfolding optional
optional_found t key least most default d found r g w o = rw (← g) (at_key_tries key (within least most d) found (sym w) r o)

pub optional_default : (t : Members) (key : List ℕ) (least most default : ℕ) → None ≡ get_member key t → least ≤ default → default ≤ most
    → optional t key least most default ≡ Ok default
unfolding optional at_key within
optional_default t key least most default g a b = rw (← g, le-leb least default a, le-leb default most b) refl

pub optional_unfit : (t : Members) (key : List ℕ) (least most default : ℕ) → None ≡ get_member key t → (nat_le least default && nat_le default most) ≡ false
    → optional t key least most default ≡ Err key
unfolding optional at_key within
optional_unfit t key least most default g e = rw (← g, e) refl

pub given_none : (t : Members) (key : List ℕ) (least most : ℕ) → None ≡ get_member key t → given t key least most ≡ Ok None
unfolding given
given_none t key least most g = rw (← g) refl

pub given_some : (t : Members) (key : List ℕ) (least most n : ℕ) (d : Data) → Some d ≡ get_member key t → Some n ≡ within least most d → given t key least most ≡ Ok (Some n)
unfolding given at_key ◌>>=◌
given_some t key least most n d g w = rw (← g, ← w) refl

pub given_unfit : (t : Members) (key : List ℕ) (least most : ℕ) (d : Data) → Some d ≡ get_member key t → None ≡ within least most d → given t key least most ≡ Err key
unfolding given at_key ◌>>=◌
given_unfit t key least most d g w = rw (← g, ← w) refl

pub table_at_none : (t : Members) (key : List ℕ) → None ≡ get_member key t → None ≡ table_at t key
unfolding table_at
table_at_none t key g = rw (← g) refl

pub table_at_some : (t : Members) (key : List ℕ) (d : Data) → Some d ≡ get_member key t → as_table d ≡ table_at t key
unfolding table_at
table_at_some t key d g = rw (← g) refl

pub whole_page_ok : (n : ℕ) → n % 16 ≡ 0 → whole_page n ≡ Ok n
unfolding whole_page
whole_page_ok n e = rw e refl

pub whole_page_err : (n : ℕ) → n % 16 ≢ 0 → whole_page n ≡ Err (codes "page")
unfolding whole_page
whole_page_err n ne = grind (arith, Decides-eqb (n % 16) 0)
