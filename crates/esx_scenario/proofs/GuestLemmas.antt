-- The machines of a scenario, one after another.
use Rattle.std.proofs.Common.{◌≡◌, ◌+◌, ◌<◌, ◌≤◌, ℕ, List, [], ◌∷◌, ◌++◌, length, Bool, true, false, Option, Some, None, Result, Ok, Err, Bor, refl, sym, ap, ◌∙◌, codes, nat_le, le-leb, arith, if◌then◌else◌, get_or, drop}
use Rattle.std.specs.Prelude.{IsErrAnd, ◌&&◌, ◌||◌, ◌==◌, OnOk, is_err, option_copied}
use Rattle.toml.proofs.Views.{items_view-drop}
use Rattle.std.proofs.Math.ListN.{drop_of_length-le}
use Rattle.std.proofs.lemmas.Bool.Decides.{Decides-eqb}
use Rattle.std.proofs.lemmas.Option.{same_Some}
use Rattle.toml.specs.Data.{Data, string, integer, float, boolean, datetime, array, table, Items, no_items, item, Members, as_str, as_table, as_array}
use Rattle.toml.specs.View.{view, items_view}
use Rattle.toml.specs.declared.value.Value.{Value}
use Rattle.esx_types.specs.declared.config.TheConstants.{MAX_TAU}
use Rattle.esx_types.specs.declared.version.Version.{Version}
use Rattle.esx_types.specs.Versions.{vm_numbers, has_own_taxes}
use Rattle.esx_reading.specs.declared.fault.TextFault.{TextFault}
use Rattle.esx_reading.specs.declared.fault.TextFault.TheVariants.{BadKey, OutOfMemory}
use Rattle.esx_types.specs.declared.config.Config.{Config}
use Rattle.esx_scenario.specs.declared.plan.Guest.{Guest}
use Rattle.esx_scenario.specs.declared.plan.TraceLine.{TraceLine}
use Rattle.esx_scenario.specs.declared.guests.TheConstants.{MOST_LINES}
use Rattle.esx_scenario.specs.Keys.{Tried, Gives, Names, ◌>>=◌, below, at_key, given}
use Rattle.esx_scenario.specs.Lines.{line_of}
use Rattle.esx_scenario.specs.Guests.{count_items, lines_from, trace_in, guest_at, guests_from, guests_at, are_tables, new_number, tau_in}
use Rattle.esx_scenario.specs.Plans.{AreDistinct, has_number}
use Rattle.esx_scenario.specs.Sites.{site_at, site_in, settings_at, settings_in}
use Rattle.esx_scenario.proofs.KeyLemmas.{then_err}
use Rattle.esx_scenario.proofs.LineLemmas.{next_some, next_none}

-- a fault that names the path of a bad key
pub gives_err : {A : Type 0} (tried : Tried A) (path : List ℕ) (fault : TextFault) → tried ≡ Err path → Names path fault → Gives tried (Err fault)
gives_err tried path (BadKey text) e n = e ∙ ap Err (sym n)
gives_err tried path OutOfMemory e n = tt
gives_err tried path _ e n = absurd n

-- a fault of a step is that of all steps
pub gives_stop : {A B : Type 0} (r : Tried A) (f : A → Tried B) (fault : TextFault) → Gives r (Err fault) → Gives (r >>= f) (Err fault)
gives_stop r f (BadKey path) g = then_err r f _ g
gives_stop r f OutOfMemory g = tt
gives_stop r f _ g = absurd g

-- what the steps behind a value come to
pub gives_then : {A B : Type 0} (r : Tried A) (f : A → Tried B) (x : A) (out : Result B TextFault) → r ≡ Ok x → Gives (f x) out → Gives (r >>= f) out
unfolding ◌>>=◌
gives_then r f x out e g = rw e g

-- what an equal trial comes to
pub gives_at : {A : Type 0} (tried other : Tried A) (out : Result A TextFault) → tried ≡ other → Gives other out → Gives tried out
gives_at tried other out e g = rw e g

-- a fault is handed on
pub gives_on : {A : Type 0} (tried : Tried A) (fault : TextFault) (out : Result A TextFault) → IsErrAnd out (λ e. e ≡ fault) → Gives tried (Err fault) → Gives tried out
gives_on tried fault (Ok x) e g = absurd e
gives_on tried fault (Err f) e g = rw e g

pub below_ok : {A : Type 0} (prefix : List ℕ) (r : Tried A) (x : A) → r ≡ Ok x → below prefix r ≡ Ok x
unfolding below
below_ok prefix r x e = rw e refl

pub below_err : {A : Type 0} (prefix key : List ℕ) (r : Tried A) → r ≡ Err key → below prefix r ≡ Err (prefix ++ key)
unfolding below
below_err prefix key r e = rw e refl

pub at_key_some : {A : Type 0} (key : List ℕ) (o : Option A) (x : A) → o ≡ Some x → at_key key o ≡ Ok x
unfolding at_key
at_key_some key o x e = rw e refl

pub at_key_none : {A : Type 0} (key : List ℕ) (o : Option A) → o ≡ None → at_key key o ≡ Err key
unfolding at_key
at_key_none key o e = rw e refl

pub tau_given : (version : Version) (t : Members) → has_own_taxes version ≡ true → tau_in version t ≡ given t (codes "tau") 0 MAX_TAU
unfolding tau_in
tau_given version t e = rw e refl

pub tau_none : (version : Version) (t : Members) → has_own_taxes version ≡ false → tau_in version t ≡ Ok None
unfolding tau_in
tau_none version t e = rw e refl

pub new_number_ok : (earlier : List Guest) (n : ℕ) → has_number earlier n ≡ false → new_number earlier n ≡ Ok n
unfolding new_number
new_number_ok earlier n e = rw e refl

pub new_number_err : (earlier : List Guest) (n : ℕ) → has_number earlier n ≡ true → new_number earlier n ≡ Err (codes "id")
unfolding new_number
new_number_err earlier n e = rw e refl

-- a line more
pub lines_more : (size pages : ℕ) (lines : List TraceLine) (d : Data) (ds all : Items) (text : List ℕ) (line : TraceLine) → all ≡ item d ds → Some text ≡ as_str d
    → Some line ≡ line_of size pages text → lines_from size pages lines all ≡ lines_from size pages (lines ++ line ∷ []) ds
unfolding lines_from
lines_more size pages lines (string s) ds all text line a e l =
    rw a (next_some (line_of size pages s) _ line _ (ap (line_of size pages) (sym (same_Some text s e)) ∙ sym l) refl)
lines_more size pages lines (integer z) ds all text line a e l = absurd (cc)
lines_more size pages lines (float x) ds all text line a e l = absurd (cc)
lines_more size pages lines (boolean b) ds all text line a e l = absurd (cc)
lines_more size pages lines (datetime t) ds all text line a e l = absurd (cc)
lines_more size pages lines (array xs) ds all text line a e l = absurd (cc)
lines_more size pages lines (table t) ds all text line a e l = absurd (cc)

-- no text
pub lines_kind : (size pages : ℕ) (lines : List TraceLine) (d : Data) (ds all : Items) → all ≡ item d ds → None ≡ as_str d → lines_from size pages lines all ≡ None
unfolding lines_from
lines_kind size pages lines (string s) ds all a e = absurd (cc)
lines_kind size pages lines (integer z) ds all a e = rw a refl
lines_kind size pages lines (float x) ds all a e = rw a refl
lines_kind size pages lines (boolean b) ds all a e = rw a refl
lines_kind size pages lines (datetime t) ds all a e = rw a refl
lines_kind size pages lines (array xs) ds all a e = rw a refl
lines_kind size pages lines (table t) ds all a e = rw a refl

-- no line
pub lines_wrong : (size pages : ℕ) (lines : List TraceLine) (d : Data) (ds all : Items) (text : List ℕ) → all ≡ item d ds → Some text ≡ as_str d
    → None ≡ line_of size pages text → lines_from size pages lines all ≡ None
unfolding lines_from
lines_wrong size pages lines (string s) ds all text a e l =
    rw a (next_none (line_of size pages s) _ (ap (line_of size pages) (sym (same_Some text s e)) ∙ sym l))
lines_wrong size pages lines (integer z) ds all text a e l = absurd (cc)
lines_wrong size pages lines (float x) ds all text a e l = absurd (cc)
lines_wrong size pages lines (boolean b) ds all text a e l = absurd (cc)
lines_wrong size pages lines (datetime t) ds all text a e l = absurd (cc)
lines_wrong size pages lines (array xs) ds all text a e l = absurd (cc)
lines_wrong size pages lines (table t) ds all text a e l = absurd (cc)

pub lines_end : (size pages : ℕ) (lines : List TraceLine) (all : Items) → all ≡ no_items → lines_from size pages lines all ≡ Some lines
unfolding lines_from
lines_end size pages lines all a = rw a refl

pub count_is : (vs : List Value) → count_items (items_view vs) ≡ length vs
count_is [] = refl
count_is (v ∷ vs) = ap (λ n. 1 + n) (count_is vs) ∙ omega arith

pub no_trace : (size pages : ℕ) (o : Option Data) → o ≡ None → trace_in size pages o ≡ Some []
unfolding trace_in
no_trace size pages o e = rw e refl

pub trace_array : (size pages : ℕ) (d : Data) (ds : Items) (fits : Bool) → Some ds ≡ as_array d → nat_le (count_items ds) MOST_LINES ≡ fits
    → trace_in size pages (Some d) ≡ (if fits then lines_from size pages [] ds else None)
unfolding trace_in
trace_array size pages (array xs) ds fits e c = let same = same_Some ds xs e in let found : nat_le (count_items xs) MOST_LINES ≡ fits = ap (λ l. nat_le (count_items l) MOST_LINES) (sym same) ∙ c in rw (found, same) refl
trace_array size pages (string s) ds fits e c = absurd (cc)
trace_array size pages (integer z) ds fits e c = absurd (cc)
trace_array size pages (float x) ds fits e c = absurd (cc)
trace_array size pages (boolean b) ds fits e c = absurd (cc)
trace_array size pages (datetime t) ds fits e c = absurd (cc)
trace_array size pages (table t) ds fits e c = absurd (cc)

pub trace_kind : (size pages : ℕ) (d : Data) → None ≡ as_array d → trace_in size pages (Some d) ≡ None
unfolding trace_in
trace_kind size pages (array xs) e = absurd (cc)
trace_kind size pages (string s) e = refl
trace_kind size pages (integer z) e = refl
trace_kind size pages (float x) e = refl
trace_kind size pages (boolean b) e = refl
trace_kind size pages (datetime t) e = refl
trace_kind size pages (table t) e = refl

-- a machine more, or what its table comes to
pub guests_more : (version : Version) (site : Config) (earlier : List Guest) (d : Data) (ds all : Items) (t : Members) → all ≡ item d ds → Some t ≡ as_table d
    → guests_from version site earlier all ≡ (guest_at version site earlier t >>= λ g. guests_from version site (earlier ++ g ∷ []) ds)
unfolding guests_from
guests_more version site earlier (table x) ds all t a e = let same = same_Some t x e in rw (a, same) refl
guests_more version site earlier (string s) ds all t a e = absurd (cc)
guests_more version site earlier (integer z) ds all t a e = absurd (cc)
guests_more version site earlier (float x) ds all t a e = absurd (cc)
guests_more version site earlier (boolean b) ds all t a e = absurd (cc)
guests_more version site earlier (datetime x) ds all t a e = absurd (cc)
guests_more version site earlier (array xs) ds all t a e = absurd (cc)

pub guests_kind : (version : Version) (site : Config) (earlier : List Guest) (d : Data) (ds all : Items) → all ≡ item d ds → None ≡ as_table d → guests_from version site earlier all ≡ Err (codes "vm")
unfolding guests_from
guests_kind version site earlier (table x) ds all a e = absurd (cc)
guests_kind version site earlier (string s) ds all a e = rw a refl
guests_kind version site earlier (integer z) ds all a e = rw a refl
guests_kind version site earlier (float x) ds all a e = rw a refl
guests_kind version site earlier (boolean b) ds all a e = rw a refl
guests_kind version site earlier (datetime x) ds all a e = rw a refl
guests_kind version site earlier (array xs) ds all a e = rw a refl

pub guests_end : (version : Version) (site : Config) (guests : List Guest) (all : Items) → all ≡ no_items → guests_from version site guests all ≡ Ok guests
unfolding guests_from
guests_end version site guests all a = rw a refl

pub is_array : (d : Data) (ds : Items) → Some ds ≡ as_array d → d ≡ array ds
is_array (array xs) ds e = ap array (sym (same_Some ds xs e))
is_array (string s) ds e = absurd (cc)
is_array (integer z) ds e = absurd (cc)
is_array (float x) ds e = absurd (cc)
is_array (boolean b) ds e = absurd (cc)
is_array (datetime t) ds e = absurd (cc)
is_array (table t) ds e = absurd (cc)

pub is_table : (d : Data) (t : Members) → Some t ≡ as_table d → d ≡ table t
is_table (table x) t e = ap table (sym (same_Some t x e))
is_table (array xs) t e = absurd (cc)
is_table (string s) t e = absurd (cc)
is_table (integer z) t e = absurd (cc)
is_table (float x) t e = absurd (cc)
is_table (boolean b) t e = absurd (cc)
is_table (datetime x) t e = absurd (cc)

pub guests_none : (version : Version) (site : Config) (o : Option Data) → o ≡ None → guests_at version site o ≡ Ok []
unfolding guests_at
guests_none version site o e = rw e refl

pub guests_other : (version : Version) (site : Config) (o : Option Data) (d : Data) → o ≡ Some d → None ≡ as_array d → guests_at version site o ≡ Err (codes "vm")
unfolding guests_at
guests_other version site o (array xs) e n = absurd (cc)
guests_other version site o (string s) e n = rw e refl
guests_other version site o (integer z) e n = rw e refl
guests_other version site o (float x) e n = rw e refl
guests_other version site o (boolean b) e n = rw e refl
guests_other version site o (datetime t) e n = rw e refl
guests_other version site o (table t) e n = rw e refl

pub guests_unfit : (version : Version) (site : Config) (o : Option Data) (d : Data) (ds : Items) → o ≡ Some d → Some ds ≡ as_array d → (nat_le (count_items ds) (vm_numbers version) && are_tables ds) ≡ false
    → guests_at version site o ≡ Err (codes "vm")
unfolding guests_at
guests_unfit version site o d ds e a f = rw (e, is_array d ds a, f) refl

pub guests_fit : (version : Version) (site : Config) (o : Option Data) (d : Data) (ds : Items) → o ≡ Some d → Some ds ≡ as_array d → (nat_le (count_items ds) (vm_numbers version) && are_tables ds) ≡ true
    → guests_at version site o ≡ guests_from version site [] ds
unfolding guests_at
guests_fit version site o d ds e a f = rw (e, is_array d ds a, f) refl

pub site_none : (o : Option Members) → o ≡ None → site_at o ≡ Err (codes "machine.frames")
unfolding site_at
site_none o e = rw e refl

pub site_table : (o : Option Members) (t : Members) → o ≡ Some t → site_at o ≡ below (codes "machine.") (site_in t)
unfolding site_at
site_table o t e = rw e refl

pub settings_none : (o : Option Data) → o ≡ None → settings_at o ≡ Ok (record { seed = 1; turns = 1000; sample = 100; length = 1000 })
unfolding settings_at
settings_none o e = rw e refl

pub settings_table : (o : Option Data) (d : Data) (t : Members) → o ≡ Some d → Some t ≡ as_table d → settings_at o ≡ below (codes "run.") (settings_in t)
unfolding settings_at
settings_table o d t e a = rw (e, is_table d t a) refl

pub settings_other : (o : Option Data) (d : Data) → o ≡ Some d → None ≡ as_table d → settings_at o ≡ Err (codes "run")
unfolding settings_at
settings_other o (table x) e n = absurd (cc)
settings_other o (array xs) e n = rw e refl
settings_other o (string s) e n = rw e refl
settings_other o (integer z) e n = rw e refl
settings_other o (float x) e n = rw e refl
settings_other o (boolean b) e n = rw e refl
settings_other o (datetime x) e n = rw e refl

neither : (a b : Bool) → (a || b) ≡ false → (a ≡ false) × (b ≡ false)
neither true b h = absurd (cc)
neither false b h = (refl, h)

other_way : (a b : ℕ) → (a == b) ≡ false → (b == a) ≡ false
other_way a b h = grind (arith, Decides-eqb)

number_behind : (guests : List Guest) (new : Guest) (n : ℕ) → has_number guests n ≡ false → (new.vm == n) ≡ false → has_number (guests ++ new ∷ []) n ≡ false
number_behind [] new n h e = rw e refl
number_behind (g ∷ gs) new n h e = let p = neither (g.vm == n) (has_number gs n) h in rw p.0 (number_behind gs new n p.1 e)

distinct_more : (guests : List Guest) (new : Guest) → AreDistinct guests → has_number guests new.vm ≡ false → AreDistinct (guests ++ new ∷ [])
distinct_more [] new d n = (refl, tt)
distinct_more (g ∷ gs) new d n =
    let p = neither (g.vm == new.vm) (has_number gs new.vm) n in
    (number_behind gs new g.vm d.0 (other_way g.vm new.vm p.0), distinct_more gs new d.1 p.1)

-- one more machine of a new number
pub one_more : (guests : List Guest) (new : Guest) (all : List Guest) → all ≡ guests ++ new ∷ [] → AreDistinct guests → has_number guests new.vm ≡ false → AreDistinct all
one_more guests new all a d n = rw a (distinct_more guests new d n)

pub item_here : (vs : List Value) (i : ℕ) (v : Value) → v ≡ get_or vs i v → i < length vs → items_view (drop i vs) ≡ item (view v) (items_view (drop (i + 1) vs))
item_here vs i v e h = items_view-drop vs i v h ∙ ap (λ x. item (view x) (items_view (drop (i + 1) vs))) (sym e)

pub no_item_here : (vs : List Value) (i : ℕ) → length vs ≤ i → items_view (drop i vs) ≡ no_items
no_item_here vs i h = ap items_view (drop_of_length-le vs h)

pub text_none : (o : Option (Bor (List ℕ))) (d : Data) → option_copied o ≡ as_str d → o ≡ None → None ≡ as_str d
text_none o d e n = rw n at e

pub not_leb : (a b : ℕ) → b < a → nat_le a b ≡ false
not_leb a b h = grind arith

pub many : (most : ℕ) (ds : Items) (b : Bool) → most < count_items ds → (nat_le (count_items ds) most && b) ≡ false
many most ds b h = rw (not_leb (count_items ds) most h) refl

pub strays : (a b : Bool) → b ≡ false → (a && b) ≡ false
strays true b e = e
strays false b e = refl

pub all_fit : (most : ℕ) (ds : Items) → count_items ds ≤ most → are_tables ds ≡ true → (nat_le (count_items ds) most && are_tables ds) ≡ true
all_fit most ds h t = rw (le-leb (count_items ds) most h, t) refl

-- a push that did not fail
pub pushed : {A E : Type 0} {P : Type 0} (r : Result A E) → is_err r ≡ false → OnOk r P → P
pushed (Ok x) e h = h
pushed (Err e') e h = absurd (cc)

-- a machine's table whose fault ends the reading of all
pub guest_stop : (version : Version) (site : Config) (start : Tried (List Guest)) (earlier slice : List Guest) (d : Data) (ds all : Items) (t : Members) (fault : TextFault)
    → start ≡ guests_from version site earlier all → all ≡ item d ds → Some t ≡ as_table d → slice ≡ earlier → Gives (guest_at version site slice t) (Err fault) → Gives start (Err fault)
guest_stop version site start earlier slice d ds all t (BadKey path) s a e same g =
    s ∙ guests_more version site earlier d ds all t a e ∙ then_err _ _ _ (ap (λ x. guest_at version site x t) (sym same) ∙ g)
guest_stop version site start earlier slice d ds all t OutOfMemory s a e same g = tt
guest_stop version site start earlier slice d ds all t _ s a e same g = absurd g
