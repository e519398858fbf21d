-- Unknown keys, one after another.
use Rattle.std.proofs.Common.{◌≡◌, ◌+◌, ℕ, List, [], ◌∷◌, ◌++◌, true, false, Option, Some, None, Ok, Err, refl, sym, ap, ◌∙◌, string_bytes, fold, codes}
use Rattle.std.specs.Prelude.{option_and_then}
use Rattle.std.specs.Ordering.{nat_cmp, is_lt}
use Rattle.std.specs.Cmp.Lexicographic.{slice_cmp}
use Rattle.std.proofs.lemmas.List.Sums.{fold-append}
use Rattle.toml.specs.Data.{Data, string, integer, float, boolean, datetime, array, table, Items, no_items, item, Members, as_table, as_array, get_member}
use Rattle.toml.specs.View.{members_view}
use Rattle.toml.proofs.Views.{Entry}
use Rattle.esx_types.specs.declared.version.Version.{Version}
use Rattle.esx_scenario.specs.declared.strange.Place.{Place}
use Rattle.esx_scenario.specs.declared.strange.Place.TheVariants.{Top, Machine, Run, Vm}
use Rattle.esx_scenario.specs.Guests.{vm_path}
use Rattle.esx_scenario.specs.Keys.{table_at}
use Rattle.esx_scenario.specs.Strange.{is_known, strange_in, strange_at, strange_from, strange, strange_vms, lesser, least, none_strange}
use Rattle.esx_scenario.proofs.GuestLemmas.{is_table}

pub lesser_none : (path : List ℕ) → lesser None path ≡ Some path
unfolding lesser
lesser_none path = refl

pub lesser_less : (path best : List ℕ) → is_lt (slice_cmp nat_cmp path best) ≡ true → lesser (Some best) path ≡ Some path
unfolding lesser
lesser_less path best e = rw e refl

pub lesser_kept : (path best : List ℕ) → is_lt (slice_cmp nat_cmp path best) ≡ false → lesser (Some best) path ≡ Some best
unfolding lesser
lesser_kept path best e = rw e refl

pub known_step : (version : Version) (place : Place) (prefix : List ℕ) (best : Option (List ℕ)) (es rest : List Entry) (e : Entry) → es ≡ e ∷ rest → is_known version place (string_bytes e.0) ≡ true
    → fold lesser best (strange_in version place prefix (members_view es)) ≡ fold lesser best (strange_in version place prefix (members_view rest))
unfolding strange_in
known_step version place prefix best es rest e s k = rw (s, k) refl

pub strange_step : (version : Version) (place : Place) (prefix : List ℕ) (best : Option (List ℕ)) (es rest : List Entry) (e : Entry) → es ≡ e ∷ rest → is_known version place (string_bytes e.0) ≡ false
    → fold lesser best (strange_in version place prefix (members_view es)) ≡ fold lesser (lesser best (prefix ++ string_bytes e.0)) (strange_in version place prefix (members_view rest))
unfolding strange_in
strange_step version place prefix best es rest e s k = rw (s, k) refl

pub none_step : (version : Version) (place : Place) (prefix : List ℕ) (best : Option (List ℕ)) (es : List Entry) → es ≡ [] → fold lesser best (strange_in version place prefix (members_view es)) ≡ best
unfolding strange_in
none_step version place prefix best es e = rw e refl

pub table_strange : (version : Version) (place : Place) (prefix : List ℕ) (t : Members) → strange_at version place prefix (Some t) ≡ strange_in version place prefix t
unfolding strange_at
table_strange version place prefix t = refl

pub no_table_strange : (version : Version) (place : Place) (prefix : List ℕ) → strange_at version place prefix None ≡ []
unfolding strange_at
no_table_strange version place prefix = refl

pub guest_step : (version : Version) (i : ℕ) (best : Option (List ℕ)) (d : Data) (ds all : Items) (t : Members) → all ≡ item d ds → Some t ≡ as_table d
    → fold lesser best (strange_from version i all) ≡ fold lesser (fold lesser best (strange_in version Vm (vm_path i) t)) (strange_from version (i + 1) ds)
unfolding strange_from
guest_step version i best d ds all t a e = rw (a, is_table d t e) (fold-append lesser best (strange_in version Vm (vm_path i) t) (strange_from version (i + 1) ds))

pub skip_step : (version : Version) (i : ℕ) (best : Option (List ℕ)) (d : Data) (ds all : Items) → all ≡ item d ds → None ≡ as_table d
    → fold lesser best (strange_from version i all) ≡ fold lesser best (strange_from version (i + 1) ds)
unfolding strange_from
skip_step version i best (table x) ds all a e = absurd (cc)
skip_step version i best (array xs) ds all a e = rw a refl
skip_step version i best (string s) ds all a e = rw a refl
skip_step version i best (integer z) ds all a e = rw a refl
skip_step version i best (float x) ds all a e = rw a refl
skip_step version i best (boolean b) ds all a e = rw a refl
skip_step version i best (datetime x) ds all a e = rw a refl

pub end_step : (version : Version) (i : ℕ) (best : Option (List ℕ)) (all : Items) → all ≡ no_items → fold lesser best (strange_from version i all) ≡ best
unfolding strange_from
end_step version i best all a = rw a refl

-- the least of four lists, one after another
pub least_of_four : (a b c d : List (List ℕ)) (first second third fourth : Option (List ℕ)) → first ≡ fold lesser None a → second ≡ fold lesser first b → third ≡ fold lesser second c → fourth ≡ fold lesser third d
    → fourth ≡ least (a ++ b ++ c ++ d)
least_of_four a b c d first second third fourth e f g h =
    h ∙ ap (λ x. fold lesser x d) (g ∙ ap (λ x. fold lesser x c) (f ∙ ap (λ x. fold lesser x b) e ∙ sym (fold-append lesser None a b)) ∙ sym (fold-append lesser None (a ++ b) c))
    ∙ sym (fold-append lesser None (a ++ b ++ c) d)

pub none_is_strange : (o : Option (List ℕ)) → None ≡ o → none_strange o ≡ Ok tt
unfolding none_strange
none_is_strange o e = rw (← e) refl

pub one_is_strange : (o : Option (List ℕ)) (path : List ℕ) → Some path ≡ o → none_strange o ≡ Err path
unfolding none_strange
one_is_strange o path e = rw (← e) refl

-- the least of the unknown keys, from the least after each table
pub strange_least : (version : Version) (t : Members) (machine run : Option Members) (vms : Option Items) (first second third fourth : Option (List ℕ)) → first ≡ fold lesser None (strange_in version Top [] t)
    → machine ≡ table_at t (codes "machine") → second ≡ fold lesser first (strange_at version Machine (codes "machine.") machine)
    → run ≡ table_at t (codes "run") → third ≡ fold lesser second (strange_at version Run (codes "run.") run)
    → vms ≡ option_and_then as_array (get_member (codes "vm") t) → fourth ≡ fold lesser third (strange_vms version vms) → fourth ≡ least (strange version t)
strange_least version t machine run vms first second third fourth a m b r c v d =
    least_of_four (strange_in version Top [] t) (strange_at version Machine (codes "machine.") (table_at t (codes "machine"))) (strange_at version Run (codes "run.") (table_at t (codes "run")))
    (strange_vms version (option_and_then as_array (get_member (codes "vm") t))) first second third fourth a (b ∙ ap (λ x. fold lesser first (strange_at version Machine (codes "machine.") x)) m)
    (c ∙ ap (λ x. fold lesser second (strange_at version Run (codes "run.") x)) r) (d ∙ ap (λ x. fold lesser third (strange_vms version x)) v)

pub no_vms : (version : Version) (best : Option (List ℕ)) → best ≡ fold lesser best (strange_vms version None)
unfolding strange_vms
no_vms version best = refl

pub some_vms : (version : Version) (best : Option (List ℕ)) (ds : Items) → fold lesser best (strange_from version 0 ds) ≡ fold lesser best (strange_vms version (Some ds))
unfolding strange_vms
some_vms version best ds = refl
