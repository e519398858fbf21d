-- Where a page is, by the raw tables and by the book.
use Rattle.std.proofs.Common.{zero, suc, ◌≡◌, ℕ, Bool, true, false, ◌==◌, List, [], ◌∷◌, map, refl, sym, ap, ◌∙◌, subst, cond, nat_le, Option, Some, None, Result, Ok, Err}
use Rattle.std.specs.Option.{option_map}
use Rattle.std.specs.List.{list_any}
use Rattle.esx_types.specs.declared.config.Config.{Config}
use Rattle.esx_types.specs.declared.level.Level.{Level}
use Rattle.esx_types.specs.declared.table.MapRow.{MapRow}
use Rattle.esx_types.specs.declared.table.MapRow.TheVariants as maps
use Rattle.esx_types.specs.Frames.{frame_at}
use Rattle.esx_types.specs.Listings.{listing_at}
use Rattle.esx_types.specs.Pages.{page_at}
use Rattle.esx_events.specs.declared.call.PageState.{PageState}
use Rattle.esx_events.specs.declared.call.PageState.TheVariants as states
use Rattle.esx_events.specs.declared.event.Refusal.{Refusal}
use Rattle.esx_events.specs.declared.event.Refusal.TheVariants.{OutOfRange}
use Rattle.esx_model.specs.declared.book.Book.{Book}
use Rattle.esx_model.specs.declared.scene.Place.{Place}
use Rattle.esx_model.specs.declared.scene.Place.TheVariants.{Untouched, Here, Out, Lent}
use Rattle.esx_model.specs.declared.scene.Vm.{Vm}
use Rattle.esx_model.specs.declared.scene.Site.{Site}
use Rattle.esx_model.specs.declared.tables.Tables.{Tables}
use Rattle.esx_model.specs.Site.{vm_at, place_at}
use Rattle.esx_model.specs.Hints.{is_hint_of}
use Rattle.esx_model.specs.Readings.{is_hint, state_in, state_at, page_in, page_state}
use Rattle.esx_model.specs.Tables.{raw_place, vm_table, tables_of, read_place, read_vm, book_from}
use Rattle.esx_model.specs.sound.Sound.{IsSound}
use Rattle.esx_model.proofs.Callers.{book_read}
use Rattle.esx_tables.specs.Readings.{row_at}
use Rattle.esx_refinement.proofs.Refining.{row_there, page_row}
use Rattle.esx_machine.specs.Machine.{Kept, IsKept, book_in}
use Rattle.esx_machine.specs.Questions.{is_hinted, state_of, page_from}
use Rattle.esx_machine.proofs.Framed.{IsAt, shared_at, hinted_at}
use Rattle.esx_machine.proofs.Read.{row_read}

page_read : (e : ℕ) (rows : List MapRow) (page : ℕ) → page_at (map (read_place e) rows) page ≡ read_place e (page_at rows page)
page_read e [] page = refl
page_read e (r ∷ rs) zero = refl
page_read e (r ∷ rs) (suc page) = page_read e rs page

is_hint_read : (c : Config) (s : Site) (level : Level) (n page : ℕ) → IsSound c s → is_hint (book_from (tables_of c s) level) n page ≡ list_any (is_hint_of n page) s.hints
is_hint_read c s level n page sound = ap (λ (b : Book). list_any (is_hint_of n page) b.hints) (book_read c s level sound)

state_read : (c : Config) (s : Site) (level : Level) (n page : ℕ) (v : Vm) (p : Place) → IsSound c s → vm_at s n ≡ Some v → place_at v page ≡ p
    → state_at (book_from (tables_of c s) level) n page (read_place v.epoch (raw_place p)) ≡ state_of (tables_of c s) v.epoch (raw_place p)
state_read c s level n page v Untouched sound there was = refl
state_read c s level n page v (Out bytes slot) sound there was = refl
state_read c s level n page v (Lent e) sound there was = of (e == v.epoch)
  where
    of : (b : Bool) → state_at (book_from (tables_of c s) level) n page (cond b (maps.Lent e) maps.Untouched) ≡ cond b states.Lent states.Untouched
    of true = refl
    of false = refl
state_read c s level n page v (Here bytes f false) sound there was =
    let at : IsAt c s n page v bytes f false = record { sound = sound; there = there; was = was } in
    ap (λ (b : Bool). state_in b f (frame_at (tables_of c s).frames f)) (is_hint_read c s level n page sound ∙ sym (hinted_at c s n page v bytes f at))
state_read c s level n page v (Here bytes f true) sound there was =
    let at : IsAt c s n page v bytes f true = record { sound = sound; there = there; was = was } in
    let row = shared_at c s n page v bytes f at in
    ap (state_in (is_hint (book_from (tables_of c s) level) n page) f) row ∙ sym (ap (state_in (is_hinted (listing_at (tables_of c s).listings f)) f) row)

page_in_read : (c : Config) (s : Site) (level : Level) (n page : ℕ) (o : Option Vm) → IsSound c s → vm_at s n ≡ o
    → page_in (book_from (tables_of c s) level) n page (option_map read_vm (option_map vm_table o)) ≡ page_from (tables_of c s) page (option_map vm_table o)
page_in_read c s level n page None sound there = refl
page_in_read c s level n page (Some v) sound there =
    let b : Book = book_from (tables_of c s) level in
    let t : Tables = tables_of c s in
    let rows : List MapRow = (vm_table v).pages in
    let or_out : PageState → Result PageState Refusal = λ x. cond (nat_le v.spec.max page) (Err OutOfRange) (Ok x) in
    let P : MapRow → Type 0 = λ r. state_at b n page (read_place v.epoch r) ≡ state_of t v.epoch r in
    ap (λ (r : MapRow). or_out (state_at b n page r)) (page_read v.epoch rows page)
    ∙ ap or_out (subst P (sym (page_row v page)) (state_read c s level n page v (place_at v page) sound there refl))

sound_page : (c : Config) (s : Site) (level : Level) (n page : ℕ) → IsSound c s → page_state (book_from (tables_of c s) level) n page ≡ page_from (tables_of c s) page (row_at (tables_of c s) n)
unfolding page_state
sound_page c s level n page sound =
    let b : Book = book_from (tables_of c s) level in
    ap (page_in b n page) (row_read (tables_of c s).vms n ∙ ap (option_map read_vm) (row_there c s n))
    ∙ page_in_read c s level n page (vm_at s n) sound refl
    ∙ ap (page_from (tables_of c s) page) (sym (row_there c s n))

pub kept_page : (k : Kept) (n page : ℕ) → IsKept k → page_state (book_in k) n page ≡ page_from k.tables page (row_at k.tables n)
kept_page k n page kept =
    let P : Tables → Type 0 = λ t. page_state (book_from t k.level) n page ≡ page_from t page (row_at t n) in
    subst P (sym kept.shows) (sound_page k.config kept.site k.level n page kept.sound)
