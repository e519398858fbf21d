-- What an event finds to be equal to its page, by the raw tables and by the scene.
use Rattle.std.proofs.Common.{◌≡◌, ℕ, Bool, List, refl, sym, ap, ◌∙◌, subst, Option, Some, None}
use Rattle.std.specs.Option.{option_map}
use Rattle.esx_types.specs.declared.config.Config.{Config}
use Rattle.esx_types.specs.declared.table.MapRow.{MapRow}
use Rattle.esx_events.specs.declared.event.Event.{Event}
use Rattle.esx_events.specs.declared.event.Event.TheVariants.{Admit, Start, Read, Write, Ask, Lend, TakeBack, Sample, Rebalance, Scan, SwapOut, Replace, SetShares, SetTax, SetVmTax, Stop, DropPage, Gone}
use Rattle.esx_model.specs.declared.scene.Place.{Place}
use Rattle.esx_model.specs.declared.scene.Place.TheVariants.{Untouched, Here, Out, Lent}
use Rattle.esx_model.specs.declared.scene.Vm.{Vm}
use Rattle.esx_model.specs.declared.scene.Site.{Site}
use Rattle.esx_model.specs.declared.scene.Scene.{Scene}
use Rattle.esx_model.specs.declared.tables.Tables.{Tables}
use Rattle.esx_model.specs.Site.{vm_at, place_at, place_in}
use Rattle.esx_model.specs.Tables.{raw_place, vm_table, tables_of}
use Rattle.esx_model.specs.event.Paging.{drawn_of, compared}
use Rattle.esx_model.specs.event.Sharing.{look, other_found, found_by}
use Rattle.esx_model.specs.sound.Sound.{IsSound}
use Rattle.esx_refinement.proofs.Drawn.{drawn_found}
use Rattle.esx_refinement.proofs.Looks.{look_shown}
use Rattle.esx_refinement.proofs.Refining.{row_there, page_row}
use Rattle.esx_machine.specs.Machine.{Kept, Shows}
use Rattle.esx_machine.specs.Questions.{found_at, found_of, equal_in, drawn_in, compared_in}

place_found : (c : Config) (s : Site) (n page : ℕ) (v : Vm) (p : Place) → IsSound c s → vm_at s n ≡ Some v → place_at v page ≡ p
    → found_at (tables_of c s) n page (raw_place p) ≡ other_found (look s n page p)
unfolding look
place_found c s n page v Untouched sound there was = refl
place_found c s n page v (Here bytes f shared) sound there was = ap other_found (look_shown c s n page v bytes f shared sound there was)
place_found c s n page v (Out bytes slot) sound there was = refl
place_found c s n page v (Lent e) sound there was = refl

vm_found : (c : Config) (s : Site) (n page : ℕ) (o : Option Vm) → IsSound c s → vm_at s n ≡ o
    → found_of (tables_of c s) n page (option_map vm_table o) ≡ other_found (look s n page (place_in o page))
unfolding look
vm_found c s n page None sound there = refl
vm_found c s n page (Some v) sound there =
    let P : MapRow → Type 0 = λ row. found_at (tables_of c s) n page row ≡ other_found (look s n page (place_at v page)) in
    subst P (sym (page_row v page)) (place_found c s n page v (place_at v page) sound there refl)

equal_found : (c : Config) (s : Site) (p : Option (ℕ × ℕ)) → IsSound c s → equal_in (tables_of c s) p ≡ found_by s p
equal_found c s None sound = refl
equal_found c s (Some p) sound = ap (found_of (tables_of c s) p.0 p.1) (row_there c s p.0) ∙ vm_found c s p.0 p.1 (vm_at s p.0) sound refl

vm_drawn : (n word : ℕ) (o : Option Vm) → drawn_in n (option_map vm_table o) word ≡ drawn_of n o word
vm_drawn n word None = refl
vm_drawn n word (Some v) = ap (option_map (λ (page : ℕ). (n, page))) (drawn_found v word)

compared_shown : (c : Config) (s : Site) (e : Event) → compared_in (tables_of c s) e ≡ compared s e
compared_shown c s (Admit n spec) = refl
compared_shown c s (Start n) = refl
compared_shown c s (Read n page at len) = refl
compared_shown c s (Write n page at new) = refl
compared_shown c s (Ask n) = refl
compared_shown c s (Lend n page) = refl
compared_shown c s (TakeBack n page) = refl
compared_shown c s (Sample n length words) = refl
compared_shown c s Rebalance = refl
compared_shown c s (Scan n page) = refl
compared_shown c s (SwapOut n word) = ap (λ o. drawn_in n o word) (row_there c s n) ∙ vm_drawn n word (vm_at s n)
compared_shown c s (Replace n page word) = refl
compared_shown c s (SetShares n shares) = refl
compared_shown c s (SetTax tau) = refl
compared_shown c s (SetVmTax n tau) = refl
compared_shown c s (Stop n) = refl
compared_shown c s (DropPage n page) = refl
compared_shown c s (Gone n) = refl

-- the tables find what the scene does
pub equal_shown : (k : Kept) (t : Scene) (e : Event) → Shows k t → equal_in k.tables (compared_in k.tables e) ≡ found_by t.site (compared t.site e)
equal_shown k t e shows =
    let P : Tables → Type 0 = λ x. equal_in x (compared_in x e) ≡ found_by t.site (compared t.site e) in
    subst P (sym shows.tables) (ap (equal_in (tables_of k.config t.site)) (compared_shown k.config t.site e) ∙ equal_found k.config t.site (compared t.site e) shows.sound)
