-- What is said of a page tells whether it is in a frame.
use Rattle.std.proofs.Common.{◌≡◌, ℕ, ◌≤◌, Bool, true, false, nat_le, map, sym, ap, ◌∙◌, arith, cond, None, Some, Result, Ok, Err, inl, inr}
use Rattle.std.specs.Option.{option_map}
use Rattle.std.proofs.Math.ListN as listn
use Rattle.std.proofs.lemmas.Bool.{cases_lt}
use Rattle.std.proofs.lemmas.Bool.Decides.{nat_tests}
use Rattle.std.proofs.lemmas.List.{get_or_past}
use Rattle.esx_types.specs.declared.level.Level.{Level}
use Rattle.esx_types.specs.Pages.{page_at}
use Rattle.esx_events.specs.declared.event.Refusal.{Refusal}
use Rattle.esx_events.specs.declared.event.Refusal.TheVariants.{OutOfRange}
use Rattle.esx_events.specs.declared.call.PageState.{PageState}
use Rattle.esx_model.specs.declared.scene.Place.TheVariants.{Untouched}
use Rattle.esx_model.specs.declared.scene.Vm.{Vm}
use Rattle.esx_model.specs.declared.scene.Scene.{Scene}
use Rattle.esx_model.specs.declared.tables.Tables.{Tables}
use Rattle.esx_types.specs.declared.config.Config.{Config}
use Rattle.esx_model.specs.Places.{is_here}
use Rattle.esx_model.specs.Site.{vm_at, place_at, place_in}
use Rattle.esx_model.specs.Show.{shown, map_row, vm_row}
use Rattle.esx_model.specs.Tables.{tables_of, book_from}
use Rattle.esx_model.specs.Readings.{state_at, page_in, page_state}
use Rattle.esx_model.proofs.Callers.{book_read}
use Rattle.esx_machine.specs.Machine.{Kept, Shows, book_in}
use Rattle.esx_story.specs.Readings.{is_told_here}
use Rattle.esx_story.proofs.Tells.{page_tells}

book_shown : (k : Kept) (t : Scene) → Shows k t → book_in k ≡ shown k.config t
book_shown k t s = ap (λ (x : Tables). book_from x k.level) s.tables ∙ ap (λ (l : Level). book_from (tables_of k.config t.site) l) s.level ∙ book_read k.config t.site t.level s.sound

out_of_range : (max page : ℕ) → max ≤ page → nat_le max page ≡ true
out_of_range max page h = grind (arith, nat_tests)

past_said : (c : Config) (t : Scene) (n page : ℕ) (v : Vm) → vm_at t.site n ≡ Some v → v.spec.max ≤ page → is_told_here (page_state (shown c t) n page) ≡ false
unfolding page_state
past_said c t n page v there past =
    let b = shown c t in
    ap is_told_here
    (ap (page_in b n page) (listn.get_or-map (option_map vm_row) t.site.vms n None ∙ ap (option_map vm_row) there)
    ∙ ap (λ (x : Bool). let r : Result PageState Refusal = cond x (Err OutOfRange) (Ok (state_at b n page (page_at (map (map_row v.epoch) v.places) page))) in r) (out_of_range v.spec.max page past))

-- of a page of the machine, and of one past its last
pub told_here : (k : Kept) (t : Scene) (n page : ℕ) (v : Vm) → Shows k t → vm_at t.site n ≡ Some v → is_told_here (page_state (book_in k) n page) ≡ is_here (place_at v page)
told_here k t n page v shows there =
    let pages = (shows.sound.each n v there).pages in
    ap (λ b. is_told_here (page_state b n page)) (book_shown k t shows) ∙ elim (cases_lt page v.spec.max) [
      | inl within ↦ sym (page_tells k.config t n page v shows.sound there within).1 ∙ ap (λ o. is_here (place_in o page)) there
      | inr past ↦ past_said k.config t n page v there past ∙ sym (ap is_here (get_or_past v.places page Untouched (omega (arith, pages, past))))
    ]
