-- What a scan and a swap out move: their page, and the one that was found to be equal.
use Rattle.std.proofs.Common.{◌≡◌, ◌==◌, ◌&&◌, ℕ, Bool, true, false, List, arith, refl, sym, ap, ◌∙◌, subst, Option, Some, None, Ok, inl}
use Rattle.std.proofs.lemmas.Bool.Decides.{nat_tests}
use Rattle.std.specs.Option.{option_map}
use Rattle.esx_types.specs.declared.config.Config.{Config}
use Rattle.esx_types.specs.declared.level.Level.{Level}
use Rattle.esx_events.specs.declared.event.Answer.{Answer}
use Rattle.esx_events.specs.declared.event.Answer.TheVariants as answers
use Rattle.esx_events.specs.declared.event.Event.TheVariants.{Scan, SwapOut}
use Rattle.esx_model.specs.declared.look.Look.{Look}
use Rattle.esx_model.specs.declared.look.Look.TheVariants.{Already, SharedFrame, OtherPage, Changed, OtherBytes, Nothing}
use Rattle.esx_model.specs.declared.scene.Place.{Place}
use Rattle.esx_model.specs.declared.scene.Place.TheVariants.{Here, Out}
use Rattle.esx_model.specs.declared.scene.Vm.{Vm}
use Rattle.esx_model.specs.declared.scene.Site.{Site}
use Rattle.esx_model.specs.Places.{is_here, contents}
use Rattle.esx_model.specs.Site.{vm_at, place_at, place_in, place_of, least_slot}
use Rattle.esx_model.specs.Hints.{is_hint_of, placed}
use Rattle.esx_model.specs.event.Outcome.{standing}
use Rattle.esx_model.specs.event.Sharing.{look, after_look, said_of, scan_gate, scan, other_found, found_by}
use Rattle.esx_model.specs.event.Paging.{victim, swap_out_gate, to_slot, leave_by, leave, drawn_of, swap_out}
use Rattle.esx_model.specs.sound.Sound.{IsSound}
use Rattle.esx_model.proofs.Callers.{of_vm, passed, Sees, look_sees, beside}
use Rattle.esx_story.proofs.event.Access.{outcome_is}
use Rattle.esx_passages.specs.Passages.{one_page}
use Rattle.esx_passages.proofs.Steady.{is_that, is_among, Steady, steady_same, steady_again, steady_more, steady_placed, Goes, first_of, second_of}
use Rattle.esx_passages.proofs.event.Balloon.{named_goes}

-- the page that finds another, and that other
abbrev either_of : Option (ℕ × ℕ) → ℕ → ℕ → ℕ → ℕ → Bool
either_of found n page = is_among (record { first = found; second = Some (n, page) })

look_steady : (s : Site) (n page : ℕ) (v : Vm) (bytes : List ℕ) (l : Look) → vm_at s n ≡ Some v → Sees s n page bytes l → Steady s (after_look s n page bytes l) (either_of (other_found l) n page)
look_steady s n page v bytes Already there sees = steady_same s (either_of None n page)
look_steady s n page v bytes (SharedFrame f) there sees =
    let p : Place = Here bytes f true in
    steady_more s (placed s n page p) (is_that (Some (n, page))) (either_of None n page) (λ m q h. second_of None (Some (n, page)) m q h) (steady_placed s n page v p there)
look_steady s n page v bytes (OtherPage k q f) there sees =
    let p : Place = Here bytes f true in
    let t = placed s k q p in
    let u = placed t n page p in
    let own = beside s k q sees.vm p n page v sees.there there sees.other in
    let moves : ℕ → ℕ → Bool = either_of (Some (k, q)) n page in
    steady_again s t u moves
    (steady_more s t (is_that (Some (k, q))) moves (λ m j h. first_of (Some (k, q)) (Some (n, page)) m j h) (steady_placed s k q sees.vm p sees.there))
    (steady_more t u (is_that (Some (n, page))) moves (λ m j h. second_of (Some (k, q)) (Some (n, page)) m j h) (steady_placed t n page own.vm p own.there))
look_steady s n page v bytes Changed there sees = record { spots = λ m p h. refl; epochs = λ m. refl }
look_steady s n page v bytes OtherBytes there sees = steady_same s (either_of None n page)
look_steady s n page v bytes Nothing there sees = record { spots = λ m p h. refl; epochs = λ m. refl }

two_pages : (n page k q m p : ℕ) → is_hint_of n page (record { key = 0; vm = k; page = q }) ≡ false → is_that (Some (k, q)) m p ≡ true → is_that (Some (n, page)) m p ≡ false
two_pages n page k q m p other h = grind (arith, nat_tests)

look_apart : (s : Site) (n page : ℕ) (bytes : List ℕ) (l : Look) → Sees s n page bytes l → (m p : ℕ) → is_that (other_found l) m p ≡ true → is_that (Some (n, page)) m p ≡ false
look_apart s n page bytes Already sees m p h = cc
look_apart s n page bytes (SharedFrame f) sees m p h = cc
look_apart s n page bytes (OtherPage k q f) sees m p h = two_pages n page k q m p sees.other h
look_apart s n page bytes Changed sees m p h = cc
look_apart s n page bytes OtherBytes sees m p h = cc
look_apart s n page bytes Nothing sees m p h = cc

place_here : (s : Site) (n page : ℕ) (v : Vm) → vm_at s n ≡ Some v → look s n page (place_of s n page) ≡ look s n page (place_at v page)
place_here s n page v there = ap (look s n page) (ap (λ o. place_in o page) there)

pub scan_goes : (c : Config) (s : Site) (n page : ℕ) (r : Answer × Site) → IsSound c s → scan c s n page ≡ Ok r → Goes (Scan n page) s (found_by s (Some (n, page))) r
unfolding scan
scan_goes c s n page r sound h =
    let own = of_vm (vm_at s n) _ r h in
    let v = own.vm in
    let p = place_at v page in
    let pass = passed (scan_gate (standing v) page (is_here p)) _ r own.then in
    let l = look s n page p in
    let after = after_look s n page (contents c p) l in
    let said : Answer = answers.Looked (said_of after l) in
    let P : (Answer × Site) → Type 0 = Goes (Scan n page) s (found_by s (Some (n, page))) in
    let Q : Option (ℕ × ℕ) → Type 0 = λ o. Goes (Scan n page) s o (said, after) in
    subst P (outcome_is said after r pass.1)
    (subst Q (ap other_found (sym (place_here s n page v own.there))) (inl (record { none = refl; steady = look_steady s n page v (contents c p) l own.there (look_sees c s n page p sound); apart = look_apart s n page (contents c p) l (look_sees c s n page p sound) })))

slot_goes : (found : Option (ℕ × ℕ)) (s : Site) (n word page : ℕ) (v : Vm) (bytes : List ℕ) (o : Option ℕ) (r : Answer × Site) → vm_at s n ≡ Some v → to_slot s n page bytes o ≡ Ok r → Goes (SwapOut n word) s found r
slot_goes found s n word page v bytes None r there h = cc
slot_goes found s n word page v bytes (Some i) r there h =
    let after = placed s n page (Out bytes i) in
    let P : (Answer × Site) → Type 0 = Goes (SwapOut n word) s found in
    subst P (outcome_is (answers.PagedOut page i) after r h) (named_goes (SwapOut n word) s found n page (answers.PagedOut page i) after refl refl (steady_placed s n page v (Out bytes i) there))

left_goes : (c : Config) (s : Site) (n word page : ℕ) (v : Vm) (bytes : List ℕ) (l : Look) (r : Answer × Site) → vm_at s n ≡ Some v → Sees s n page bytes l → leave_by c s n page bytes l ≡ Ok r → Goes (SwapOut n word) s (other_found l) r
left_goes c s n word page v bytes Already r there sees h = slot_goes None s n word page v bytes (least_slot c.slots s) r there h
left_goes c s n word page v bytes (SharedFrame f) r there sees h =
    let after = after_look s n page bytes (SharedFrame f) in
    let P : (Answer × Site) → Type 0 = Goes (SwapOut n word) s None in
    subst P (outcome_is (answers.SharedOut page f) after r h) (inl (record { none = refl; steady = look_steady s n page v bytes (SharedFrame f) there sees; apart = look_apart s n page bytes (SharedFrame f) sees }))
left_goes c s n word page v bytes (OtherPage k q f) r there sees h =
    let after = after_look s n page bytes (OtherPage k q f) in
    let P : (Answer × Site) → Type 0 = Goes (SwapOut n word) s (Some (k, q)) in
    subst P (outcome_is (answers.SharedOut page f) after r h) (inl (record { none = refl; steady = look_steady s n page v bytes (OtherPage k q f) there sees; apart = look_apart s n page bytes (OtherPage k q f) sees }))
left_goes c s n word page v bytes Changed r there sees h = slot_goes None s n word page v bytes (least_slot c.slots s) r there h
left_goes c s n word page v bytes OtherBytes r there sees h = slot_goes None s n word page v bytes (least_slot c.slots s) r there h
left_goes c s n word page v bytes Nothing r there sees h = slot_goes None s n word page v bytes (least_slot c.slots s) r there h

leave_goes : (c : Config) (s : Site) (n word : ℕ) (v : Vm) (o : Option ℕ) (r : Answer × Site) → IsSound c s → vm_at s n ≡ Some v → leave c s n v o ≡ Ok r → Goes (SwapOut n word) s (found_by s (option_map (λ page. (n, page)) o)) r
leave_goes c s n word v None r sound there h = cc
leave_goes c s n word v (Some page) r sound there h =
    let p = place_at v page in
    let Q : Option (ℕ × ℕ) → Type 0 = λ o. Goes (SwapOut n word) s o r in
    subst Q (ap other_found (sym (place_here s n page v there))) (left_goes c s n word page v (contents c p) (look s n page p) r there (look_sees c s n page p sound) h)

pub swap_out_goes : (c : Config) (s : Site) (level : Level) (n word : ℕ) (r : Answer × Site) → IsSound c s → swap_out c s level n word ≡ Ok r → Goes (SwapOut n word) s (found_by s (drawn_of n (vm_at s n) word)) r
unfolding swap_out
swap_out_goes c s level n word r sound h =
    let own = of_vm (vm_at s n) _ r h in
    let v = own.vm in
    let pass = passed (swap_out_gate level (standing v)) _ r own.then in
    let Q : Option Vm → Type 0 = λ o. Goes (SwapOut n word) s (found_by s (drawn_of n o word)) r in
    subst Q (sym own.there) (leave_goes c s n word v (victim v word) r sound own.there pass.1)
