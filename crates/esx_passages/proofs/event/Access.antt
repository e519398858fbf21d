-- A read and a write move their page alone; a replace that and the one that makes room.
use Rattle.std.proofs.Common.{◌≡◌, ◌≢◌, ◌==◌, ◌&&◌, ℕ, Bool, true, false, nat_lt, List, length, take, drop, arith, refl, sym, ap, ◌∙◌, subst, Option, Some, None, Ok, cond, inl}
use Rattle.std.specs.List.{list_any}
use Rattle.std.proofs.lemmas.Bool.Decides.{nat_tests}
use Rattle.esx_types.specs.declared.config.Config.{Config}
use Rattle.esx_types.specs.declared.level.Level.{Level}
use Rattle.esx_formulas.specs.declared.activity.Period.{Period}
use Rattle.esx_events.specs.declared.event.Answer.{Answer}
use Rattle.esx_events.specs.declared.event.Answer.TheVariants as answers
use Rattle.esx_events.specs.declared.event.Event.TheVariants.{Read, Write, Replace}
use Rattle.esx_model.specs.declared.scene.Place.{Place}
use Rattle.esx_model.specs.declared.scene.Place.TheVariants.{Untouched, Here, Out, Lent}
use Rattle.esx_model.specs.declared.scene.Vm.{Vm}
use Rattle.esx_model.specs.declared.scene.Site.{Site}
use Rattle.esx_model.specs.Places.{is_shared, is_here, contents}
use Rattle.esx_model.specs.Site.{vm_at, place_at, free_count}
use Rattle.esx_model.specs.Hints.{with_place, with_change, placed}
use Rattle.esx_model.specs.event.Outcome.{standing}
use Rattle.esx_model.specs.event.Balloon.{popped}
use Rattle.esx_model.specs.event.Sampling.{counted_in, counted}
use Rattle.esx_model.specs.event.Access.{access_gate, overwritten, read_frame, write_frame, after_access, read, write}
use Rattle.esx_model.specs.event.Paging.{victim, is_above_min, replace_gate, freed_slot, trade, trade_for, replace}
use Rattle.esx_model.proofs.Callers.{of_vm, passed, settled, with_change_is, vm_there, vm_placed_there}
use Rattle.esx_story.proofs.event.Access.{outcome_is, first_false}
use Rattle.esx_passages.proofs.Steady.{is_that, is_among, Steady, steady_again, steady_more, steady_change, steady_placed, Goes, first_of, second_of}

-- the count of an access moves no page
either_places : (v a b : Vm) (t : Bool) → a.places ≡ v.places → b.places ≡ v.places → (cond t a b).places ≡ v.places
either_places v a b true e d = e
either_places v a b false e d = d

counted_places : (page : ℕ) (v : Vm) (o : Option Period) → (counted_in page v o).places ≡ v.places
counted_places page v None = refl
counted_places page v (Some p) = either_places v _ _ _ refl refl

either_epoch : (v a b : Vm) (t : Bool) → a.epoch ≡ v.epoch → b.epoch ≡ v.epoch → (cond t a b).epoch ≡ v.epoch
either_epoch v a b true e d = e
either_epoch v a b false e d = d

counted_epoch : (page : ℕ) (v : Vm) (o : Option Period) → (counted_in page v o).epoch ≡ v.epoch
counted_epoch page v None = refl
counted_epoch page v (Some p) = either_epoch v _ _ _ refl refl

access_steady : (s : Site) (n page : ℕ) (v : Vm) (q : Place) → vm_at s n ≡ Some v → Steady s (after_access s n page q) (is_that (Some (n, page)))
access_steady s n page v q there =
    let moves : ℕ → ℕ → Bool = is_that (Some (n, page)) in
    let v1 = popped page v in
    let s1 = with_change s n (popped page) in
    let there1 : vm_at s1 n ≡ Some v1 = ap (λ t. vm_at t n) (with_change_is s n v (popped page) there) ∙ vm_there s n v v1 there in
    let v2 = with_place page q v1 in
    let s2 = placed s1 n page q in
    let there2 = vm_placed_there s1 n page v1 q there1 in
    let s3 = with_change s2 n (counted page) in
    let two = steady_again s s1 s2 moves (steady_change s n v (popped page) moves there refl refl) (steady_placed s1 n page v1 q there1) in
    steady_again s s2 s3 moves two (steady_change s2 n v2 (counted page) moves there2 (counted_epoch page v2 v2.period) (counted_places page v2 v2.period))

alone : (s t : Site) (n page : ℕ) → Steady s t (is_that (Some (n, page))) → Steady s t (is_among (record { first = None; second = Some (n, page) }))
alone s t n page one = steady_more s t (is_that (Some (n, page))) (is_among (record { first = None; second = Some (n, page) })) (λ m p h. second_of None (Some (n, page)) m p h) one

pub read_goes : (found : Option (ℕ × ℕ)) (c : Config) (s : Site) (level : Level) (n page at len : ℕ) (r : Answer × Site) → read c s level n page at len ≡ Ok r → Goes (Read n page at len) s found r
unfolding read
read_goes found c s level n page at len r h =
    let own = of_vm (vm_at s n) _ r h in
    let v = own.vm in
    let pass = passed (access_gate c level (standing v) page at len) _ r own.then in
    let p = place_at v page in
    let said : Answer = answers.Bytes (take len (drop at (contents c p))) in
    let done = settled s n page said (contents c p) (is_shared p) (read_frame c s p) r pass.1 in
    let after = after_access s n page (Here (contents c p) done.0 (is_shared p)) in
    let P : (Answer × Site) → Type 0 = Goes (Read n page at len) s found in
    subst P (outcome_is said after r done.2) (inl (record { none = refl; steady = alone s after n page (access_steady s n page v (Here (contents c p) done.0 (is_shared p)) own.there); apart = λ m q no. cc }))

pub write_goes : (found : Option (ℕ × ℕ)) (c : Config) (s : Site) (level : Level) (n page at : ℕ) (new : List ℕ) (r : Answer × Site) → write c s level n page at new ≡ Ok r → Goes (Write n page at new) s found r
unfolding write
write_goes found c s level n page at new r h =
    let own = of_vm (vm_at s n) _ r h in
    let v = own.vm in
    let pass = passed (access_gate c level (standing v) page at (length new)) _ r own.then in
    let p = place_at v page in
    let bytes = overwritten (contents c p) at new in
    let done = settled s n page answers.Done bytes false (write_frame c s p) r pass.1 in
    let after = after_access s n page (Here bytes done.0 false) in
    let P : (Answer × Site) → Type 0 = Goes (Write n page at new) s found in
    subst P (outcome_is answers.Done after r done.2) (inl (record { none = refl; steady = alone s after n page (access_steady s n page v (Here bytes done.0 false) own.there); apart = λ m q no. cc }))

-- A page makes room for another of its machine.

trade_steady : (s : Site) (n page : ℕ) (v : Vm) (q : ℕ) (out here : Place) → vm_at s n ≡ Some v
    → Steady s (placed (placed (with_change s n (popped page)) n q out) n page here) (is_among (record { first = Some (n, q); second = Some (n, page) }))
trade_steady s n page v q out here there =
    let moves : ℕ → ℕ → Bool = is_among (record { first = Some (n, q); second = Some (n, page) }) in
    let v1 = popped page v in
    let s1 = with_change s n (popped page) in
    let there1 : vm_at s1 n ≡ Some v1 = ap (λ t. vm_at t n) (with_change_is s n v (popped page) there) ∙ vm_there s n v v1 there in
    let v2 = with_place q out v1 in
    let s2 = placed s1 n q out in
    let there2 = vm_placed_there s1 n q v1 out there1 in
    let s3 = placed s2 n page here in
    let left = steady_more s1 s2 (is_that (Some (n, q))) moves (λ m p h. first_of (Some (n, q)) (Some (n, page)) m p h) (steady_placed s1 n q v1 out there1) in
    let came = steady_more s2 s3 (is_that (Some (n, page))) moves (λ m p h. second_of (Some (n, q)) (Some (n, page)) m p h) (steady_placed s2 n page v2 here there2) in
    steady_again s s2 s3 moves (steady_again s s1 s2 moves (steady_change s n v (popped page) moves there refl refl) left) came

-- a page that is in a frame is no page that is not
other_page : (v : Vm) (page q : ℕ) (bytes : List ℕ) (f : ℕ) (shared : Bool) → is_here (place_at v page) ≡ false → place_at v q ≡ Here bytes f shared → q ≢ page
other_page v page q bytes f shared away was same = no_truth (sym away ∙ ap (λ j. is_here (place_at v j)) (sym same) ∙ ap is_here was)
  where
    no_truth : false ≡ true → ⊥
    no_truth h = cc

two_pages : (n page q m p : ℕ) → q ≢ page → is_that (Some (n, q)) m p ≡ true → is_that (Some (n, page)) m p ≡ false
two_pages n page q m p other h = grind (arith, nat_tests)

trade_goes : (found : Option (ℕ × ℕ)) (c : Config) (s : Site) (n page word : ℕ) (v : Vm) (q : ℕ) (p : Place) (o : Option ℕ) (r : Answer × Site) → vm_at s n ≡ Some v → is_here (place_at v page) ≡ false → place_at v q ≡ p → trade c s n page (place_at v page) q p o ≡ Ok r → Goes (Replace n page word) s found r
trade_goes found c s n page word v q Untouched o r there away was h = cc
trade_goes found c s n page word v q (Out bytes j) o r there away was h = cc
trade_goes found c s n page word v q (Lent e) o r there away was h = cc
trade_goes found c s n page word v q (Here bytes f shared) None r there away was h = cc
trade_goes found c s n page word v q (Here bytes f shared) (Some i) r there away was h =
    let new = contents c (place_at v page) in
    let after = placed (placed (with_change s n (popped page)) n q (Out bytes i)) n page (Here new f false) in
    let P : (Answer × Site) → Type 0 = Goes (Replace n page word) s found in
    subst P (outcome_is (answers.Replaced q i f) after r h)
    (inl (record { none = refl; steady = trade_steady s n page v q (Out bytes i) (Here new f false) there; apart = λ m j one. two_pages n page q m j (other_page v page q bytes f shared away was) one }))

trade_for_goes : (found : Option (ℕ × ℕ)) (c : Config) (s : Site) (n page word : ℕ) (v : Vm) (o : Option ℕ) (r : Answer × Site) → vm_at s n ≡ Some v → is_here (place_at v page) ≡ false → trade_for c s n v page o ≡ Ok r → Goes (Replace n page word) s found r
trade_for_goes found c s n page word v None r there away h = cc
trade_for_goes found c s n page word v (Some q) r there away h = trade_goes found c s n page word v q (place_at v q) (freed_slot c s (place_at v page)) r there away refl h

pub replace_goes : (found : Option (ℕ × ℕ)) (c : Config) (s : Site) (n page word : ℕ) (r : Answer × Site) → replace c s n page word ≡ Ok r → Goes (Replace n page word) s found r
unfolding replace
replace_goes found c s n page word r h =
    let own = of_vm (vm_at s n) _ r h in
    let v = own.vm in
    let pass = passed (replace_gate (standing v) page (is_here (place_at v page)) (free_count c.frames s) (list_any is_above_min s.vms)) _ r own.then in
    let away = first_false (is_here (place_at v page)) (nat_lt 0 (free_count c.frames s)) (list_any is_above_min s.vms) pass.0.1.1.0 in
    trade_for_goes found c s n page word v (victim v word) r own.there away pass.1
