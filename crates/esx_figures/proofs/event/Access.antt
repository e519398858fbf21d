-- What a read, a write and a replace change of pages in shared frames.
use Rattle.std.proofs.Common.{◌≡◌, ◌≢◌, ℕ, ◌<◌, Bool, true, false, nat_lt, List, length, take, drop, set, refl, sym, ap, ◌∙◌, subst, arith, Option, Some, None, Ok, cond}
use Rattle.std.specs.List.{list_any}
use Rattle.std.proofs.lemmas.List.{get_or-set_other, length-set}
use Rattle.esx_types.specs.declared.config.Config.{Config}
use Rattle.esx_types.specs.declared.level.Level.{Level}
use Rattle.esx_formulas.specs.declared.activity.Period.{Period}
use Rattle.esx_events.specs.declared.event.Answer.{Answer}
use Rattle.esx_events.specs.declared.event.Answer.TheVariants as answers
use Rattle.esx_events.specs.declared.event.Event.TheVariants as events
use Rattle.esx_model.specs.declared.scene.Place.{Place}
use Rattle.esx_model.specs.declared.scene.Place.TheVariants.{Untouched, Here, Out, Lent}
use Rattle.esx_model.specs.declared.scene.Vm.{Vm}
use Rattle.esx_model.specs.declared.scene.Site.{Site}
use Rattle.esx_model.specs.Places.{is_shared, is_here, contents}
use Rattle.esx_model.specs.Site.{vm_at, place_at, place_in, free_count}
use Rattle.esx_model.specs.Hints.{with_place, with_change, placed}
use Rattle.esx_model.specs.event.Outcome.{standing}
use Rattle.esx_model.specs.event.Balloon.{popped}
use Rattle.esx_model.specs.event.Sampling.{counted_in, counted}
use Rattle.esx_model.specs.event.Access.{access_gate, overwritten, read_frame, write_frame, after_access, read, write}
use Rattle.esx_model.specs.event.Paging.{victim, is_above_min, replace_gate, freed_slot, trade, trade_for, replace}
use Rattle.esx_model.specs.sound.Sound.{IsSound}
use Rattle.esx_model.proofs.Callers.{of_vm, passed, same_site, settled, with_change_is, vm_there, vm_placed_there, below_max, drawn_is_here}
use Rattle.esx_story.proofs.event.Access.{outcome_is, in_range, first_false}
use Rattle.esx_figures.specs.Sharing.{has_shared, parting, parted}
use Rattle.esx_figures.proofs.Marks.{Same, Put, Shares, mark, shares_same, shares_parted, same_put, put_between, same_change, put_placed}

-- the count of an access moves no page
either_places : (v a b : Vm) (t : Bool) → a.places ≡ v.places → b.places ≡ v.places → (cond t a b).places ≡ v.places
either_places v a b true e d = e
either_places v a b false e d = d

counted_in_places : (page : ℕ) (v : Vm) (o : Option Period) → (counted_in page v o).places ≡ v.places
counted_in_places page v None = refl
counted_in_places page v (Some p) = either_places v _ _ _ refl refl

-- a machine that is changed in what is not its pages has them where they were
pub there_after : (s : Site) (n : ℕ) (v : Vm) (change : Vm → Vm) → vm_at s n ≡ Some v → vm_at (with_change s n change) n ≡ Some (change v)
there_after s n v change there = ap (λ t. vm_at t n) (with_change_is s n v change there) ∙ vm_there s n v (change v) there

-- after an access a page is at its new place, and nothing else moved
access_put : (s : Site) (n page : ℕ) (v : Vm) (q : Place) → vm_at s n ≡ Some v → page < length v.places → Put s (after_access s n page q) n (is_shared (place_at v page)) (is_shared q)
access_put s n page v q there within =
    let v1 = popped page v in
    let s1 = with_change s n (popped page) in
    let there1 = there_after s n v (popped page) there in
    let s2 = placed s1 n page q in
    let v2 = with_place page q v1 in
    let there2 = vm_placed_there s1 n page v1 q there1 in
    let s3 = with_change s2 n (counted page) in
    let P : Bool → Type 0 = λ b. Put s1 s2 n b (is_shared q) in
    let put : Put s1 s2 n (is_shared (place_at v page)) (is_shared q) = subst P (ap (λ o. is_shared (place_in o page)) there1) (put_placed s1 n page v1 q there1 within) in
    put_between s s1 s2 s3 n (is_shared (place_at v page)) (is_shared q) (same_change s n v (popped page) there refl) put (same_change s2 n v2 (counted page) there2 (counted_in_places page v2 v2.period))

-- a page of a sound machine is within
pub within_places : (c : Config) (s : Site) (n page : ℕ) (v : Vm) → IsSound c s → vm_at s n ≡ Some v → page < v.spec.max → page < length v.places
within_places c s n page v sound there below =
    let fine = sound.each n v there in
    let pages = fine.pages in
    omega (arith, pages, below)

-- where a machine of a site has a page
pub shared_there : (s : Site) (n page : ℕ) (v : Vm) → vm_at s n ≡ Some v → has_shared s n page ≡ is_shared (place_at v page)
shared_there s n page v there = ap (λ o. is_shared (place_in o page)) there

-- and the page that parts
pub parts_there : (s t : Site) (n page : ℕ) (v : Vm) → vm_at s n ≡ Some v → Put s t n (is_shared (place_at v page)) false → Shares s t (parted s (Some (n, page))) None None
parts_there s t n page v there put =
    let P : Bool → Type 0 = λ b. Shares s t (mark n b) None None in
    subst P (sym (shared_there s n page v there)) (shares_parted s t n (is_shared (place_at v page)) put)

pub read_shares : (c : Config) (s : Site) (level : Level) (n page at len : ℕ) (r : Answer × Site) → IsSound c s → read c s level n page at len ≡ Ok r → Shares s r.1 None None None
unfolding read
read_shares c s level n page at len r sound h =
    let own = of_vm (vm_at s n) _ r h in
    let v = own.vm in
    let pass = passed (access_gate c level (standing v) page at len) _ r own.then in
    let p = place_at v page in
    let said : Answer = answers.Bytes (take len (drop at (contents c p))) in
    let done = settled s n page said (contents c p) (is_shared p) (read_frame c s p) r pass.1 in
    let q : Place = Here (contents c p) done.0 (is_shared p) in
    let after = after_access s n page q in
    let within = within_places c s n page v sound own.there (in_range page v.spec.max _ _ pass.0.1.0) in
    let P : Site → Type 0 = λ t. Shares s t None None None in
    subst P (same_site said after r done.2) (shares_same s after (same_put s after n (is_shared p) (is_shared p) refl (access_put s n page v q own.there within)))

pub write_shares : (c : Config) (s : Site) (level : Level) (n page at : ℕ) (new : List ℕ) (r : Answer × Site) → IsSound c s → write c s level n page at new ≡ Ok r → Shares s r.1 (parted s (Some (n, page))) None None
unfolding write
write_shares c s level n page at new r sound h =
    let own = of_vm (vm_at s n) _ r h in
    let v = own.vm in
    let pass = passed (access_gate c level (standing v) page at (length new)) _ r own.then in
    let p = place_at v page in
    let bytes = overwritten (contents c p) at new in
    let done = settled s n page answers.Done bytes false (write_frame c s p) r pass.1 in
    let q : Place = Here bytes done.0 false in
    let after = after_access s n page q in
    let within = within_places c s n page v sound own.there (in_range page v.spec.max _ _ pass.0.1.0) in
    let P : Site → Type 0 = λ t. Shares s t (parted s (Some (n, page))) None None in
    subst P (same_site answers.Done after r done.2) (parts_there s after n page v own.there (access_put s n page v q own.there within))

-- A page makes room for another of its machine.

away_unshared : (p : Place) → is_here p ≡ false → is_shared p ≡ false
away_unshared Untouched h = refl
away_unshared (Here bytes f shared) h = cc
away_unshared (Out bytes i) h = refl
away_unshared (Lent e) h = refl

trade_put : (s : Site) (n page : ℕ) (v : Vm) (q : ℕ) (bytes : List ℕ) (f i : ℕ) (new : List ℕ) → vm_at s n ≡ Some v → page < length v.places → q < length v.places → page ≢ q → is_here (place_at v page) ≡ false
    → Put s (placed (placed (with_change s n (popped page)) n q (Out bytes i)) n page (Here new f false)) n (is_shared (place_at v q)) false
trade_put s n page v q bytes f i new there within within_q apart away =
    let v1 = popped page v in
    let s1 = with_change s n (popped page) in
    let there1 = there_after s n v (popped page) there in
    let v2 = with_place q (Out bytes i) v1 in
    let s2 = placed s1 n q (Out bytes i) in
    let there2 = vm_placed_there s1 n q v1 (Out bytes i) there1 in
    let s3 = placed s2 n page (Here new f false) in
    let P : Bool → Type 0 = λ b. Put s1 s2 n b false in
    let one_ : Put s1 s2 n (is_shared (place_at v q)) false = subst P (ap (λ o. is_shared (place_in o q)) there1) (put_placed s1 n q v1 (Out bytes i) there1 within_q) in
    let gone : has_shared s2 n page ≡ false = ap (λ o. is_shared (place_in o page)) there2 ∙ ap is_shared (get_or-set_other v.places q page (Out bytes i) Untouched apart) ∙ away_unshared (place_at v page) away in
    let two : Same s2 s3 = same_put s2 s3 n (has_shared s2 n page) false gone (put_placed s2 n page v2 (Here new f false) there2 (within_set v.places q page (Out bytes i) within)) in
    put_between s s1 s2 s3 n (is_shared (place_at v q)) false (same_change s n v (popped page) there refl) one_ two
  where
    within_set : (ps : List Place) (q page : ℕ) (x : Place) → page < length ps → page < length (set ps q x)
    within_set ps q page x below = (let len = length-set ps q x in omega (arith, len, below))

apart_of : (v : Vm) (page q : ℕ) → is_here (place_at v page) ≡ false → is_here (place_at v q) ≡ true → page ≢ q
apart_of v page q away here e = (let one_ : true ≡ false = sym here ∙ ap (λ j. is_here (place_at v j)) (sym e) ∙ away in cc)

trade_shares : (c : Config) (s : Site) (n page word : ℕ) (v : Vm) (q : ℕ) (p : Place) (o : Option ℕ) (r : Answer × Site) → vm_at s n ≡ Some v → page < length v.places → q < length v.places → page ≢ q → is_here (place_at v page) ≡ false
    → trade c s n page (place_at v page) q p o ≡ Ok r → Shares s r.1 (parted s (parting (events.Replace n page word) r.0)) None None
trade_shares c s n page word v q Untouched o r there within within_q apart away h = cc
trade_shares c s n page word v q (Out bytes j) o r there within within_q apart away h = cc
trade_shares c s n page word v q (Lent e) o r there within within_q apart away h = cc
trade_shares c s n page word v q (Here bytes f shared) None r there within within_q apart away h = cc
trade_shares c s n page word v q (Here bytes f shared) (Some i) r there within within_q apart away h =
    let new = contents c (place_at v page) in
    let after = placed (placed (with_change s n (popped page)) n q (Out bytes i)) n page (Here new f false) in
    let P : (Answer × Site) → Type 0 = λ x. Shares s x.1 (parted s (parting (events.Replace n page word) x.0)) None None in
    subst P (outcome_is (answers.Replaced q i f) after r h) (parts_there s after n q v there (trade_put s n page v q bytes f i new there within within_q apart away))

trade_for_shares : (c : Config) (s : Site) (n page word : ℕ) (v : Vm) (o : Option ℕ) (r : Answer × Site) → vm_at s n ≡ Some v → page < length v.places → is_here (place_at v page) ≡ false → victim v word ≡ o → trade_for c s n v page o ≡ Ok r
    → Shares s r.1 (parted s (parting (events.Replace n page word) r.0)) None None
trade_for_shares c s n page word v None r there within away drawn h = cc
trade_for_shares c s n page word v (Some q) r there within away drawn h =
    let is = drawn_is_here v word q drawn in
    trade_shares c s n page word v q (place_at v q) (freed_slot c s (place_at v page)) r there within is.0 (apart_of v page q away is.1) away h

pub replace_shares : (c : Config) (s : Site) (n page word : ℕ) (r : Answer × Site) → IsSound c s → replace c s n page word ≡ Ok r → Shares s r.1 (parted s (parting (events.Replace n page word) r.0)) None None
unfolding replace
replace_shares c s n page word r sound h =
    let own = of_vm (vm_at s n) _ r h in
    let v = own.vm in
    let pass = passed (replace_gate (standing v) page (is_here (place_at v page)) (free_count c.frames s) (list_any is_above_min s.vms)) _ r own.then in
    let within = within_places c s n page v sound own.there (below_max v.spec.max page pass.0.1.0) in
    let away = first_false (is_here (place_at v page)) (nat_lt 0 (free_count c.frames s)) (list_any is_above_min s.vms) pass.0.1.1.0 in
    trade_for_shares c s n page word v (victim v word) r own.there within away refl pass.1
