-- What a read, a write and a replace lose and gain.
use Rattle.std.proofs.Common.{◌≡◌, ℕ, ◌<◌, Bool, true, false, ◌||◌, nat_lt, nat_le, ◌==◌, List, length, take, drop, map, set, get_or, refl, sym, ap, ◌∙◌, subst, arith, Option, Some, None, Ok, cond}
use Rattle.std.specs.List.{list_any}
use Rattle.std.proofs.lemmas.List.{length-map, map-set}
use Rattle.esx_types.specs.declared.config.Config.{Config}
use Rattle.esx_types.specs.declared.level.Level.{Level}
use Rattle.esx_formulas.specs.declared.activity.Period.{Period}
use Rattle.esx_events.specs.declared.event.Answer.{Answer}
use Rattle.esx_events.specs.declared.event.Answer.TheVariants as answers
use Rattle.esx_events.specs.declared.event.Event.TheVariants as events
use Rattle.esx_model.specs.declared.scene.Place.{Place}
use Rattle.esx_model.specs.declared.scene.Place.TheVariants.{Untouched, Here, Out, Lent}
use Rattle.esx_model.specs.declared.scene.Vm.{Vm}
use Rattle.esx_model.specs.declared.scene.Site.{Site}
use Rattle.esx_model.specs.Places.{is_shared, is_here, contents}
use Rattle.esx_model.specs.Site.{vm_at, place_at, free_count}
use Rattle.esx_model.specs.Hints.{with_place, with_change, placed}
use Rattle.esx_model.specs.event.Outcome.{standing}
use Rattle.esx_model.specs.event.Balloon.{popped}
use Rattle.esx_model.specs.event.Sampling.{counted_in, counted}
use Rattle.esx_model.specs.event.Access.{access_gate, overwritten, read_frame, write_frame, after_access, read, write}
use Rattle.esx_model.specs.event.Paging.{victim, is_above_min, replace_gate, freed_slot, trade, trade_for, replace}
use Rattle.esx_model.specs.sound.Sound.{IsSound}
use Rattle.esx_model.proofs.Callers.{of_vm, passed, accepted, same_site, settled, with_change_is, vm_there, vm_placed_there, below_max}
use Rattle.esx_story.specs.Changes.{How, First, Pop, SwapIn, Replaced, Change, change}
use Rattle.esx_story.specs.Gains.{coming, gained_by, gained}
use Rattle.esx_story.specs.Losses.{lost}
use Rattle.esx_story.proofs.Bits.{bits, bit_in, bits_there, Has, has_change, has_placed, has_again, keeps_of, set_same}
use Rattle.esx_story.proofs.Moves.{Moves, moves_none, moves_gained, moves_traded}

-- the answer and the site of an outcome
pub outcome_is : (a : Answer) (t : Site) (r : Answer × Site) → accepted a t ≡ Ok r → (a, t) ≡ r
outcome_is a t r h = cc

-- the count of an access moves no page
either_places : (v a b : Vm) (t : Bool) → a.places ≡ v.places → b.places ≡ v.places → (cond t a b).places ≡ v.places
either_places v a b true e d = e
either_places v a b false e d = d

counted_in_places : (page : ℕ) (v : Vm) (o : Option Period) → (counted_in page v o).places ≡ v.places
counted_in_places page v None = refl
counted_in_places page v (Some p) = either_places v _ _ _ refl refl

counted_bits : (page : ℕ) (v : Vm) → bits (counted page v) ≡ bits v
counted_bits page v = ap (map is_here) (counted_in_places page v v.period)

-- after an access a page is here, and nothing else moved
has_access : (s : Site) (n page : ℕ) (v : Vm) (bytes : List ℕ) (f : ℕ) (shared : Bool) → vm_at s n ≡ Some v → Has s n (set (bits v) page true) (after_access s n page (Here bytes f shared))
has_access s n page v bytes f shared there =
    let q : Place = Here bytes f shared in
    let v1 = popped page v in
    let s1 = with_change s n (popped page) in
    let there1 : vm_at s1 n ≡ Some v1 = ap (λ t. vm_at t n) (with_change_is s n v (popped page) there) ∙ vm_there s n v v1 there in
    let v2 = with_place page q v1 in
    let s2 = placed s1 n page q in
    let there2 = vm_placed_there s1 n page v1 q there1 in
    let s3 = with_change s2 n (counted page) in
    let two = has_again s s1 s2 n (bits v1) (set (bits v1) page true) (has_change s n v (popped page) there) (has_placed s1 n page v1 q there1) in
    let three = has_again s s2 s3 n (set (bits v1) page true) (bits (counted page v2)) two (has_change s2 n v2 (counted page) there2) in
    let P : List Bool → Type 0 = λ bs. Has s n bs s3 in
    subst P (counted_bits page v2 ∙ map-set is_here v.places page q) three

-- a page of a sound machine is within
within_bits : (c : Config) (s : Site) (n page : ℕ) (v : Vm) → IsSound c s → vm_at s n ≡ Some v → page < v.spec.max → page < length (bits v)
within_bits c s n page v sound there below =
    let fine = sound.each n v there in
    let len = length-map v.places is_here in
    let pages = fine.pages in
    omega (arith, len, pages, below)

away_bit : (v : Vm) (page : ℕ) (p : Place) → place_at v page ≡ p → is_here p ≡ false → get_or (bits v) page false ≡ false
away_bit v page p is away = bit_in (Some v) page ∙ ap is_here is ∙ away

-- a page that comes is gained where it was not here
come_moves : (s t : Site) (n page : ℕ) (v : Vm) (p : Place) → vm_at s n ≡ Some v → page < length (bits v) → place_at v page ≡ p → Has s n (set (bits v) page true) t → Moves s t None (gained_by n page (Some v))
come_moves s t n page v p there within is has =
    let P : Place → Type 0 = λ x. Moves s t None (of n page (coming v.epoch x)) in
    subst P (sym is) (by p is)
  where
    of : ℕ → ℕ → Option How → Option Change
    of n page None = None
    of n page (Some how) = Some (change n page how)

    by : (p : Place) → place_at v page ≡ p → Moves s t None (of n page (coming v.epoch p))
    by (Here bytes f shared) is = moves_none s t (keeps_of s t n v (set (bits v) page true) there has (set_same v page true (ap is_here is)))
    by Untouched is = moves_gained s t n page (bits v) First (bits_there s n v there) within (away_bit v page Untouched is refl) has
    by (Out bytes i) is = moves_gained s t n page (bits v) SwapIn (bits_there s n v there) within (away_bit v page (Out bytes i) is refl) has
    by (Lent e) is = moves_gained s t n page (bits v) (cond (e == v.epoch) Pop First) (bits_there s n v there) within (away_bit v page (Lent e) is refl) has

pub in_range : (page max : ℕ) (a b : Bool) → (nat_le max page || a || b) ≡ false → page < max
in_range page max a b h = of (nat_le max page) refl h
  where
    of : (x : Bool) → nat_le max page ≡ x → (x || a || b) ≡ false → page < max
    of true e k = cc
    of false e k = below_max max page e

pub read_moves : (c : Config) (s : Site) (level : Level) (n page at len : ℕ) (r : Answer × Site) → IsSound c s → read c s level n page at len ≡ Ok r → Moves s r.1 None (gained (events.Read n page at len) s)
unfolding read
read_moves c s level n page at len r sound h =
    let own = of_vm (vm_at s n) _ r h in
    let v = own.vm in
    let pass = passed (access_gate c level (standing v) page at len) _ r own.then in
    let p = place_at v page in
    let said : Answer = answers.Bytes (take len (drop at (contents c p))) in
    let done = settled s n page said (contents c p) (is_shared p) (read_frame c s p) r pass.1 in
    let after = after_access s n page (Here (contents c p) done.0 (is_shared p)) in
    let within = within_bits c s n page v sound own.there (in_range page v.spec.max _ _ pass.0.1.0) in
    let P : Site → Type 0 = λ t. Moves s t None (gained_by n page (Some v)) in
    let Q : Option Vm → Type 0 = λ o. Moves s r.1 None (gained_by n page o) in
    subst Q (sym own.there) (subst P (same_site said after r done.2) (come_moves s after n page v p own.there within refl (has_access s n page v (contents c p) done.0 (is_shared p) own.there)))

pub write_moves : (c : Config) (s : Site) (level : Level) (n page at : ℕ) (new : List ℕ) (r : Answer × Site) → IsSound c s → write c s level n page at new ≡ Ok r → Moves s r.1 None (gained (events.Write n page at new) s)
unfolding write
write_moves c s level n page at new r sound h =
    let own = of_vm (vm_at s n) _ r h in
    let v = own.vm in
    let pass = passed (access_gate c level (standing v) page at (length new)) _ r own.then in
    let p = place_at v page in
    let bytes = overwritten (contents c p) at new in
    let done = settled s n page answers.Done bytes false (write_frame c s p) r pass.1 in
    let after = after_access s n page (Here bytes done.0 false) in
    let within = within_bits c s n page v sound own.there (in_range page v.spec.max _ _ pass.0.1.0) in
    let P : Site → Type 0 = λ t. Moves s t None (gained_by n page (Some v)) in
    let Q : Option Vm → Type 0 = λ o. Moves s r.1 None (gained_by n page o) in
    subst Q (sym own.there) (subst P (same_site answers.Done after r done.2) (come_moves s after n page v p own.there within refl (has_access s n page v bytes done.0 false own.there)))

-- A page makes room for another of its machine.

trade_has : (s : Site) (n page : ℕ) (v : Vm) (q : ℕ) (bytes : List ℕ) (f i : ℕ) (new : List ℕ) → vm_at s n ≡ Some v
    → Has s n (set (set (bits v) q false) page true) (placed (placed (with_change s n (popped page)) n q (Out bytes i)) n page (Here new f false))
trade_has s n page v q bytes f i new there =
    let v1 = popped page v in
    let s1 = with_change s n (popped page) in
    let there1 : vm_at s1 n ≡ Some v1 = ap (λ t. vm_at t n) (with_change_is s n v (popped page) there) ∙ vm_there s n v v1 there in
    let v2 = with_place q (Out bytes i) v1 in
    let s2 = placed s1 n q (Out bytes i) in
    let there2 = vm_placed_there s1 n q v1 (Out bytes i) there1 in
    let s3 = placed s2 n page (Here new f false) in
    let two = has_again s s1 s2 n (bits v1) (set (bits v1) q false) (has_change s n v (popped page) there) (has_placed s1 n q v1 (Out bytes i) there1) in
    let three = has_again s s2 s3 n (set (bits v1) q false) (set (bits v2) page true) two (has_placed s2 n page v2 (Here new f false) there2) in
    let P : List Bool → Type 0 = λ bs. Has s n (set bs page true) s3 in
    subst P (map-set is_here v.places q (Out bytes i)) three

-- the wanted page was not here, and its fellow was
swapped : (s t : Site) (n page q : ℕ) (v : Vm) (p : Place) → vm_at s n ≡ Some v → page < length (bits v) → place_at v page ≡ p → is_here p ≡ false → is_here (place_at v q) ≡ true
    → Has s n (set (set (bits v) q false) page true) t → Moves s t (Some (change n q Replaced)) (gained_by n page (Some v))
swapped s t n page q v p there within is away here has =
    let P : Place → Type 0 = λ x. Moves s t (Some (change n q Replaced)) (of n page (coming v.epoch x)) in
    subst P (sym is) (by p is away)
  where
    of : ℕ → ℕ → Option How → Option Change
    of n page None = None
    of n page (Some how) = Some (change n page how)

    trades : (p : Place) (how : How) → place_at v page ≡ p → is_here p ≡ false → Moves s t (Some (change n q Replaced)) (Some (change n page how))
    trades p how is away = moves_traded s t n page q (bits v) how Replaced (bits_there s n v there) within (away_bit v page p is away) (bit_in (Some v) q ∙ here) has

    by : (p : Place) → place_at v page ≡ p → is_here p ≡ false → Moves s t (Some (change n q Replaced)) (of n page (coming v.epoch p))
    by (Here bytes f shared) is away = cc
    by Untouched is away = trades Untouched First is refl
    by (Out bytes i) is away = trades (Out bytes i) SwapIn is refl
    by (Lent e) is away = trades (Lent e) (cond (e == v.epoch) Pop First) is refl

trade_moves : (c : Config) (s : Site) (n page word : ℕ) (v : Vm) (q : ℕ) (p : Place) (o : Option ℕ) (r : Answer × Site) → vm_at s n ≡ Some v → page < length (bits v) → is_here (place_at v page) ≡ false → place_at v q ≡ p
    → trade c s n page (place_at v page) q p o ≡ Ok r → Moves s r.1 (lost (events.Replace n page word) r.0 s) (gained_by n page (Some v))
trade_moves c s n page word v q Untouched o r there within away was h = cc
trade_moves c s n page word v q (Out bytes j) o r there within away was h = cc
trade_moves c s n page word v q (Lent e) o r there within away was h = cc
trade_moves c s n page word v q (Here bytes f shared) None r there within away was h = cc
trade_moves c s n page word v q (Here bytes f shared) (Some i) r there within away was h =
    let new = contents c (place_at v page) in
    let after = placed (placed (with_change s n (popped page)) n q (Out bytes i)) n page (Here new f false) in
    let P : (Answer × Site) → Type 0 = λ x. Moves s x.1 (lost (events.Replace n page word) x.0 s) (gained_by n page (Some v)) in
    subst P (outcome_is (answers.Replaced q i f) after r h) (swapped s after n page q v (place_at v page) there within refl away (ap is_here was) (trade_has s n page v q bytes f i new there))

trade_for_moves : (c : Config) (s : Site) (n page word : ℕ) (v : Vm) (o : Option ℕ) (r : Answer × Site) → vm_at s n ≡ Some v → page < length (bits v) → is_here (place_at v page) ≡ false → trade_for c s n v page o ≡ Ok r
    → Moves s r.1 (lost (events.Replace n page word) r.0 s) (gained_by n page (Some v))
trade_for_moves c s n page word v None r there within away h = cc
trade_for_moves c s n page word v (Some q) r there within away h = trade_moves c s n page word v q (place_at v q) (freed_slot c s (place_at v page)) r there within away refl h

pub first_false : (a b d : Bool) → (a || b || d) ≡ false → a ≡ false
first_false true b d h = cc
first_false false b d h = refl

pub replace_moves : (c : Config) (s : Site) (n page word : ℕ) (r : Answer × Site) → IsSound c s → replace c s n page word ≡ Ok r
    → Moves s r.1 (lost (events.Replace n page word) r.0 s) (gained (events.Replace n page word) s)
unfolding replace
replace_moves c s n page word r sound h =
    let own = of_vm (vm_at s n) _ r h in
    let v = own.vm in
    let pass = passed (replace_gate (standing v) page (is_here (place_at v page)) (free_count c.frames s) (list_any is_above_min s.vms)) _ r own.then in
    let within = within_bits c s n page v sound own.there (below_max v.spec.max page pass.0.1.0) in
    let away = first_false (is_here (place_at v page)) (nat_lt 0 (free_count c.frames s)) (list_any is_above_min s.vms) pass.0.1.1.0 in
    let Q : Option Vm → Type 0 = λ o. Moves s r.1 (lost (events.Replace n page word) r.0 s) (gained_by n page o) in
    subst Q (sym own.there) (trade_for_moves c s n page word v (victim v word) r own.there within away pass.1)
