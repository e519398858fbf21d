-- How pages left and came: from where they were before an event to where they are after it.
use Rattle.std.proofs.Common.{◌≡◌, ◌≢◌, ℕ, ◌<◌, ◌+◌, Bool, true, false, ◌||◌, ◌==◌, nat_lt, List, length, refl, sym, ap, ◌∙◌, subst, arith, cond, Option, Some, None, Ok, inl, inr}
use Rattle.std.specs.List.{list_any}
use Rattle.std.specs.Option.{option_map}
use Rattle.std.proofs.lemmas.List.{length-map, get_or-set_same, get_or-set_other}
use Rattle.esx_types.specs.declared.config.Config.{Config}
use Rattle.esx_types.specs.declared.level.Level.{Level}
use Rattle.esx_events.specs.declared.event.Answer.{Answer}
use Rattle.esx_events.specs.declared.event.Answer.TheVariants as answers
use Rattle.esx_events.specs.declared.event.Event.{Event}
use Rattle.esx_events.specs.declared.event.Event.TheVariants.{Read, Write, Lend, SwapOut, Replace, DropPage}
use Rattle.esx_model.specs.declared.look.Look.{Look}
use Rattle.esx_model.specs.declared.look.Look.TheVariants.{Already, SharedFrame, OtherPage, Changed, OtherBytes, Nothing}
use Rattle.esx_model.specs.declared.scene.Place.{Place}
use Rattle.esx_model.specs.declared.scene.Place.TheVariants as places
use Rattle.esx_model.specs.declared.scene.Vm.{Vm}
use Rattle.esx_model.specs.declared.scene.Site.{Site}
use Rattle.esx_model.specs.declared.scene.Scene.{Scene}
use Rattle.esx_model.specs.Places.{is_here, is_out, contents}
use Rattle.esx_model.specs.Site.{vm_at, with_vm, place_at, place_in, lent, least_slot, free_count}
use Rattle.esx_model.specs.Hints.{with_place, with_change, placed}
use Rattle.esx_model.specs.event.Outcome.{standing, goal, page_gate, unless}
use Rattle.esx_model.specs.event.Balloon.{is_lent, popped, lend_gate, lend}
use Rattle.esx_model.specs.event.Sharing.{look, after_look}
use Rattle.esx_model.specs.event.Paging.{victim, is_above_min, replace_gate, freed_slot, trade, trade_for, replace, swap_out_gate, to_slot, leave_by, leave, swap_out}
use Rattle.esx_model.specs.event.Leaving.{drop_gate, drop_page}
use Rattle.esx_model.specs.Step.{step}
use Rattle.esx_model.specs.Replay.{next}
use Rattle.esx_model.proofs.Callers.{step_of, of_vm, passed, accepted, chosen, drawn_is_here, eqb_same, with_change_is, vm_there, vm_placed_there}
use Rattle.esx_story.specs.declared.change.Spot.TheVariants as spots
use Rattle.esx_story.specs.Changes.{How, Balloon, Swap, Replaced, Dropped, First, Pop, Change, change, has_here}
use Rattle.esx_story.specs.Losses.{lost, lost_if_here}
use Rattle.esx_story.specs.Gains.{coming, gained_by, gained}
use Rattle.esx_story.specs.Spots.{spot, spot_in, spot_of, how_of}
use Rattle.esx_story.proofs.Bits.{bits, bit_in}
use Rattle.esx_story.proofs.Moves.{within_of}
use Rattle.esx_story.proofs.event.Access.{outcome_is, first_false}

some_change : (x y : Change) → Some x ≡ Some y → x ≡ y
some_change x y h = cc

no_change : (x : Change) → None ≡ Some x → ⊥
no_change x h = cc

-- a page that is here is one of its machine
here_within : (v : Vm) (page : ℕ) → is_here (place_at v page) ≡ true → page < length v.places
here_within v page h =
    let within = within_of (bits v) page (bit_in (Some v) page ∙ h) in
    let len = length-map v.places is_here in
    omega (arith, within, len)

-- it is where it was placed
placed_spot : (s : Site) (n page : ℕ) (v : Vm) (q : Place) → vm_at s n ≡ Some v → page < length v.places → spot_of (placed s n page q) n page ≡ spot v.epoch q
placed_spot s n page v q there within = ap (λ o. spot_in o page) (vm_placed_there s n page v q there) ∙ ap (spot v.epoch) (get_or-set_same v.places page q places.Untouched within)

-- a page that was in a frame came so to where it is now
abbrev pub LeftSo : Event → Site → ℕ → ℕ → How → Type 0
LeftSo e t n page how = (f : ℕ) (shared : Bool) → how_of e (spots.Here f shared) (spot_of t n page) ≡ Some how

if_here : (b : Bool) (x y : Change) → cond b (Some x) None ≡ Some y → (b ≡ true) × (x ≡ y)
if_here true x y h = (refl, some_change x y h)
if_here false x y h = absurd (no_change y h)

-- a page that left for a place, where it was here
left_for : (s : Site) (n page : ℕ) (v : Vm) (q : Place) (by : How) (m p : ℕ) (how : How) → vm_at s n ≡ Some v → lost_if_here s n page by ≡ Some (change m p how) → (how ≡ by) × (spot_of (placed s n page q) m p ≡ spot v.epoch q)
left_for s n page v q by m p how there h =
    let is = if_here (has_here s n page) (change n page by) (change m p how) h in
    let here : is_here (place_at v page) ≡ true = ap (λ o. is_here (place_in o page)) (sym there) ∙ is.0 in
    let P : Change → Type 0 = λ x. (x.how ≡ by) × (spot_of (placed s n page q) x.vm x.page ≡ spot v.epoch q) in
    subst P is.1 (refl, placed_spot s n page v q there (here_within v page here))

own_epoch : (e : ℕ) → spot e (places.Lent e) ≡ spots.Lent e
own_epoch e = ap (λ b. cond b (spots.Lent e) spots.Untouched) (eqb_same e)

lend_how : (s : Site) (n page : ℕ) (r : Answer × Site) (m p : ℕ) (how : How) → lend s n page ≡ Ok r → lost (Lend n page) r.0 s ≡ Some (change m p how) → LeftSo (Lend n page) r.1 m p how
unfolding lend
lend_how s n page r m p how h =
    let own = of_vm (vm_at s n) _ r h in
    let v = own.vm in
    let pass = passed (page_gate (standing v) page) _ r own.then in
    let said : Answer = answers.Lent (lent v + 1) (goal (standing v)) in
    let gate = lend_gate (is_lent v page) (standing v) in
    let after = placed s n page (places.Lent v.epoch) in
    let w : Vm = record v { epoch = v.epoch + 1; due = false } in
    let P : (Answer × Site) → Type 0 = λ x. lost (Lend n page) x.0 s ≡ Some (change m p how) → LeftSo (Lend n page) x.1 m p how in
    elim (chosen v.due (accepted (answers.Reset (v.epoch + 1)) (with_vm s n w)) (unless gate (accepted said after)) (Ok r) pass.1) [
      | inl k ↦ subst P (outcome_is (answers.Reset (v.epoch + 1)) (with_vm s n w) r k.1) (λ e. absurd (no_change (change m p how) e))
      | inr k ↦ subst P (outcome_is said after r (passed gate _ r k.1).1) (λ e. (let is = left_for s n page v (places.Lent v.epoch) Balloon m p how own.there e in
          λ f shared. ap (how_of (Lend n page) (spots.Here f shared)) (is.1 ∙ own_epoch v.epoch) ∙ ap (λ x. Some x) (sym is.0)))
    ]

drop_how : (s : Site) (n page : ℕ) (r : Answer × Site) (m p : ℕ) (how : How) → drop_page s n page ≡ Ok r → lost (DropPage n page) r.0 s ≡ Some (change m p how) → LeftSo (DropPage n page) r.1 m p how
unfolding drop_page
drop_how s n page r m p how h =
    let own = of_vm (vm_at s n) _ r h in
    let v = own.vm in
    let pass = passed (drop_gate (standing v) page (is_here (place_at v page) || is_out (place_at v page))) _ r own.then in
    let P : (Answer × Site) → Type 0 = λ x. lost (DropPage n page) x.0 s ≡ Some (change m p how) → LeftSo (DropPage n page) x.1 m p how in
    subst P (outcome_is answers.Done (placed s n page places.Untouched) r pass.1) (λ e. (let is = left_for s n page v places.Untouched Dropped m p how own.there e in
    λ f shared. ap (how_of (DropPage n page) (spots.Here f shared)) is.1 ∙ ap (λ x. Some x) (sym is.0)))

slot_how : (c : Config) (s : Site) (n page word : ℕ) (v : Vm) (o : Option ℕ) (r : Answer × Site) (m p : ℕ) (how : How) → vm_at s n ≡ Some v → is_here (place_at v page) ≡ true → to_slot s n page (contents c (place_at v page)) o ≡ Ok r
    → lost (SwapOut n word) r.0 s ≡ Some (change m p how) → LeftSo (SwapOut n word) r.1 m p how
slot_how c s n page word v None r m p how there here h = cc
slot_how c s n page word v (Some i) r m p how there here h =
    let bytes = contents c (place_at v page) in
    let after = placed s n page (places.Out bytes i) in
    let P : (Answer × Site) → Type 0 = λ x. lost (SwapOut n word) x.0 s ≡ Some (change m p how) → LeftSo (SwapOut n word) x.1 m p how in
    let Q : Change → Type 0 = λ x. LeftSo (SwapOut n word) after x.vm x.page x.how in
    subst P (outcome_is (answers.PagedOut page i) after r h)
    (λ e. subst Q (some_change (change n page Swap) (change m p how) e) (λ f shared. ap (how_of (SwapOut n word) (spots.Here f shared)) (placed_spot s n page v (places.Out bytes i) there (here_within v page here))))

leave_how_by : (c : Config) (s : Site) (n page word : ℕ) (v : Vm) (l : Look) (r : Answer × Site) (m p : ℕ) (how : How) → vm_at s n ≡ Some v → is_here (place_at v page) ≡ true → leave_by c s n page (contents c (place_at v page)) l ≡ Ok r
    → lost (SwapOut n word) r.0 s ≡ Some (change m p how) → LeftSo (SwapOut n word) r.1 m p how
leave_how_by c s n page word v Already r m p how there here h = slot_how c s n page word v (least_slot c.slots s) r m p how there here h
leave_how_by c s n page word v (SharedFrame f) r m p how there here h =
    let P : (Answer × Site) → Type 0 = λ x. lost (SwapOut n word) x.0 s ≡ Some (change m p how) → LeftSo (SwapOut n word) x.1 m p how in
    subst P (outcome_is (answers.SharedOut page f) (after_look s n page (contents c (place_at v page)) (SharedFrame f)) r h) (λ e. absurd (no_change (change m p how) e))
leave_how_by c s n page word v (OtherPage k q f) r m p how there here h =
    let P : (Answer × Site) → Type 0 = λ x. lost (SwapOut n word) x.0 s ≡ Some (change m p how) → LeftSo (SwapOut n word) x.1 m p how in
    subst P (outcome_is (answers.SharedOut page f) (after_look s n page (contents c (place_at v page)) (OtherPage k q f)) r h) (λ e. absurd (no_change (change m p how) e))
leave_how_by c s n page word v Changed r m p how there here h = slot_how c s n page word v (least_slot c.slots s) r m p how there here h
leave_how_by c s n page word v OtherBytes r m p how there here h = slot_how c s n page word v (least_slot c.slots s) r m p how there here h
leave_how_by c s n page word v Nothing r m p how there here h = slot_how c s n page word v (least_slot c.slots s) r m p how there here h

leave_how : (c : Config) (s : Site) (n : ℕ) (v : Vm) (word : ℕ) (o : Option ℕ) (r : Answer × Site) (m p : ℕ) (how : How) → vm_at s n ≡ Some v → victim v word ≡ o → leave c s n v o ≡ Ok r
    → lost (SwapOut n word) r.0 s ≡ Some (change m p how) → LeftSo (SwapOut n word) r.1 m p how
leave_how c s n v word None r m p how there drawn h = cc
leave_how c s n v word (Some page) r m p how there drawn h = leave_how_by c s n page word v (look s n page (place_at v page)) r m p how there (drawn_is_here v word page drawn).1 h

swap_out_how : (c : Config) (s : Site) (level : Level) (n word : ℕ) (r : Answer × Site) (m p : ℕ) (how : How) → swap_out c s level n word ≡ Ok r → lost (SwapOut n word) r.0 s ≡ Some (change m p how) → LeftSo (SwapOut n word) r.1 m p how
unfolding swap_out
swap_out_how c s level n word r m p how h =
    let own = of_vm (vm_at s n) _ r h in
    let v = own.vm in
    let pass = passed (swap_out_gate level (standing v)) _ r own.then in
    leave_how c s n v word (victim v word) r m p how own.there refl pass.1

trade_spot : (s : Site) (n page : ℕ) (v : Vm) (q : ℕ) (bytes : List ℕ) (f i : ℕ) (new : List ℕ) → vm_at s n ≡ Some v → q < length v.places → q ≢ page
    → spot_of (placed (placed (with_change s n (popped page)) n q (places.Out bytes i)) n page (places.Here new f false)) n q ≡ spots.Out i
trade_spot s n page v q bytes f i new there within apart =
    let v1 = popped page v in
    let s1 = with_change s n (popped page) in
    let there1 : vm_at s1 n ≡ Some v1 = ap (λ t. vm_at t n) (with_change_is s n v (popped page) there) ∙ vm_there s n v v1 there in
    let v2 = with_place q (places.Out bytes i) v1 in
    let s2 = placed s1 n q (places.Out bytes i) in
    let there2 = vm_placed_there s1 n q v1 (places.Out bytes i) there1 in
    ap (λ o. spot_in o q) (vm_placed_there s2 n page v2 (places.Here new f false) there2)
    ∙ ap (spot v2.epoch) (get_or-set_other v2.places page q (places.Here new f false) places.Untouched apart ∙ get_or-set_same v.places q (places.Out bytes i) places.Untouched within)

trade_how : (c : Config) (s : Site) (n page word : ℕ) (v : Vm) (q : ℕ) (p : Place) (o : Option ℕ) (r : Answer × Site) (m k : ℕ) (how : How) → vm_at s n ≡ Some v → is_here (place_at v page) ≡ false → place_at v q ≡ p
    → trade c s n page (place_at v page) q p o ≡ Ok r → lost (Replace n page word) r.0 s ≡ Some (change m k how) → LeftSo (Replace n page word) r.1 m k how
trade_how c s n page word v q places.Untouched o r m k how there away was h = cc
trade_how c s n page word v q (places.Out bytes j) o r m k how there away was h = cc
trade_how c s n page word v q (places.Lent e) o r m k how there away was h = cc
trade_how c s n page word v q (places.Here bytes f shared) None r m k how there away was h = cc
trade_how c s n page word v q (places.Here bytes f shared) (Some i) r m k how there away was h =
    let new = contents c (place_at v page) in
    let after = placed (placed (with_change s n (popped page)) n q (places.Out bytes i)) n page (places.Here new f false) in
    let P : (Answer × Site) → Type 0 = λ x. lost (Replace n page word) x.0 s ≡ Some (change m k how) → LeftSo (Replace n page word) x.1 m k how in
    let Q : Change → Type 0 = λ x. LeftSo (Replace n page word) after x.vm x.page x.how in
    let here : is_here (place_at v q) ≡ true = ap is_here was in
    let apart : q ≢ page = (λ e. (let both : true ≡ false = sym here ∙ ap (λ j. is_here (place_at v j)) e ∙ away in cc)) in
    subst P (outcome_is (answers.Replaced q i f) after r h)
    (λ e. subst Q (some_change (change n q Replaced) (change m k how) e) (λ g also. ap (how_of (Replace n page word) (spots.Here g also)) (trade_spot s n page v q bytes f i new there (here_within v q here) apart)))

trade_for_how : (c : Config) (s : Site) (n page word : ℕ) (v : Vm) (o : Option ℕ) (r : Answer × Site) (m k : ℕ) (how : How) → vm_at s n ≡ Some v → is_here (place_at v page) ≡ false → trade_for c s n v page o ≡ Ok r
    → lost (Replace n page word) r.0 s ≡ Some (change m k how) → LeftSo (Replace n page word) r.1 m k how
trade_for_how c s n page word v None r m k how there away h = cc
trade_for_how c s n page word v (Some q) r m k how there away h = trade_how c s n page word v q (place_at v q) (freed_slot c s (place_at v page)) r m k how there away refl h

replace_how : (c : Config) (s : Site) (n page word : ℕ) (r : Answer × Site) (m k : ℕ) (how : How) → replace c s n page word ≡ Ok r → lost (Replace n page word) r.0 s ≡ Some (change m k how)
    → LeftSo (Replace n page word) r.1 m k how
unfolding replace
replace_how c s n page word r m k how h =
    let own = of_vm (vm_at s n) _ r h in
    let v = own.vm in
    let pass = passed (replace_gate (standing v) page (is_here (place_at v page)) (free_count c.frames s) (list_any is_above_min s.vms)) _ r own.then in
    let away = first_false (is_here (place_at v page)) (nat_lt 0 (free_count c.frames s)) (list_any is_above_min s.vms) pass.0.1.1.0 in
    trade_for_how c s n page word v (victim v word) r m k how own.there away pass.1

step_how : (c : Config) (s : Site) (level : Level) (e : Event) (r : Answer × Site) (m p : ℕ) (how : How) → step c s level e ≡ Ok r → lost e r.0 s ≡ Some (change m p how) → LeftSo e r.1 m p how
step_how c s level (Lend n page) r m p how h is = lend_how s n page r m p how h is
step_how c s level (SwapOut n word) r m p how h is = swap_out_how c s level n word r m p how h is
step_how c s level (Replace n page word) r m p how h is = replace_how c s n page word r m p how h is
step_how c s level (DropPage n page) r m p how h is = drop_how s n page r m p how h is
step_how c s level _ r m p how h is = absurd (no_change (change m p how) is)

-- a page that an event lost left its frame so
pub left_so : (c : Config) (t : Scene) (e : Event) (r : Answer × Scene) (n page : ℕ) (how : How) → next c t e ≡ Ok r → lost e r.0 t.site ≡ Some (change n page how) → LeftSo e r.1.site n page how
left_so c t e r n page how h is =
    let s = step_of c t e r h in
    let P : Site → Type 0 = λ u. LeftSo e u n page how in
    subst P s.3 (step_how c t.site t.level e s.0 n page how s.1 (ap (λ a. lost e a t.site) s.2 ∙ is))

-- Gains.

-- a page of that machine that is in a frame now came so from where it was
abbrev ComesFrom : Option Vm → ℕ → How → Type 0
ComesFrom o page how = (e : Event) (f : ℕ) (shared : Bool) → how_of e (spot_in o page) (spots.Here f shared) ≡ Some how

abbrev pub CameSo : Site → ℕ → ℕ → How → Type 0
CameSo s n page how = ComesFrom (vm_at s n) page how

coming_so : (v : Vm) (page : ℕ) (p : Place) (how : How) → place_at v page ≡ p → coming v.epoch p ≡ Some how → ComesFrom (Some v) page how
coming_so v page p how is h e f shared = ap (λ q. how_of e (spot v.epoch q) (spots.Here f shared)) is ∙ by p h
  where
    loan : (d : ℕ) (b : Bool) → Some (cond b Pop First) ≡ Some how → how_of e (cond b (spots.Lent d) spots.Untouched) (spots.Here f shared) ≡ Some how
    loan d true h = h
    loan d false h = h

    by : (p : Place) → coming v.epoch p ≡ Some how → how_of e (spot v.epoch p) (spots.Here f shared) ≡ Some how
    by places.Untouched h = h
    by (places.Here bytes g also) h = cc
    by (places.Out bytes i) h = h
    by (places.Lent d) h = loan d (d == v.epoch) h

coming_by : (v : Vm) (n page : ℕ) (o : Option How) (m p : ℕ) (how : How) → coming v.epoch (place_at v page) ≡ o → option_map (change n page) o ≡ Some (change m p how) → (n ≡ m) × (page ≡ p) × ComesFrom (Some v) page how
coming_by v n page None m p how is h = absurd (no_change (change m p how) h)
coming_by v n page (Some x) m p how is h =
    let same = some_change (change n page x) (change m p how) h in
    (ap (λ (y : Change). y.vm) same, ap (λ (y : Change). y.page) same, coming_so v page (place_at v page) how refl (is ∙ ap (λ (y : Change). Some y.how) same))

gained_so : (s : Site) (n page : ℕ) (o : Option Vm) (m p : ℕ) (how : How) → vm_at s n ≡ o → gained_by n page o ≡ Some (change m p how) → CameSo s m p how
gained_so s n page None m p how there h = absurd (no_change (change m p how) h)
gained_so s n page (Some v) m p how there h =
    let is = coming_by v n page (coming v.epoch (place_at v page)) m p how refl h in
    let P : ℕ → Type 0 = λ k. ComesFrom (Some v) k how in
    let Q : Option Vm → Type 0 = λ o. ComesFrom o p how in
    subst Q (sym (ap (vm_at s) (sym is.0) ∙ there)) (subst P is.1 is.2)

-- a page that an event gained came so
pub came_so : (e : Event) (s : Site) (n page : ℕ) (how : How) → gained e s ≡ Some (change n page how) → CameSo s n page how
came_so (Read n page at len) s m p how is = gained_so s n page (vm_at s n) m p how refl is
came_so (Write n page at new) s m p how is = gained_so s n page (vm_at s n) m p how refl is
came_so (Replace n page word) s m p how is = gained_so s n page (vm_at s n) m p how refl is
came_so _ s m p how is = absurd (no_change (change m p how) is)
