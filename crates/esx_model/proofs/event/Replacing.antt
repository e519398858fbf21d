-- A page that takes the place of another of its machine keeps a site sound.
use Rattle.std.proofs.Common.{◌≡◌, ◌≢◌, ℕ, ◌-◌, ◌≤◌, ◌<◌, Bool, true, false, nat_lt, List, [], ◌∷◌, ◌++◌, length, set, refl, sym, ap, ◌∙◌, subst, arith, cond, Option, Some, None, Ok, inl, inr, ◌==◌}
use Rattle.std.specs.List.{filter, list_any}
use Rattle.std.proofs.lemmas.List.{get_or-set_same, get_or-set_other, length-set, set_comm}
use Rattle.std.proofs.lemmas.Bool.Decides.{nat_tests}
use Rattle.esx_types.specs.declared.config.Config.{Config}
use Rattle.esx_types.specs.declared.table.SlotRow.{SlotRow}
use Rattle.esx_types.specs.declared.table.SlotRow.TheVariants as slots
use Rattle.esx_types.specs.declared.vm.VmState.TheVariants.{Running}
use Rattle.esx_events.specs.declared.event.Answer.{Answer}
use Rattle.esx_events.specs.declared.event.Answer.TheVariants as answers
use Rattle.esx_types.specs.declared.table.Hint.{Hint}
use Rattle.esx_model.specs.declared.scene.Place.{Place}
use Rattle.esx_model.specs.declared.scene.Place.TheVariants.{Untouched, Here, Out, Lent}
use Rattle.esx_model.specs.declared.scene.Vm.{Vm}
use Rattle.esx_model.specs.declared.scene.Site.{Site}
use Rattle.esx_model.specs.Places.{is_here, is_here_at, is_out, is_out_at, is_private, contents}
use Rattle.esx_model.specs.Site.{vm_at, with_vm, place_at, place_in, place_of, all_places, all_overhead, resident, paged_out, free_count}
use Rattle.esx_model.specs.Show.{pages_in, pages_out, in_frame, in_slot, slot_of, is_listed}
use Rattle.esx_model.specs.Hints.{with_place, with_change, without_hint, hints_at, placed}
use Rattle.esx_model.specs.event.Outcome.{standing}
use Rattle.esx_model.specs.event.Balloon.{popped}
use Rattle.esx_model.specs.event.Paging.{victim, is_above_min, replace_gate, freed_slot, trade, trade_for, replace}
use Rattle.esx_model.specs.sound.Machines.{IsPlace}
use Rattle.esx_model.specs.sound.Frames.{AreFrames, pages_out_for}
use Rattle.esx_model.specs.sound.Sound.{IsSound}
use Rattle.esx_model.proofs.Lists.{Changed, filter_before, filter_after, filter_neither, eqb_same, one, or_false, set_again, some_below}
use Rattle.esx_model.proofs.FramesKept.{one_left}
use Rattle.esx_model.proofs.HintsKept.{no_hint}
use Rattle.esx_model.proofs.Machines.{not_out, not_lent, old_place, out_placed, here_placed, apart_counts, drawn_is_here}
use Rattle.esx_model.proofs.Kept.{row_only, placed_sound, placed_is, placed_changed, placed_overhead, placed_at, site_at, places_same, vm_there, vm_placed_there, with_change_is, page_is_in, vm_after}
use Rattle.esx_model.proofs.Rooms.{Room, IsIn, slot_unused, room_nowhere, room_empty, room_unused, row_here}
use Rattle.esx_model.specs.Laws.{IsFull}
use Rattle.esx_model.proofs.Counting.{full_site}
use Rattle.esx_model.proofs.Gates.{of_vm, passed, gives, not_not, runs}
use Rattle.esx_model.proofs.event.Balloon.{popped_becomes, past_start, below_max}
use Rattle.esx_model.proofs.event.Access.{whole_page}

-- the slot that the page of a machine leaves, or one that no page is in
abbrev IsClear : List Place → Place → ℕ → Type 0
IsClear ps Untouched i = in_slot i ps ≡ []
IsClear ps (Here bytes f shared) i = in_slot i ps ≡ []
IsClear ps (Out bytes j) i = j ≡ i
IsClear ps (Lent e) i = in_slot i ps ≡ []

short_slot : (i : ℕ) (row : SlotRow) → length (pages_out_for i row) ≤ 1
short_slot i slots.Free = omega arith
short_slot i (slots.Held bytes) = omega arith

one_in_slot : (n : ℕ) (ps : List Place) (os : List ℕ) (i : ℕ) → AreFrames n ps os → length (in_slot i ps) ≤ 1
one_in_slot n ps os i fine = (let same = ap length (fine.single i) in let short = short_slot i (slot_of (in_slot i ps)) in omega (arith, same, short))

clear_slot : (n : ℕ) (ps qs : List Place) (os : List ℕ) (p : Place) (i : ℕ) → AreFrames n ps os → Changed p Untouched ps qs → IsClear ps p i → in_slot i qs ≡ []
clear_slot n ps qs os Untouched i fine ch clear = filter_neither (is_out_at i) Untouched Untouched ps qs ch refl refl ∙ clear
clear_slot n ps qs os (Here bytes f shared) i fine ch clear = filter_neither (is_out_at i) (Here bytes f shared) Untouched ps qs ch refl refl ∙ clear
clear_slot n ps qs os (Lent e) i fine ch clear = filter_neither (is_out_at i) (Lent e) Untouched ps qs ch refl refl ∙ clear
clear_slot n ps qs os (Out bytes j) i fine ch clear =
    let p : Place = Out bytes j in
    let fs = filter (is_out_at i) ch.front in
    let bs = filter (is_out_at i) ch.back in
    let at : (j == i) ≡ true = grind (arith, nat_tests) in
    let before : in_slot i ps ≡ fs ++ p ∷ bs = filter_before (is_out_at i) p Untouched ps qs ch ∙ ap (λ b. fs ++ cond b (p ∷ bs) bs) at in
    let P : List Place → Type 0 = λ xs. length xs ≤ 1 in
    filter_after (is_out_at i) p Untouched ps qs ch ∙ one_left fs bs p (subst P before (one_in_slot n ps os i fine))

not_at : (f : ℕ) (p : Place) → is_here p ≡ false → is_here_at f p ≡ false
not_at f Untouched h = refl
not_at f (Here bytes g shared) h = cc
not_at f (Out bytes i) h = refl
not_at f (Lent e) h = refl

-- the frame that a page was alone in, after it went out
left_frame : (ps qs : List Place) (bytes others : List ℕ) (f i : ℕ) (shared : Bool) → Changed (Here bytes f shared) (Out others i) ps qs → length (in_frame f ps) ≤ 1 → in_frame f qs ≡ []
left_frame ps qs bytes others f i shared ch few =
    let p : Place = Here bytes f shared in
    let fs = filter (is_here_at f) ch.front in
    let bs = filter (is_here_at f) ch.back in
    let before : in_frame f ps ≡ fs ++ p ∷ bs = filter_before (is_here_at f) p (Out others i) ps qs ch ∙ ap (λ b. fs ++ cond b (p ∷ bs) bs) (eqb_same f) in
    let P : List Place → Type 0 = λ xs. length xs ≤ 1 in
    filter_after (is_here_at f) p (Out others i) ps qs ch ∙ one_left fs bs p (subst P before few)

-- What is known where page q of machine n makes room for its page `page`.
pub record Trades (c : Config) (s : Site) (n page q : ℕ) (v : Vm) (bytes : List ℕ) (f : ℕ) (shared : Bool) (i : ℕ) : Type 0 where
  pub sound : IsSound c s
  pub there : vm_at s n ≡ Some v
  pub running : v.state ≡ Running
  pub below : page < v.spec.max
  pub away : is_here (place_at v page) ≡ false
  pub within : q < length v.places
  pub was : place_at v q ≡ Here bytes f shared
  pub full : IsFull c s
  pub slot : i < c.slots
  pub clear : IsClear (all_places s) (place_at v page) i

pub other_pages : (c : Config) (s : Site) (n page q : ℕ) (v : Vm) (bytes : List ℕ) (f : ℕ) (shared : Bool) (i : ℕ) → Trades c s n page q v bytes f shared i → q ≢ page
other_pages c s n page q v bytes f shared i t e = (let d : is_here (place_at v q) ≡ false = ap (λ k. is_here (place_at v k)) e ∙ t.away in let k = ap is_here t.was in let no = sym k ∙ d in cc)

-- The wanted page is nowhere first, then its fellow goes out, then it comes: each time to a sound site, and to a place that has room.
pub record IsTraded (c : Config) (s : Site) (n page q : ℕ) (v : Vm) (bytes : List ℕ) (f i : ℕ) (new : List ℕ) : Type 0 where
  pub left_sound : IsSound c (placed s n page Untouched)
  pub left_there : vm_at (placed s n page Untouched) n ≡ Some (with_place page Untouched v)
  pub out_place : (i < c.slots) × (length bytes ≡ c.page)
  pub out_room : Room c (placed s n page Untouched) (place_at (with_place page Untouched v) q) (Out bytes i)
  pub out_sound : IsSound c (placed (placed s n page Untouched) n q (Out bytes i))
  pub out_there : vm_at (placed (placed s n page Untouched) n q (Out bytes i)) n ≡ Some (with_place q (Out bytes i) (with_place page Untouched v))
  pub nowhere : place_at (with_place q (Out bytes i) (with_place page Untouched v)) page ≡ Untouched
  pub in_place : (f < c.frames) × (length new ≡ c.page)
  pub in_room : Room c (placed (placed s n page Untouched) n q (Out bytes i)) (place_at (with_place q (Out bytes i) (with_place page Untouched v)) page) (Here new f false)
  pub in_sound : IsSound c (placed (placed (placed s n page Untouched) n q (Out bytes i)) n page (Here new f false))

pub by_steps : (c : Config) (s : Site) (n page q : ℕ) (v : Vm) (bytes : List ℕ) (f : ℕ) (shared : Bool) (i : ℕ) (new : List ℕ) → Trades c s n page q v bytes f shared i → length new ≡ c.page
    → IsTraded c s n page q v bytes f i new
by_steps c s n page q v bytes f shared i new t whole =
    let fine = t.sound.each n v t.there in
    let within : page < length v.places = (let b = t.below in omega (arith, fine.pages, b)) in
    let past = past_start v t.running in
    let apart = other_pages c s n page q v bytes f shared i t in
    let p = place_at v page in
    -- the wanted page is nowhere
    let a = placed s n page Untouched in
    let va = with_place page Untouched v in
    let there_a = vm_placed_there s n page v Untouched t.there in
    let sound_a = placed_sound c s n page v Untouched t.sound t.there t.below past tt (not_out c v page Untouched fine within refl) (not_lent c v page Untouched fine within refl) (room_nowhere c s p) in
    let fine_a = sound_a.each n va there_a in
    let change_a = placed_changed s n page v Untouched t.there within in
    let at_q : place_at va q ≡ Here bytes f shared = get_or-set_other v.places page q Untouched Untouched apart ∙ t.was in
    let within_a : q < length va.places = (let len = length-set v.places page Untouched in let w = t.within in omega (arith, len, w)) in
    let P : Place → Type 0 = IsPlace c v.epoch in
    let place : IsPlace c v.epoch (Here bytes f shared) = subst P t.was (old_place c v q fine t.within) in
    -- its fellow goes out
    let o : Place = Out bytes i in
    let b = placed a n q o in
    let vb = with_place q o va in
    let vd = with_place page (Here new f false) vb in
    let empty : pages_out a i ≡ [] = clear_slot c.frames (all_places s) (all_places a) (all_overhead s) p i t.sound.frames change_a t.clear in
    let at_page : place_at vb page ≡ Untouched = get_or-set_other va.places q page o Untouched (λ e. apart (sym e)) ∙ get_or-set_same v.places page Untouched Untouched within in
    let within_b : page < length vb.places = (let len = length-set va.places q o in let more = length-set v.places page Untouched in omega (arith, len, more, within)) in
    let few : paged_out vb ≤ v.spec.max - v.spec.min = (
    let counts = apart_counts vd.places in
    let len = length-set vb.places page (Here new f false) in
    let len_b = length-set va.places q o in
    let len_a = length-set v.places page Untouched in
    let h1 = here_placed v page Untouched within in
    let h2 = here_placed va q o within_a in
    let h3 = here_placed vb page (Here new f false) within_b in
    let o3 = out_placed vb page (Here new f false) within_b in
    let n1 : one (is_here p) ≡ 0 = ap one t.away in
    let n2 : one (is_here (place_at va q)) ≡ 1 = ap (λ x. one (is_here x)) at_q in
    let n3 : one (is_here (place_at vb page)) ≡ 0 = ap (λ x. one (is_here x)) at_page in
    let n4 : one (is_out (place_at vb page)) ≡ 0 = ap (λ x. one (is_out x)) at_page in
    let least = t.full.least n v t.there in
    omega (arith, counts, len, len_b, len_a, h1, h2, h3, o3, n1, n2, n3, n4, least, fine.pages)) in
    let sound_b = placed_sound c a n q va o sound_a there_a (omega (arith, fine_a.pages, within_a)) past (t.slot, place.1) few (not_lent c va q o fine_a within_a refl) (room_empty c a (place_at va q) bytes i empty) in
    let there_b = vm_placed_there a n q va o there_a in
    let fine_b = sound_b.each n vb there_b in
    let Q : Place → Type 0 = λ x. Changed x o (all_places a) (all_places b) in
    let change_b = subst Q at_q (placed_changed a n q va o there_a within_a) in
    let same_frame : pages_in a f ≡ pages_in s f = filter_neither (is_here_at f) p Untouched (all_places s) (all_places a) change_a (not_at f p t.away) refl in
    let R : List Place → Type 0 = λ xs. length xs ≤ 1 in
    let none : pages_in b f ≡ [] = left_frame (all_places a) (all_places b) bytes bytes f i shared change_b (subst R (sym same_frame) (t.full.single f place.0)) in
    let In : Place → Type 0 = IsIn (all_places a) in
    let clear_a = (row_here c.frames (all_places a) (all_overhead a) bytes f shared sound_a.frames (subst In at_q (page_is_in a n q va there_a within_a))).1 in
    let clear_b : is_listed f (all_overhead b) ≡ false = ap (is_listed f) (placed_overhead a n q va o there_a) ∙ clear_a in
    -- and it comes
    let out_room = room_empty c a (place_at va q) bytes i empty in
    let in_room = room_unused c b (place_at vb page) new f none clear_b in
    record {
      left_sound = sound_a;
      left_there = there_a;
      out_place = (t.slot, place.1);
      out_room = out_room;
      out_sound = sound_b;
      out_there = there_b;
      nowhere = at_page;
      in_place = (place.0, whole);
      in_room = in_room;
      in_sound = placed_sound c b n page vb (Here new f false) sound_b there_b t.below past (place.0, whole) (not_out c vb page (Here new f false) fine_b within_b refl) (not_lent c vb page (Here new f false) fine_b within_b refl) in_room;
    }

-- it is the same as without the step to nowhere
pub steps_same : (s : Site) (n page q : ℕ) (v : Vm) (o h : Place) → vm_at s n ≡ Some v → page ≢ q → is_private h ≡ true → without_hint n page s.hints ≡ s.hints
    → placed (placed (placed s n page Untouched) n q o) n page h ≡ placed (placed s n q o) n page h
steps_same s n page q v o h there apart private none =
    let ps = v.places in
    let long : placed (placed (placed s n page Untouched) n q o) n page h ≡ site_at s n v (set (set (set ps page Untouched) q o) page h) (hints_at n page h (hints_at n q o (without_hint n page s.hints))) =
    ap (λ t. placed (placed t n q o) n page h) (placed_is s n page v Untouched there)
    ∙ ap (λ t. placed t n page h) (placed_at s n q v (set ps page Untouched) (without_hint n page s.hints) o there)
    ∙ placed_at s n page v (set (set ps page Untouched) q o) (hints_at n q o (without_hint n page s.hints)) h there in
    let short : placed (placed s n q o) n page h ≡ site_at s n v (set (set ps q o) page h) (hints_at n page h (hints_at n q o s.hints)) =
    ap (λ t. placed t n page h) (placed_is s n q v o there)
    ∙ placed_at s n page v (set ps q o) (hints_at n q o s.hints) h there in
    long
    ∙ ap (λ (xs : List Place). site_at s n v xs (hints_at n page h (hints_at n q o (without_hint n page s.hints)))) (ap (λ (xs : List Place). set xs page h) (set_comm ps page q Untouched o apart) ∙ set_again (set ps q o) page Untouched h)
    ∙ ap (λ (hints : List Hint). site_at s n v (set (set ps q o) page h) (hints_at n page h (hints_at n q o hints))) none
    ∙ sym short

pub private_is_here : (p : Place) → is_here p ≡ false → is_private p ≡ false
private_is_here Untouched h = refl
private_is_here (Here bytes f shared) h = cc
private_is_here (Out bytes i) h = refl
private_is_here (Lent e) h = refl

pub traded : (c : Config) (s : Site) (n page q : ℕ) (v : Vm) (bytes : List ℕ) (f : ℕ) (shared : Bool) (i : ℕ) (new : List ℕ) → Trades c s n page q v bytes f shared i → length new ≡ c.page
    → IsSound c (placed (placed s n q (Out bytes i)) n page (Here new f false))
traded c s n page q v bytes f shared i new t whole =
    let P : Site → Type 0 = IsSound c in
    let gone : is_private (place_of s n page) ≡ false = ap (λ o. is_private (place_in o page)) t.there ∙ private_is_here (place_at v page) t.away in
    subst P (steps_same s n page q v (Out bytes i) (Here new f false) t.there (λ e. other_pages c s n page q v bytes f shared i t (sym e)) refl (no_hint (place_of s) n page s.hints t.sound.hints gone))
    (by_steps c s n page q v bytes f shared i new t whole).in_sound

-- the slot that is taken
pub slot_taken : (c : Config) (s : Site) (e : ℕ) (p : Place) (i : ℕ) → IsPlace c e p → is_here p ≡ false → freed_slot c s p ≡ Some i → (i < c.slots) × IsClear (all_places s) p i
slot_taken c s e Untouched i place away found = slot_unused c.slots s i found
slot_taken c s e (Here bytes f shared) i place away found = cc
slot_taken c s e (Out bytes j) i place away found = (let same : j ≡ i = cc in let P : ℕ → Type 0 = λ k. k < c.slots in (subst P same place.0, same))
slot_taken c s e (Lent d) i place away found = slot_unused c.slots s i found

trade_sound : (c : Config) (s : Site) (n page q : ℕ) (v : Vm) (p : Place) (o : Option ℕ) (r : Answer × Site) → IsSound c s → vm_at s n ≡ Some v → v.state ≡ Running → page < v.spec.max → is_here (place_at v page) ≡ false
    → q < length v.places → place_at v q ≡ p → is_here p ≡ true → free_count c.frames s ≡ 0 → list_any is_above_min s.vms ≡ false → freed_slot c s (place_at v page) ≡ o → trade c s n page (place_at v page) q p o ≡ Ok r → IsSound c r.1
trade_sound c s n page q v Untouched o r sound there running below away within was here none few found h = cc
trade_sound c s n page q v (Out bytes j) o r sound there running below away within was here none few found h = cc
trade_sound c s n page q v (Lent e) o r sound there running below away within was here none few found h = cc
trade_sound c s n page q v (Here bytes f shared) None r sound there running below away within was here none few found h = cc
trade_sound c s n page q v (Here bytes f shared) (Some i) r sound there running below away within was here none few found h =
    let fine = sound.each n v there in
    let within_page : page < length v.places = omega (arith, fine.pages, below) in
    let new = contents c (place_at v page) in
    let v1 = popped page v in
    let s1 = with_vm s n v1 in
    let sound1 = row_only c s n v v1 sound there (popped_becomes c v page fine) refl refl in
    let there1 = vm_there s n v v1 there in
    let full = full_site c s sound none few in
    let own = there in
    let slot = slot_taken c s v.epoch (place_at v page) i (old_place c v page fine within_page) away found in
    let same = places_same s n v v1 s.hints there refl in
    let P : List Place → Type 0 = λ ps. IsClear ps (place_at v page) i in
    let least : (m : ℕ) (w : Vm) → vm_at s1 m ≡ Some w → resident w ≡ w.spec.min = λ m w h. elim (vm_after s n m v1 w s.hints (some_below s.vms n v own) h) [
      | inl e ↦ ap resident e ∙ full.least n v own ∙ ap (λ (x : Vm). x.spec.min) (sym e)
      | inr before ↦ full.least m w before
    ] in
    gives c (answers.Replaced q i f) (placed (placed (with_change s n (popped page)) n q (Out bytes i)) n page (Here new f false)) r h
    (let S : Site → Type 0 = λ t. IsSound c (placed (placed t n q (Out bytes i)) n page (Here new f false)) in
    subst S (sym (with_change_is s n v (popped page) there)) (traded c s1 n page q v1 bytes f shared i new (record {
      sound = sound1;
      there = there1;
      running = running;
      below = below;
      away = away;
      within = within;
      was = was;
      full = record { least = least; single = λ g low. (let R : List Place → Type 0 = λ ps. length (in_frame g ps) ≤ 1 in subst R (sym same) (full.single g low)) };
      slot = slot.0;
      clear = subst P (sym same) slot.1;
    }) (whole_page c v.epoch (place_at v page) (old_place c v page fine within_page))))

for_sound : (c : Config) (s : Site) (n page word : ℕ) (v : Vm) (o : Option ℕ) (r : Answer × Site) → IsSound c s → vm_at s n ≡ Some v → v.state ≡ Running → page < v.spec.max → is_here (place_at v page) ≡ false
    → free_count c.frames s ≡ 0 → list_any is_above_min s.vms ≡ false → victim v word ≡ o → trade_for c s n v page o ≡ Ok r → IsSound c r.1
for_sound c s n page word v None r sound there running below away none few drawn h = cc
for_sound c s n page word v (Some q) r sound there running below away none few drawn h =
    let known = drawn_is_here v word q drawn in
    trade_sound c s n page q v (place_at v q) (freed_slot c s (place_at v page)) r sound there running below away known.0 refl known.1 none few refl h

none_free : (n : ℕ) → nat_lt 0 n ≡ false → n ≡ 0
none_free n h = grind (arith, nat_tests)

pub replace_sound : (c : Config) (s : Site) (n page word : ℕ) (r : Answer × Site) → IsSound c s → replace c s n page word ≡ Ok r → IsSound c r.1
unfolding replace
replace_sound c s n page word r sound h =
    let m = of_vm (vm_at s n) _ r h in
    let v = m.vm in
    let here = is_here (place_at v page) in
    let free = free_count c.frames s in
    let more = list_any is_above_min s.vms in
    let pass = passed (replace_gate (standing v) page here free more) _ r m.then in
    let tests = or_false _ more pass.0.1.1.0 in
    let two = or_false here (nat_lt 0 free) tests.0 in
    for_sound c s n page word v (victim v word) r sound m.there (runs v.state (not_not _ pass.0.0)) (below_max v.spec.max page pass.0.1.0) two.0 (none_free free two.1) tests.1 refl pass.1
