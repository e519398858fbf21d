-- What the reserves give to events: a page that has to go out finds a slot, and one that makes room is alone in its frame.
use Rattle.std.proofs.Common.{◌≡◌, ℕ, ◌+◌, ◌-◌, ◌≤◌, ◌<◌, Bool, true, false, ◌||◌, nat_lt, List, [], ◌∷◌, ◌++◌, length, length-append, refl, ap, ◌∙◌, subst, arith, cond, Option, Some, None, Result, Ok}
use Rattle.std.specs.List.{filter, list_any}
use Rattle.std.proofs.lemmas.Bool.Decides.{nat_tests}
use Rattle.std.proofs.lemmas.List.{length-set}
use Rattle.std.proofs.lemmas.List.Elements.{filter-append}
use Rattle.esx_types.specs.declared.config.Config.{Config}
use Rattle.esx_types.specs.Ranges.{IsConfig}
use Rattle.esx_types.specs.declared.level.Level.{Level}
use Rattle.esx_events.specs.declared.event.Answer.{Answer}
use Rattle.esx_events.specs.declared.event.Answer.TheVariants as answers
use Rattle.esx_events.specs.declared.event.Refusal.{Refusal}
use Rattle.esx_model.specs.declared.look.Look.{Look}
use Rattle.esx_model.specs.declared.look.Look.TheVariants.{Already, SharedFrame, OtherPage, Changed, OtherBytes, Nothing}
use Rattle.esx_model.specs.declared.scene.Place.{Place}
use Rattle.esx_model.specs.declared.scene.Place.TheVariants.{Untouched, Here, Out, Lent}
use Rattle.esx_events.specs.declared.event.Event.{Event}
use Rattle.esx_model.specs.declared.scene.Scene.{Scene}
use Rattle.esx_model.specs.declared.scene.Vm.{Vm}
use Rattle.esx_model.specs.declared.scene.Site.{Site}
use Rattle.esx_model.specs.Places.{is_here, is_here_at, is_out, contents}
use Rattle.esx_model.specs.Site.{vm_at, place_at, resident, paged_out, least_slot, free_count, pages_at, all_places}
use Rattle.esx_model.specs.Show.{in_frame}
use Rattle.esx_model.specs.Hints.{with_place, with_change, placed}
use Rattle.esx_model.specs.event.Outcome.{Outcome, Gate, Passes, at_vm, unless, first, or_else, standing}
use Rattle.esx_model.specs.event.Balloon.{popped}
use Rattle.esx_model.specs.event.Sharing.{look, after_look}
use Rattle.esx_model.specs.event.Paging.{victim, swap_out_gate, to_slot, leave_by, leave, swap_out, is_above_min, replace_gate, freed_slot, trade, trade_for, replace}
use Rattle.esx_model.specs.Laws.{IsFull}
use Rattle.esx_model.specs.sound.Machines.{IsVm, IsPlace}
use Rattle.esx_model.specs.sound.Sound.{IsSound}
use Rattle.esx_model.proofs.Lists.{one, or_false, eqb_same}
use Rattle.esx_model.proofs.Machines.{out_placed, here_placed, apart_counts, drawn_is_here, old_place}
use Rattle.esx_model.proofs.Rooms.{IsIn, pages_at_is}
use Rattle.esx_model.proofs.Kept.{page_is_in}
use Rattle.esx_model.proofs.Counting.{slot_is_there, full_site, drawn}
use Rattle.esx_model.specs.Replay.{run}
use Rattle.esx_model.proofs.EverySound.{every_run_sound}
use Rattle.esx_model.proofs.Gates.{of_vm, passed, accepted}
use Rattle.esx_model.proofs.event.Balloon.{below_max}

-- a gate that nothing stops at
pub passing : {A : Type 0} (gate : Gate) (o : Result A Refusal) → Passes gate → unless gate o ≡ o
passing [] o h = refl
passing (t ∷ ts) o h = ap (λ b. or_else (cond b (Some t.1) (first ts)) o) h.0 ∙ passing ts o h.1

-- pages here and out are different pages
pub here_and_out : (c : Config) (v : Vm) → IsVm c v → resident v + paged_out v ≤ v.spec.max
here_and_out c v fine = let apart = apart_counts v.places in omega (arith, apart, fine.pages)

pub out_on_path : (c : Config) (path : List Event) (t : Scene) (n : ℕ) (v : Vm) → IsConfig c → run c path ≡ Ok t → vm_at t.site n ≡ Some v → paged_out v ≤ v.spec.max - v.spec.min
out_on_path c path t n v fine h there = ((every_run_sound c path t fine h).each n v there).out

-- a machine above its least may page out
pub slot_above_min : (c : Config) (s : Site) (n : ℕ) (v : Vm) → IsSound c s → vm_at s n ≡ Some v → v.spec.min < resident v → (i : ℕ) × (least_slot c.slots s ≡ Some i)
slot_above_min c s n v sound there above =
    let apart = here_and_out c v (sound.each n v there) in
    slot_is_there c s n v sound there (omega (arith, apart, above))

-- A page goes out.

abbrev pub Goes : Outcome → Type 0
Goes o = (r : Answer × Site) × (o ≡ Ok r)

slot_goes : (s : Site) (n page : ℕ) (bytes : List ℕ) (o : Option ℕ) (i : ℕ) → o ≡ Some i → Goes (to_slot s n page bytes o)
slot_goes s n page bytes o i e = ((answers.PagedOut page i, placed s n page (Out bytes i)), ap (to_slot s n page bytes) e)

leave_by_goes : (c : Config) (s : Site) (n page : ℕ) (bytes : List ℕ) (l : Look) (i : ℕ) → least_slot c.slots s ≡ Some i → Goes (leave_by c s n page bytes l)
leave_by_goes c s n page bytes Already i e = slot_goes s n page bytes (least_slot c.slots s) i e
leave_by_goes c s n page bytes (SharedFrame f) i e = ((answers.SharedOut page f, after_look s n page bytes (SharedFrame f)), refl)
leave_by_goes c s n page bytes (OtherPage m q f) i e = ((answers.SharedOut page f, after_look s n page bytes (OtherPage m q f)), refl)
leave_by_goes c s n page bytes Changed i e = slot_goes s n page bytes (least_slot c.slots s) i e
leave_by_goes c s n page bytes OtherBytes i e = slot_goes s n page bytes (least_slot c.slots s) i e
leave_by_goes c s n page bytes Nothing i e = slot_goes s n page bytes (least_slot c.slots s) i e

leave_goes : (c : Config) (s : Site) (n : ℕ) (v : Vm) (o : Option ℕ) (page i : ℕ) → o ≡ Some page → least_slot c.slots s ≡ Some i → Goes (leave c s n v o)
leave_goes c s n v o page i e slot =
    let rest = leave_by_goes c s n page (contents c (place_at v page)) (look s n page (place_at v page)) i slot in
    (rest.0, ap (leave c s n v) e ∙ rest.1)

above_target : (c : Config) (s : Site) (level : Level) (n : ℕ) (v : Vm) → IsSound c s → vm_at s n ≡ Some v → Passes (swap_out_gate level (standing v)) → v.spec.min < resident v
above_target c s level n v sound there passes =
    let fine = sound.each n v there in
    let above = below_max (resident v) v.target passes.1.0 in
    omega (arith, above, fine.least_target)

pub swap_out_finds_slot : (c : Config) (s : Site) (level : Level) (n : ℕ) (v : Vm) → IsSound c s → vm_at s n ≡ Some v → Passes (swap_out_gate level (standing v)) → (i : ℕ) × (least_slot c.slots s ≡ Some i)
swap_out_finds_slot c s level n v sound there passes = slot_above_min c s n v sound there (above_target c s level n v sound there passes)

pub swap_out_goes : (c : Config) (s : Site) (level : Level) (n word : ℕ) (v : Vm) → IsSound c s → vm_at s n ≡ Some v → Passes (swap_out_gate level (standing v)) → Goes (swap_out c s level n word)
unfolding swap_out
swap_out_goes c s level n word v sound there passes =
    let above = above_target c s level n v sound there passes in
    let slot = swap_out_finds_slot c s level n v sound there passes in
    let page = drawn v word (omega (arith, above)) in
    let rest = leave_goes c s n v (victim v word) page.0 slot.0 page.1 slot.1 in (
      rest.0,
      ap (λ o. at_vm o (λ w. unless (swap_out_gate level (standing w)) (leave c s n w (victim w word)))) there
          ∙ passing (swap_out_gate level (standing v)) (leave c s n v (victim v word)) passes ∙ rest.1,
    )

-- A page makes room.

abbrev gate_of : Config → Site → ℕ → Vm → Gate
gate_of c s page v = replace_gate (standing v) page (is_here (place_at v page)) (free_count c.frames s) (list_any is_above_min s.vms)

-- what passes the gate of a Replace
pub record IsWanted (c : Config) (s : Site) (page : ℕ) (v : Vm) : Type 0 where
  pub below : page < v.spec.max
  pub away : is_here (place_at v page) ≡ false
  pub none : free_count c.frames s ≡ 0
  pub few : list_any is_above_min s.vms ≡ false

pub wanted : (c : Config) (s : Site) (page : ℕ) (v : Vm) → Passes (gate_of c s page v) → IsWanted c s page v
wanted c s page v passes =
    let parts = or_false (is_here (place_at v page) || nat_lt 0 (free_count c.frames s)) (list_any is_above_min s.vms) passes.1.1.0 in
    let more = or_false (is_here (place_at v page)) (nat_lt 0 (free_count c.frames s)) parts.0 in
    record { below = below_max v.spec.max page passes.1.0; away = more.0; none = no_more (free_count c.frames s) more.1; few = parts.1 }
  where
    no_more : (k : ℕ) → nat_lt 0 k ≡ false → k ≡ 0
    no_more k h = grind (arith, nat_tests)

-- the wanted page is in no frame and in no slot, so fewer than all others are out
away_less : (c : Config) (s : Site) (page : ℕ) (v : Vm) → IsVm c v → page < length v.places → is_here (place_at v page) ≡ false → is_out (place_at v page) ≡ false → resident v + paged_out v < v.spec.max
away_less c s page v fine within away kept =
    let w = with_place page (Out [] 0) v in
    let here = here_placed v page (Out [] 0) within in
    let out = out_placed v page (Out [] 0) within in
    let apart = apart_counts w.places in
    let no_here : one (is_here (place_at v page)) ≡ 0 = ap one away in
    let no_out : one (is_out (place_at v page)) ≡ 0 = ap one kept in
    let same = length-set v.places page (Out [] 0) in
    omega (arith, here, out, apart, no_here, no_out, same, fine.pages)

-- the slot for the page that makes room
freed_goes : (c : Config) (s : Site) (p : Place) → (is_out p ≡ false → (i : ℕ) × (least_slot c.slots s ≡ Some i)) → is_here p ≡ false → (i : ℕ) × (freed_slot c s p ≡ Some i)
freed_goes c s Untouched slot away = slot refl
freed_goes c s (Here bytes f shared) slot away = slot refl
freed_goes c s (Out bytes i) slot away = (i, refl)
freed_goes c s (Lent e) slot away = slot refl

pub replace_finds_free_slot : (c : Config) (s : Site) (n page : ℕ) (v : Vm) → IsSound c s → vm_at s n ≡ Some v → Passes (gate_of c s page v) → is_out (place_at v page) ≡ false
    → (i : ℕ) × (least_slot c.slots s ≡ Some i)
replace_finds_free_slot c s n page v sound there passes kept =
    let fine = sound.each n v there in
    let w = wanted c s page v passes in
    let least = (full_site c s sound w.none w.few).least n v there in
    let less = away_less c s page v fine (omega (arith, fine.pages, w.below)) w.away kept in
    slot_is_there c s n v sound there (omega (arith, less, least))

replace_finds_slot : (c : Config) (s : Site) (n page : ℕ) (v : Vm) → IsSound c s → vm_at s n ≡ Some v → Passes (gate_of c s page v) → (i : ℕ) × (freed_slot c s (place_at v page) ≡ Some i)
replace_finds_slot c s n page v sound there passes =
    freed_goes c s (place_at v page) (λ kept. replace_finds_free_slot c s n page v sound there passes kept) (wanted c s page v passes).away

trade_goes : (c : Config) (s : Site) (n page : ℕ) (to : Place) (q : ℕ) (p : Place) (o : Option ℕ) (i : ℕ) → is_here p ≡ true → o ≡ Some i → Goes (trade c s n page to q p o)
trade_goes c s n page to q Untouched o i h e = cc
trade_goes c s n page to q (Here bytes f shared) o i h e =
    ((answers.Replaced q i f, placed (placed (with_change s n (popped page)) n q (Out bytes i)) n page (Here (contents c to) f false)), ap (trade c s n page to q (Here bytes f shared)) e)
trade_goes c s n page to q (Out bytes j) o i h e = cc
trade_goes c s n page to q (Lent d) o i h e = cc

trade_for_goes : (c : Config) (s : Site) (n : ℕ) (v : Vm) (page word q i : ℕ) → victim v word ≡ Some q → freed_slot c s (place_at v page) ≡ Some i → Goes (trade_for c s n v page (victim v word))
trade_for_goes c s n v page word q i e slot =
    let known = drawn_is_here v word q e in
    let rest = trade_goes c s n page (place_at v page) q (place_at v q) (freed_slot c s (place_at v page)) i known.1 slot in
    (rest.0, ap (trade_for c s n v page) e ∙ rest.1)

pub replace_goes : (c : Config) (s : Site) (n page word : ℕ) (v : Vm) → IsSound c s → vm_at s n ≡ Some v → Passes (gate_of c s page v) → Goes (replace c s n page word)
unfolding replace
replace_goes c s n page word v sound there passes =
    let fine = sound.each n v there in
    let w = wanted c s page v passes in
    let least = (full_site c s sound w.none w.few).least n v there in
    let slot = replace_finds_slot c s n page v sound there passes in
    let q = drawn v word (omega (arith, least, fine.good.least_min)) in
    let rest = trade_for_goes c s n v page word q.0 slot.0 q.1 slot.1 in (
      rest.0,
      ap (λ o. at_vm o (λ x. unless (gate_of c s page x) (trade_for c s n x page (victim x word)))) there
          ∙ passing (gate_of c s page v) (trade_for c s n v page (victim v word)) passes ∙ rest.1,
    )

-- The page that makes room is alone in its frame.

some_in : (ps : List Place) (bytes : List ℕ) (f : ℕ) (shared : Bool) → IsIn ps (Here bytes f shared) → 1 ≤ length (in_frame f ps)
some_in ps bytes f shared i =
    let p : Place = Here bytes f shared in
    let fs = filter (is_here_at f) i.front in
    let bs = filter (is_here_at f) i.back in
    let split : in_frame f ps ≡ fs ++ p ∷ bs = ap (in_frame f) i.is ∙ filter-append (is_here_at f) i.front (p ∷ i.back) ∙ ap (λ b. fs ++ cond b (p ∷ bs) bs) (eqb_same f) in
    let both = length-append fs (p ∷ bs) in
    omega (arith, ap length split, both)

answer_same : (a b : Answer) (t u : Site) → accepted a t ≡ Ok (b, u) → a ≡ b
answer_same a b t u h = let pair : (a, t) ≡ (b, u) = cc in ap (λ (x : Answer × Site). x.0) pair

traded_frame : (c : Config) (s : Site) (n page : ℕ) (to : Place) (q : ℕ) (p : Place) (o : Option ℕ) (a slot f : ℕ) (t : Site) → trade c s n page to q p o ≡ Ok (answers.Replaced a slot f, t)
    → (bytes : List ℕ) × (shared : Bool) × (p ≡ Here bytes f shared)
traded_frame c s n page to q Untouched o a slot f t h = cc
traded_frame c s n page to q (Here bytes g shared) None a slot f t h = cc
traded_frame c s n page to q (Here bytes g shared) (Some i) a slot f t h = (
  bytes,
  shared,
  (let e = answer_same (answers.Replaced q i g) (answers.Replaced a slot f) (placed (placed (with_change s n (popped page)) n q (Out bytes i)) n page (Here (contents c to) g false)) t h in cc),
)
traded_frame c s n page to q (Out bytes j) o a slot f t h = cc
traded_frame c s n page to q (Lent d) o a slot f t h = cc

here_below : (c : Config) (e : ℕ) (p : Place) (bytes : List ℕ) (f : ℕ) (shared : Bool) → IsPlace c e p → p ≡ Here bytes f shared → f < c.frames
here_below c e p bytes f shared h is = let P : Place → Type 0 = IsPlace c e in (subst P is h).0

victim_alone : (c : Config) (s : Site) (n page word : ℕ) (v : Vm) (o : Option ℕ) (a slot f : ℕ) (t : Site) → IsSound c s → vm_at s n ≡ Some v → IsFull c s → victim v word ≡ o
    → trade_for c s n v page o ≡ Ok (answers.Replaced a slot f, t) → pages_at f s ≡ 1
victim_alone c s n page word v None a slot f t sound there full e h = cc
victim_alone c s n page word v (Some q) a slot f t sound there full e h =
    let fine = sound.each n v there in
    let known = drawn_is_here v word q e in
    let is = traded_frame c s n page (place_at v page) q (place_at v q) (freed_slot c s (place_at v page)) a slot f t h in
    let P : Place → Type 0 = IsIn (all_places s) in
    let some = some_in (all_places s) is.0 f is.1 (subst P is.2 (page_is_in s n q v there known.0)) in
    let most = full.single f (here_below c v.epoch (place_at v q) is.0 f is.1 (old_place c v q fine known.0) is.2) in
    let count = pages_at_is f s in
    omega (arith, some, most, count)

pub replaced_alone : (c : Config) (s : Site) (n page word q slot f : ℕ) (t : Site) → IsSound c s → replace c s n page word ≡ Ok (answers.Replaced q slot f, t) → pages_at f s ≡ 1
unfolding replace
replaced_alone c s n page word q slot f t sound h =
    let m = of_vm (vm_at s n) _ (answers.Replaced q slot f, t) h in
    let pass = passed (gate_of c s page m.vm) _ (answers.Replaced q slot f, t) m.then in
    let w = wanted c s page m.vm pass.0 in
    victim_alone c s n page word m.vm (victim m.vm word) q slot f t sound m.there (full_site c s sound w.none w.few) refl pass.1
