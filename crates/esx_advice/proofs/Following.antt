-- What is advised straight after an advised event.
use Rattle.std.proofs.Common.{◌≡◌, zero, suc, ℕ, ◌+◌, ◌-◌, ◌<◌, ◌≤◌, nat_lt, nat_le, Bool, true, false, not, ◌&&◌, ◌||◌, List, [], ◌∷◌, length, get_or, sum_by, refl, sym, ap, ◌∙◌, subst, arith, cond, Option, Some, None, is_some, Result, Ok, inl, inr}
use Rattle.std.specs.List.{list_any, range_with_len}
use Rattle.std.proofs.lemmas.List.{get_or-set_same, length-set, length-map}
use Rattle.std.proofs.lemmas.List.Sums.{sum_by-cons}
use Rattle.std.proofs.lemmas.Bool.Decides.{nat_tests}
use Rattle.esx_lists.specs.Counts.{one}
use Rattle.esx_types.specs.declared.config.Config.{Config}
use Rattle.esx_types.specs.declared.level.Level.{Level}
use Rattle.esx_types.specs.declared.level.Level.TheVariants.{High, Soft, Hard, Low}
use Rattle.esx_types.specs.Frames.{is_free}
use Rattle.esx_events.specs.declared.call.Help.{Help}
use Rattle.esx_events.specs.declared.call.Help.TheVariants as helps
use Rattle.esx_events.specs.declared.event.Answer.{Answer}
use Rattle.esx_events.specs.declared.event.Answer.TheVariants as answers
use Rattle.esx_events.specs.declared.event.Event.TheVariants as events
use Rattle.esx_events.specs.declared.event.Refusal.{Refusal}
use Rattle.esx_formulas.specs.declared.targets.Row.{Row}
use Rattle.esx_formulas.specs.Ratio.{Claim, row_at, AreAtFloor}
use Rattle.esx_formulas.specs.Targets.{held, spare, AreTargets, first_claim, targets_of}
use Rattle.esx_formulas.proofs.Gaps.{below_or_above, gap-none}
use Rattle.esx_formulas.proofs.TargetLaws.{all_held, revoked_is_gap, held_at}
use Rattle.esx_model.specs.declared.scene.Place.{Place}
use Rattle.esx_model.specs.declared.scene.Place.TheVariants.{Untouched, Here, Out, Lent}
use Rattle.esx_model.specs.declared.scene.Vm.{Vm}
use Rattle.esx_model.specs.declared.scene.Site.{Site}
use Rattle.esx_model.specs.declared.scene.Scene.{Scene}
use Rattle.esx_model.specs.Places.{is_here, contents}
use Rattle.esx_model.specs.Site.{is_named, least_free, free_count, vm_at, place_at, place_in, resident, pages_at}
use Rattle.esx_model.specs.Show.{in_frame}
use Rattle.esx_model.specs.Hints.{with_place, with_change, placed}
use Rattle.esx_model.specs.event.Outcome.{standing, is_running, page_gate, unless}
use Rattle.esx_model.specs.event.Access.{is_low, is_blocked, write_frame}
use Rattle.esx_model.specs.event.Balloon.{popped}
use Rattle.esx_model.specs.event.Paging.{victim, has_more, is_above_min, replace_gate, freed_slot, trade, trade_for, replace}
use Rattle.esx_model.specs.event.Rebalancing.{row_of_vm, rows_from, rows_of, min_of, with_targets, need, rebalance}
use Rattle.esx_model.specs.Advice.{can_write, help_by, target_of, help_for, help_at, advice}
use Rattle.esx_model.specs.Replay.{next}
use Rattle.esx_model.specs.sound.Sound.{IsSound}
use Rattle.esx_model.proofs.Callers.{step_of, of_vm, passed, same_site, below_max, passing, with_change_is, vm_there, vm_placed_there, full_site, drawn_is_here, here_placed, free_row, row_same, pages_at_is}
use Rattle.esx_model.proofs.RowsOfSite.{site_targets}
use Rattle.esx_model.proofs.Shown.{find_same}
use Rattle.esx_model.proofs.event.Rebalancing.{places_retargeted, overhead_retargeted, place_retargeted}
use Rattle.esx_advice.proofs.AdviceTaken as taken
use Rattle.esx_advice.proofs.AdviceTaken.{none_of_both, not_both, at_its_target, none_free, short, has_row, claims, low_is}
use Rattle.esx_advice.proofs.Scenes.{Fits, fits_next}

-- Advice, from what it rests on.

gate_passes : (v : Vm) (page : ℕ) (r : Result Help Refusal) → not (is_running v.state) ≡ false → nat_le v.spec.max page ≡ false → unless (page_gate (standing v) page) r ≡ r
gate_passes v page r runs below = passing (page_gate (standing v) page) r (runs, (below, tt))

-- the advice for a page of a machine that runs
pub advice_is : (c : Config) (t : Scene) (n page : ℕ) (v : Vm) (h : Help) → vm_at t.site n ≡ Some v → not (is_running v.state) ≡ false → nat_le v.spec.max page ≡ false → help_for c t v page ≡ h → advice c t n page ≡ Ok h
unfolding advice
advice_is c t n page v h there runs below is =
    ap (λ o. help_at c t o page) there ∙ gate_passes v page (Ok (help_for c t v page)) runs below ∙ ap (λ x. let r : Result Help Refusal = Ok x in r) is

-- After a replace.

page_comes : (c : Config) (t : Scene) (v : Vm) (page : ℕ) (bytes : List ℕ) (f : ℕ) → place_at v page ≡ Here bytes f false → resident v ≤ v.target → can_write c t v page ≡ true
page_comes c t v page bytes f was few =
    let free = none_of_both (is_low t.level) (nat_lt v.target (resident v)) (at_its_target v.target (resident v) few) in
    ap (λ b. not b && is_some (write_frame c t.site (place_at v page))) free ∙ ap (λ p. is_some (write_frame c t.site p)) was

-- what a trade leaves of its machine
record IsIn (s : Site) (n page : ℕ) (v : Vm) : Type 0 where
  vm : Vm
  there : vm_at s n ≡ Some vm
  state : vm.state ≡ v.state
  max : vm.spec.max ≡ v.spec.max
  target : vm.target ≡ v.target
  bytes : List ℕ
  frame : ℕ
  place : place_at vm page ≡ Here bytes frame false
  most : resident vm ≤ resident v

traded_in : (c : Config) (s : Site) (n page : ℕ) (v : Vm) (q : ℕ) (p : Place) (o : Option ℕ) (r : Answer × Site) → vm_at s n ≡ Some v → page < length v.places → q < length v.places → place_at v q ≡ p
    → trade c s n page (place_at v page) q p o ≡ Ok r → IsIn r.1 n page v
traded_in c s n page v q Untouched o r there within low was h = cc
traded_in c s n page v q (Out bytes j) o r there within low was h = cc
traded_in c s n page v q (Lent e) o r there within low was h = cc
traded_in c s n page v q (Here bytes f shared) None r there within low was h = cc
traded_in c s n page v q (Here bytes f shared) (Some i) r there within low was h =
    let new = contents c (place_at v page) in
    let v1 = popped page v in
    let s1 = with_change s n (popped page) in
    let there1 : vm_at s1 n ≡ Some v1 = ap (λ t. vm_at t n) (with_change_is s n v (popped page) there) ∙ vm_there s n v v1 there in
    let out : Place = Out bytes i in
    let v2 = with_place q out v1 in
    let s2 = placed s1 n q out in
    let there2 = vm_placed_there s1 n q v1 out there1 in
    let here : Place = Here new f false in
    let v3 = with_place page here v2 in
    let there3 = vm_placed_there s2 n page v2 here there2 in
    let len = length-set v.places q out in
    let within2 : page < length v2.places = omega (arith, len, within) in
    let left = here_placed v1 q out low in
    let come = here_placed v2 page here within2 in
    let was_here : one (is_here (place_at v1 q)) ≡ 1 = ap (λ x. one (is_here x)) was in
    record {
      vm = v3;
      there = ap (λ t. vm_at t n) (sym (same_site (answers.Replaced q i f) (placed s2 n page here) r h)) ∙ there3;
      state = refl;
      max = refl;
      target = refl;
      bytes = new;
      frame = f;
      place = get_or-set_same v2.places page here Untouched within2;
      most = omega (arith, left, come, was_here);
    }

traded_for : (c : Config) (s : Site) (n page word : ℕ) (v : Vm) (o : Option ℕ) (r : Answer × Site) → vm_at s n ≡ Some v → page < length v.places → victim v word ≡ o → trade_for c s n v page o ≡ Ok r → IsIn r.1 n page v
traded_for c s n page word v None r there within drawn h = cc
traded_for c s n page word v (Some q) r there within drawn h =
    traded_in c s n page v q (place_at v q) (freed_slot c s (place_at v page)) r there within (drawn_is_here v word q drawn).0 refl h

replaced : (c : Config) (t u : Scene) (n page word : ℕ) (r : Answer × Site) → IsSound c t.site → replace c t.site n page word ≡ Ok r → r.1 ≡ u.site → advice c u n page ≡ Ok helps.Go
unfolding replace
replaced c t u n page word r sound h after =
    let s = t.site in
    let own = of_vm (vm_at s n) _ r h in
    let v = own.vm in
    let free = free_count c.frames s in
    let more = list_any is_above_min s.vms in
    let pass = passed (replace_gate (standing v) page (is_here (place_at v page)) free more) _ r own.then in
    let tests = taken_or (is_here (place_at v page) || nat_lt 0 free) more pass.0.1.1.0 in
    let two = taken_or (is_here (place_at v page)) (nat_lt 0 free) tests.0 in
    let none : free ≡ 0 = nothing free two.1 in
    let fine = sound.each n v own.there in
    let below = below_max v.spec.max page pass.0.1.0 in
    let within : page < length v.places = omega (arith, fine.pages, below) in
    let i = traded_for c s n page word v (victim v word) r own.there within refl pass.1 in
    let full = (full_site c s sound none tests.1).least n v own.there in
    let most = i.most in
    let target = i.target in
    let can = page_comes c u i.vm page i.bytes i.frame i.place (omega (arith, full, most, target, fine.least_target)) in
    advice_is c u n page i.vm helps.Go (ap (λ x. vm_at x n) (sym after) ∙ i.there) (ap (λ x. not (is_running x)) i.state ∙ pass.0.0) (ap (λ k. nat_le k page) i.max ∙ pass.0.1.0)
    (ap (λ b. cond b helps.Go (help_by (list_any is_above_min u.site.vms) (first_claim (rows_of target_of u.site)))) can)
  where
    taken_or : (a b : Bool) → (a || b) ≡ false → (a ≡ false) × (b ≡ false)
    taken_or false b h = (refl, h)
    taken_or true b h = cc

    nothing : (n : ℕ) → nat_lt 0 n ≡ false → n ≡ 0
    nothing n h = grind (arith, nat_tests)

pub go_follows : (c : Config) (t u : Scene) (n page word : ℕ) (a : Answer) → Fits c t → next c t (events.Replace n page word) ≡ Ok (a, u) → advice c u n page ≡ Ok helps.Go
go_follows c t u n page word a fits h =
    let s = step_of c t (events.Replace n page word) (a, u) h in
    replaced c t u n page word s.0 fits.sound s.1 s.3

-- After a rebalance.

record Resets (b above : Bool) (o : Option Claim) : Type 0 where
  not_now : b ≡ false
  some : above ≡ true
  none : o ≡ None

reset_named : (b above : Bool) (o : Option Claim) → cond b helps.Go (help_by above o) ≡ helps.Rebalance → Resets b above o
reset_named true above o e = cc
reset_named false above (Some a) e = cc
reset_named false true None e = record { not_now = refl; some = refl; none = refl }
reset_named false false None e = cc

abbrev retargeted : Site → List ℕ → Site
retargeted s ts = record s { vms = with_targets s.vms ts }

-- Frames are as they were.

names_same : (s : Site) (ts : List ℕ) (f : ℕ) → not (is_named (retargeted s ts) f) ≡ not (is_named s f)
names_same s ts f =
    sym (free_row (retargeted s ts) f) ∙ ap is_free (row_same s (retargeted s ts) f (overhead_retargeted s ts) (ap (in_frame f) (places_retargeted s ts))) ∙ free_row s f

least_same : (frames : ℕ) (s : Site) (ts : List ℕ) → least_free frames (retargeted s ts) ≡ least_free frames s
unfolding least_free
least_same frames s ts = find_same (λ f. not (is_named s f)) (λ f. not (is_named (retargeted s ts) f)) (range_with_len 0 frames) (names_same s ts)

count_same : (f : ℕ) (s : Site) (ts : List ℕ) → pages_at f (retargeted s ts) ≡ pages_at f s
count_same f s ts = pages_at_is f (retargeted s ts) ∙ ap (λ ps. length (in_frame f ps)) (places_retargeted s ts) ∙ sym (pages_at_is f s)

frame_same : (c : Config) (s : Site) (ts : List ℕ) (p : Place) → write_frame c (retargeted s ts) p ≡ write_frame c s p
frame_same c s ts Untouched = least_same c.frames s ts
frame_same c s ts (Out bytes i) = least_same c.frames s ts
frame_same c s ts (Lent e) = least_same c.frames s ts
frame_same c s ts (Here bytes f shared) =
    ap (λ k. cond (shared && nat_lt 1 k) (least_free c.frames (retargeted s ts)) (Some f)) (count_same f s ts)
    ∙ ap (λ o. cond (shared && nat_lt 1 (pages_at f s)) o (Some f)) (least_same c.frames s ts)

-- The machine with its new target.

record IsRetargeted (ws : List (Option Vm)) (n : ℕ) (v : Vm) : Type 0 where
  vm : Vm
  there : get_or ws n None ≡ Some vm
  state : vm.state ≡ v.state
  max : vm.spec.max ≡ v.spec.max

retargeted_vm : (vms : List (Option Vm)) (ts : List ℕ) (n : ℕ) (v : Vm) → get_or vms n None ≡ Some v → IsRetargeted (with_targets vms ts) n v
retargeted_vm [] ts n v h = cc
retargeted_vm (None ∷ vms) ts zero v h = cc
retargeted_vm (None ∷ vms) ts (suc n) v h = (let r = retargeted_vm vms ts n v h in record { vm = r.vm; there = r.there; state = r.state; max = r.max })
retargeted_vm (Some w ∷ vms) [] zero v h =
    let one : w ≡ v = cc in
    record { vm = w; there = refl; state = ap (λ (x : Vm). x.state) one; max = ap (λ (x : Vm). x.spec.max) one }
retargeted_vm (Some w ∷ vms) [] (suc n) v h = (let r = retargeted_vm vms [] n v h in record { vm = r.vm; there = r.there; state = r.state; max = r.max })
retargeted_vm (Some w ∷ vms) (t ∷ ts) zero v h =
    let one : w ≡ v = cc in
    record { vm = record w { target = t }; there = refl; state = ap (λ (x : Vm). x.state) one; max = ap (λ (x : Vm). x.spec.max) one }
retargeted_vm (Some w ∷ vms) (t ∷ ts) (suc n) v h = (let r = retargeted_vm vms ts n v h in record { vm = r.vm; there = r.there; state = r.state; max = r.max })

-- Its row: as many pages, and the target as its floor.

record RowAfter (tau n : ℕ) (vms : List (Option Vm)) (ts : List ℕ) (i : ℕ) : Type 0 where
  below : i < length (rows_from tau target_of n (with_targets vms ts))
  pages : (row_at (rows_from tau target_of n (with_targets vms ts)) i).pages ≡ (row_at (rows_from tau min_of n vms) i).pages
  floor : (row_at (rows_from tau target_of n (with_targets vms ts)) i).floor ≡ get_or ts i 0

row_after : (tau n : ℕ) (vms : List (Option Vm)) (ts : List ℕ) (i : ℕ) → length ts ≡ length (rows_from tau min_of n vms) → i < length ts → RowAfter tau n vms ts i
row_after tau n [] ts i len below = absurd (omega arith)
row_after tau n (None ∷ vms) ts i len below = (let r = row_after tau (n + 1) vms ts i len below in record { below = r.below; pages = r.pages; floor = r.floor })
row_after tau n (Some v ∷ vms) [] i len below = absurd (omega arith)
row_after tau n (Some v ∷ vms) (t ∷ ts) zero len below = record { below = omega arith; pages = refl; floor = refl }
row_after tau n (Some v ∷ vms) (t ∷ ts) (suc i) len below =
    let r = row_after tau (n + 1) vms ts i (omega (arith, len)) (omega (arith, below)) in
    let less = r.below in
    record { below = omega (arith, less); pages = r.pages; floor = r.floor }

-- Some machine has more than its least, so some pages can be revoked.

spare_some : (tau n : ℕ) (vms : List (Option Vm)) → list_any is_above_min vms ≡ true → 1 ≤ sum_by spare (rows_from tau min_of n vms)
spare_some tau n [] h = cc
spare_some tau n (None ∷ vms) h = spare_some tau (n + 1) vms h
spare_some tau n (Some v ∷ vms) h = of (has_more (standing v)) refl h (spare_some tau (n + 1) vms)
  where
    more : (a b : ℕ) → nat_lt a b ≡ true → 1 ≤ b - a
    more a b k = grind (arith, nat_tests)

    of : (b : Bool) → has_more (standing v) ≡ b → (b || list_any is_above_min vms) ≡ true → (list_any is_above_min vms ≡ true → 1 ≤ sum_by spare (rows_from tau min_of (n + 1) vms)) → 1 ≤ sum_by spare (rows_from tau min_of n (Some v ∷ vms))
    of true e k rest =
        let a = sum_by-cons spare (row_of_vm tau n (min_of v) v) (rows_from tau min_of (n + 1) vms) in
        let some = more v.spec.min (resident v) e in
        omega (arith, a, some)
    of false e k rest =
        let a = sum_by-cons spare (row_of_vm tau n (min_of v) v) (rows_from tau min_of (n + 1) vms) in
        let some = rest k in
        omega (arith, a, some)

-- a row that is left with less than it has
record IsRevoked (rows : List Row) (ts : List ℕ) : Type 0 where
  at : ℕ
  within : at < length ts
  above : get_or ts at 0 < (row_at rows at).pages

some_revoked : (rows : List Row) (wanted : ℕ) (ts : List ℕ) → AreTargets rows wanted ts → 1 ≤ wanted → 1 ≤ sum_by spare rows → IsRevoked rows ts
some_revoked rows wanted ts are some more = elim (below_or_above (all_held rows) ts (let count = are.count in omega (arith, length-map rows held, count))) [
  | inl below ↦ (let none = gap-none (all_held rows) ts below in
      let is = revoked_is_gap rows ts in
      let total = are.total in
      absurd (omega (arith, none, is, total, some, more)))
  | inr a ↦ (let within = a.within in
      let count = are.count in
      let low : a.at < length rows = omega (arith, within, count) in
      let had = held_at rows a.at low in
      let least = are.least a.at low in
      let above = a.above in
      record { at = a.at; within = within; above = omega (arith, had, least, above) })
]

claimed : (c : Config) (t u : Scene) (n page : ℕ) (w : Vm) (o : Option Claim) → IsSound c u.site → vm_at u.site n ≡ Some w → not (is_running w.state) ≡ false → nat_le w.spec.max page ≡ false → can_write c u w page ≡ false
    → first_claim (rows_of target_of u.site) ≡ o → (AreAtFloor (rows_of target_of u.site) → ⊥) → (m : ℕ) × (advice c u n page ≡ Ok (helps.SwapOut m))
claimed c t u n page w None sound there runs below unable found some = absurd (some (claims c u.site None sound found))
claimed c t u n page w (Some a) sound there runs below unable found some = (
  a.vm,
  advice_is c u n page w (helps.SwapOut a.vm) there runs below
      (ap (λ b. cond b helps.Go (help_by (list_any is_above_min u.site.vms) (first_claim (rows_of target_of u.site)))) unable
      ∙ ap (help_by (list_any is_above_min u.site.vms)) found),
)

-- new targets at the deepest level
lowly : (c : Config) (s : Site) (level : Level) (r : Answer × Site) → level ≡ Low → rebalance c s level ≡ Ok r → retargeted s (targets_of (rows_of min_of s) (need c s)) ≡ r.1
unfolding rebalance
lowly c s High r low h = cc
lowly c s Soft r low h = cc
lowly c s Hard r low h = cc
lowly c s Low r low h = same_site _ (retargeted s (targets_of (rows_of min_of s) (need c s))) r h

wanted : (c : Config) (s : Site) → free_count c.frames s ≡ 0 → 1 ≤ need c s
wanted c s none = omega (arith, none)

pub swap_out_follows : (c : Config) (t u : Scene) (n page : ℕ) (a : Answer) → Fits c t → advice c t n page ≡ Ok helps.Rebalance → next c t events.Rebalance ≡ Ok (a, u) → (m : ℕ) × (advice c u n page ≡ Ok (helps.SwapOut m))
unfolding rows_of
swap_out_follows c t u n page a fits advised h =
    let s = t.site in
    let b = taken.advised c t n page helps.Rebalance advised in
    let v = b.vm in
    let names = reset_named (can_write c t v page) (list_any is_above_min s.vms) (first_claim (rows_of target_of s)) b.help in
    let floors = claims c s None fits.sound names.none in
    let row = has_row s.tau target_of 0 s.vms n v b.there in
    let most : resident v ≤ v.target = (let one = floors.none row.at row.below in let two = row.pages in let three = row.least in omega (arith, one, two, three)) in
    let free = none_of_both (is_low t.level) (nat_lt v.target (resident v)) (at_its_target v.target (resident v) most) in
    let no_frame = not_both (not (is_blocked t.level (standing v))) (is_some (write_frame c s (place_at v page))) names.not_now (ap not free) in
    let none = none_free c.frames s (short c s (place_at v page) no_frame).none in
    let low = fits.low n v b.there none in
    let q = step_of c t events.Rebalance (a, u) h in
    let ts = targets_of (rows_of min_of s) (need c s) in
    let after : retargeted s ts ≡ u.site = lowly c s t.level q.0 low q.1 ∙ q.3 in
    let later = fits_next c t events.Rebalance (a, u) fits h in
    let w = retargeted_vm s.vms ts n v b.there in
    let there : vm_at u.site n ≡ Some w.vm = ap (λ x. vm_at x n) (sym after) ∙ w.there in
    let place : place_at w.vm page ≡ place_at v page = ap (λ o. place_in o page) (sym w.there) ∙ place_retargeted s.vms ts n page ∙ ap (λ o. place_in o page) b.there in
    let frame : is_some (write_frame c u.site (place_at w.vm page)) ≡ false =
    ap (λ x. is_some (write_frame c x (place_at w.vm page))) (sym after) ∙ ap (λ p. is_some (write_frame c (retargeted s ts) p)) place ∙ ap is_some (frame_same c s ts (place_at v page)) ∙ no_frame in
    let unable : can_write c u w.vm page ≡ false = none_of_both (not (is_blocked u.level (standing w.vm))) (is_some (write_frame c u.site (place_at w.vm page))) frame in
    let one = site_targets c s (need c s) fits.sound in
    let are : AreTargets (rows_of min_of s) (need c s) ts = (one.one ts).1 refl in
    let i = some_revoked (rows_of min_of s) (need c s) ts are (wanted c s none) (spare_some s.tau 0 s.vms names.some) in
    let r = row_after s.tau 0 s.vms ts i.at are.count i.within in
    let P : Site → Type 0 = λ x. AreAtFloor (rows_of target_of x) → ⊥ in
    let some : AreAtFloor (rows_of target_of (retargeted s ts)) → ⊥ = λ k. (
    let all = k.none i.at r.below in let pages = r.pages in let floor = r.floor in let above = i.above in absurd (omega (arith, all, pages, floor, above))) in
    claimed c t u n page w.vm (first_claim (rows_of target_of u.site)) later.sound there (ap (λ x. not (is_running x)) w.state ∙ b.runs) (ap (λ k. nat_le k page) w.max ∙ b.below) unable refl (subst P after some)
