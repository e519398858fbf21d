-- What is advised can be done.
use Rattle.std.proofs.Common.{◌≡◌, zero, suc, ℕ, ◌+◌, ◌<◌, ◌≤◌, nat_lt, nat_le, Bool, true, false, not, ◌&&◌, List, [], ◌∷◌, length, get_or, count_by, refl, sym, ap, ◌∙◌, subst, arith, cond, Option, Some, None, is_some, Result, Ok, Err, ◌⊎◌, inl, inr}
use Rattle.std.specs.Option.{MatchOption}
use Rattle.std.specs.List.{list_any, find, range_with_len}
use Rattle.std.proofs.lemmas.Bool.{lt-leb, leb-false}
use Rattle.std.proofs.lemmas.Bool.Decides.{nat_tests}
use Rattle.std.proofs.lemmas.List.Sums.{sum_by-cons}
use Rattle.esx_lists.specs.Counts.{one}
use Rattle.esx_types.specs.declared.config.Config.{Config}
use Rattle.esx_types.specs.declared.config.TheConstants.{VM_NUMBERS}
use Rattle.esx_types.specs.declared.level.Level.{Level}
use Rattle.esx_types.specs.declared.level.Level.TheVariants.{High, Soft, Hard, Low}
use Rattle.esx_events.specs.declared.call.Help.{Help}
use Rattle.esx_events.specs.declared.call.Help.TheVariants as helps
use Rattle.esx_events.specs.declared.event.Answer.{Answer}
use Rattle.esx_events.specs.declared.event.Answer.TheVariants as answers
use Rattle.esx_events.specs.declared.event.Event.{Event}
use Rattle.esx_events.specs.declared.event.Event.TheVariants as events
use Rattle.esx_events.specs.declared.event.Refusal.{Refusal}
use Rattle.esx_formulas.specs.declared.targets.Row.{Row}
use Rattle.esx_formulas.specs.Level.{next_level}
use Rattle.esx_formulas.specs.Ratio.{Claim, row_at, AreAtFloor, HasLeastRatio}
use Rattle.esx_formulas.specs.Targets.{first_claim}
use Rattle.esx_formulas.proofs.Claims.{first_found, least_of_found}
use Rattle.esx_formulas.proofs.LevelLaws.{low_with_none_free}
use Rattle.esx_model.specs.declared.scene.Place.{Place}
use Rattle.esx_model.specs.declared.scene.Place.TheVariants.{Untouched, Here, Out, Lent}
use Rattle.esx_model.specs.declared.scene.Vm.{Vm}
use Rattle.esx_model.specs.declared.scene.Site.{Site}
use Rattle.esx_model.specs.declared.scene.Scene.{Scene}
use Rattle.esx_model.specs.Places.{is_here, contents}
use Rattle.esx_model.specs.Site.{is_named, least_free, free_count, vm_at, place_at, resident, pages_at}
use Rattle.esx_model.specs.event.Outcome.{Outcome, Gate, at_vm, unless, standing, is_running, page_gate}
use Rattle.esx_model.specs.event.Access.{is_low, is_blocked, access_gate, overwritten, write_frame, after_access, settle, write_at, write}
use Rattle.esx_model.specs.event.Paging as paging
use Rattle.esx_model.specs.event.Paging.{is_above_min}
use Rattle.esx_model.specs.event.Rebalancing.{rows_from, rows_of, rebalance}
use Rattle.esx_model.specs.Advice.{can_write, help_by, target_of, help_for, help_at, advice, IsNamedBy}
use Rattle.esx_model.specs.Replay.{opening, settled, next, run_from, run}
use Rattle.esx_model.specs.sound.Machines.{IsPlace}
use Rattle.esx_model.specs.sound.Sound.{IsSound}
use Rattle.esx_model.proofs.Callers.{passed, within_page, not_true, run_one, none_there, rows_of_sound, full_site, old_place, pages_at_is, every_run_sound, below_max, Goes, passing, swap_out_goes, replace_goes}
use Rattle.esx_model.specs.Debts.{IsOnPath, IsAccepted}

-- Tests.

pub both_true : (a b : Bool) → (a && b) ≡ true → (a ≡ true) × (b ≡ true)
both_true true b h = (refl, h)
both_true false b h = cc

pub not_both : (a b : Bool) → (a && b) ≡ false → a ≡ true → b ≡ false
not_both true b h e = h
not_both false b h e = cc

pub some_of : (o : Option ℕ) → is_some o ≡ true → (f : ℕ) × (o ≡ Some f)
some_of None h = cc
some_of (Some f) h = (f, refl)

pub none_of : (o : Option ℕ) → is_some o ≡ false → o ≡ None
none_of None h = refl
none_of (Some f) h = cc

-- What an advice rests on.

pub record RestsOn (c : Config) (t : Scene) (n page : ℕ) (h : Help) : Type 0 where
  pub vm : Vm
  pub there : vm_at t.site n ≡ Some vm
  pub runs : not (is_running vm.state) ≡ false
  pub below : nat_le vm.spec.max page ≡ false
  pub help : help_for c t vm page ≡ h

abbrev pub given : Help → Result Help Refusal
given h = Ok h

pub told : (a b : Help) → given a ≡ Ok b → a ≡ b
told a b e = cc

pub advised_by : (c : Config) (t : Scene) (n page : ℕ) (h : Help) (o : Option Vm) → vm_at t.site n ≡ o → help_at c t o page ≡ Ok h → RestsOn c t n page h
advised_by c t n page h None there e = cc
advised_by c t n page h (Some v) there e =
    let pass = passed (page_gate (standing v) page) (given (help_for c t v page)) h e in
    record { vm = v; there = there; runs = pass.0.0; below = pass.0.1.0; help = told (help_for c t v page) h pass.1 }

pub advised : (c : Config) (t : Scene) (n page : ℕ) (h : Help) → advice c t n page ≡ Ok h → RestsOn c t n page h
unfolding advice
advised c t n page h e = advised_by c t n page h (vm_at t.site n) refl e

-- An outcome that is accepted.

pub accepted_next : (c : Config) (level : Level) (o : Outcome) → Goes o → (r : Answer × Scene) × (settled c level o ≡ Ok r)
accepted_next c level o goes =
    ((goes.0.0, record { site = goes.0.1; level = next_level c level (free_count c.frames goes.0.1) }), ap (settled c level) goes.1)

-- Where the advice is to go.

pub go_writes : (b above : Bool) (o : Option Claim) → cond b helps.Go (help_by above o) ≡ helps.Go → b ≡ true
go_writes true above o e = refl
go_writes false above (Some a) e = cc
go_writes false true None e = cc
go_writes false false None e = cc

pub write_goes : (c : Config) (s : Site) (level : Level) (n page at : ℕ) (new : List ℕ) (v : Vm) (f : ℕ) → vm_at s n ≡ Some v → not (is_running v.state) ≡ false → nat_le v.spec.max page ≡ false
    → is_blocked level (standing v) ≡ false → write_frame c s (place_at v page) ≡ Some f → 0 < length new → at + length new ≤ c.page → Goes (write c s level n page at new)
unfolding write
write_goes c s level n page at new v f there runs below free found some fits =
    let gate : Gate = access_gate c level (standing v) page at (length new) in
    let inside = within_page v.spec.max page c.page at (length new) (leb-false v.spec.max page below) some fits in
    let bytes = overwritten (contents c (place_at v page)) at new in (
      (answers.Done, after_access s n page (Here bytes f false)),
      ap (λ o. at_vm o (λ w. unless (access_gate c level (standing w) page at (length new)) (write_at c s n page at new (place_at w page)))) there
          ∙ passing gate (write_at c s n page at new (place_at v page)) (runs, (inside, (free, tt)))
          ∙ ap (settle s n page answers.Done bytes false) found,
    )

pub go_is_accepted : (c : Config) (t : Scene) (n page at : ℕ) (new : List ℕ) → advice c t n page ≡ Ok helps.Go → 0 < length new → at + length new ≤ c.page → IsAccepted c t (events.Write n page at new)
unfolding next
go_is_accepted c t n page at new e some fits =
    let a = advised c t n page helps.Go e in
    let can = go_writes (can_write c t a.vm page) (list_any is_above_min t.site.vms) (first_claim (rows_of target_of t.site)) a.help in
    let parts = both_true (not (is_blocked t.level (standing a.vm))) (is_some (write_frame c t.site (place_at a.vm page))) can in
    let f = some_of (write_frame c t.site (place_at a.vm page)) parts.1 in
    accepted_next c t.level (write c t.site t.level n page at new) (write_goes c t.site t.level n page at new a.vm f.0 a.there a.runs a.below (not_true (is_blocked t.level (standing a.vm)) parts.0) f.1 some fits)

-- The level where no frame is free.

-- the level is one that followed the free frames
abbrev pub IsSettled : Config → Scene → Type 0
IsSettled c t = (level : Level) × (t.level ≡ next_level c level (free_count c.frames t.site))

pub event_settles : (c : Config) (level : Level) (o : Outcome) (r : Answer × Scene) → settled c level o ≡ Ok r → IsSettled c r.1
event_settles c level (Err e) r h = cc
event_settles c level (Ok q) r h =
    let u : Scene = record { site = q.1; level = next_level c level (free_count c.frames q.1) } in
    let same : (q.0, u) ≡ r = cc in
    let P : Answer × Scene → Type 0 = λ x. IsSettled c x.1 in
    subst P same (level, refl)

pub next_settles : (c : Config) (t : Scene) (e : Event) (r : Answer × Scene) → next c t e ≡ Ok r → IsSettled c r.1
unfolding next
next_settles c t e r is = event_settles c t.level _ r is

pub path_settles : (c : Config) (i : ℕ) (es : List Event) (t u : Scene) → run_from c i es t ≡ Ok u → (t ≡ u) ⊎ IsSettled c u
unfolding run_from
path_settles c i [] t u h = inl cc
path_settles c i (e ∷ es) t u h =
    let one = run_one i (next c t e) (λ x. run_from c (i + 1) es x) u h in
    later one.0 one.1 (path_settles c (i + 1) es one.0.1 u one.2)
  where
    later : (r : Answer × Scene) → next c t e ≡ Ok r → (r.1 ≡ u) ⊎ IsSettled c u → (t ≡ u) ⊎ IsSettled c u
    later r is (inl same) = inr (subst (IsSettled c) same (next_settles c t e r is))
    later r is (inr k) = inr k

pub low_when_none : (c : Config) (path : List Event) (t : Scene) (n : ℕ) (v : Vm) → run c path ≡ Ok t → vm_at t.site n ≡ Some v → free_count c.frames t.site ≡ 0 → t.level ≡ Low
low_when_none c path t n v h there none = of (path_settles c 0 path (opening c) t h)
  where
    of : (opening c ≡ t) ⊎ IsSettled c t → t.level ≡ Low
    of (inl same) = absurd (none_there VM_NUMBERS n v (ap (λ (x : Scene). vm_at x.site n) same ∙ there))
    of (inr s) = s.1 ∙ ap (next_level c s.0) none ∙ low_with_none_free c s.0

-- Frames for a write.

pub none_passes : (p : ℕ → Bool) (xs : List ℕ) → find p xs ≡ None → count_by p xs ≡ 0
none_passes p [] h = refl
none_passes p (x ∷ xs) h = of (none_passes p xs) (p x) refl h
  where
    of : (find p xs ≡ None → count_by p xs ≡ 0) → (b : Bool) → p x ≡ b → cond b (Some x) (find p xs) ≡ None → count_by p (x ∷ xs) ≡ 0
    of rest true e k = cc
    of rest false e k =
        let step : count_by p (x ∷ xs) ≡ one (p x) + count_by p xs = sum_by-cons (λ y. one (p y)) x xs in
        let here : one (p x) ≡ 0 = ap one e in
        let more = rest k in
        omega (arith, step, here, more)

pub none_free : (frames : ℕ) (s : Site) → least_free frames s ≡ None → free_count frames s ≡ 0
unfolding least_free free_count
none_free frames s h = none_passes (λ f. not (is_named s f)) (range_with_len 0 frames) h

-- a page that can not be written where it is, and whose frame, if it has one, has more pages
pub record IsShort (c : Config) (s : Site) (p : Place) : Type 0 where
  pub none : least_free c.frames s ≡ None
  pub used : (bytes : List ℕ) (f : ℕ) (shared : Bool) → p ≡ Here bytes f shared → nat_lt 1 (pages_at f s) ≡ true

pub short : (c : Config) (s : Site) (p : Place) → is_some (write_frame c s p) ≡ false → IsShort c s p
short c s Untouched h = record { none = none_of (least_free c.frames s) h; used = λ bytes f shared e. cc }
short c s (Out bytes slot) h = record { none = none_of (least_free c.frames s) h; used = λ bytes f shared e. cc }
short c s (Lent e) h = record { none = none_of (least_free c.frames s) h; used = λ bytes f shared e. cc }
short c s (Here bytes f shared) h = of (shared && nat_lt 1 (pages_at f s)) refl h
  where
    same : (b : List ℕ) (g : ℕ) (m : Bool) → let here : List ℕ → ℕ → Bool → Place = λ x y z. Here x y z in here bytes f shared ≡ here b g m → f ≡ g
    same b g m e = cc

    of : (b : Bool) → (shared && nat_lt 1 (pages_at f s)) ≡ b → is_some (cond b (least_free c.frames s) (Some f)) ≡ false → IsShort c s (Here bytes f shared)
    of true e k =
        let many = both_true shared (nat_lt 1 (pages_at f s)) e in
        record { none = none_of (least_free c.frames s) k; used = λ b g m is. ap (λ x. nat_lt 1 (pages_at x s)) (sym (same b g m is)) ∙ many.1 }
    of false e k = cc

-- Rows of machines.

pub record IsRowOf (floor : Vm → ℕ) (n : ℕ) (vms : List (Option Vm)) (row : Row) : Type 0 where
  pub vm : Vm
  pub at : ℕ
  pub there : get_or vms at None ≡ Some vm
  pub number : row.vm ≡ n + at
  pub pages : row.pages ≡ resident vm
  pub least : row.floor ≡ floor vm

pub row_of : (tau : ℕ) (floor : Vm → ℕ) (n : ℕ) (vms : List (Option Vm)) (i : ℕ) → i < length (rows_from tau floor n vms) → IsRowOf floor n vms (row_at (rows_from tau floor n vms) i)
row_of tau floor n [] i below = absurd (omega arith)
row_of tau floor n (None ∷ vms) i below =
    let r = row_of tau floor (n + 1) vms i below in
    let number = r.number in
    record { vm = r.vm; at = suc r.at; there = r.there; number = omega (arith, number); pages = r.pages; least = r.least }
row_of tau floor n (Some v ∷ vms) zero below = record { vm = v; at = zero; there = refl; number = omega arith; pages = refl; least = refl }
row_of tau floor n (Some v ∷ vms) (suc i) below =
    let r = row_of tau floor (n + 1) vms i (omega (arith, below)) in
    let number = r.number in
    record { vm = r.vm; at = suc r.at; there = r.there; number = omega (arith, number); pages = r.pages; least = r.least }

-- the row of a machine
pub record HasRow (tau : ℕ) (floor : Vm → ℕ) (n : ℕ) (vms : List (Option Vm)) (v : Vm) : Type 0 where
  pub at : ℕ
  pub below : at < length (rows_from tau floor n vms)
  pub pages : (row_at (rows_from tau floor n vms) at).pages ≡ resident v
  pub least : (row_at (rows_from tau floor n vms) at).floor ≡ floor v

pub has_row : (tau : ℕ) (floor : Vm → ℕ) (n : ℕ) (vms : List (Option Vm)) (k : ℕ) (v : Vm) → get_or vms k None ≡ Some v → HasRow tau floor n vms v
has_row tau floor n [] k v h = cc
has_row tau floor n (None ∷ vms) zero v h = cc
has_row tau floor n (None ∷ vms) (suc k) v h = (let r = has_row tau floor (n + 1) vms k v h in record { at = r.at; below = r.below; pages = r.pages; least = r.least })
has_row tau floor n (Some w ∷ vms) zero v h =
    let one : w ≡ v = cc in
    record { at = zero; below = omega arith; pages = ap resident one; least = ap floor one }
has_row tau floor n (Some w ∷ vms) (suc k) v h =
    let r = has_row tau floor (n + 1) vms k v h in
    let below = r.below in
    record { at = suc r.at; below = omega (arith, below); pages = r.pages; least = r.least }

-- what the first claim tells
pub claims : (c : Config) (s : Site) (o : Option Claim) → IsSound c s → first_claim (rows_of target_of s) ≡ o → MatchOption o (AreAtFloor (rows_of target_of s)) (λ a. HasLeastRatio (rows_of target_of s) a.vm)
claims c s o sound e =
    let rows = rows_of target_of s in
    let are = rows_of_sound c s target_of sound (λ v fine. (let most = fine.most_target in omega (arith, most, fine.good.most_max))) in
    let P : Option Claim → Type 0 = λ x. MatchOption x (AreAtFloor rows) (λ a. HasLeastRatio rows a.vm) in
    subst P e (least_of_found rows (first_claim rows) (first_found rows are))

-- Where a machine is to page out.

pub record Names (b above : Bool) (o : Option Claim) (m : ℕ) : Type 0 where
  pub claim : Claim
  pub not_now : b ≡ false
  pub some : o ≡ Some claim
  pub machine : claim.vm ≡ m

pub swap_named : (b above : Bool) (o : Option Claim) (m : ℕ) → cond b helps.Go (help_by above o) ≡ helps.SwapOut m → Names b above o m
swap_named true above o m e = cc
swap_named false above (Some a) m e = record { claim = a; not_now = refl; some = refl; machine = machine_same a.vm m e }
  where
    machine_same : (k m : ℕ) → helps.SwapOut k ≡ helps.SwapOut m → k ≡ m
    machine_same k m e = cc
swap_named false true None m e = cc
swap_named false false None m e = cc

pub low_is : (level : Level) → is_low level ≡ true → level ≡ Low
low_is High h = cc
low_is Soft h = cc
low_is Hard h = cc
low_is Low h = refl

pub cannot_write : (c : Config) (path : List Event) (t : Scene) (n page : ℕ) (v : Vm) → run c path ≡ Ok t → vm_at t.site n ≡ Some v → can_write c t v page ≡ false → t.level ≡ Low
cannot_write c path t n page v h there unable = of (is_blocked t.level (standing v)) refl
  where
    of : (b : Bool) → is_blocked t.level (standing v) ≡ b → t.level ≡ Low
    of true e = low_is t.level (both_true (is_low t.level) (nat_lt v.target (resident v)) e).0
    of false e =
        let none = not_both (not (is_blocked t.level (standing v))) (is_some (write_frame c t.site (place_at v page))) unable (ap not e) in
        low_when_none c path t n v h there (none_free c.frames t.site (short c t.site (place_at v page) none).none)

pub swap_out_at_low : (c : Config) (s : Site) (level : Level) (m word : ℕ) (v : Vm) → IsSound c s → vm_at s m ≡ Some v → level ≡ Low → v.target < resident v → Goes (paging.swap_out c s level m word)
swap_out_at_low c s level m word v sound there low above =
    let P : Level → Type 0 = λ l. Goes (paging.swap_out c s l m word) in
    subst P (sym low) (swap_out_goes c s Low m word v sound there (refl, (lt-leb (resident v) v.target above, tt)))

pub swap_out_is_accepted : (c : Config) (t : Scene) (n page m word : ℕ) → IsOnPath c t → advice c t n page ≡ Ok (helps.SwapOut m) → IsAccepted c t (events.SwapOut m word)
unfolding next rows_of
swap_out_is_accepted c t n page m word on_path e =
    let s = t.site in
    let sound = every_run_sound c on_path.path t on_path.config on_path.runs in
    let a = advised c t n page (helps.SwapOut m) e in
    let names = swap_named (can_write c t a.vm page) (list_any is_above_min s.vms) (first_claim (rows_of target_of s)) m a.help in
    let low = cannot_write c on_path.path t n page a.vm on_path.runs a.there names.not_now in
    let least = claims c s (Some names.claim) sound names.some in
    let r = row_of s.tau target_of 0 s.vms least.at least.least.within in
    let number : r.at ≡ m = (let one = r.number in let two = least.is in let three = names.machine in omega (arith, one, two, three)) in
    let there : vm_at s m ≡ Some r.vm = ap (λ k. vm_at s k) (sym number) ∙ r.there in
    let above : r.vm.target < resident r.vm = (let one = least.least.above in let two = r.pages in let three = r.least in omega (arith, one, two, three)) in
    accepted_next c t.level (paging.swap_out c s t.level m word) (swap_out_at_low c s t.level m word r.vm sound there low above)

-- Where targets are to be set anew.

pub rebalance_goes : (c : Config) (s : Site) (level : Level) → Goes (rebalance c s level)
unfolding rebalance
rebalance_goes c s High = (_, refl)
rebalance_goes c s Soft = (_, refl)
rebalance_goes c s Hard = (_, refl)
rebalance_goes c s Low = (_, refl)

pub rebalance_is_accepted : (c : Config) (t : Scene) → IsAccepted c t events.Rebalance
unfolding next
rebalance_is_accepted c t = accepted_next c t.level (rebalance c t.site t.level) (rebalance_goes c t.site t.level)

-- Where a page is to make room.

pub record Replaces (b above : Bool) (o : Option Claim) : Type 0 where
  pub not_now : b ≡ false
  pub few : above ≡ false
  pub none : o ≡ None

pub replace_named : (b above : Bool) (o : Option Claim) → cond b helps.Go (help_by above o) ≡ helps.Replace → Replaces b above o
replace_named true above o e = cc
replace_named false above (Some a) e = cc
replace_named false true None e = cc
replace_named false false None e = record { not_now = refl; few = refl; none = refl }

pub at_its_target : (a b : ℕ) → b ≤ a → nat_lt a b ≡ false
at_its_target a b h = grind (arith, nat_tests)

pub none_of_both : (a b : Bool) → b ≡ false → (a && b) ≡ false
none_of_both true b h = h
none_of_both false b h = refl

pub not_two : (k : ℕ) → nat_lt 1 k ≡ true → 1 < k
not_two k h = grind (arith, nat_tests)

-- no page of the machine is in a frame with others
pub away : (c : Config) (s : Site) (n page : ℕ) (v : Vm) (p : Place) → IsSound c s → vm_at s n ≡ Some v → page < v.spec.max → place_at v page ≡ p → free_count c.frames s ≡ 0 → list_any is_above_min s.vms ≡ false
    → IsShort c s p → is_here p ≡ false
away c s n page v Untouched sound there below is none few lack = refl
away c s n page v (Out bytes slot) sound there below is none few lack = refl
away c s n page v (Lent e) sound there below is none few lack = refl
away c s n page v (Here bytes f shared) sound there below is none few lack =
    let fine = sound.each n v there in
    let P : Place → Type 0 = IsPlace c v.epoch in
    let place = subst P is (old_place c v page fine (omega (arith, below, fine.pages))) in
    let single = (full_site c s sound none few).single f place.0 in
    let many = not_two (pages_at f s) (lack.used bytes f shared refl) in
    let count = pages_at_is f s in
    absurd (omega (arith, single, many, count))

pub replace_is_accepted : (c : Config) (t : Scene) (n page word : ℕ) → IsOnPath c t → advice c t n page ≡ Ok helps.Replace → IsAccepted c t (events.Replace n page word)
unfolding next rows_of
replace_is_accepted c t n page word on_path e =
    let s = t.site in
    let sound = every_run_sound c on_path.path t on_path.config on_path.runs in
    let a = advised c t n page helps.Replace e in
    let v = a.vm in
    let names = replace_named (can_write c t v page) (list_any is_above_min s.vms) (first_claim (rows_of target_of s)) a.help in
    let floors = claims c s None sound names.none in
    let row = has_row s.tau target_of 0 s.vms n v a.there in
    let within : resident v ≤ v.target = (let one = floors.none row.at row.below in let two = row.pages in let three = row.least in omega (arith, one, two, three)) in
    let free = none_of_both (is_low t.level) (nat_lt v.target (resident v)) (at_its_target v.target (resident v) within) in
    let lack = short c s (place_at v page) (not_both (not (is_blocked t.level (standing v))) (is_some (write_frame c s (place_at v page))) names.not_now (ap not free)) in
    let none = none_free c.frames s lack.none in
    let here = away c s n page v (place_at v page) sound a.there (below_max v.spec.max page a.below) refl none names.few lack in
    accepted_next c t.level (paging.replace c s n page word)
    (replace_goes c s n page word v sound a.there (a.runs, (a.below, (rw (here, ap (nat_lt 0) none, names.few) refl, tt))))

pub named_is_accepted : (c : Config) (t : Scene) (n page : ℕ) (h : Help) (e : Event) → IsOnPath c t → advice c t n page ≡ Ok h → IsNamedBy n page h e → IsAccepted c t e
named_is_accepted c t n page helps.Go e on_path given named = absurd named
named_is_accepted c t n page (helps.SwapOut m) e on_path given named = subst (IsAccepted c t) (sym named.1) (swap_out_is_accepted c t n page m named.0 on_path given)
named_is_accepted c t n page helps.Rebalance e on_path given named = subst (IsAccepted c t) (sym named) (rebalance_is_accepted c t)
named_is_accepted c t n page helps.Replace e on_path given named = subst (IsAccepted c t) (sym named.1) (replace_is_accepted c t n page named.0 on_path given)
