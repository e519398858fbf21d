-- What a machine gained since its last admission is what it lost and what it has.
use Rattle.std.proofs.Common.{◌≡◌, ℕ, ◌+◌, Bool, true, false, List, [], ◌∷◌, refl, sym, ap, ◌∙◌, subst, arith, cond, Option, Some, None, Ok, ◌==◌, is_some, replicate, get_or, zero, suc}
use Rattle.esx_types.specs.declared.config.TheConstants.{VM_NUMBERS}
use Rattle.esx_types.specs.declared.config.Config.{Config}
use Rattle.esx_types.specs.declared.level.Level.{Level}
use Rattle.esx_types.specs.declared.vm.VmSpec.{VmSpec}
use Rattle.esx_events.specs.declared.event.Answer.{Answer}
use Rattle.esx_events.specs.declared.event.Answer.TheVariants as answers
use Rattle.esx_events.specs.declared.event.Event.{Event}
use Rattle.esx_events.specs.declared.event.Event.TheVariants.{Admit, Start, Read, Write, Ask, Lend, TakeBack, Sample, Rebalance, Scan, SwapOut, Replace, SetShares, SetTax, SetVmTax, Stop, DropPage, Gone}
use Rattle.esx_model.specs.declared.scene.Place.{Place}
use Rattle.esx_model.specs.declared.scene.Place.TheVariants.{Untouched, Here, Out, Lent}
use Rattle.esx_model.specs.declared.scene.Vm.{Vm}
use Rattle.esx_model.specs.declared.scene.Site.{Site}
use Rattle.esx_model.specs.declared.scene.Scene.{Scene}
use Rattle.esx_model.specs.Site.{vm_at, place_at}
use Rattle.esx_model.specs.event.Admission.{memory_with, swap_with, admit_gate, admit}
use Rattle.esx_model.specs.Step.{step}
use Rattle.esx_model.specs.Replay.{opening, next, run_from}
use Rattle.esx_model.specs.sound.Sound.{IsSound}
use Rattle.esx_model.proofs.Callers.{one, opening_sound, every_event_sound, passed, step_of, run_one}
use Rattle.esx_story.specs.declared.change.Counts.{Counts}
use Rattle.esx_story.specs.Changes.{How, Balloon, Swap, Replaced, Dropped, First, Pop, SwapIn, Change, change, is_of, resident_in, resident_of, has_here}
use Rattle.esx_story.specs.Moments.{Moment, moments_from}
use Rattle.esx_story.specs.Losses.{lost}
use Rattle.esx_story.specs.Gains.{coming, gained_by, gained}
use Rattle.esx_story.specs.Counts.{no_counts, came_in, lost_in, with_change, counted, admits, counts_after, counts_from}
use Rattle.esx_story.specs.Laws.{AddsUp}
use Rattle.esx_story.proofs.Bits.{equal, trues_are}
use Rattle.esx_story.proofs.Every.{every_event_moves}
use Rattle.esx_story.proofs.Listed.{moments_one}

-- how pages come, and how they go
abbrev IsComing : How → Type 0
IsComing First = Unit {0}
IsComing Pop = Unit {0}
IsComing SwapIn = Unit {0}
IsComing _ = ⊥

abbrev IsGoing : How → Type 0
IsGoing Balloon = Unit {0}
IsGoing Swap = Unit {0}
IsGoing Replaced = Unit {0}
IsGoing Dropped = Unit {0}
IsGoing _ = ⊥

abbrev AreAll : (How → Type 0) → Option Change → Type 0
AreAll P None = Unit {0}
AreAll P (Some x) = P x.how

popped_or_first : (n page : ℕ) (b : Bool) → AreAll IsComing (Some (change n page (cond b Pop First)))
popped_or_first n page true = tt
popped_or_first n page false = tt

abbrev coming_one : ℕ → ℕ → Option How → Option Change
coming_one n page None = None
coming_one n page (Some how) = Some (change n page how)

comes : (n page e : ℕ) (p : Place) → AreAll IsComing (coming_one n page (coming e p))
comes n page e Untouched = tt
comes n page e (Here bytes f shared) = tt
comes n page e (Out bytes i) = tt
comes n page e (Lent d) = popped_or_first n page (d == e)

comes_by : (n page : ℕ) (o : Option Vm) → AreAll IsComing (gained_by n page o)
comes_by n page None = tt
comes_by n page (Some v) = comes n page v.epoch (place_at v page)

all_come : (e : Event) (s : Site) → AreAll IsComing (gained e s)
all_come (Admit n spec) s = tt
all_come (Start n) s = tt
all_come (Read n page at len) s = comes_by n page (vm_at s n)
all_come (Write n page at new) s = comes_by n page (vm_at s n)
all_come (Ask n) s = tt
all_come (Lend n page) s = tt
all_come (TakeBack n page) s = tt
all_come (Sample n len words) s = tt
all_come Rebalance s = tt
all_come (Scan n page) s = tt
all_come (SwapOut n word) s = tt
all_come (Replace n page word) s = comes_by n page (vm_at s n)
all_come (SetShares n shares) s = tt
all_come (SetTax tau) s = tt
all_come (SetVmTax n tau) s = tt
all_come (Stop n) s = tt
all_come (DropPage n page) s = tt
all_come (Gone n) s = tt

goes_if : (n page : ℕ) (how : How) (b : Bool) → IsGoing how → AreAll IsGoing (cond b (Some (change n page how)) None)
goes_if n page how true h = h
goes_if n page how false h = tt

lend_goes : (n page : ℕ) (a : Answer) (s : Site) → AreAll IsGoing (lost (Lend n page) a s)
lend_goes n page (answers.Lent count goal) s = goes_if n page Balloon (has_here s n page) tt
lend_goes n page _ s = tt

swap_out_goes : (n word : ℕ) (a : Answer) (s : Site) → AreAll IsGoing (lost (SwapOut n word) a s)
swap_out_goes n word (answers.PagedOut page slot) s = tt
swap_out_goes n word _ s = tt

replace_goes : (n page word : ℕ) (a : Answer) (s : Site) → AreAll IsGoing (lost (Replace n page word) a s)
replace_goes n page word (answers.Replaced q slot frame) s = tt
replace_goes n page word _ s = tt

drop_goes : (n page : ℕ) (a : Answer) (s : Site) → AreAll IsGoing (lost (DropPage n page) a s)
drop_goes n page answers.Done s = goes_if n page Dropped (has_here s n page) tt
drop_goes n page _ s = tt

all_go : (e : Event) (a : Answer) (s : Site) → AreAll IsGoing (lost e a s)
all_go (Admit n spec) a s = tt
all_go (Start n) a s = tt
all_go (Read n page at len) a s = tt
all_go (Write n page at new) a s = tt
all_go (Ask n) a s = tt
all_go (Lend n page) a s = lend_goes n page a s
all_go (TakeBack n page) a s = tt
all_go (Sample n len words) a s = tt
all_go Rebalance a s = tt
all_go (Scan n page) a s = tt
all_go (SwapOut n word) a s = swap_out_goes n word a s
all_go (Replace n page word) a s = replace_goes n page word a s
all_go (SetShares n shares) a s = tt
all_go (SetTax tau) a s = tt
all_go (SetVmTax n tau) a s = tt
all_go (Stop n) a s = tt
all_go (DropPage n page) a s = drop_goes n page a s
all_go (Gone n) a s = tt

counts_in : (n : ℕ) (o : Option Change) (k : Counts) → AreAll IsComing o → (came_in (counted n o k) ≡ came_in k + one (is_of n o)) × (lost_in (counted n o k) ≡ lost_in k)
counts_in n None k all = (omega arith, refl)
counts_in n (Some x) k all = by (x.vm == n) x.how all
  where
    of : (how : How) → IsComing how → (came_in (with_change k how) ≡ came_in k + 1) × (lost_in (with_change k how) ≡ lost_in k)
    of First h = (omega arith, refl)
    of Pop h = (omega arith, refl)
    of SwapIn h = (omega arith, refl)
    of _ h = absurd h

    by : (b : Bool) (how : How) → IsComing how → (came_in (cond b (with_change k how) k) ≡ came_in k + one b) × (lost_in (cond b (with_change k how) k) ≡ lost_in k)
    by true how h = of how h
    by false how h = (omega arith, refl)

counts_out : (n : ℕ) (o : Option Change) (k : Counts) → AreAll IsGoing o → (came_in (counted n o k) ≡ came_in k) × (lost_in (counted n o k) ≡ lost_in k + one (is_of n o))
counts_out n None k all = (refl, omega arith)
counts_out n (Some x) k all = by (x.vm == n) x.how all
  where
    of : (how : How) → IsGoing how → (came_in (with_change k how) ≡ came_in k) × (lost_in (with_change k how) ≡ lost_in k + 1)
    of Balloon h = (refl, omega arith)
    of Swap h = (refl, omega arith)
    of Replaced h = (refl, omega arith)
    of Dropped h = (refl, omega arith)
    of _ h = absurd h

    by : (b : Bool) (how : How) → IsGoing how → (came_in (cond b (with_change k how) k) ≡ came_in k) × (lost_in (cond b (with_change k how) k) ≡ lost_in k + one b)
    by true how h = of how h
    by false how h = (refl, omega arith)

-- nobody was there before an admission
nothing_of : (o : Option Vm) → is_some o ≡ false → resident_in o ≡ 0
nothing_of None h = refl
nothing_of (Some v) h = cc

nothing_before : (c : Config) (s : Site) (n : ℕ) (spec : VmSpec) (r : Answer × Site) → admit c s n spec ≡ Ok r → resident_of s n ≡ 0
unfolding admit
nothing_before c s n spec r h =
    let pass = passed (admit_gate c (is_some (vm_at s n)) spec (memory_with s spec) (swap_with s spec)) _ r h in
    nothing_of (vm_at s n) pass.0.0

fresh : (c : Config) (s : Site) (level : Level) (n : ℕ) (e : Event) (r : Answer × Site) → admits n e ≡ true → step c s level e ≡ Ok r → resident_of s n ≡ 0
fresh c s level n (Admit m spec) r is h = ap (resident_of s) (sym (equal m n is)) ∙ nothing_before c s m spec r h
fresh c s level n (Start m) r is h = cc
fresh c s level n (Read m page at len) r is h = cc
fresh c s level n (Write m page at new) r is h = cc
fresh c s level n (Ask m) r is h = cc
fresh c s level n (Lend m page) r is h = cc
fresh c s level n (TakeBack m page) r is h = cc
fresh c s level n (Sample m len words) r is h = cc
fresh c s level n Rebalance r is h = cc
fresh c s level n (Scan m page) r is h = cc
fresh c s level n (SwapOut m word) r is h = cc
fresh c s level n (Replace m page word) r is h = cc
fresh c s level n (SetShares m shares) r is h = cc
fresh c s level n (SetTax tau) r is h = cc
fresh c s level n (SetVmTax m tau) r is h = cc
fresh c s level n (Stop m) r is h = cc
fresh c s level n (DropPage m page) r is h = cc
fresh c s level n (Gone m) r is h = cc

fresh_next : (c : Config) (t : Scene) (n : ℕ) (e : Event) (r : Answer × Scene) → admits n e ≡ true → next c t e ≡ Ok r → resident_of t.site n ≡ 0
fresh_next c t n e r is h = (let s = step_of c t e r h in fresh c t.site t.level n e s.0 is s.1)

-- an admission changes no page
admits_none : (n : ℕ) (e : Event) (a : Answer) (s : Site) → admits n e ≡ true → (lost e a s ≡ None) × (gained e s ≡ None)
admits_none n (Admit m spec) a s is = (refl, refl)
admits_none n (Start m) a s is = cc
admits_none n (Read m page at len) a s is = cc
admits_none n (Write m page at new) a s is = cc
admits_none n (Ask m) a s is = cc
admits_none n (Lend m page) a s is = cc
admits_none n (TakeBack m page) a s is = cc
admits_none n (Sample m len words) a s is = cc
admits_none n Rebalance a s is = cc
admits_none n (Scan m page) a s is = cc
admits_none n (SwapOut m word) a s is = cc
admits_none n (Replace m page word) a s is = cc
admits_none n (SetShares m shares) a s is = cc
admits_none n (SetTax tau) a s is = cc
admits_none n (SetVmTax m tau) a s is = cc
admits_none n (Stop m) a s is = cc
admits_none n (DropPage m page) a s is = cc
admits_none n (Gone m) a s is = cc

-- they add up
abbrev Adds : ℕ → Site → Counts → Type 0
Adds n s k = came_in k ≡ resident_of s n + lost_in k

adds_one : (c : Config) (t : Scene) (e : Event) (r : Answer × Scene) (n : ℕ) (k : Counts) (b : Bool) → IsSound c t.site → next c t e ≡ Ok r → admits n e ≡ b → Adds n t.site k
    → Adds n r.1.site (cond b no_counts (counted n (lost e r.0 t.site) (counted n (gained e t.site) k)))
adds_one c t e r n k true sound h is adds =
    let moves = every_event_moves c t e r sound h in
    let none = admits_none n e r.0 t.site is in
    let count = moves.count n in
    let out : one (is_of n (lost e r.0 t.site)) ≡ 0 = ap (λ o. one (is_of n o)) none.0 in
    let in_ : one (is_of n (gained e t.site)) ≡ 0 = ap (λ o. one (is_of n o)) none.1 in
    let before = trues_are t.site n in
    let after = trues_are r.1.site n in
    let was = fresh_next c t n e r is h in
    omega (arith, count, out, in_, before, after, was)
adds_one c t e r n k false sound h is adds =
    let moves = every_event_moves c t e r sound h in
    let count = moves.count n in
    let before = trues_are t.site n in
    let after = trues_are r.1.site n in
    let mid = counted n (gained e t.site) k in
    let a = counts_in n (gained e t.site) k (all_come e t.site) in
    let b = counts_out n (lost e r.0 t.site) mid (all_go e r.0 t.site) in
    let a0 = a.0 in
    let a1 = a.1 in
    let b0 = b.0 in
    let b1 = b.1 in
    omega (arith, count, before, after, a0, a1, b0, b1, adds)

adds_from : (c : Config) (i : ℕ) (es : List Event) (t u : Scene) (n : ℕ) (k : Counts) → IsSound c t.site → run_from c i es t ≡ Ok u → Adds n t.site k → Adds n u.site (counts_from n (moments_from c es t) k)
unfolding run_from moments_from
adds_from c i [] t u n k sound h adds =
    let same : t ≡ u = cc in
    let P : Scene → Type 0 = λ x. Adds n x.site k in
    subst P same adds
adds_from c i (e ∷ es) t u n k sound h adds =
    let one_step = run_one i (next c t e) (λ x. run_from c (i + 1) es x) u h in
    let r = one_step.0 in
    let P : List Moment → Type 0 = λ ms. Adds n u.site (counts_from n ms k) in
    let next_counts = counts_after n (record { event = e; answer = r.0; before = t; after = r.1 }) k in
    subst P (sym (moments_one c e es t r one_step.1))
    (adds_from c (i + 1) es r.1 u n next_counts (every_event_sound c t e r sound one_step.1) one_step.2 (adds_one c t e r n k (admits n e) sound one_step.1 refl adds))

nobody : (k n : ℕ) → resident_in (get_or (replicate k None) n None) ≡ 0
nobody zero n = refl
nobody (suc k) zero = refl
nobody (suc k) (suc n) = nobody k n

pub adds_up : AddsUp
adds_up c es t n fine h =
    let none = nobody VM_NUMBERS n in
    adds_from c 0 es (opening c) t n no_counts (opening_sound c fine) h (omega (arith, none))
