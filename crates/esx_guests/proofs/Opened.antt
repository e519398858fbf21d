-- A site that was opened: each machine of a scenario runs.
use Rattle.std.proofs.Common.{◌≡◌, ℕ, zero, suc, ◌+◌, ◌≤◌, ◌<◌, nat_lt, Bool, true, false, ◌&&◌, ◌||◌, ◌==◌, List, [], ◌∷◌, ◌++◌, length, replicate, refl, sym, ap, ◌∙◌, subst, arith, cond, Option, Some, None, ◌⊎◌, inl, inr, append_assoc, append-nil}
use Rattle.std.specs.Prelude.{slice_get}
use Rattle.std.specs.List.{flat_map, AllByRecursion}
use Rattle.std.proofs.lemmas.Bool.{false≢true}
use Rattle.std.proofs.lemmas.Bool.Decides.{nat_tests}
use Rattle.std.proofs.lemmas.List.Elements.{filter-append}
use Rattle.std.proofs.lemmas.List.{length-map, length-replicate}
use Rattle.esx_model.specs.declared.scene.Place.TheVariants.{Untouched}
use Rattle.esx_types.specs.declared.config.Config.{Config}
use Rattle.esx_types.specs.declared.config.TheConstants.{VM_NUMBERS}
use Rattle.esx_types.specs.Ranges.{IsConfig}
use Rattle.esx_types.specs.declared.vm.VmState.TheVariants.{Starting, Running}
use Rattle.esx_events.specs.declared.event.Event.{Event}
use Rattle.esx_events.specs.declared.event.Event.TheVariants.{Admit, Start}
use Rattle.esx_events.specs.declared.event.Answer.{Answer}
use Rattle.esx_events.specs.declared.event.Refusal.{Refusal}
use Rattle.esx_events.specs.declared.call.Call.TheVariants as calls
use Rattle.esx_events.specs.declared.call.Line.{Line}
use Rattle.esx_events.specs.declared.call.Said.{Said}
use Rattle.esx_events.specs.declared.call.Said.TheVariants as said
use Rattle.esx_scenario.specs.declared.plan.Guest as scenario
use Rattle.esx_scenario.specs.Plans.{has_number, AreDistinct}
use Rattle.esx_model.specs.declared.scene.Vm.{Vm}
use Rattle.esx_model.specs.declared.scene.Scene.{Scene}
use Rattle.esx_model.specs.Site.{vm_at}
use Rattle.esx_model.specs.event.Admission.{admitted}
use Rattle.esx_model.specs.Replay.{opening}
use Rattle.esx_model.specs.History.{History, scene_at}
use Rattle.esx_model.specs.Console.{Session, history, history_from, outcome, after, next_reply, lined}
use Rattle.esx_console.specs.Calls.{opened_session}
use Rattle.esx_console.proofs.Logs.{lined_history}
use Rattle.esx_opening.specs.Openings.{admit_of, starts_of, AreAccepted}
use Rattle.esx_model.specs.Memory.{Memory, memory_of, memory_at, memory_after, memory_along, is_own, own_events, with_frame}
use Rattle.esx_model.specs.Guests.{is_opening, Opens}
use Rattle.esx_isolation.proofs.Every.{every_event_turns, along_own, nobody}
use Rattle.esx_isolation.proofs.guest.Histories.{Stands, stands_at, opened_stands, Refuses, Accepts, hear, done_stands}
use Rattle.esx_isolation.proofs.guest.Up.{vm_of}
use Rattle.esx_model.proofs.Callers.{eqb_same}
use Rattle.esx_guests.proofs.Ordered.{has_placed}

-- What accepted events lead to.

record IsLed (c : Config) (n : ℕ) (h : History) (o : Option Memory) : Type 0 where
  scene : Scene
  stands : Stands c h scene
  memory : memory_at c scene.site n ≡ o

refused_not : (s : Said) (r : Refusal) (a : Answer) → s ≡ said.Refused r → s ≡ said.Done a → ⊥
refused_not s r a x y = (let no = sym x ∙ y in cc)

heard_accepted : (c : Config) (n : ℕ) (h : History) (t : Scene) (e : Event) (a : Answer) (o : Option Memory) → n < VM_NUMBERS → Stands c h t → memory_at c t.site n ≡ o → (outcome h (calls.Do e)).0 ≡ said.Done a → Refuses c h t e ⊎ Accepts c h t e
    → IsLed c n (after h (calls.Do e)) (memory_after c n e o)
heard_accepted c n h t e a o low s is told (inl r) = absurd (refused_not (outcome h (calls.Do e)).0 r.refusal a r.told told)
heard_accepted c n h t e a o low s is told (inr k) =
    let P : History → Type 0 = λ w. Stands c w k.scene in
    record {
      scene = k.scene;
      stands = subst P (sym k.goes) (done_stands c e h t k.scene k.answer s k.is);
      memory = every_event_turns c t e (k.answer, k.scene) n s.sound low k.is ∙ ap (memory_after c n e) is;
    }

led : (c : Config) (n : ℕ) (es : List Event) (s t : Session) (o : Option Memory) → n < VM_NUMBERS → IsLed c n (history s) o → AreAccepted es s t → IsLed c n (history t) (memory_along c n es o)
unfolding AreAccepted memory_along next_reply
led c n [] s t o low l are = (let P : Session → Type 0 = λ x. IsLed c n (history x) o in subst P (sym are) l)
led c n (e ∷ es) s t o low l are =
    let one = heard_accepted c n (history s) l.scene e are.0.0 o low l.stands l.memory are.0.1 (hear c (history s) l.scene e l.stands) in
    let P : History → Type 0 = λ h. IsLed c n h (memory_after c n e o) in
    led c n es (lined s 0 (calls.Do e)) t (memory_after c n e o) low (subst P (sym (lined_history s 0 (calls.Do e))) one) are.1

-- The events of one machine.

own_append : (n : ℕ) (xs ys : List Event) → own_events n (xs ++ ys) ≡ own_events n xs ++ own_events n ys
own_append n xs ys = filter-append (is_own n) xs ys

none_admitted : (n : ℕ) (gs : List scenario.Guest) → has_number gs n ≡ false → own_events n (flat_map admit_of gs) ≡ []
none_admitted n [] h = refl
none_admitted n (g ∷ gs) h = of (g.vm == n) refl h (λ k. none_admitted n gs k)
  where
    of : (b : Bool) → (g.vm == n) ≡ b → (b || has_number gs n) ≡ false → (has_number gs n ≡ false → own_events n (flat_map admit_of gs) ≡ []) → own_events n (Admit g.vm g.spec ∷ flat_map admit_of gs) ≡ []
    of true e k rest = cc
    of false e k rest = ap (λ b. cond (b && true) (Admit g.vm g.spec ∷ own_events n (flat_map admit_of gs)) (own_events n (flat_map admit_of gs))) e ∙ rest k

starts_not : (n m k : ℕ) → (m == n) ≡ false → own_events n (replicate k (Start m)) ≡ []
starts_not n m zero h = refl
starts_not n m (suc k) h = ap (λ b. cond (b && true) (Start m ∷ own_events n (replicate k (Start m))) (own_events n (replicate k (Start m)))) h ∙ starts_not n m k h

starts_own : (n m k : ℕ) → (m == n) ≡ true → own_events n (replicate k (Start m)) ≡ replicate k (Start m)
starts_own n m zero h = refl
starts_own n m (suc k) h = ap (λ b. cond (b && true) (Start m ∷ own_events n (replicate k (Start m))) (own_events n (replicate k (Start m)))) h ∙ ap (λ es. Start m ∷ es) (starts_own n m k h)

none_started : (n : ℕ) (gs : List scenario.Guest) → has_number gs n ≡ false → own_events n (flat_map starts_of gs) ≡ []
none_started n [] h = refl
none_started n (g ∷ gs) h = of (g.vm == n) refl h (λ k. none_started n gs k)
  where
    of : (b : Bool) → (g.vm == n) ≡ b → (b || has_number gs n) ≡ false → (has_number gs n ≡ false → own_events n (flat_map starts_of gs) ≡ []) → own_events n (replicate g.spec.overhead (Start g.vm) ++ flat_map starts_of gs) ≡ []
    of true e k rest = cc
    of false e k rest = own_append n (replicate g.spec.overhead (Start g.vm)) (flat_map starts_of gs) ∙ ap (λ xs. xs ++ own_events n (flat_map starts_of gs)) (starts_not n g.vm g.spec.overhead e) ∙ rest k

not_same : (gs : List scenario.Guest) (x g : scenario.Guest) (k : ℕ) → has_number gs x.vm ≡ false → slice_get gs k ≡ Some g → (b : Bool) → (x.vm == g.vm) ≡ b → (x.vm == g.vm) ≡ false
not_same gs x g k none at true e =
    let same : x.vm ≡ g.vm = grind (arith, nat_tests) in
    absurd (false≢true (sym none ∙ ap (has_number gs) same ∙ has_placed gs k g at))
not_same gs x g k none at false e = e

admitted_once : (gs : List scenario.Guest) (k : ℕ) (g : scenario.Guest) → AreDistinct gs → slice_get gs k ≡ Some g → own_events g.vm (flat_map admit_of gs) ≡ Admit g.vm g.spec ∷ []
admitted_once [] k g d h = cc
admitted_once (x ∷ gs) zero g d h =
    let same : x ≡ g = cc in
    let P : scenario.Guest → Type 0 = λ y. own_events y.vm (Admit x.vm x.spec ∷ flat_map admit_of gs) ≡ Admit y.vm y.spec ∷ [] in
    subst P same (ap (λ b. cond (b && true) (Admit x.vm x.spec ∷ own_events x.vm (flat_map admit_of gs)) (own_events x.vm (flat_map admit_of gs))) (eqb_same x.vm) ∙ ap (λ es. Admit x.vm x.spec ∷ es) (none_admitted x.vm gs d.0))
admitted_once (x ∷ gs) (suc k) g d h =
    ap (λ b. cond (b && true) (Admit x.vm x.spec ∷ own_events g.vm (flat_map admit_of gs)) (own_events g.vm (flat_map admit_of gs))) (not_same gs x g k d.0 h (x.vm == g.vm) refl) ∙ admitted_once gs k g d.1 h

started_once : (gs : List scenario.Guest) (k : ℕ) (g : scenario.Guest) → AreDistinct gs → slice_get gs k ≡ Some g → own_events g.vm (flat_map starts_of gs) ≡ replicate g.spec.overhead (Start g.vm)
started_once [] k g d h = cc
started_once (x ∷ gs) zero g d h =
    let same : x ≡ g = cc in
    let P : scenario.Guest → Type 0 = λ y. own_events y.vm (flat_map starts_of (x ∷ gs)) ≡ replicate y.spec.overhead (Start y.vm) in
    subst P same (own_append x.vm (replicate x.spec.overhead (Start x.vm)) (flat_map starts_of gs)
    ∙ ap (λ es. es ++ own_events x.vm (flat_map starts_of gs)) (starts_own x.vm x.vm x.spec.overhead (eqb_same x.vm)) ∙ ap (λ es. replicate x.spec.overhead (Start x.vm) ++ es) (none_started x.vm gs d.0) ∙ append-nil (replicate x.spec.overhead (Start x.vm)))
started_once (x ∷ gs) (suc k) g d h =
    own_append g.vm (replicate x.spec.overhead (Start x.vm)) (flat_map starts_of gs)
    ∙ ap (λ es. es ++ own_events g.vm (flat_map starts_of gs)) (starts_not g.vm x.vm x.spec.overhead (not_same gs x g k d.0 h (x.vm == g.vm) refl)) ∙ started_once gs k g d.1 h

-- With its last overhead frame the machine runs.

record Runs (size : ℕ) (o : Option Memory) : Type 0 where
  memory : Memory
  is : o ≡ Some memory
  up : memory.state ≡ Running
  pages : length memory.pages ≡ size

started_runs : (c : Config) (n k : ℕ) (m : Memory) → m.held + suc k ≡ m.wanted → Runs (length m.pages) (memory_along c n (replicate (suc k) (Start n)) (Some m))
unfolding memory_along memory_after
started_runs c n zero m h =
    let test : nat_lt (m.held + 1) m.wanted ≡ false = grind (arith, nat_tests) in
    record { memory = with_frame m; is = ap (λ b. cond b (Some (with_frame m)) (Some m)) (eqb_same n); up = ap (λ b. cond b Starting Running) test; pages = refl }
started_runs c n (suc k) m h =
    let rest = started_runs c n k (with_frame m) (omega (arith, h)) in
    record { memory = rest.memory; is = ap (λ b. memory_along c n (replicate (suc k) (Start n)) (cond b (Some (with_frame m)) (Some m))) (eqb_same n) ∙ rest.is; up = rest.up; pages = rest.pages }

opened_runs : (c : Config) (g : scenario.Guest) (k : ℕ) → g.spec.overhead ≡ suc k → Runs g.spec.max (memory_along c g.vm (Admit g.vm g.spec ∷ replicate (suc k) (Start g.vm)) None)
unfolding memory_along memory_after
opened_runs c g k h =
    let m = memory_of c (admitted g.spec) in
    let rest = started_runs c g.vm k m (omega (arith, h)) in
    record { memory = rest.memory; is = ap (λ b. memory_along c g.vm (replicate (suc k) (Start g.vm)) (cond b (Some m) None)) (eqb_same g.vm) ∙ rest.is; up = rest.up; pages = rest.pages ∙ length-map (replicate g.spec.max Untouched) _ ∙ length-replicate g.spec.max Untouched }

some_frames : (g : scenario.Guest) (o : ℕ) → g.spec.overhead ≡ o → 1 ≤ o → (c : Config) → Runs g.spec.max (memory_along c g.vm (Admit g.vm g.spec ∷ replicate g.spec.overhead (Start g.vm)) None)
some_frames g zero e some c = absurd (omega (arith, some))
some_frames g (suc k) e some c =
    let P : ℕ → Type 0 = λ o. Runs g.spec.max (memory_along c g.vm (Admit g.vm g.spec ∷ replicate o (Start g.vm)) None) in
    subst P (sym e) (opened_runs c g k e)

-- The machine of a guest after the opening.
pub record IsOpen (s : Session) (n max : ℕ) : Type 0 where
  pub vm : Vm
  pub there : vm_at (scene_at (history s)).site n ≡ Some vm
  pub up : vm.state ≡ Running
  pub size : vm.spec.max ≡ max

pub opened_up : (c : Config) (gs : List scenario.Guest) (k : ℕ) (g : scenario.Guest) (t : Session) → IsConfig c → AreDistinct gs → slice_get gs k ≡ Some g → g.vm < VM_NUMBERS → 1 ≤ g.spec.overhead
    → AreAccepted (flat_map admit_of gs ++ flat_map starts_of gs) (opened_session c) t → IsOpen t g.vm g.spec.max
unfolding history_from
opened_up c gs k g t fine distinct at low some are =
    let es = flat_map admit_of gs ++ flat_map starts_of gs in
    let n = g.vm in
    let start : IsLed c n (history (opened_session c)) None = record { scene = opening c; stands = opened_stands c fine; memory = nobody c n } in
    let l = led c n es (opened_session c) t None low start are in
    let events : own_events n es ≡ Admit n g.spec ∷ replicate g.spec.overhead (Start n) =
    own_append n (flat_map admit_of gs) (flat_map starts_of gs) ∙ ap (λ xs. xs ++ own_events n (flat_map starts_of gs)) (admitted_once gs k g distinct at) ∙ ap (λ xs. Admit n g.spec ∷ xs) (started_once gs k g distinct at) in
    let r = some_frames g g.spec.overhead refl some c in
    let memory : memory_at c l.scene.site n ≡ Some r.memory = l.memory ∙ along_own c n es None ∙ ap (λ xs. memory_along c n xs None) events ∙ r.is in
    let v = vm_of c l.scene.site n r.memory memory in
    let fine = l.stands.sound.each n v.vm v.there in
    let size : v.vm.spec.max ≡ g.spec.max = sym fine.pages ∙ sym (length-map v.vm.places _) ∙ ap (λ (m : Memory). length m.pages) v.is ∙ r.pages in
    record { size = size; vm = v.vm; there = ap (λ (x : Scene). vm_at x.site n) (stands_at c (history t) l.scene l.stands) ∙ v.there; up = ap (λ (m : Memory). m.state) v.is ∙ r.up }

-- The lines of the opening.

opening_of : (gs : List scenario.Guest) → AllByRecursion (λ e. is_opening e ≡ true) (flat_map admit_of gs ++ flat_map starts_of gs)
opening_of gs = admits gs
  where
    many : (n k : ℕ) (rest : List Event) → AllByRecursion (λ e. is_opening e ≡ true) rest → AllByRecursion (λ e. is_opening e ≡ true) (replicate k (Start n) ++ rest)
    many n zero rest h = h
    many n (suc k) rest h = (refl, many n k rest h)

    starts : (xs : List scenario.Guest) → AllByRecursion (λ e. is_opening e ≡ true) (flat_map starts_of xs)
    starts [] = tt
    starts (x ∷ xs) = many x.vm x.spec.overhead (flat_map starts_of xs) (starts xs)

    admits : (xs : List scenario.Guest) → AllByRecursion (λ e. is_opening e ≡ true) (flat_map admit_of xs ++ flat_map starts_of gs)
    admits [] = starts gs
    admits (x ∷ xs) = (refl, admits xs)

pub record HasLines (s t : Session) : Type 0 where
  pub site : t.site ≡ s.site
  pub lines : List Line
  pub log : s.log ++ lines ≡ t.log
  pub opens : AllByRecursion (λ x. Opens x.call) lines

lines_by_events : (es : List Event) (s t : Session) → AllByRecursion (λ e. is_opening e ≡ true) es → AreAccepted es s t → HasLines s t
unfolding AreAccepted next_reply
lines_by_events [] s t all are = record { site = ap (λ (x : Session). x.site) are; lines = []; log = append-nil s.log ∙ ap (λ (x : Session). x.log) (sym are); opens = tt }
lines_by_events (e ∷ es) s t all are =
    let rest = lines_by_events es (lined s 0 (calls.Do e)) t all.1 are.1 in
    let x : Line = record { caller = 0; call = calls.Do e; reply = next_reply s (calls.Do e) } in
    record { site = rest.site; lines = x ∷ rest.lines; log = sym (append_assoc s.log (x ∷ []) rest.lines) ∙ rest.log; opens = (all.0, rest.opens) }

pub opened_lines : (c : Config) (gs : List scenario.Guest) (t : Session) → AreAccepted (flat_map admit_of gs ++ flat_map starts_of gs) (opened_session c) t → HasLines (opened_session c) t
opened_lines c gs t are = lines_by_events (flat_map admit_of gs ++ flat_map starts_of gs) (opened_session c) t (opening_of gs) are
