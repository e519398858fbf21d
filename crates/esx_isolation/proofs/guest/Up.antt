-- What a running machine is asked, and why it refuses.
use Rattle.std.proofs.Common.{◌≡◌, ℕ, zero, suc, ◌+◌, ◌≤◌, ◌<◌, Bool, true, false, not, ◌||◌, ◌==◌, nat_lt, nat_le, List, [], ◌∷◌, length, get_or, take, drop, refl, sym, ap, ◌∙◌, subst, arith, cond, Option, Some, None, Result, Ok, Err, ◌⊎◌, inl, inr}
use Rattle.std.specs.List.{list_any, AllByRecursion}
use Rattle.std.specs.Option.{option_map}
use Rattle.std.proofs.lemmas.List.{length-map, length-replicate}
use Rattle.esx_types.specs.declared.config.Config.{Config}
use Rattle.esx_types.specs.declared.level.Level.{Level}
use Rattle.esx_types.specs.declared.vm.VmState.TheVariants.{Running}
use Rattle.esx_events.specs.declared.event.Event.{Event}
use Rattle.esx_events.specs.declared.event.Event.TheVariants.{Read, Write, Ask, Lend, TakeBack, Replace}
use Rattle.esx_events.specs.declared.event.Answer.{Answer}
use Rattle.esx_events.specs.declared.event.Answer.TheVariants as answers
use Rattle.esx_events.specs.declared.event.Refusal.{Refusal}
use Rattle.esx_events.specs.declared.event.Refusal.TheVariants.{NotRunning, OutOfRange, Held, Short}
use Rattle.esx_model.specs.declared.scene.Place.{Place}
use Rattle.esx_model.specs.declared.scene.Place.TheVariants.{Untouched, Here, Out, Lent}
use Rattle.esx_model.specs.declared.scene.Vm.{Vm}
use Rattle.esx_model.specs.declared.scene.Site.{Site}
use Rattle.esx_model.specs.declared.scene.Scene.{Scene}
use Rattle.esx_model.specs.Places.{is_here, is_lent_in, is_shared, contents, zeros}
use Rattle.esx_model.specs.Site.{vm_at, place_at, free_count}
use Rattle.esx_model.specs.event.Outcome.{Outcome, at_vm, unless, or_else, standing, is_running, running_gate, page_gate}
use Rattle.esx_model.specs.event.Access.{is_blocked, access_gate, overwritten, read_frame, write_frame, settle, read_at, write_at, read, write}
use Rattle.esx_model.specs.event.Balloon.{is_lent, take_back_gate, ask, lend, take_back}
use Rattle.esx_model.specs.event.Paging.{is_above_min, replace_gate, replace}
use Rattle.esx_model.specs.Step.{step}
use Rattle.esx_model.specs.Replay.{settled, next}
use Rattle.esx_model.specs.sound.Machines.{IsPlace}
use Rattle.esx_model.specs.sound.Sound.{IsSound}
use Rattle.esx_model.proofs.Callers.{of_vm, passed, chosen, not_not, runs, whole_page, within_page, step_of, some_same}
use Rattle.esx_model.specs.Memory.{Memory, memory_of, memory_at, bytes_at}
use Rattle.esx_model.specs.Guests.{is_pressed}
use Rattle.esx_isolation.proofs.Turns.{memory_there, bytes_are}

-- A machine that runs.
pub record IsUp (c : Config) (s : Site) (n : ℕ) : Type 0 where
  pub vm : Vm
  pub there : vm_at s n ≡ Some vm
  pub runs : vm.state ≡ Running

up_by : (c : Config) (s : Site) (n : ℕ) (v : Vm) → vm_at s n ≡ Some v → not (is_running v.state) ≡ false → IsUp c s n
up_by c s n v there gate = record { vm = v; there = there; runs = runs v.state (not_not _ gate) }

read_up : (c : Config) (s : Site) (level : Level) (n page at len : ℕ) (r : Answer × Site) → read c s level n page at len ≡ Ok r → IsUp c s n
unfolding read
read_up c s level n page at len r h = (let own = of_vm (vm_at s n) _ r h in up_by c s n own.vm own.there (passed (access_gate c level (standing own.vm) page at len) _ r own.then).0.0)

write_up : (c : Config) (s : Site) (level : Level) (n page at : ℕ) (new : List ℕ) (r : Answer × Site) → write c s level n page at new ≡ Ok r → IsUp c s n
unfolding write
write_up c s level n page at new r h = (let own = of_vm (vm_at s n) _ r h in up_by c s n own.vm own.there (passed (access_gate c level (standing own.vm) page at (length new)) _ r own.then).0.0)

ask_up : (c : Config) (s : Site) (n : ℕ) (r : Answer × Site) → ask s n ≡ Ok r → IsUp c s n
unfolding ask
ask_up c s n r h = (let own = of_vm (vm_at s n) _ r h in up_by c s n own.vm own.there (passed (running_gate (standing own.vm)) _ r own.then).0.0)

lend_up : (c : Config) (s : Site) (n page : ℕ) (r : Answer × Site) → lend s n page ≡ Ok r → IsUp c s n
unfolding lend
lend_up c s n page r h = (let own = of_vm (vm_at s n) _ r h in up_by c s n own.vm own.there (passed (page_gate (standing own.vm) page) _ r own.then).0.0)

take_back_up : (c : Config) (s : Site) (n page : ℕ) (r : Answer × Site) → take_back s n page ≡ Ok r → IsUp c s n
unfolding take_back
take_back_up c s n page r h = (let own = of_vm (vm_at s n) _ r h in up_by c s n own.vm own.there (passed (page_gate (standing own.vm) page) _ r own.then).0.0)

replace_up : (c : Config) (s : Site) (n page word : ℕ) (r : Answer × Site) → replace c s n page word ≡ Ok r → IsUp c s n
unfolding replace
replace_up c s n page word r h =
    let own = of_vm (vm_at s n) _ r h in
    up_by c s n own.vm own.there (passed (replace_gate (standing own.vm) page (is_here (place_at own.vm page)) (free_count c.frames s) (list_any is_above_min s.vms)) _ r own.then).0.0

-- what only a running machine does
abbrev pub NeedsUp : ℕ → Event → Type 0
NeedsUp n (Read vm page at len) = vm ≡ n
NeedsUp n (Write vm page at new) = vm ≡ n
NeedsUp n (Ask vm) = vm ≡ n
NeedsUp n (Lend vm page) = vm ≡ n
NeedsUp n (TakeBack vm page) = vm ≡ n
NeedsUp n (Replace vm page word) = vm ≡ n
NeedsUp n _ = ⊥

step_up : (c : Config) (s : Site) (level : Level) (n : ℕ) (e : Event) (r : Answer × Site) → NeedsUp n e → step c s level e ≡ Ok r → IsUp c s n
step_up c s level n (Read vm page at len) r is h = subst (IsUp c s) is (read_up c s level vm page at len r h)
step_up c s level n (Write vm page at new) r is h = subst (IsUp c s) is (write_up c s level vm page at new r h)
step_up c s level n (Ask vm) r is h = subst (IsUp c s) is (ask_up c s vm r h)
step_up c s level n (Lend vm page) r is h = subst (IsUp c s) is (lend_up c s vm page r h)
step_up c s level n (TakeBack vm page) r is h = subst (IsUp c s) is (take_back_up c s vm page r h)
step_up c s level n (Replace vm page word) r is h = subst (IsUp c s) is (replace_up c s vm page word r h)
step_up c s level n _ r is h = absurd is

pub accepted_up : (c : Config) (t : Scene) (n : ℕ) (e : Event) (r : Answer × Scene) → NeedsUp n e → next c t e ≡ Ok r → IsUp c t.site n
accepted_up c t n e r is h = (let s = step_of c t e r h in step_up c t.site t.level n e s.0 is s.1)

-- A machine by its memory.

pub record IsOf (c : Config) (s : Site) (n : ℕ) (x : Memory) : Type 0 where
  pub vm : Vm
  pub there : vm_at s n ≡ Some vm
  pub is : memory_of c vm ≡ x

of_by : (c : Config) (s : Site) (n : ℕ) (x : Memory) (o : Option Vm) → vm_at s n ≡ o → option_map (memory_of c) o ≡ Some x → IsOf c s n x
of_by c s n x None there h = cc
of_by c s n x (Some v) there h = record { vm = v; there = there; is = some_same (memory_of c v) x h }

pub vm_of : (c : Config) (s : Site) (n : ℕ) (x : Memory) → memory_at c s n ≡ Some x → IsOf c s n x
vm_of c s n x h = of_by c s n x (vm_at s n) refl h

pages_whole : (c : Config) (e : ℕ) (ps : List Place) (q : ℕ) → AllByRecursion (IsPlace c e) ps → length (contents c (get_or ps q Untouched)) ≡ c.page
pages_whole c e [] q h = length-replicate c.page 0
pages_whole c e (p ∷ ps) zero h = whole_page c e p h.0
pages_whole c e (p ∷ ps) (suc q) h = pages_whole c e ps q h.1

-- each page of a memory is whole
pub memory_whole : (c : Config) (s : Site) (n : ℕ) (x : Memory) → IsSound c s → memory_at c s n ≡ Some x → (q : ℕ) → length (bytes_at c x q) ≡ c.page
memory_whole c s n x sound h q =
    let o = vm_of c s n x h in
    let P : Memory → Type 0 = λ m. length (bytes_at c m q) ≡ c.page in
    subst P o.is (ap length (bytes_are c o.vm q) ∙ pages_whole c o.vm.epoch o.vm.places q (sound.each n o.vm o.there).places)

-- Why an access of a running machine is refused.

abbrev refused : Refusal → Outcome
refused e = Err e

same_refusal : (a b : Refusal) → refused a ≡ Err b → a ≡ b
same_refusal a b h = cc

pressed_as : (a b : Refusal) → is_pressed a ≡ true → refused a ≡ Err b → is_pressed b ≡ true
pressed_as a b p h = ap is_pressed (sym (same_refusal a b h)) ∙ p

not_settled : (s : Site) (n page : ℕ) (a : Answer) (bytes : List ℕ) (shared : Bool) (o : Option ℕ) (e : Refusal) → settle s n page a bytes shared o ≡ Err e → is_pressed e ≡ true
not_settled s n page a bytes shared None e h = pressed_as Short e refl h
not_settled s n page a bytes shared (Some f) e h = cc

gate_waits : (level : Level) (c : Config) (v : Vm) (page at len : ℕ) (o : Outcome) (e : Refusal) → not (is_running v.state) ≡ false → (nat_le v.spec.max page || (len == 0) || nat_lt c.page (at + len)) ≡ false
    → (o ≡ Err e → is_pressed e ≡ true) → (b : Bool) → is_blocked level (standing v) ≡ b → unless (access_gate c level (standing v) page at len) o ≡ Err e → is_pressed e ≡ true
gate_waits level c v page at len o e up fits rest b is h =
    of b (sym (ap (λ x. or_else (cond x (Some NotRunning) (cond inner (Some OutOfRange) (cond (is_blocked level (standing v)) (Some Held) None))) o) up
    ∙ ap (λ x. or_else (cond x (Some OutOfRange) (cond (is_blocked level (standing v)) (Some Held) None)) o) fits
    ∙ ap (λ x. or_else (cond x (Some Held) None) o) is) ∙ h)
  where
    inner : Bool
    inner = nat_le v.spec.max page || (len == 0) || nat_lt c.page (at + len)

    of : (b : Bool) → or_else (cond b (Some Held) None) o ≡ Err e → is_pressed e ≡ true
    of true k = pressed_as Held e refl k
    of false k = rest k

settled_err : (c : Config) (level : Level) (o : Outcome) (e : Refusal) → settled c level o ≡ Err e → o ≡ Err e
settled_err c level (Err r) e h = (let same = told r e h in ap refused same)
  where
    scene_refused : Refusal → Result (Answer × Scene) Refusal
    scene_refused r = Err r

    told : (a b : Refusal) → scene_refused a ≡ Err b → a ≡ b
    told a b h = cc
settled_err c level (Ok r) e h = cc

-- what a running machine is asked within its pages
pub record Asks (c : Config) (s : Site) (n : ℕ) (x : Memory) (page at len : ℕ) : Type 0 where
  pub sound : IsSound c s
  pub memory : memory_at c s n ≡ Some x
  pub up : x.state ≡ Running
  pub below : page < length x.pages
  pub some : 1 ≤ len
  pub fits : at + len ≤ c.page

access_waits : (c : Config) (s : Site) (level : Level) (n page at len : ℕ) (x : Memory) (f : Vm → Outcome) (e : Refusal) → Asks c s n x page at len
    → ((v : Vm) → f v ≡ Err e → is_pressed e ≡ true) → at_vm (vm_at s n) (λ v. unless (access_gate c level (standing v) page at len) (f v)) ≡ Err e → is_pressed e ≡ true
access_waits c s level n page at len x f e asks rest h =
    let o = vm_of c s n x asks.memory in
    let v = o.vm in
    let fine = asks.sound.each n v o.there in
    let up : v.state ≡ Running = ap (λ (m : Memory). m.state) o.is ∙ asks.up in
    let size : length v.places ≡ length x.pages = sym (length-map v.places _) ∙ ap (λ (m : Memory). length m.pages) o.is in
    let below = asks.below in
    gate_waits level c v page at len (f v) e (ap (λ s. not (is_running s)) up)
    (within_page v.spec.max page c.page at len (omega (arith, size, below, fine.pages)) asks.some asks.fits)
    (rest v) (is_blocked level (standing v)) refl
    (ap (λ k. at_vm k (λ w. unless (access_gate c level (standing w) page at len) (f w))) (sym o.there) ∙ h)

read_waits : (c : Config) (s : Site) (level : Level) (n page at len : ℕ) (x : Memory) (e : Refusal) → Asks c s n x page at len → read c s level n page at len ≡ Err e → is_pressed e ≡ true
unfolding read
read_waits c s level n page at len x e asks h =
    access_waits c s level n page at len x (λ v. read_at c s n page at len (place_at v page)) e asks
    (λ v k. not_settled s n page (answers.Bytes (take len (drop at (contents c (place_at v page))))) (contents c (place_at v page)) (is_shared (place_at v page)) (read_frame c s (place_at v page)) e k) h

write_waits : (c : Config) (s : Site) (level : Level) (n page at : ℕ) (new : List ℕ) (x : Memory) (e : Refusal) → Asks c s n x page at (length new) → write c s level n page at new ≡ Err e → is_pressed e ≡ true
unfolding write
write_waits c s level n page at new x e asks h =
    access_waits c s level n page at (length new) x (λ v. write_at c s n page at new (place_at v page)) e asks
    (λ v k. not_settled s n page answers.Done (overwritten (contents c (place_at v page)) at new) false (write_frame c s (place_at v page)) e k) h

pub read_refused : (c : Config) (t : Scene) (n page at len : ℕ) (x : Memory) (e : Refusal) → Asks c t.site n x page at len → next c t (Read n page at len) ≡ Err e → is_pressed e ≡ true
unfolding next
read_refused c t n page at len x e asks h = read_waits c t.site t.level n page at len x e asks (settled_err c t.level (step c t.site t.level (Read n page at len)) e h)

pub write_refused : (c : Config) (t : Scene) (n page at : ℕ) (new : List ℕ) (x : Memory) (e : Refusal) → Asks c t.site n x page at (length new) → next c t (Write n page at new) ≡ Err e → is_pressed e ≡ true
unfolding next
write_refused c t n page at new x e asks h = write_waits c t.site t.level n page at new x e asks (settled_err c t.level (step c t.site t.level (Write n page at new)) e h)

-- What a page reads as when it is taken back.

lent_zeros : (c : Config) (e : ℕ) (p : Place) → is_lent_in e p ≡ true → contents c p ≡ zeros c
lent_zeros c e Untouched h = cc
lent_zeros c e (Here bytes f shared) h = cc
lent_zeros c e (Out bytes i) h = cc
lent_zeros c e (Lent d) h = refl

-- a reset was due, or the page was lent
abbrev pub WasLent : Config → Memory → ℕ → Type 0
WasLent c x page = (x.due ≡ true) ⊎ (bytes_at c x page ≡ zeros c)

back_lent : (c : Config) (s : Site) (n page : ℕ) (x : Memory) (r : Answer × Site) → memory_at c s n ≡ Some x → take_back s n page ≡ Ok r → WasLent c x page
unfolding take_back
back_lent c s n page x r h k =
    let own = of_vm (vm_at s n) _ r k in
    let v = own.vm in
    let pass = passed (page_gate (standing v) page) _ r own.then in
    let same : memory_of c v ≡ x = some_same (memory_of c v) x (sym (memory_there c s n v own.there) ∙ h) in
    let P : Memory → Type 0 = λ m. WasLent c m page in
    subst P same (elim (chosen v.due _ _ (Ok r) pass.1) [
      | inl w ↦ inl w.0
      | inr w ↦ inr (bytes_are c v page ∙ lent_zeros c v.epoch (place_at v page) (not_not _ (passed (take_back_gate (is_lent v page)) _ r w.1).0.0))
    ])

pub taken_back_lent : (c : Config) (t : Scene) (n page : ℕ) (x : Memory) (r : Answer × Scene) → memory_at c t.site n ≡ Some x → next c t (TakeBack n page) ≡ Ok r → WasLent c x page
taken_back_lent c t n page x r m h = (let s = step_of c t (TakeBack n page) r h in back_lent c t.site n page x s.0 m s.1)
