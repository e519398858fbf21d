-- What every event does to memories, and so every path.
use Rattle.std.proofs.Common.{◌≡◌, ℕ, zero, suc, get_or, replicate, ◌+◌, ◌<◌, Bool, true, false, ◌&&◌, not, List, [], ◌∷◌, take, drop, refl, sym, ap, ◌∙◌, cond, Option, Some, None, Ok, inl, inr, arith}
use Rattle.std.specs.Option.{option_map}
use Rattle.esx_types.specs.declared.config.TheConstants.{VM_NUMBERS}
use Rattle.esx_types.specs.declared.config.Config.{Config}
use Rattle.esx_types.specs.Ranges.{IsConfig}
use Rattle.esx_types.specs.declared.level.Level.{Level}
use Rattle.esx_events.specs.declared.event.Answer.{Answer}
use Rattle.esx_events.specs.declared.event.Answer.TheVariants as answers
use Rattle.esx_events.specs.declared.event.Event.{Event}
use Rattle.esx_events.specs.declared.event.Event.TheVariants.{Admit, Start, Read, Write, Ask, Lend, TakeBack, Sample, Rebalance, Scan, SwapOut, Replace, SetShares, SetTax, SetVmTax, Stop, DropPage, Gone}
use Rattle.esx_model.specs.declared.scene.Site.{Site}
use Rattle.esx_model.specs.declared.scene.Scene.{Scene}
use Rattle.esx_model.specs.Step.{step}
use Rattle.esx_model.specs.Replay.{opening, next, run_from, run}
use Rattle.esx_model.specs.sound.Sound.{IsSound}
use Rattle.std.proofs.lemmas.Bool.{cases_lt}
use Rattle.esx_types.specs.declared.vm.VmSpec.{VmSpec}
use Rattle.esx_model.specs.declared.scene.Vm.{Vm}
use Rattle.esx_model.specs.Site.{vm_at}
use Rattle.esx_model.specs.event.Admission.{admit}
use Rattle.esx_model.proofs.Callers.{opening_sound, every_event_sound, every_run_sound, some_below, some_same, eqb_other, step_of, run_one}
use Rattle.esx_model.specs.Memory.{Memory, memory_of, memory_at, bytes_at, own, names, is_left_out, memory_after, memory_along, is_own, own_events}
use Rattle.esx_isolation.specs.Isolation.{ReadTwice}
use Rattle.esx_isolation.proofs.event.Access.{read_turns, read_tells, write_turns, replace_turns}
use Rattle.esx_isolation.proofs.event.Balloon.{ask_turns, lend_turns, take_back_turns}
use Rattle.esx_isolation.proofs.event.Sharing.{scan_turns}
use Rattle.esx_isolation.proofs.event.Paging.{swap_out_turns}
use Rattle.esx_isolation.proofs.event.Leaving.{stop_turns, drop_page_turns, gone_turns}
use Rattle.esx_isolation.proofs.event.Others.{admit_turns, admit_nobody, start_turns, sample_turns, set_shares_turns, set_tax_keeps, set_vm_tax_turns, rebalance_keeps}

admit_any : (c : Config) (s : Site) (n : ℕ) (spec : VmSpec) (r : Answer × Site) (m : ℕ) → IsSound c s → m < VM_NUMBERS → admit c s n spec ≡ Ok r → memory_at c r.1 m ≡ memory_after c m (Admit n spec) (memory_at c s m)
unfolding memory_after
admit_any c s n spec r m sound low h = elim (cases_lt n VM_NUMBERS) [
  | inl below ↦ admit_turns c s n spec r sound below h m
  | inr beyond ↦ ap (λ t. memory_at c t m) (admit_nobody c s n spec r sound beyond h)
      ∙ ap (λ b. cond b (own c (Admit n spec) (memory_at c s m)) (memory_at c s m)) (sym (eqb_other n m (λ e. omega (arith, e, beyond, low))))
]

pub every_step_turns : (c : Config) (s : Site) (level : Level) (e : Event) (r : Answer × Site) (m : ℕ) → IsSound c s → m < VM_NUMBERS → step c s level e ≡ Ok r → memory_at c r.1 m ≡ memory_after c m e (memory_at c s m)
unfolding memory_after
every_step_turns c s level (Admit n spec) r m sound low h = admit_any c s n spec r m sound low h
every_step_turns c s level (Start n) r m sound low h = start_turns c s n r h m
every_step_turns c s level (Read n page at len) r m sound low h = read_turns c s level n page at len r h m
every_step_turns c s level (Write n page at new) r m sound low h = write_turns c s level n page at new r h m
every_step_turns c s level (Ask n) r m sound low h = ask_turns c s n r h m
every_step_turns c s level (Lend n page) r m sound low h = lend_turns c s n page r h m
every_step_turns c s level (TakeBack n page) r m sound low h = take_back_turns c s n page r h m
every_step_turns c s level (Sample n len words) r m sound low h = sample_turns c s n len words r h m
every_step_turns c s level Rebalance r m sound low h = rebalance_keeps c s level r h m
every_step_turns c s level (Scan n page) r m sound low h = scan_turns c s n page r sound h m
every_step_turns c s level (SwapOut n word) r m sound low h = swap_out_turns c s level n word r sound h m
every_step_turns c s level (Replace n page word) r m sound low h = replace_turns c s n page word r h m
every_step_turns c s level (SetShares n shares) r m sound low h = set_shares_turns c s n shares r h m
every_step_turns c s level (SetTax tau) r m sound low h = set_tax_keeps c s tau r h m
every_step_turns c s level (SetVmTax n tau) r m sound low h = set_vm_tax_turns c s n tau r h m
every_step_turns c s level (Stop n) r m sound low h = stop_turns c s n r h m
every_step_turns c s level (DropPage n page) r m sound low h = drop_page_turns c s n page r h m
every_step_turns c s level (Gone n) r m sound low h = gone_turns c s n r h m

pub every_event_turns : (c : Config) (t : Scene) (e : Event) (r : Answer × Scene) (n : ℕ) → IsSound c t.site → n < VM_NUMBERS → next c t e ≡ Ok r → memory_at c r.1.site n ≡ memory_after c n e (memory_at c t.site n)
every_event_turns c t e r n sound low h =
    let s = step_of c t e r h in
    ap (λ u. memory_at c u n) (sym s.3) ∙ every_step_turns c t.site t.level e s.0 n sound low s.1

pub run_turns : (c : Config) (i : ℕ) (es : List Event) (t u : Scene) (n : ℕ) → IsSound c t.site → n < VM_NUMBERS → run_from c i es t ≡ Ok u → memory_at c u.site n ≡ memory_along c n es (memory_at c t.site n)
unfolding run_from memory_along
run_turns c i [] t u n sound low h =
    let same : t ≡ u = cc in
    ap (λ (x : Scene). memory_at c x.site n) (sym same)
run_turns c i (e ∷ es) t u n sound low h =
    let one = run_one i (next c t e) (λ x. run_from c (i + 1) es x) u h in
    run_turns c (i + 1) es one.0.1 u n (every_event_sound c t e one.0 sound one.1) low one.2
    ∙ ap (memory_along c n es) (every_event_turns c t e one.0 n sound low one.1)

-- an event that is left out leaves a machine's memory, and so does one that does not name it
pub left_out : (c : Config) (e : Event) (o : Option Memory) → is_left_out e ≡ true → own c e o ≡ o
left_out c (Admit n spec) o h = cc
left_out c (Start n) o h = cc
left_out c (Read n page at len) o h = cc
left_out c (Write n page at new) o h = cc
left_out c (Ask n) o h = cc
left_out c (Lend n page) o h = cc
left_out c (TakeBack n page) o h = cc
left_out c (Sample n len words) o h = refl
left_out c Rebalance o h = refl
left_out c (Scan n page) o h = refl
left_out c (SwapOut n word) o h = refl
left_out c (Replace n page word) o h = cc
left_out c (SetShares n shares) o h = refl
left_out c (SetTax tau) o h = refl
left_out c (SetVmTax n tau) o h = refl
left_out c (Stop n) o h = cc
left_out c (DropPage n page) o h = cc
left_out c (Gone n) o h = cc

not_own : (c : Config) (n : ℕ) (e : Event) (o : Option Memory) (a b : Bool) → names n e ≡ a → is_left_out e ≡ b → (a && not b) ≡ false → cond a (own c e o) o ≡ o
not_own c n e o false b named left h = refl
not_own c n e o true true named left h = left_out c e o left
not_own c n e o true false named left h = cc

pub not_own_leaves : (c : Config) (n : ℕ) (e : Event) (o : Option Memory) → is_own n e ≡ false → memory_after c n e o ≡ o
unfolding memory_after
not_own_leaves c n e o h = not_own c n e o (names n e) (is_left_out e) refl refl h

along_one : (c : Config) (n : ℕ) (e : Event) (es : List Event) (o : Option Memory) (b : Bool) → is_own n e ≡ b → ((x : Option Memory) → memory_along c n es x ≡ memory_along c n (own_events n es) x)
    → memory_along c n es (memory_after c n e o) ≡ memory_along c n (cond b (e ∷ own_events n es) (own_events n es)) o
unfolding memory_along
along_one c n e es o true k rest = rest (memory_after c n e o)
along_one c n e es o false k rest = ap (memory_along c n es) (not_own_leaves c n e o k) ∙ rest o

pub along_own : (c : Config) (n : ℕ) (es : List Event) (o : Option Memory) → memory_along c n es o ≡ memory_along c n (own_events n es) o
unfolding memory_along
along_own c n [] o = refl
along_own c n (e ∷ es) o = along_one c n e es o (is_own n e) refl (λ x. along_own c n es x)

-- nobody is there at first
none_at : (c : Config) (k n : ℕ) → option_map (memory_of c) (get_or (replicate k None) n None) ≡ None
none_at c zero n = refl
none_at c (suc k) zero = refl
none_at c (suc k) (suc n) = none_at c k n

pub nobody : (c : Config) (n : ℕ) → memory_at c (opening c).site n ≡ None
nobody c n = none_at c VM_NUMBERS n

-- The laws.

pub path_memory : (c : Config) (es : List Event) (t : Scene) (n : ℕ) → IsConfig c → n < VM_NUMBERS → run c es ≡ Ok t → memory_at c t.site n ≡ memory_along c n (own_events n es) None
path_memory c es t n fine low h = run_turns c 0 es (opening c) t n (opening_sound c fine) low h ∙ ap (memory_along c n es) (nobody c n) ∙ along_own c n es None

pub read_told : (c : Config) (t : Scene) (n page at len : ℕ) (a : Answer) (u : Scene) → next c t (Read n page at len) ≡ Ok (a, u)
    → (m : Memory) × (memory_at c t.site n ≡ Some m) × (a ≡ answers.Bytes (take len (drop at (bytes_at c m page))))
read_told c t n page at len a u h =
    let s = step_of c t (Read n page at len) (a, u) h in
    let told = read_tells c t.site t.level n page at len s.0 s.1 in
    (told.0, told.1, sym s.2 ∙ told.2)

there_below : (c : Config) (s : Site) (n : ℕ) (m : Memory) (o : Option Vm) → IsSound c s → vm_at s n ≡ o → option_map (memory_of c) o ≡ Some m → n < VM_NUMBERS
there_below c s n m None sound there h = cc
there_below c s n m (Some v) sound there h = (let below = some_below s.vms n v there in let len = sound.vms in omega (arith, below, len))

-- a machine that is there has a number that there is
pub memory_below : (c : Config) (s : Site) (n : ℕ) (m : Memory) → IsSound c s → memory_at c s n ≡ Some m → n < VM_NUMBERS
memory_below c s n m sound h = there_below c s n m (vm_at s n) sound refl h

pub isolated : (c : Config) (es fs : List Event) (n page at len : ℕ) (a b : Answer) → IsConfig c → own_events n es ≡ own_events n fs → ReadTwice c es fs n page at len a b → a ≡ b
isolated c es fs n page at len a b fine same two =
    let one = read_told c two.one n page at len a two.after two.reads in
    let other = read_told c two.other n page at len b two.after_too two.reads_too in
    let low = memory_below c two.one.site n one.0 (every_run_sound c es two.one fine two.runs) one.1 in
    let memories : memory_at c two.one.site n ≡ memory_at c two.other.site n =
    path_memory c es two.one n fine low two.runs ∙ ap (λ xs. memory_along c n xs None) same ∙ sym (path_memory c fs two.other n fine low two.runs_too) in
    let is = some_same one.0 other.0 (sym one.1 ∙ memories ∙ other.1) in
    one.2 ∙ ap (λ m. answers.Bytes (take len (drop at (bytes_at c m page)))) is ∙ sym other.2
