-- In each life a machine gained what it lost and what it has.
use Rattle.std.proofs.Common.{◌≡◌, ℕ, ◌+◌, ◌<◌, ◌≤◌, ◌==◌, Bool, true, false, cond, List, [], ◌∷◌, ◌++◌, refl, sym, ap, ◌∙◌, subst, arith, Option, Some, None, is_some, Ok, inl, inr}
use Rattle.std.specs.Option.{option_map}
use Rattle.std.proofs.lemmas.Bool.{cases_eq}
use Rattle.std.proofs.lemmas.Bool.Decides.{nat_tests}
use Rattle.std.proofs.lemmas.List.{append-nil}
use Rattle.esx_types.specs.declared.config.Config.{Config}
use Rattle.esx_types.specs.declared.vm.VmSpec.{VmSpec}
use Rattle.esx_types.specs.Ranges.{IsConfig}
use Rattle.esx_events.specs.declared.event.Event.{Event}
use Rattle.esx_events.specs.declared.event.Event.TheVariants.{Admit}
use Rattle.esx_events.specs.declared.event.Answer.{Answer}
use Rattle.esx_model.specs.declared.scene.Vm.{Vm}
use Rattle.esx_model.specs.declared.scene.Site.{Site}
use Rattle.esx_model.specs.declared.scene.Scene.{Scene}
use Rattle.esx_model.specs.Replay.{opening, next, after_one, run_from, run}
use Rattle.esx_model.specs.Site.{vm_at}
use Rattle.esx_model.specs.event.Admission.{memory_with, swap_with, admit_gate, admit}
use Rattle.esx_model.proofs.Callers.{run_one, step_of, passed, eqb_same, eqb_other}
use Rattle.esx_story.specs.declared.change.Counts.{Counts}
use Rattle.esx_story.specs.Changes.{resident_in, resident_of}
use Rattle.esx_story.specs.Moments.{Moment, moments_from, moments}
use Rattle.esx_story.specs.Counts.{came_in, lost_in, admits, life_from, counts}
use Rattle.esx_story.proofs.Adds.{adds_up}
use Rattle.esx_story.proofs.Listed.{moments_one}
use Rattle.esx_sums.specs.Laws.{DoGuestsAddUp}
use Rattle.esx_sums.specs.Lives.{lives_then, kept_if, lived_from, lived, lives, end_of}
use Rattle.esx_sums.specs.Rows.{stands_at}
use Rattle.esx_sums.specs.Sums.{present_of, here_of}
use Rattle.esx_sums.proofs.Lawful.{counts_last, end_told, here_told}

-- Where a life ends: the path before the next admission, which is accepted.
record IsSplit (c : Config) (i : ℕ) (es : List Event) (s : Scene) (n l k : ℕ) : Type 0 where
  front : List Event
  spec : VmSpec
  back : List Event
  is : es ≡ front ++ Admit n spec ∷ back
  at : Scene
  runs : run_from c i front s ≡ Ok at
  after : Answer × Scene
  goes : next c at (Admit n spec) ≡ Ok after
  lives : life_from n (moments_from c front s) k ≡ l

-- the event is the admission of machine n
is_admission : (n : ℕ) (e : Event) → admits n e ≡ true → (spec : VmSpec) × (e ≡ Admit n spec)
is_admission n (Admit m spec) h = (spec, ap (λ k. Admit k spec) (same_number m n h))
  where
    same_number : (m n : ℕ) → (m == n) ≡ true → m ≡ n
    same_number m n h = grind (arith, nat_tests)
is_admission n _ h = cc

split_here : (c : Config) (i : ℕ) (es : List Event) (s : Scene) (n : ℕ) (spec : VmSpec) (k : ℕ) (e : Event) (r : Answer × Scene) → e ≡ Admit n spec → next c s e ≡ Ok r → IsSplit c i (e ∷ es) s n k k
unfolding run_from moments_from
split_here c i es s n spec k e r is goes = record {
  front = [];
  spec = spec;
  back = es;
  is = ap (λ (z : Event). z ∷ es) is;
  at = s;
  runs = refl;
  after = r;
  goes = ap (next c s) (sym is) ∙ goes;
  lives = refl;
}

split_later : (c : Config) (i : ℕ) (es : List Event) (s : Scene) (n l k : ℕ) (e : Event) (r : Answer × Scene) → next c s e ≡ Ok r → IsSplit c (i + 1) es r.1 n l (cond (admits n e) (k + 1) k) → IsSplit c i (e ∷ es) s n l k
unfolding run_from
split_later c i es s n l k e r goes split = record {
  front = e ∷ split.front;
  spec = split.spec;
  back = split.back;
  is = ap (λ (zs : List Event). e ∷ zs) split.is;
  at = split.at;
  runs = ap (λ o. after_one i o (λ u. run_from c (i + 1) split.front u)) goes ∙ split.runs;
  after = split.after;
  goes = split.goes;
  lives = ap (λ (zs : List Moment). life_from n zs k) (moments_one c e split.front s r goes) ∙ split.lives;
}

split_by : (c : Config) (i : ℕ) (es : List Event) (s : Scene) (n l k : ℕ) (e : Event) (r : Answer × Scene) (b : Bool) → next c s e ≡ Ok r → admits n e ≡ b → k ≤ l → l < life_from n (moments_from c es r.1) (cond b (k + 1) k)
    → ((j : ℕ) → j ≤ l → l < life_from n (moments_from c es r.1) j → IsSplit c (i + 1) es r.1 n l j) → IsSplit c i (e ∷ es) s n l k
split_by c i es s n l k e r false goes is less more rest =
    split_later c i es s n l k e r goes (let P : Bool → Type 0 = λ b. IsSplit c (i + 1) es r.1 n l (cond b (k + 1) k) in subst P (sym is) (rest k less more))
split_by c i es s n l k e r true goes is less more rest = elim (cases_eq k l) [
  | inl same ↦ (let admission = is_admission n e is in
      let P : ℕ → Type 0 = λ j. IsSplit c i (e ∷ es) s n j k in
      subst P same (split_here c i es s n admission.0 k e r admission.1 goes))
  | inr other ↦ split_later c i es s n l k e r goes (let P : Bool → Type 0 = λ b. IsSplit c (i + 1) es r.1 n l (cond b (k + 1) k) in subst P (sym is) (rest (k + 1) (omega (arith, less, other)) more))
]

split_from : (c : Config) (i : ℕ) (es : List Event) (s t : Scene) (n l k : ℕ) → run_from c i es s ≡ Ok t → k ≤ l → l < life_from n (moments_from c es s) k → IsSplit c i es s n l k
unfolding run_from moments_from
split_from c i [] s t n l k h less more = absurd (omega (arith, less, more))
split_from c i (e ∷ es) s t n l k h less more =
    let one = run_one i (next c s e) (λ u. run_from c (i + 1) es u) t h in
    let same = ap (λ (zs : List Moment). life_from n zs k) (moments_one c e es s one.0 one.1) in
    let later : l < life_from n (moments_from c es one.0.1) (cond (admits n e) (k + 1) k) = omega (arith, more, same) in
    split_by c i es s n l k e one.0 (admits n e) one.1 refl less later (λ j low high. split_from c (i + 1) es one.0.1 t n l j one.2 low high)

-- a path that goes on
moments_on : (c : Config) (i : ℕ) (front back : List Event) (s t : Scene) → run_from c i front s ≡ Ok t → moments_from c (front ++ back) s ≡ moments_from c front s ++ moments_from c back t
unfolding run_from moments_from
moments_on c i [] back s t h =
    let same : s ≡ t = cc in
    ap (moments_from c back) same
moments_on c i (e ∷ front) back s t h =
    let one = run_one i (next c s e) (λ u. run_from c (i + 1) front u) t h in
    let m : Moment = record { event = e; answer = one.0.0; before = s; after = one.0.1 } in
    moments_one c e (front ++ back) s one.0 one.1 ∙ ap (λ (zs : List Moment). m ∷ zs) (moments_on c (i + 1) front back one.0.1 t one.2)
    ∙ ap (λ (zs : List Moment). zs ++ moments_from c back t) (sym (moments_one c e front s one.0 one.1))

kept_on : (b : Bool) (m : Moment) (ys zs : List Moment) → kept_if b m (ys ++ zs) ≡ kept_if b m ys ++ zs
kept_on true m ys zs = refl
kept_on false m ys zs = refl

lived_on : (n l k : ℕ) (ms zs : List Moment) → lived_from n l k (ms ++ zs) ≡ lived_from n l k ms ++ lived_from n l (life_from n ms k) zs
lived_on n l k [] zs = refl
lived_on n l k (m ∷ ms) zs =
    let j = lives_then n k m in
    ap (kept_if (j == l) m) (lived_on n l j ms zs) ∙ kept_on (j == l) m (lived_from n l j ms) (lived_from n l (life_from n ms j) zs)

then_rises : (n k : ℕ) (m : Moment) → k ≤ lives_then n k m
then_rises n k m = by (admits n m.event)
  where
    by : (b : Bool) → k ≤ cond b (k + 1) k
    by true = omega arith
    by false = omega arith

-- no moment is of a life that is over
none_again : (n l k : ℕ) (ms : List Moment) → l < k → lived_from n l k ms ≡ []
none_again n l k [] h = refl
none_again n l k (m ∷ ms) h =
    let j = lives_then n k m in
    let rise = then_rises n k m in
    ap (λ b. kept_if b m (lived_from n l j ms)) (eqb_other j l (λ e. omega (arith, e, h, rise))) ∙ none_again n l j ms (omega (arith, h, rise))

-- nobody is there who is to be admitted
nobody : (o : Option Vm) → is_some o ≡ false → resident_in o ≡ 0
nobody None h = refl
nobody (Some v) h = cc

admitted_new : (c : Config) (s : Site) (n : ℕ) (spec : VmSpec) (r : Answer × Site) → admit c s n spec ≡ Ok r → resident_of s n ≡ 0
unfolding admit
admitted_new c s n spec r h =
    let pass = passed (admit_gate c (is_some (vm_at s n)) spec (memory_with s spec) (swap_with s spec)) _ r h in
    nobody (vm_at s n) pass.0.0

past_life : (c : Config) (es : List Event) (t : Scene) (n l : ℕ) → run c es ≡ Ok t → IsSplit c 0 es (opening c) n l 0 → IsConfig c → (k : Counts) → k ≡ counts n (lived n l (moments c es)) → came_in k ≡ lost_in k
past_life c es t n l h split fine k is =
    let front = moments c split.front in
    let e : Event = Admit n split.spec in
    let m : Moment = record { event = e; answer = split.after.0; before = split.at; after = split.after.1 } in
    let later = moments_from c split.back split.after.1 in
    let path : moments c es ≡ front ++ m ∷ later =
    ap (λ (zs : List Event). moments c zs) split.is ∙ moments_on c 0 split.front (e ∷ split.back) (opening c) split.at split.runs ∙ ap (λ (zs : List Moment). front ++ zs) (moments_one c e split.back split.at split.after split.goes) in
    let gone : lived_from n l l (m ∷ later) ≡ [] =
    ap (λ b. kept_if (cond b (l + 1) l == l) m (lived_from n l (cond b (l + 1) l) later)) (eqb_same n)
    ∙ ap (λ b. kept_if b m (lived_from n l (l + 1) later)) (eqb_other (l + 1) l (λ z. omega (arith, z))) ∙ none_again n l (l + 1) later (omega arith) in
    let own : lived n l (moments c es) ≡ lived n (lives n front) front =
    ap (lived n l) path ∙ lived_on n l 0 front (m ∷ later) ∙ ap (λ j. lived n l front ++ lived_from n l j (m ∷ later)) split.lives ∙ ap (λ zs. lived n l front ++ zs) gone ∙ append-nil (lived n l front)
    ∙ ap (λ j. lived n j front) (sym split.lives) in
    let same : k ≡ counts n front = is ∙ ap (λ (zs : List Moment). counts n zs) own ∙ counts_last n front in
    let sum = adds_up c split.front split.at n fine split.runs in
    let step = step_of c split.at e split.after split.goes in
    let none = admitted_new c split.at.site n split.spec step.0 step.1 in
    ap came_in same ∙ sum ∙ (let zero_sum : resident_of split.at.site n + lost_in (counts n front) ≡ lost_in (counts n front) = omega (arith, none) in zero_sum) ∙ ap lost_in (sym same)

pub guests_add_up : DoGuestsAddUp
guests_add_up c es t mets losses n l fine h within = elim (cases_eq l (lives n (moments c es))) [
  | inl last ↦ (let ms = moments c es in
      let here : here_of (stands_at c ms n l) ≡ resident_of t.site n =
      ap (λ b. here_of (cond b (option_map present_of (vm_at (end_of c ms).site n)) None)) (ap (λ j. l == j) (sym last) ∙ eqb_same l) ∙ here_told (vm_at (end_of c ms).site n)
      ∙ ap (λ (u : Scene). resident_of u.site n) (end_told c 0 es (opening c) t h) in
      let same : counts n (lived n l ms) ≡ counts n ms = ap (λ j. counts n (lived n j ms)) last ∙ counts_last n ms in
      ap came_in same ∙ adds_up c es t n fine h ∙ ap (λ k. k + lost_in (counts n ms)) (sym here) ∙ ap (λ (k : Counts). here_of (stands_at c ms n l) + lost_in k) (sym same))
  | inr other ↦ (let ms = moments c es in
      let split = split_from c 0 es (opening c) t n l 0 h (omega arith) (omega (arith, within, other)) in
      let none : here_of (stands_at c ms n l) ≡ 0 = ap (λ b. here_of (cond b (option_map present_of (vm_at (end_of c ms).site n)) None)) (eqb_other l (lives n ms) (λ e. other (sym e))) in
      let sum = past_life c es t n l h split fine (counts n (lived n l ms)) refl in
      sum ∙ (let e : lost_in (counts n (lived n l ms)) ≡ here_of (stands_at c ms n l) + lost_in (counts n (lived n l ms)) = omega (arith, none) in e))
]
