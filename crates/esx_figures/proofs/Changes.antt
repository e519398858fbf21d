-- The steps of one event stand exactly where figures changed.
use Rattle.std.proofs.Common.{◌≡◌, ◌≢◌, ◌⊎◌, ◌↔◌, ℕ, ◌<◌, Bool, true, false, ◌==◌, List, [], ◌∷◌, refl, sym, ap, ◌∙◌, subst, arith, Some, None, option_map, get_or, inl, inr}
use Rattle.std.specs.List.{AllPairs, Contains}
use Rattle.std.proofs.Math.ListN as listn
use Rattle.std.proofs.lemmas.Bool.{false≢true, cases_Bool}
use Rattle.esx_types.specs.declared.config.TheConstants.{VM_NUMBERS}
use Rattle.esx_types.specs.declared.config.Config.{Config}
use Rattle.esx_types.specs.declared.level.Level.{Level}
use Rattle.esx_types.specs.declared.level.Level.TheVariants.{High, Soft, Hard, Low}
use Rattle.esx_events.specs.declared.call.Sum.{Sum}
use Rattle.esx_formulas.specs.Level.{depth}
use Rattle.esx_model.specs.declared.scene.Site.{Site}
use Rattle.esx_model.proofs.Callers.{eqb_same}
use Rattle.esx_story.specs.Moments.{Moment}
use Rattle.esx_story.proofs.Bits.{equal}
use Rattle.esx_figures.specs.declared.steps.Step.{Step}
use Rattle.esx_figures.specs.Figures.{figures, all_figures, site_at, is_same_guest, is_same_site}
use Rattle.esx_figures.specs.Steps.{site_step, told, guest_told, guests_told, or_site, steps_at}
use Rattle.esx_figures.specs.Laws.{told_of, IsEarlier}
use Rattle.esx_figures.proofs.Alike.{first_of, both, same_alike}
use Rattle.esx_figures.proofs.Lists.{nothing, told_is, is_told, empty, lists, of_number, by_number, pairs_told, pairs_lists}

-- a test that fails
fails : {A : Type 0} (t : Bool) → (t ≡ true) ↔ A → (t ≡ false) ↔ (A → ⊥)
fails {A = A} t tells = (λ e a. false≢true (sym e ∙ tells.1 a), λ h. by h (cases_Bool t))
  where
    by : (A → ⊥) → (t ≡ true) ⊎ (t ≡ false) → t ≡ false
    by h (inl e) = absurd (h (tells.0 e))
    by h (inr e) = e

-- A site is told the same twice exactly where nothing differs.

same_depth : (a b : Level) → (depth a == depth b) ≡ true → a ≡ b
same_depth High High h = refl
same_depth Soft Soft h = refl
same_depth Hard Hard h = refl
same_depth Low Low h = refl
same_depth _ _ h = absurd (false≢true h)

same_sum : (a b : Sum) → is_same_site a b ≡ true → a ≡ b
same_sum a b h =
    let e1 = first_of _ _ h in
    let e2 = first_of _ _ e1.0 in
    let e3 = first_of _ _ e2.0 in
    let e4 = first_of _ _ e3.0 in
    ap (λ x. record a { overhead = x }) (equal a.overhead b.overhead e4.0)
    ∙ ap (λ x. record a { overhead = b.overhead; private = x }) (equal a.private b.private e4.1)
    ∙ ap (λ x. record a { overhead = b.overhead; private = b.private; shared = x }) (equal a.shared b.shared e3.1)
    ∙ ap (λ x. record a { overhead = b.overhead; private = b.private; shared = b.shared; free = x }) (equal a.free b.free e2.1)
    ∙ ap (λ x. record b { level = x }) (same_depth a.level b.level e1.1)

sum_same : (a : Sum) → is_same_site a a ≡ true
sum_same a = both _ _ (both _ _ (both _ _ (both _ _ (eqb_same a.overhead) (eqb_same a.private)) (eqb_same a.shared)) (eqb_same a.free)) (eqb_same (depth a.level))

site_alike : (a b : Sum) → (is_same_site a b ≡ true) ↔ (a ≡ b)
site_alike a b = (same_sum a b, λ e. subst (λ x. is_same_site a x ≡ true) e (sum_same a))

-- Steps of machines.

figures_at : (s : Site) (n : ℕ) → get_or (all_figures s) n None ≡ told_of s n
figures_at s n = listn.get_or-map (option_map figures) s.vms n None

-- what machine n's step tells of the i-th event
abbrev pub guest_after : Config → ℕ → Moment → ℕ → Step
guest_after c i x n = record { at = i; site = site_at c x.after; vm = Some n; figures = told_of x.after.site n }

abbrev guest_at : Config → ℕ → Moment → ℕ → List Step
guest_at c i x n = guest_told i (site_at c x.after) (all_figures x.before.site) (all_figures x.after.site) n

abbrev guests_at : Config → ℕ → Moment → List Step
guests_at c i x = guests_told i (site_at c x.after) (all_figures x.before.site) (all_figures x.after.site) VM_NUMBERS

-- what is told of machine n changed
abbrev pub Changed : Moment → ℕ → Type 0
Changed x n = told_of x.before.site n ≢ told_of x.after.site n

is_same : (x : Moment) (n : ℕ) → is_same_guest (get_or (all_figures x.before.site) n None) (get_or (all_figures x.after.site) n None) ≡ is_same_guest (told_of x.before.site n) (told_of x.after.site n)
is_same x n = ap (λ o. is_same_guest o (get_or (all_figures x.after.site) n None)) (figures_at x.before.site n) ∙ ap (is_same_guest (told_of x.before.site n)) (figures_at x.after.site n)

guest_tells : (c : Config) (i : ℕ) (x : Moment) (n : ℕ) (y : Step) → Contains (guest_at c i x n) y → Changed x n × (guest_after c i x n ≡ y)
guest_tells c i x n y h =
    let told = told_is _ _ y h in (
      (fails _ (same_alike (told_of x.before.site n) (told_of x.after.site n))).0 (sym (is_same x n) ∙ told.0),
      ap (λ o. record { at = i; site = site_at c x.after; vm = Some n; figures = o }) (sym (figures_at x.after.site n)) ∙ told.1,
    )

guest_stands : (c : Config) (i : ℕ) (x : Moment) (n : ℕ) → Changed x n → Contains (guest_at c i x n) (guest_after c i x n)
guest_stands c i x n h =
    let differs = is_same x n ∙ (fails _ (same_alike (told_of x.before.site n) (told_of x.after.site n))).1 h in
    subst (Contains (guest_at c i x n)) (ap (λ o. record { at = i; site = site_at c x.after; vm = Some n; figures = o }) (figures_at x.after.site n)) (is_told _ _ differs)

-- the step is of a machine whose figures changed
pub record IsOfGuest (c : Config) (i : ℕ) (x : Moment) (y : Step) : Type 0 where
  pub number : ℕ
  pub below : number < VM_NUMBERS
  pub changed : Changed x number
  pub is : guest_after c i x number ≡ y

unfold_guests : (c : Config) (i : ℕ) (x : Moment) → guests_at c i x ≡ lists (guest_at c i x) 0 VM_NUMBERS
unfolding guests_told
unfold_guests c i x = refl

guests_tell : (c : Config) (i : ℕ) (x : Moment) (y : Step) → Contains (guests_at c i x) y → IsOfGuest c i x y
guests_tell c i x y h =
    let of = of_number (guest_at c i x) 0 VM_NUMBERS y (subst (λ ys. Contains ys y) (unfold_guests c i x) h) in
    let told = guest_tells c i x of.0 y of.3 in
    record { number = of.0; below = of.2; changed = told.0; is = told.1 }

guests_stand : (c : Config) (i : ℕ) (x : Moment) (n : ℕ) → n < VM_NUMBERS → Changed x n → Contains (guests_at c i x) (guest_after c i x n)
guests_stand c i x n below h =
    subst (λ ys. Contains ys (guest_after c i x n)) (sym (unfold_guests c i x))
    (by_number (guest_at c i x) 0 VM_NUMBERS n (guest_after c i x n) (omega arith) below (guest_stands c i x n h))

-- nothing that is told of a machine changed
abbrev pub IsStill : Moment → Type 0
IsStill x = (n : ℕ) → n < VM_NUMBERS → told_of x.before.site n ≡ told_of x.after.site n

none_still : (c : Config) (i : ℕ) (x : Moment) → guests_at c i x ≡ [] → IsStill x
none_still c i x none n below =
    let before = told_of x.before.site n in
    let after = told_of x.after.site n in
    let alike = same_alike before after in
    elim (cases_Bool (is_same_guest before after)) [
      | inl e ↦ alike.0 e
      | inr e ↦ absurd (nothing (guest_after c i x n) (subst (λ ys. Contains ys (guest_after c i x n)) none (guests_stand c i x n below ((fails _ alike).0 e))))
    ]

still_none : (c : Config) (i : ℕ) (x : Moment) → IsStill x → guests_at c i x ≡ []
still_none c i x still = empty (guests_at c i x) (λ y h. (let of = guests_tell c i x y h in of.changed (still of.number of.below)))

-- The step of the site.

-- what the site's step tells of the i-th event
abbrev pub site_after : Config → ℕ → Moment → Step
site_after c i x = record { at = i; site = site_at c x.after; vm = None; figures = None }

-- the step is of the site, whose figures changed and no machine's
pub record IsOfSite (c : Config) (i : ℕ) (x : Moment) (y : Step) : Type 0 where
  pub still : IsStill x
  pub changed : site_at c x.before ≢ site_at c x.after
  pub is : site_after c i x ≡ y

abbrev site_told : Config → ℕ → Moment → List Step
site_told c i x = told (site_step i (site_at c x.before) (site_at c x.after))

in_either : (i : ℕ) (before after : Sum) (guests : List Step) (y : Step) → Contains (or_site i before after guests) y → Contains guests y ⊎ ((guests ≡ []) × Contains (told (site_step i before after)) y)
in_either i before after [] y h = inr (refl, h)
in_either i before after (x ∷ xs) y h = inl h

from_guests : (i : ℕ) (before after : Sum) (guests : List Step) (y : Step) → Contains guests y → Contains (or_site i before after guests) y
from_guests i before after [] y h = absurd (nothing y h)
from_guests i before after (x ∷ xs) y h = h

pub event_tells : (c : Config) (i : ℕ) (x : Moment) (y : Step) → Contains (steps_at c i x) y → IsOfGuest c i x y ⊎ IsOfSite c i x y
event_tells c i x y h = elim (in_either i (site_at c x.before) (site_at c x.after) (guests_at c i x) y h) [
  | inl e ↦ inl (guests_tell c i x y e)
  | inr e ↦ (let told = told_is _ _ y e.1 in
      inr (record { still = none_still c i x e.0; changed = (fails _ (site_alike (site_at c x.before) (site_at c x.after))).0 told.0; is = told.1 }))
]

pub guest_among : (c : Config) (i : ℕ) (x : Moment) (y : Step) → IsOfGuest c i x y → Contains (steps_at c i x) y
guest_among c i x y of =
    subst (Contains (steps_at c i x)) of.is
    (from_guests i (site_at c x.before) (site_at c x.after) (guests_at c i x) (guest_after c i x of.number) (guests_stand c i x of.number of.below of.changed))

pub site_among : (c : Config) (i : ℕ) (x : Moment) (y : Step) → IsOfSite c i x y → Contains (steps_at c i x) y
site_among c i x y of =
    let differs = (fails _ (site_alike (site_at c x.before) (site_at c x.after))).1 of.changed in
    subst (Contains (steps_at c i x)) of.is
    (subst (λ ys. Contains (or_site i (site_at c x.before) (site_at c x.after) ys) (site_after c i x)) (sym (still_none c i x of.still)) (is_told _ _ differs))

-- Order within an event.

pub at_event : (c : Config) (i : ℕ) (x : Moment) (y : Step) → Contains (steps_at c i x) y → y.at ≡ i
at_event c i x y h = elim (event_tells c i x y h) [
  | inl of ↦ ap (λ (z : Step). z.at) (sym of.is)
  | inr of ↦ ap (λ (z : Step). z.at) (sym of.is)
]

lower_first : (c : Config) (i : ℕ) (x : Moment) (m n : ℕ) (y z : Step) → m < n → Contains (guest_at c i x m) y → Contains (guest_at c i x n) z → IsEarlier y z
lower_first c i x m n y z less h k =
    subst (λ u. IsEarlier u z) (guest_tells c i x m y h).1
    (subst (IsEarlier (guest_after c i x m)) (guest_tells c i x n z k).1 (inr (refl, less)))

guests_rise : (c : Config) (i : ℕ) (x : Moment) → AllPairs IsEarlier (guests_at c i x)
guests_rise c i x =
    subst (AllPairs IsEarlier) (sym (unfold_guests c i x))
    (pairs_lists IsEarlier (guest_at c i x) 0 VM_NUMBERS (λ n. pairs_told IsEarlier _) (lower_first c i x))

or_rises : (i : ℕ) (before after : Sum) (guests : List Step) → AllPairs IsEarlier guests → AllPairs IsEarlier (or_site i before after guests)
or_rises i before after [] h = pairs_told IsEarlier (site_step i before after)
or_rises i before after (x ∷ xs) h = h

pub event_rises : (c : Config) (i : ℕ) (x : Moment) → AllPairs IsEarlier (steps_at c i x)
event_rises c i x = or_rises i (site_at c x.before) (site_at c x.after) (guests_at c i x) (guests_rise c i x)
