-- The steps of a path stand exactly where figures changed, each once and in order.
use Rattle.std.proofs.Common.{zero, suc, ◌≡◌, ◌≢◌, ◌⊎◌, ℕ, ◌+◌, ◌<◌, ◌≤◌, List, [], ◌∷◌, slice_get, get_or, refl, sym, ap, ◌∙◌, subst, arith, Option, Some, None, inl, inr}
use Rattle.std.specs.List.{AllPairs, Contains}
use Rattle.std.proofs.lemmas.Bool.{cases_order}
use Rattle.std.proofs.lemmas.List.Elements.{Contains-append_left, Contains-append_right, Contains-append_cases}
use Rattle.std.proofs.lemmas.Option.{none-some, get_or_from_slice_get, slice_get_within}
use Rattle.esx_types.specs.declared.config.TheConstants.{VM_NUMBERS}
use Rattle.esx_types.specs.declared.config.Config.{Config}
use Rattle.esx_model.specs.Replay.{opening}
use Rattle.esx_model.proofs.Callers.{some_same}
use Rattle.esx_story.specs.Moments.{Moment, IsAt}
use Rattle.esx_figures.specs.declared.steps.Step.{Step}
use Rattle.esx_figures.specs.Figures.{site_at}
use Rattle.esx_figures.specs.Steps.{opening_step, steps_at, steps_from, steps}
use Rattle.esx_figures.specs.Laws.{told_of, IsGuestStep, IsSiteStep, AreGuestSteps, AreSiteSteps, IsOpeningStep, IsLower, IsEarlier, DoStepsRise, IsStepOnce}
use Rattle.esx_figures.proofs.Lists.{first_is, first_or_later, later_is, nothing, pairs_more, pairs_append}
use Rattle.esx_figures.proofs.Changes.{guest_after, site_after, IsOfGuest, event_tells, guest_among, site_among, at_event, event_rises}

-- Steps of a path, past its opening, from the i-th event on.

record IsLater (c : Config) (i : ℕ) (ms : List Moment) (y : Step) : Type 0 where
  place : ℕ
  moment : Moment
  there : slice_get ms place ≡ Some moment
  told : Contains (steps_at c (i + place) moment) y

of_later : (c : Config) (i : ℕ) (ms : List Moment) (y : Step) → Contains (steps_from c i ms) y → IsLater c i ms y
of_later c i [] y h = absurd (nothing y h)
of_later c i (x ∷ later) y h = elim (Contains-append_cases (steps_at c i x) (steps_from c (i + 1) later) y h) [
  | inl e ↦ record { place = zero; moment = x; there = refl; told = subst (λ k. Contains (steps_at c k x) y) (omega arith) e }
  | inr e ↦ (let rest = of_later c (i + 1) later y e in
      record { place = suc rest.place; moment = rest.moment; there = rest.there; told = subst (λ k. Contains (steps_at c k rest.moment) y) (omega arith) rest.told })
]

by_later : (c : Config) (i : ℕ) (ms : List Moment) (k : ℕ) (x : Moment) (y : Step) → slice_get ms k ≡ Some x → Contains (steps_at c (i + k) x) y → Contains (steps_from c i ms) y
by_later c i [] k x y there h = cc
by_later c i (m ∷ later) zero x y there h =
    Contains-append_left (steps_at c i m) (steps_from c (i + 1) later) y
    (subst (λ u. Contains (steps_at c i u) y) (sym (some_same m x there)) (subst (λ k. Contains (steps_at c k x) y) (omega arith) h))
by_later c i (m ∷ later) (suc k) x y there h =
    Contains-append_right (steps_at c i m) (steps_from c (i + 1) later) y
    (by_later c (i + 1) later k x y there (subst (λ j. Contains (steps_at c j x) y) (omega arith) h))

-- Steps of a path, with its opening.

abbrev opened : Config → Step
opened c = opening_step (site_at c (opening c))

-- it is of the event at its place
record IsOfEvent (c : Config) (ms : List Moment) (y : Step) : Type 0 where
  moment : Moment
  at : IsAt ms y.at moment
  told : Contains (steps_at c y.at moment) y

of_event : (c : Config) (ms : List Moment) (y : Step) → Contains (steps_from c 1 ms) y → IsOfEvent c ms y
of_event c ms y h =
    let later = of_later c 1 ms y h in
    let number = at_event c (1 + later.place) later.moment y later.told in
    record {
      moment = later.moment;
      at = (later.place, omega (arith, number), later.there);
      told = subst (λ k. Contains (steps_at c k later.moment) y) (sym number) later.told;
    }

by_event : (c : Config) (ms : List Moment) (y : Step) → IsOfEvent c ms y → Contains (steps c ms) y
by_event c ms y of =
    let at = of.at in
    let number : y.at ≡ 1 + at.0 = (let e = at.1 in omega (arith, e)) in
    later_is (opened c) (steps_from c 1 ms) y (by_later c 1 ms at.0 of.moment y at.2 (subst (λ k. Contains (steps_at c k of.moment) y) number of.told))

opened_or_event : (c : Config) (ms : List Moment) (y : Step) → Contains (steps c ms) y → (opened c ≡ y) ⊎ IsOfEvent c ms y
opened_or_event c ms y h = elim (first_or_later (opened c) (steps_from c 1 ms) y h) [
  | inl e ↦ inl e
  | inr e ↦ inr (of_event c ms y e)
]

same_step : (x y : Step) → x.at ≡ y.at → x.site ≡ y.site → x.vm ≡ y.vm → x.figures ≡ y.figures → x ≡ y
same_step x y at site vm figures =
    ap (λ k. record x { at = k }) at
    ∙ ap (λ s. record x { at = y.at; site = s }) site
    ∙ ap (λ n. record x { at = y.at; site = y.site; vm = n }) vm
    ∙ ap (λ f. record y { figures = f }) figures

guest_step_of : (c : Config) (ms : List Moment) (n : ℕ) (y : Step) (of : IsOfEvent c ms y) → IsOfGuest c y.at of.moment y → y.vm ≡ Some n → IsGuestStep c ms n y
guest_step_of c ms n y of guest vm =
    let x = of.moment in
    let same = some_same guest.number n (ap (λ (z : Step). z.vm) guest.is ∙ vm) in
    record {
      moment = x;
      at = of.at;
      number = subst (λ k. k < VM_NUMBERS) same guest.below;
      changed = subst (λ k. told_of x.before.site k ≢ told_of x.after.site k) same guest.changed;
      guest = ap (λ (z : Step). z.figures) (sym guest.is) ∙ ap (told_of x.after.site) same;
      site = ap (λ (z : Step). z.site) (sym guest.is);
    }

pub guest_steps : AreGuestSteps
guest_steps c ms n y vm = (there, back)
  where
    there : Contains (steps c ms) y → IsGuestStep c ms n y
    there h = elim (opened_or_event c ms y h) [
      | inl e ↦ absurd (none-some n (ap (λ (z : Step). z.vm) e ∙ vm))
      | inr of ↦ elim (event_tells c y.at of.moment y of.told) [
        | inl guest ↦ guest_step_of c ms n y of guest vm
        | inr site ↦ absurd (none-some n (ap (λ (z : Step). z.vm) site.is ∙ vm))
      ]
    ]

    back : IsGuestStep c ms n y → Contains (steps c ms) y
    back h =
        let is = same_step (guest_after c y.at h.moment n) y refl (sym h.site) (sym vm) (sym h.guest) in
        let told = guest_among c y.at h.moment y (record { number = n; below = h.number; changed = h.changed; is = is }) in
        by_event c ms y (record { moment = h.moment; at = h.at; told = told })

pub site_steps : AreSiteSteps
site_steps c ms y vm past = (there, back)
  where
    there : Contains (steps c ms) y → IsSiteStep c ms y
    there h = elim (opened_or_event c ms y h) [
      | inl e ↦ (let start = ap (λ (z : Step). z.at) e in absurd (omega (arith, past, start)))
      | inr of ↦ elim (event_tells c y.at of.moment y of.told) [
        | inl guest ↦ absurd (none-some guest.number (sym vm ∙ sym (ap (λ (z : Step). z.vm) guest.is)))
        | inr site ↦ record {
          moment = of.moment;
          at = of.at;
          guests = site.still;
          changed = site.changed;
          nobody = ap (λ (z : Step). z.figures) (sym site.is);
          site = ap (λ (z : Step). z.site) (sym site.is);
        }
      ]
    ]

    back : IsSiteStep c ms y → Contains (steps c ms) y
    back h =
        let is = same_step (site_after c y.at h.moment) y refl (sym h.site) (sym vm) (sym h.nobody) in
        let told = site_among c y.at h.moment y (record { still = h.guests; changed = h.changed; is = is }) in
        by_event c ms y (record { moment = h.moment; at = h.at; told = told })

pub opening_first : IsOpeningStep
opening_first c ms y start = (there, λ e. subst (Contains (steps c ms)) (sym e) (first_is (opened c) (steps_from c 1 ms)))
  where
    there : Contains (steps c ms) y → y ≡ opened c
    there h = elim (opened_or_event c ms y h) [
      | inl e ↦ sym e
      | inr of ↦ (let at = of.at.1 in absurd (omega (arith, at, start)))
    ]

-- Order.

at_least : (c : Config) (i : ℕ) (ms : List Moment) (y : Step) → Contains (steps_from c i ms) y → i ≤ y.at
at_least c i ms y h =
    let later = of_later c i ms y h in
    let at = at_event c (i + later.place) later.moment y later.told in
    omega (arith, at)

from_rises : (c : Config) (i : ℕ) (ms : List Moment) → AllPairs IsEarlier (steps_from c i ms)
from_rises c i [] = λ j k d less below. absurd (omega (arith, below))
from_rises c i (x ∷ later) = pairs_append IsEarlier (steps_at c i x) (steps_from c (i + 1) later) (event_rises c i x) (from_rises c (i + 1) later) between
  where
    between : (y z : Step) → Contains (steps_at c i x) y → Contains (steps_from c (i + 1) later) z → IsEarlier y z
    between y z h k =
        let at = at_event c i x y h in
        let past = at_least c (i + 1) later z k in
        inl (omega (arith, at, past))

pub steps_rise : DoStepsRise
steps_rise c ms = pairs_more IsEarlier (opened c) (steps_from c 1 ms) (from_rises c 1 ms) (λ y h. inl (at_least c 1 ms y h))

not_lower : (a b : Option ℕ) → IsLower a b → a ≡ b → ⊥
not_lower None b lower e = lower
not_lower (Some m) None lower e = lower
not_lower (Some m) (Some n) lower e = (let same = some_same m n e in omega (arith, lower, same))

not_earlier : (x y : Step) → IsEarlier x y → x.at ≡ y.at → x.vm ≡ y.vm → ⊥
not_earlier x y h at vm = elim h [
  | inl less ↦ omega (arith, less, at)
  | inr e ↦ not_lower x.vm y.vm e.1 vm
]

earlier : (c : Config) (ms : List Moment) (j k : ℕ) (x y : Step) → j < k → slice_get (steps c ms) j ≡ Some x → slice_get (steps c ms) k ≡ Some y → IsEarlier x y
earlier c ms j k x y less one two =
    let pair = steps_rise c ms j k x less (slice_get_within (steps c ms) k y two) in
    subst (λ u. IsEarlier u y) (get_or_from_slice_get (steps c ms) j x x one)
    (subst (IsEarlier (get_or (steps c ms) j x)) (get_or_from_slice_get (steps c ms) k y x two) pair)

pub step_once : IsStepOnce
step_once c ms j k x y one two at vm = elim (cases_order j k) [
  | inl e ↦ e
  | inr e ↦ elim e [
    | inl less ↦ absurd (not_earlier x y (earlier c ms j k x y less one two) at vm)
    | inr more ↦ absurd (not_earlier y x (earlier c ms k j y x more two one) (sym at) (sym vm))
  ]
]
