-- What changed its place in an event is what stands among its passages.
use Rattle.std.proofs.Common.{◌≡◌, ◌↔◌, ℕ, zero, suc, Bool, true, false, ◌||◌, ◌&&◌, ◌==◌, List, [], ◌∷◌, slice_get, refl, sym, ap, ◌∙◌, subst, cond, Option, Some, None, inl, inr, ◌⊎◌, arith}
use Rattle.std.specs.Option.{option_map}
use Rattle.std.proofs.lemmas.Bool.{cases_eq}
use Rattle.std.proofs.lemmas.Bool.Decides.{nat_tests}
use Rattle.std.proofs.lemmas.Option.{none-some}
use Rattle.esx_types.specs.declared.config.Config.{Config}
use Rattle.esx_events.specs.declared.event.Answer.{Answer}
use Rattle.esx_events.specs.declared.event.Answer.TheVariants as answers
use Rattle.esx_events.specs.declared.event.Event.{Event}
use Rattle.esx_events.specs.declared.event.Event.TheVariants.{Ask, Lend, TakeBack, Gone}
use Rattle.esx_model.specs.Site.{vm_at}
use Rattle.esx_model.proofs.Callers.{eqb_same, either, some_same}
use Rattle.esx_story.specs.declared.change.How.{How}
use Rattle.esx_story.specs.declared.change.Spot.{Spot}
use Rattle.esx_story.specs.declared.change.Spot.TheVariants as spots
use Rattle.esx_story.specs.Hows.{IsAcceptedMoment}
use Rattle.esx_story.specs.Moments.{Moment}
use Rattle.esx_story.specs.Spots.{spot_in, spot_of, how_here, how_of, ends_loans, changed}
use Rattle.esx_story.proofs.Told.{is_not}
use Rattle.esx_passages.specs.Passages.{Pages, Passage, Passages, how_between, passage_at, movers_at, passed_at, before_rest, in_order, passages}
use Rattle.esx_passages.specs.Readings.{epoch_in, epoch_of, new_epoch, epoch_after}
use Rattle.esx_passages.specs.Laws.{IsPassage, AreAllPassages, DoEpochsFollow}
use Rattle.esx_passages.proofs.Steady.{is_that, is_among, Stays, Ends}
use Rattle.esx_passages.proofs.Every.{every_event_goes, equal_in}

-- a page that stays where it is changed its place in no way
how_same : (e : Event) (a : Spot) → how_of e a a ≡ None
how_same e spots.Untouched = refl
how_same e (spots.Here f true) = ap (λ b. how_here b true true) (eqb_same f)
how_same e (spots.Here f false) = ap (λ b. how_here b false false) (eqb_same f)
how_same e (spots.Out i) = refl
how_same e (spots.Lent d) = refl

none_both : (b : Bool) (o : Option How) → o ≡ None → cond b None o ≡ None
none_both true o h = refl
none_both false o h = h

numbers : (a b : ℕ × ℕ) → Some a ≡ Some b → a.0 ≡ b.0
numbers a b h = cc

named : (n m : ℕ) → m ≡ n → (m == n) ≡ true
named n m e = grind (arith, nat_tests)

-- a machine whose epoch is another has its loans ended
ends_told : (e : Event) (a : Answer) (n k : ℕ) → new_epoch e a ≡ Some (n, k) → ends_loans n e a ≡ true
ends_told (Ask m) (answers.Reset j) n k h = named n m (numbers (m, j) (n, k) h)
ends_told (Ask m) _ n k h = absurd (none-some (n, k) h)
ends_told (Lend m page) (answers.Reset j) n k h = named n m (numbers (m, j) (n, k) h)
ends_told (Lend m page) _ n k h = absurd (none-some (n, k) h)
ends_told (TakeBack m page) (answers.Reset j) n k h = named n m (numbers (m, j) (n, k) h)
ends_told (TakeBack m page) _ n k h = absurd (none-some (n, k) h)
ends_told (Gone m) answers.Gone n k h = named n m (numbers (m, 0) (n, k) h)
ends_told (Gone m) _ n k h = absurd (none-some (n, k) h)
ends_told _ _ n k h = absurd (none-some (n, k) h)

stays_none : (c : Config) (x : Moment) (m p : ℕ) → IsAcceptedMoment c x → is_among (movers_at x) m p ≡ false → changed x m p ≡ None
stays_none c x m p ok h = elim (every_event_goes c x.before x.event (x.answer, x.after) ok.0 ok.1) [
  | inl stays ↦ same (stays.steady.spots m p h)
  | inr ends ↦ elim (cases_eq m ends.number) [
    | inl e ↦ ap (λ b. cond b None (how_of x.event (spot_of x.before.site m p) (spot_of x.after.site m p))) (ap (λ k. ends_loans k x.event x.answer) e ∙ ends_told x.event x.answer ends.number ends.epoch ends.told)
    | inr other ↦ same (ap (λ o. spot_in o p) (ends.others m other))
  ]
]
  where
    same : spot_of x.after.site m p ≡ spot_of x.before.site m p → changed x m p ≡ None
    same is = none_both (ends_loans m x.event x.answer) (how_of x.event (spot_of x.before.site m p) (spot_of x.after.site m p)) (ap (how_of x.event (spot_of x.before.site m p)) is ∙ how_same x.event (spot_of x.before.site m p))

pub epochs_follow : DoEpochsFollow
epochs_follow c x n ok = elim (every_event_goes c x.before x.event (x.answer, x.after) ok.0 ok.1) [
  | inl stays ↦ stays.steady.epochs n ∙ sym (ap (λ o. epoch_after o n (epoch_of x.before.site n)) stays.none)
  | inr ends ↦ (let told = ap (λ o. epoch_after o n (epoch_of x.before.site n)) ends.told in
      elim (cases_eq n ends.number) [
        | inl e ↦ ap (epoch_of x.after.site) e ∙ ends.comes ∙ sym (told ∙ ap (λ b. cond b ends.epoch (epoch_of x.before.site n)) (named n ends.number (sym e)))
        | inr other ↦ ap epoch_in (ends.others n other) ∙ sym (told ∙ ap (λ b. cond b ends.epoch (epoch_of x.before.site n)) (not_named ends.number n other))
      ])
]
  where
    not_named : (k m : ℕ) → (m ≡ k → ⊥) → (k == m) ≡ false
    not_named k m other = grind (arith, nat_tests)

-- A page that may move, and its passage.

that_is : (o : Option (ℕ × ℕ)) (m p : ℕ) → is_that o m p ≡ true → o ≡ Some (m, p)
that_is None m p h = cc
that_is (Some q) m p h =
    let one = both (q.0 == m) (q.1 == p) h in
    ap (λ k. Some (k, q.1)) (equal q.0 m one.0) ∙ ap (λ k. Some (m, k)) (equal q.1 p one.1)
  where
    both : (a b : Bool) → (a && b) ≡ true → (a ≡ true) × (b ≡ true)
    both true b e = (refl, e)
    both false b e = cc

    equal : (a b : ℕ) → (a == b) ≡ true → a ≡ b
    equal a b e = grind (arith, nat_tests)

abbrev some_passage : (x : Moment) (m p : ℕ) (how : How) → Passage
some_passage x m p how = record { vm = m; page = p; how = how; from = spot_of x.before.site m p; to = spot_of x.after.site m p }

-- it is told of the page that changed
passage_told : (x : Moment) (o : Option (ℕ × ℕ)) (y : Passage) → IsPassage x y → o ≡ Some (y.vm, y.page) → passage_at x o ≡ Some y
passage_told x o y is that =
    ap (passage_at x) that
    ∙ ap (λ (h : Option How). option_map (λ how. record { vm = y.vm; page = y.page; how = how; from = spot_of x.before.site y.vm y.page; to = spot_of x.after.site y.vm y.page }) h) is.how
    ∙ ap (λ (z : Spot). Some (record { vm = y.vm; page = y.page; how = y.how; from = z; to = spot_of x.after.site y.vm y.page })) (sym is.from)
    ∙ ap (λ (z : Spot). Some (record { vm = y.vm; page = y.page; how = y.how; from = y.from; to = z })) (sym is.to)

-- and what is told of a page is how it changed
pub record IsToldOf (x : Moment) (o : Option (ℕ × ℕ)) (y : Passage) : Type 0 where
  pub page : o ≡ Some (y.vm, y.page)
  pub passage : IsPassage x y

told_by : (x : Moment) (m p : ℕ) (h : Option How) (y : Passage) → changed x m p ≡ h → option_map (λ how. some_passage x m p how) h ≡ Some y → IsToldOf x (Some (m, p)) y
told_by x m p None y is e = absurd (none-some y e)
told_by x m p (Some how) y is e =
    let same = some_same (some_passage x m p how) y e in
    let P : Passage → Type 0 = IsToldOf x (Some (m, p)) in
    subst P same (record { page = refl; passage = record { how = is; from = refl; to = refl } })

pub told_of : (x : Moment) (o : Option (ℕ × ℕ)) (y : Passage) → passage_at x o ≡ Some y → IsToldOf x o y
told_of x None y e = absurd (none-some y e)
told_of x (Some q) y e = told_by x q.0 q.1 (changed x q.0 q.1) y refl e

-- What stands in order.

stands_second : (o : Option Passage) (y : Passage) → (k : ℕ) × (slice_get (before_rest o (y ∷ [])) k ≡ Some y)
stands_second None y = (0, refl)
stands_second (Some z) y = (1, refl)

in_first : (a b : Option Passage) (y : Passage) → a ≡ Some y → (k : ℕ) × (slice_get (before_rest a (before_rest b [])) k ≡ Some y)
in_first a b y h =
    let P : Option Passage → Type 0 = λ o. (k : ℕ) × (slice_get (before_rest o (before_rest b [])) k ≡ Some y) in
    subst P (sym h) (0, refl)

in_second : (a b : Option Passage) (y : Passage) → b ≡ Some y → (k : ℕ) × (slice_get (before_rest a (before_rest b [])) k ≡ Some y)
in_second a b y h =
    let P : Option Passage → Type 0 = λ o. (k : ℕ) × (slice_get (before_rest a (before_rest o [])) k ≡ Some y) in
    subst P (sym h) (stands_second a y)

pub one_of : (a b : Option Passage) (k : ℕ) (y : Passage) → slice_get (before_rest a (before_rest b [])) k ≡ Some y → (a ≡ Some y) ⊎ (b ≡ Some y)
one_of None None k y h = cc
one_of None (Some z) zero y h = inr h
one_of None (Some z) (suc k) y h = cc
one_of (Some x) None zero y h = inl h
one_of (Some x) None (suc k) y h = cc
one_of (Some x) (Some z) zero y h = inl h
one_of (Some x) (Some z) (suc zero) y h = inr h
one_of (Some x) (Some z) (suc (suc k)) y h = cc

must_move : (c : Config) (x : Moment) (y : Passage) → IsAcceptedMoment c x → IsPassage x y → is_among (movers_at x) y.vm y.page ≡ true
must_move c x y ok is = of (is_among (movers_at x) y.vm y.page) refl
  where
    of : (b : Bool) → is_among (movers_at x) y.vm y.page ≡ b → b ≡ true
    of true e = refl
    of false e = absurd (none-some y.how (sym (stays_none c x y.vm y.page ok e) ∙ is.how))

pub all_passages : AreAllPassages
all_passages c x y ok = (
  λ is. (let pages = movers_at x in
      elim (either (is_that pages.first y.vm y.page) (is_that pages.second y.vm y.page) (must_move c x y ok is)) [
        | inl h ↦ in_first (passed_at x).first (passed_at x).second y (passage_told x pages.first y is (that_is pages.first y.vm y.page h))
        | inr h ↦ in_second (passed_at x).first (passed_at x).second y (passage_told x pages.second y is (that_is pages.second y.vm y.page h))
      ]),
  λ there. (elim (one_of (passed_at x).first (passed_at x).second there.0 y there.1) [
    | inl h ↦ (told_of x (movers_at x).first y h).passage
    | inr h ↦ (told_of x (movers_at x).second y h).passage
  ]),
)
