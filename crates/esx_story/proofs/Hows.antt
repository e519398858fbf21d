-- How a page changed its place tells what an event lost and gained.
use Rattle.std.proofs.Common.{◌≡◌, ℕ, Bool, true, false, ◌&&◌, not, ◌==◌, refl, sym, ap, ◌∙◌, subst, cond, Option, Some, None}
use Rattle.std.proofs.lemmas.Option.{none-some}
use Rattle.esx_types.specs.declared.config.Config.{Config}
use Rattle.esx_events.specs.declared.event.Answer.{Answer}
use Rattle.esx_events.specs.declared.event.Answer.TheVariants as answers
use Rattle.esx_events.specs.declared.event.Event.{Event}
use Rattle.esx_events.specs.declared.event.Event.TheVariants.{Ask, Lend, TakeBack, Replace, Gone}
use Rattle.esx_model.specs.declared.scene.Place.{Place}
use Rattle.esx_model.specs.declared.scene.Place.TheVariants as places
use Rattle.esx_model.specs.declared.scene.Vm.{Vm}
use Rattle.esx_model.specs.declared.scene.Site.{Site}
use Rattle.esx_model.specs.Places.{is_here}
use Rattle.esx_model.specs.Site.{vm_at, place_at, place_in}
use Rattle.esx_model.proofs.Callers.{some_same}
use Rattle.esx_story.specs.declared.change.Spot.{Spot}
use Rattle.esx_story.specs.declared.change.Spot.TheVariants as spots
use Rattle.esx_story.specs.Changes.{How, change, has_here, is_leaving, is_coming}
use Rattle.esx_story.specs.Moments.{Moment, moments}
use Rattle.esx_story.specs.Losses.{lost, lost_at}
use Rattle.esx_story.specs.Gains.{gained, gained_at}
use Rattle.esx_story.specs.Spans.{is_last}
use Rattle.esx_story.specs.Spots.{spot, spot_in, spot_of, how_here, how_out, how_of, asks, ends_loans, changed}
use Rattle.esx_story.specs.Hows.{IsAcceptedMoment, IsLossHow, IsGainHow, IsOtherHow, AreLossesChanges, AreGainsChanges}
use Rattle.esx_story.proofs.Told.{is_not, loss_told, gain_told, others_stay}
use Rattle.esx_story.proofs.Listed.{listed_is, accepted_at}
use Rattle.esx_story.proofs.Reasons.{left_so, came_so}

-- Spots.

abbrev in_frame : Spot → Bool
in_frame (spots.Here f shared) = true
in_frame _ = false

loan_away : (d : ℕ) (b : Bool) → false ≡ in_frame (cond b (spots.Lent d) spots.Untouched)
loan_away d true = refl
loan_away d false = refl

place_spot : (e : ℕ) (p : Place) → is_here p ≡ in_frame (spot e p)
place_spot e places.Untouched = refl
place_spot e (places.Here bytes f shared) = refl
place_spot e (places.Out bytes i) = refl
place_spot e (places.Lent d) = loan_away d (d == e)

in_spot : (o : Option Vm) (page : ℕ) → is_here (place_in o page) ≡ in_frame (spot_in o page)
in_spot None page = refl
in_spot (Some v) page = place_spot v.epoch (place_at v page)

here_is : (s : Site) (n page : ℕ) → has_here s n page ≡ in_frame (spot_of s n page)
here_is s n page = in_spot (vm_at s n) page

frame_of : (a : Spot) → in_frame a ≡ true → (f : ℕ) × (shared : Bool) × (a ≡ spots.Here f shared)
frame_of (spots.Here f shared) h = (f, shared, refl)
frame_of _ h = cc

-- a page leaves its frame by a how that says so, and by no other; so it comes into one
abbrev leaving_in : Option How → Bool
leaving_in None = false
leaving_in (Some how) = is_leaving how

abbrev coming_in : Option How → Bool
coming_in None = false
coming_in (Some how) = is_coming how

neither : (a b d : Bool) → (leaving_in (how_here a b d) ≡ false) × (coming_in (how_here a b d) ≡ false)
neither true false true = (refl, refl)
neither true true false = (refl, refl)
neither true false false = (refl, refl)
neither true true true = (refl, refl)
neither false b true = (refl, refl)
neither false b false = (refl, refl)

out_leaves : (e : Event) → (leaving_in (Some (how_out e)) ≡ true) × (coming_in (Some (how_out e)) ≡ false)
out_leaves (Replace n page word) = (refl, refl)
out_leaves _ = (refl, refl)

abbrev Tells : Spot → Spot → Option How → Type 0
Tells a b o = (leaving_in o ≡ (in_frame a && not (in_frame b))) × (coming_in o ≡ (in_frame b && not (in_frame a)))

tells : (e : Event) (a b : Spot) → Tells a b (how_of e a b)
tells e (spots.Here f shared) (spots.Here g also) = neither (f == g) shared also
tells e (spots.Here f shared) (spots.Out i) = out_leaves e
tells e (spots.Here f shared) (spots.Lent d) = (refl, refl)
tells e (spots.Here f shared) spots.Untouched = (refl, refl)
tells e spots.Untouched spots.Untouched = (refl, refl)
tells e spots.Untouched (spots.Here g also) = (refl, refl)
tells e spots.Untouched (spots.Out i) = (refl, refl)
tells e spots.Untouched (spots.Lent d) = (refl, refl)
tells e (spots.Out i) spots.Untouched = (refl, refl)
tells e (spots.Out i) (spots.Here g also) = (refl, refl)
tells e (spots.Out i) (spots.Out j) = (refl, refl)
tells e (spots.Out i) (spots.Lent d) = (refl, refl)
tells e (spots.Lent d) spots.Untouched = (refl, refl)
tells e (spots.Lent d) (spots.Here g also) = (refl, refl)
tells e (spots.Lent d) (spots.Out j) = (refl, refl)
tells e (spots.Lent d) (spots.Lent k) = (refl, refl)

-- Loans that end.

reset_none : (n : ℕ) (e : Event) (k : ℕ) (s : Site) → asks n e ≡ true → (lost e (answers.Reset k) s ≡ None) × (gained e s ≡ None)
reset_none n (Ask m) k s h = (refl, refl)
reset_none n (Lend m page) k s h = (refl, refl)
reset_none n (TakeBack m page) k s h = (refl, refl)
reset_none n _ k s h = cc

gone_none : (n : ℕ) (e : Event) (s : Site) → is_last n e answers.Gone ≡ true → (lost e answers.Gone s ≡ None) × (gained e s ≡ None)
gone_none n (Gone m) s h = (refl, refl)
gone_none n _ s h = cc

-- nothing is lost or gained with them
ends_none : (n : ℕ) (e : Event) (a : Answer) (s : Site) → ends_loans n e a ≡ true → (lost e a s ≡ None) × (gained e s ≡ None)
ends_none n e (answers.Reset k) s h = reset_none n e k s h
ends_none n e answers.Gone s h = gone_none n e s h
ends_none n e _ s h = cc

-- How a page changed its place.

abbrev turned : Moment → ℕ → ℕ → Option How
turned x n page = how_of x.event (spot_of x.before.site n page) (spot_of x.after.site n page)

turned_by : (b : Bool) (o : Option How) (how : How) → cond b None o ≡ Some how → o ≡ Some how
turned_by true o how h = absurd (none-some how h)
turned_by false o how h = h

turned_so : (x : Moment) (n page : ℕ) (how : How) → changed x n page ≡ Some how → turned x n page ≡ Some how
turned_so x n page how h = turned_by (ends_loans n x.event x.answer) (turned x n page) how h

changed_so : (x : Moment) (n page : ℕ) (how : How) → ends_loans n x.event x.answer ≡ false → turned x n page ≡ Some how → changed x n page ≡ Some how
changed_so x n page how goes_on h = ap (λ b. cond b None (turned x n page)) goes_on ∙ h

-- it is here before and after as its spots are
moment_tells : (x : Moment) (n page : ℕ) (how : How) → turned x n page ≡ Some how
    → (is_leaving how ≡ (has_here x.before.site n page && not (has_here x.after.site n page))) × (is_coming how ≡ (has_here x.after.site n page && not (has_here x.before.site n page)))
moment_tells x n page how h =
    let a = spot_of x.before.site n page in
    let b = spot_of x.after.site n page in
    let told : Tells a b (Some how) = (let P : Option How → Type 0 = Tells a b in subst P h (tells x.event a b)) in
    let before = sym (here_is x.before.site n page) in
    let after = sym (here_is x.after.site n page) in (
      told.0 ∙ ap (λ y. y && not (in_frame b)) before ∙ ap (λ y. has_here x.before.site n page && not y) after,
      told.1 ∙ ap (λ y. y && not (in_frame a)) after ∙ ap (λ y. has_here x.after.site n page && not y) before,
    )

one_way : (a b : Bool) → (a && not b) ≡ true → (a ≡ true) × (b ≡ false)
one_way true false h = (refl, refl)
one_way true true h = cc
one_way false b h = cc

-- A loss.

loss_forth : (c : Config) (x : Moment) (n page : ℕ) (how : How) → IsAcceptedMoment c x → lost_at x ≡ Some (change n page how) → (changed x n page ≡ Some how) × (is_leaving how ≡ true)
loss_forth c x n page how ok h =
    let loses = (loss_told c x.before x.event (x.answer, x.after) n page ok.0 ok.1).1 (how, h) in
    let frame = frame_of (spot_of x.before.site n page) (sym (here_is x.before.site n page) ∙ loses.0) in
    let so : turned x n page ≡ Some how = ap (λ a. how_of x.event a (spot_of x.after.site n page)) frame.2 ∙ left_so c x.before x.event (x.answer, x.after) n page how ok.1 h frame.0 frame.1 in
    let goes_on = is_not (ends_loans n x.event x.answer) (λ e. none-some (change n page how) (sym (ends_none n x.event x.answer x.before.site e).0 ∙ h)) in (
      changed_so x n page how goes_on so,
      (moment_tells x n page how so).0 ∙ ap (λ y. y && not (has_here x.after.site n page)) loses.0 ∙ ap not loses.1,
    )

loss_back : (c : Config) (x : Moment) (n page : ℕ) (how : How) → IsAcceptedMoment c x → changed x n page ≡ Some how → is_leaving how ≡ true → lost_at x ≡ Some (change n page how)
loss_back c x n page how ok is leaves =
    let told = moment_tells x n page how (turned_so x n page how is) in
    let loses = one_way (has_here x.before.site n page) (has_here x.after.site n page) (sym told.0 ∙ leaves) in
    let names = (loss_told c x.before x.event (x.answer, x.after) n page ok.0 ok.1).0 loses in
    let same = some_same names.0 how (sym (loss_forth c x n page names.0 ok names.1).0 ∙ is) in
    names.1 ∙ ap (λ k. Some (change n page k)) same

pub loss_how : IsLossHow
loss_how c x n page how ok = (λ h. loss_forth c x n page how ok h, λ h. loss_back c x n page how ok h.0 h.1)

-- A gain.

gain_forth : (c : Config) (x : Moment) (n page : ℕ) (how : How) → IsAcceptedMoment c x → gained_at x ≡ Some (change n page how) → (changed x n page ≡ Some how) × (is_coming how ≡ true)
gain_forth c x n page how ok h =
    let gains = (gain_told c x.before x.event (x.answer, x.after) n page ok.0 ok.1).1 (how, h) in
    let frame = frame_of (spot_of x.after.site n page) (sym (here_is x.after.site n page) ∙ gains.1) in
    let so : turned x n page ≡ Some how = ap (how_of x.event (spot_of x.before.site n page)) frame.2 ∙ came_so x.event x.before.site n page how h x.event frame.0 frame.1 in
    let goes_on = is_not (ends_loans n x.event x.answer) (λ e. none-some (change n page how) (sym (ends_none n x.event x.answer x.before.site e).1 ∙ h)) in (
      changed_so x n page how goes_on so,
      (moment_tells x n page how so).1 ∙ ap (λ y. y && not (has_here x.before.site n page)) gains.1 ∙ ap not gains.0,
    )

gain_back : (c : Config) (x : Moment) (n page : ℕ) (how : How) → IsAcceptedMoment c x → changed x n page ≡ Some how → is_coming how ≡ true → gained_at x ≡ Some (change n page how)
gain_back c x n page how ok is comes =
    let told = moment_tells x n page how (turned_so x n page how is) in
    let here = one_way (has_here x.after.site n page) (has_here x.before.site n page) (sym told.1 ∙ comes) in
    let names = (gain_told c x.before x.event (x.answer, x.after) n page ok.0 ok.1).0 (here.1, here.0) in
    let same = some_same names.0 how (sym (gain_forth c x n page names.0 ok names.1).0 ∙ is) in
    names.1 ∙ ap (λ k. Some (change n page k)) same

pub gain_how : IsGainHow
gain_how c x n page how ok = (λ h. gain_forth c x n page how ok h, λ h. gain_back c x n page how ok h.0 h.1)

-- Neither.

no_both : (a : Bool) → a ≡ true → a ≡ false → ⊥
no_both true h k = cc
no_both false h k = cc

pub other_how : IsOtherHow
other_how c x n page ok never =
    others_stay c x.before x.event (x.answer, x.after) n page ok.0 ok.1
    (λ names. (let so = loss_forth c x n page names.0 ok names.1 in no_both (is_leaving names.0) so.1 (never names.0 so.0).0))
    (λ names. (let so = gain_forth c x n page names.0 ok names.1 in no_both (is_coming names.0) so.1 (never names.0 so.0).1))

-- Along a path.

pub losses_changes : AreLossesChanges
losses_changes c es t i n page how fine h = (
  λ line. (let found = (listed_is lost_at (moments c es) i n page how).0 line in
      let so = loss_forth c found.0 n page how (accepted_at c es t i found.0 fine h found.1) found.2 in
      ((found.0, found.1, so.0), so.1)),
  λ is. (let x = is.0.0 in
      (listed_is lost_at (moments c es) i n page how).1 (x, is.0.1, loss_back c x n page how (accepted_at c es t i x fine h is.0.1) is.0.2 is.1)),
)

pub gains_changes : AreGainsChanges
gains_changes c es t i n page how fine h = (
  λ line. (let found = (listed_is gained_at (moments c es) i n page how).0 line in
      let so = gain_forth c found.0 n page how (accepted_at c es t i found.0 fine h found.1) found.2 in
      ((found.0, found.1, so.0), so.1)),
  λ is. (let x = is.0.0 in
      (listed_is gained_at (moments c es) i n page how).1 (x, is.0.1, gain_back c x n page how (accepted_at c es t i x fine h is.0.1) is.0.2 is.1)),
)
