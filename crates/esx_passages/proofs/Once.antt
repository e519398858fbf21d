-- No page stands twice among the passages of an event.
use Rattle.std.proofs.Common.{◌≡◌, ℕ, zero, suc, Bool, true, false, ◌&&◌, ◌==◌, List, [], slice_get, refl, sym, ap, ◌∙◌, Option, Some, None, inl, inr, arith}
use Rattle.std.proofs.lemmas.Bool.Decides.{nat_tests}
use Rattle.std.proofs.lemmas.Option.{none-some}
use Rattle.esx_types.specs.declared.config.Config.{Config}
use Rattle.esx_events.specs.declared.event.Answer.{Answer}
use Rattle.esx_events.specs.declared.event.Answer.TheVariants as answers
use Rattle.esx_events.specs.declared.event.Event.{Event}
use Rattle.esx_events.specs.declared.event.Event.TheVariants.{Ask, Lend, TakeBack, Gone}
use Rattle.esx_model.proofs.Callers.{some_same, eqb_same}
use Rattle.esx_story.specs.Hows.{IsAcceptedMoment}
use Rattle.esx_story.specs.Moments.{Moment}
use Rattle.esx_passages.specs.Passages.{Passage, movers, passage_at, movers_at, passed_at, before_rest}
use Rattle.esx_passages.specs.Readings.{new_epoch}
use Rattle.esx_passages.specs.Laws.{IsEachOnce}
use Rattle.esx_passages.proofs.Steady.{is_that}
use Rattle.esx_passages.proofs.Every.{every_event_goes, equal_in}
use Rattle.esx_passages.proofs.Complete.{told_of}

-- an event that ends loans may move one page at most
one_mover : (e : Event) (a : Answer) (found : Option (ℕ × ℕ)) (q : ℕ × ℕ) → new_epoch e a ≡ Some q → (movers e a found).first ≡ None
one_mover (Ask m) (answers.Reset j) found q h = refl
one_mover (Ask m) _ found q h = absurd (none-some q h)
one_mover (Lend m page) _ found q h = refl
one_mover (TakeBack m page) _ found q h = refl
one_mover (Gone m) _ found q h = refl
one_mover _ _ found q h = absurd (none-some q h)

two_pages : (c : Config) (x : Moment) (m p : ℕ) → IsAcceptedMoment c x → is_that (movers_at x).first m p ≡ true → is_that (movers_at x).second m p ≡ false
two_pages c x m p ok h = elim (every_event_goes c x.before x.event (x.answer, x.after) ok.0 ok.1) [
  | inl stays ↦ stays.apart m p h
  | inr ends ↦ absurd (no_truth (sym (ap (λ o. is_that o m p) (one_mover x.event x.answer (equal_in x.before.site x.event) (ends.number, ends.epoch) ends.told)) ∙ h))
]
  where
    no_truth : false ≡ true → ⊥
    no_truth e = cc

itself : (n page m p : ℕ) → n ≡ m → page ≡ p → is_that (Some (n, page)) m p ≡ true
itself n page m p e d = grind (arith, nat_tests)

never_both : (c : Config) (x : Moment) (a b : Passage) → IsAcceptedMoment c x → (passed_at x).first ≡ Some a → (passed_at x).second ≡ Some b → a.vm ≡ b.vm → a.page ≡ b.page → ⊥
never_both c x a b ok one two vm page =
    let first = (told_of x (movers_at x).first a one).page in
    let second = (told_of x (movers_at x).second b two).page in
    let is = ap (λ o. is_that o a.vm a.page) first ∙ itself a.vm a.page a.vm a.page refl refl in
    let also = ap (λ o. is_that o a.vm a.page) second ∙ itself b.vm b.page a.vm a.page (sym vm) (sym page) in
    no_both (is_that (movers_at x).second a.vm a.page) also (two_pages c x a.vm a.page ok is)
  where
    no_both : (t : Bool) → t ≡ true → t ≡ false → ⊥
    no_both true h k = cc
    no_both false h k = cc

once_by : (a b : Option Passage) → ((u w : Passage) → a ≡ Some u → b ≡ Some w → u.vm ≡ w.vm → u.page ≡ w.page → ⊥) → (j k : ℕ) (y z : Passage)
    → slice_get (before_rest a (before_rest b [])) j ≡ Some y → slice_get (before_rest a (before_rest b [])) k ≡ Some z → y.vm ≡ z.vm → y.page ≡ z.page → j ≡ k
once_by None None never j k y z h i vm page = cc
once_by None (Some b) never zero zero y z h i vm page = refl
once_by None (Some b) never (suc j) k y z h i vm page = cc
once_by None (Some b) never zero (suc k) y z h i vm page = cc
once_by (Some a) None never zero zero y z h i vm page = refl
once_by (Some a) None never (suc j) k y z h i vm page = cc
once_by (Some a) None never zero (suc k) y z h i vm page = cc
once_by (Some a) (Some b) never zero zero y z h i vm page = refl
once_by (Some a) (Some b) never (suc zero) (suc zero) y z h i vm page = refl
once_by (Some a) (Some b) never zero (suc zero) y z h i vm page = absurd (never y z h i vm page)
once_by (Some a) (Some b) never (suc zero) zero y z h i vm page = absurd (never z y i h (sym vm) (sym page))
once_by (Some a) (Some b) never (suc (suc j)) k y z h i vm page = cc
once_by (Some a) (Some b) never zero (suc (suc k)) y z h i vm page = cc
once_by (Some a) (Some b) never (suc zero) (suc (suc k)) y z h i vm page = cc

pub each_once : IsEachOnce
each_once c x j k y z ok h i vm page = once_by (passed_at x).first (passed_at x).second (λ a b one two e d. never_both c x a b ok one two e d) j k y z h i vm page
