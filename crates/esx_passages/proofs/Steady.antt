-- Pages that stay where they are, and epochs that go on, after a machine of a site changed.
use Rattle.std.proofs.Common.{◌≡◌, ◌≢◌, ℕ, ◌<◌, Bool, true, false, ◌||◌, ◌&&◌, List, length, get_or, set, arith, refl, sym, ap, ◌∙◌, subst, Option, Some, None, inl, inr, ◌==◌, ◌⊎◌}
use Rattle.std.proofs.lemmas.List.{get_or-set_same, get_or-set_other}
use Rattle.std.proofs.lemmas.Bool.{cases_eq}
use Rattle.std.proofs.lemmas.Bool.Decides.{nat_tests}
use Rattle.esx_types.specs.declared.table.Hint.{Hint}
use Rattle.esx_events.specs.declared.event.Answer.{Answer}
use Rattle.esx_events.specs.declared.event.Event.{Event}
use Rattle.esx_model.specs.declared.scene.Place.{Place}
use Rattle.esx_model.specs.declared.scene.Place.TheVariants.{Untouched}
use Rattle.esx_model.specs.declared.scene.Vm.{Vm}
use Rattle.esx_model.specs.declared.scene.Site.{Site}
use Rattle.esx_model.specs.Site.{vm_at, place_at}
use Rattle.esx_model.specs.Hints.{with_place, with_change, placed, hints_at}
use Rattle.esx_model.proofs.Callers.{some_below, site_with, with_change_is, placed_is, or_false, eqb_same}
use Rattle.esx_story.specs.Spots.{spot, spot_in, spot_of}
use Rattle.esx_passages.specs.Passages.{Pages, movers}
use Rattle.esx_passages.specs.Readings.{epoch_in, epoch_of, new_epoch}

-- the page is that one, or one of two
abbrev pub is_that : Option (ℕ × ℕ) → ℕ → ℕ → Bool
is_that None m p = false
is_that (Some x) m p = (x.0 == m) && (x.1 == p)

abbrev pub is_among : Pages → ℕ → ℕ → Bool
is_among pages m p = is_that pages.first m p || is_that pages.second m p

-- each page that may not move is where it was, and each machine in the epoch that it was in
pub record Steady (s t : Site) (moves : ℕ → ℕ → Bool) : Type 0 where
  pub spots : (m p : ℕ) → moves m p ≡ false → spot_of t m p ≡ spot_of s m p
  pub epochs : (m : ℕ) → epoch_of t m ≡ epoch_of s m

pub steady_same : (s : Site) (moves : ℕ → ℕ → Bool) → Steady s s moves
steady_same s moves = record { spots = λ m p h. refl; epochs = λ m. refl }

pub steady_again : (s t u : Site) (moves : ℕ → ℕ → Bool) → Steady s t moves → Steady t u moves → Steady s u moves
steady_again s t u moves one two = record {
  spots = λ m p h. two.spots m p h ∙ one.spots m p h;
  epochs = λ m. two.epochs m ∙ one.epochs m;
}

pub steady_more : (s t : Site) (few moves : ℕ → ℕ → Bool) → ((m p : ℕ) → moves m p ≡ false → few m p ≡ false) → Steady s t few → Steady s t moves
steady_more s t few moves less one = record { spots = λ m p h. one.spots m p (less m p h); epochs = one.epochs }

-- a machine whose other pages are where they were
pub steady_vm : (s : Site) (n : ℕ) (v w : Vm) (hints : List Hint) (moves : ℕ → ℕ → Bool) → vm_at s n ≡ Some v → w.epoch ≡ v.epoch → ((p : ℕ) → moves n p ≡ false → place_at w p ≡ place_at v p) → Steady s (site_with s n w hints) moves
steady_vm s n v w hints moves there epoch places = record { spots = λ m p h. spots m p h; epochs = λ m. epochs m }
  where
    t : Site
    t = site_with s n w hints

    now : vm_at t n ≡ Some w
    now = get_or-set_same s.vms n (Some w) None (some_below s.vms n v there)

    here : (p : ℕ) → place_at w p ≡ place_at v p → spot_of t n p ≡ spot_of s n p
    here p is = ap (λ o. spot_in o p) now ∙ ap (λ k. spot k (place_at w p)) epoch ∙ ap (spot v.epoch) is ∙ sym (ap (λ o. spot_in o p) there)

    spots : (m p : ℕ) → moves m p ≡ false → spot_of t m p ≡ spot_of s m p
    spots m p h = elim (cases_eq m n) [
      | inl e ↦ ap (λ k. spot_of t k p) e ∙ here p (places p (sym (ap (λ k. moves k p) e) ∙ h)) ∙ sym (ap (λ k. spot_of s k p) e)
      | inr other ↦ ap (λ o. spot_in o p) (get_or-set_other s.vms n m (Some w) None other)
    ]

    epochs : (m : ℕ) → epoch_of t m ≡ epoch_of s m
    epochs m = elim (cases_eq m n) [
      | inl e ↦ ap (epoch_of t) e ∙ ap epoch_in now ∙ epoch ∙ sym (ap epoch_in there) ∙ sym (ap (epoch_of s) e)
      | inr other ↦ ap epoch_in (get_or-set_other s.vms n m (Some w) None other)
    ]

-- a machine that changes in what is not its pages
pub steady_row : (s : Site) (n : ℕ) (v w : Vm) (hints : List Hint) (moves : ℕ → ℕ → Bool) → vm_at s n ≡ Some v → w.epoch ≡ v.epoch → w.places ≡ v.places → Steady s (site_with s n w hints) moves
steady_row s n v w hints moves there epoch places = steady_vm s n v w hints moves there epoch (λ p h. ap (λ (ps : List Place). get_or ps p Untouched) places)

pub steady_change : (s : Site) (n : ℕ) (v : Vm) (change : Vm → Vm) (moves : ℕ → ℕ → Bool) → vm_at s n ≡ Some v → (change v).epoch ≡ v.epoch → (change v).places ≡ v.places → Steady s (with_change s n change) moves
steady_change s n v change moves there epoch places =
    let P : Site → Type 0 = λ t. Steady s t moves in
    subst P (sym (with_change_is s n v change there)) (steady_row s n v (change v) s.hints moves there epoch places)

not_that : (n page p : ℕ) → is_that (Some (n, page)) n p ≡ false → p ≢ page
not_that n page p h = grind (arith, nat_tests)

-- a page that came to another place
pub steady_placed : (s : Site) (n page : ℕ) (v : Vm) (q : Place) → vm_at s n ≡ Some v → Steady s (placed s n page q) (is_that (Some (n, page)))
steady_placed s n page v q there =
    let P : Site → Type 0 = λ t. Steady s t (is_that (Some (n, page))) in
    subst P (sym (placed_is s n page v q there))
    (steady_vm s n v (with_place page q v) (hints_at n page q s.hints) (is_that (Some (n, page))) there refl (λ p h. get_or-set_other v.places page p q Untouched (not_that n page p h)))

-- What an event does to pages that it may not move, and to epochs.

-- it ends no loans, they stay, and those that may move are two pages
pub record Stays (e : Event) (s : Site) (found : Option (ℕ × ℕ)) (r : Answer × Site) : Type 0 where
  pub none : new_epoch e r.0 ≡ None
  pub steady : Steady s r.1 (is_among (movers e r.0 found))
  pub apart : (m p : ℕ) → is_that (movers e r.0 found).first m p ≡ true → is_that (movers e r.0 found).second m p ≡ false

-- it ends all loans of a machine, and touches no other
pub record Ends (e : Event) (s : Site) (found : Option (ℕ × ℕ)) (r : Answer × Site) : Type 0 where
  pub number : ℕ
  pub epoch : ℕ
  pub told : new_epoch e r.0 ≡ Some (number, epoch)
  pub comes : epoch_of r.1 number ≡ epoch
  pub others : (m : ℕ) → m ≢ number → vm_at r.1 m ≡ vm_at s m

abbrev pub Goes : Event → Site → Option (ℕ × ℕ) → (Answer × Site) → Type 0
Goes e s found r = Stays e s found r ⊎ Ends e s found r

-- one page that moves, of those that may
pub first_of : (a b : Option (ℕ × ℕ)) (m p : ℕ) → (is_that a m p || is_that b m p) ≡ false → is_that a m p ≡ false
first_of a b m p h = (or_false (is_that a m p) (is_that b m p) h).0

pub second_of : (a b : Option (ℕ × ℕ)) (m p : ℕ) → (is_that a m p || is_that b m p) ≡ false → is_that b m p ≡ false
second_of a b m p h = (or_false (is_that a m p) (is_that b m p) h).1
