-- A course over its path: it may go on, it goes on, and what it tells is what the event moved.
use Rattle.std.proofs.Common.{◌≡◌, ◌≢◌, ℕ, zero, suc, ◌+◌, ◌<◌, ◌==◌, Bool, true, false, List, [], ◌∷◌, ◌++◌, length, get_or, replicate, set, slice_get, refl, sym, ap, ◌∙◌, subst, arith, cond, Option, Some, None, Ok, inl, inr}
use Rattle.std.specs.Option.{ForSome}
use Rattle.std.proofs.lemmas.Bool.{cases_eq}
use Rattle.std.proofs.lemmas.Bool.Decides.{nat_tests}
use Rattle.std.proofs.lemmas.List.{get_or-set_same, get_or-set_other, length-set, length-replicate}
use Rattle.esx_types.specs.declared.config.TheConstants.{VM_NUMBERS}
use Rattle.esx_types.specs.Ranges.{IsConfig}
use Rattle.esx_types.specs.declared.config.Config.{Config}
use Rattle.esx_types.specs.declared.level.Level.{Level}
use Rattle.esx_events.specs.declared.event.Answer.{Answer}
use Rattle.esx_events.specs.declared.event.Event.{Event}
use Rattle.esx_model.specs.declared.book.Book.{Book}
use Rattle.esx_model.specs.declared.scene.Vm.{Vm}
use Rattle.esx_model.specs.declared.scene.Site.{Site}
use Rattle.esx_model.specs.declared.scene.Scene.{Scene}
use Rattle.esx_model.specs.declared.tables.Tables.{Tables}
use Rattle.esx_model.specs.event.Paging.{compared}
use Rattle.esx_model.specs.event.Sharing.{found_by}
use Rattle.esx_model.specs.Readings.{page_state}
use Rattle.esx_model.specs.Show.{shown}
use Rattle.esx_model.specs.Tables.{tables_of, book_from}
use Rattle.esx_model.specs.Replay.{opening, next, run_from, run}
use Rattle.esx_model.specs.sound.Sound.{IsSound}
use Rattle.esx_model.proofs.Callers.{run_one_more, book_read, path_within, shown_within}
use Rattle.esx_plans.specs.plan.Balloon.{CanEpochsRise}
use Rattle.esx_machine.specs.Machine.{Kept, Shows, book_in}
use Rattle.esx_story.specs.Moments.{Moment}
use Rattle.esx_passages.specs.declared.passage.Passage.{Passage}
use Rattle.esx_passages.specs.declared.passage.Passages.{Passages}
use Rattle.esx_passages.specs.Passages.{movers, passage_by, spot_at, passage_at, movers_at, passed_at}
use Rattle.esx_passages.specs.Readings.{told_spot, epoch_in, epoch_of, new_epoch, epoch_after}
use Rattle.esx_passages.proofs.Spotted.{page_spotted}
use Rattle.esx_passages.proofs.Complete.{epochs_follow}
use Rattle.esx_course.specs.Looking.{spot_in, with_epoch, passed_from}
use Rattle.esx_course.specs.Courses.{Coursed, AreEpochs, IsCourse, MayGoOn, IsTold}

abbrev pub moment_of : Event → Answer → Scene → Scene → Moment
moment_of e a t u = record { event = e; answer = a; before = t; after = u }

-- the book of a machine that shows a scene
book_shown : (k : Kept) (t : Scene) → Shows k t → book_in k ≡ shown k.config t
book_shown k t s = ap (λ (x : Tables). book_from x k.level) s.tables ∙ ap (λ (l : Level). book_from (tables_of k.config t.site) l) s.level ∙ book_read k.config t.site t.level s.sound

-- where a page is read to be is where it is
spots_are : (k : Kept) (t : Scene) (epochs : List ℕ) (o : Option (ℕ × ℕ)) → Shows k t → AreEpochs t.site epochs → spot_in (book_in k) epochs o ≡ spot_at t.site o
spots_are k t epochs None shows are = refl
spots_are k t epochs (Some p) shows are =
    ap (λ e. told_spot e (page_state (book_in k) p.0 p.1)) (are p.0)
    ∙ ap (λ (b : Book). told_spot (epoch_of t.site p.0) (page_state b p.0 p.1)) (book_shown k t shows)
    ∙ sym (page_spotted k.config t p.0 p.1 shows.sound)

-- Epochs.

named : (k n : ℕ) → n ≡ k → (k == n) ≡ true
named k n e = grind (arith, nat_tests)

not_named : (k n : ℕ) → n ≢ k → (k == n) ≡ false
not_named k n e = grind (arith, nat_tests)

next_epochs : (s u : Site) (epochs : List ℕ) (next : Option (ℕ × ℕ)) → AreEpochs s epochs → length epochs ≡ VM_NUMBERS → ForSome next (λ p. p.0 < VM_NUMBERS) → ((n : ℕ) → epoch_of u n ≡ epoch_after next n (epoch_of s n))
    → AreEpochs u (with_epoch epochs next)
next_epochs s u epochs None are long within follow n = are n ∙ sym (follow n)
next_epochs s u epochs (Some p) are long within follow n = elim (cases_eq n p.0) [
  | inl e ↦ ap (λ j. get_or (set epochs p.0 p.1) j 0) e ∙ get_or-set_same epochs p.0 p.1 0 (let below : p.0 < VM_NUMBERS = within p refl in omega (arith, long, below))
      ∙ sym (follow n ∙ ap (λ b. cond b p.1 (epoch_of s n)) (named p.0 n e))
  | inr other ↦ get_or-set_other epochs p.0 n p.1 0 other ∙ are n ∙ sym (follow n ∙ ap (λ b. cond b p.1 (epoch_of s n)) (not_named p.0 n other))
]

next_long : (epochs : List ℕ) (next : Option (ℕ × ℕ)) → length (with_epoch epochs next) ≡ length epochs
next_long epochs None = refl
next_long epochs (Some p) = length-set epochs p.0 p.1

-- An event that was made.

-- what was told of it is what it moved
told_is : (c : Config) (old new : Kept) (t u : Scene) (e : Event) (a : Answer) (epochs : List ℕ) (found : Option (ℕ × ℕ)) → found ≡ found_by t.site (compared t.site e)
    → ((o : Option (ℕ × ℕ)) → spot_in (book_in old) epochs o ≡ spot_at t.site o) → ((o : Option (ℕ × ℕ)) → spot_in (book_in new) (with_epoch epochs (new_epoch e a)) o ≡ spot_at u.site o)
    → passed_from e a found (book_in old) (book_in new) epochs ≡ passed_at (moment_of e a t u)
told_is c old new t u e a epochs found is before after =
    let x = moment_of e a t u in
    let pages = movers_at x in
    let later = with_epoch epochs (new_epoch e a) in
    let one : (o : Option (ℕ × ℕ)) → passage_by e a o (spot_in (book_in old) epochs o) (spot_in (book_in new) later o) ≡ passage_at x o =
    λ o. ap (λ z. passage_by e a o z (spot_in (book_in new) later o)) (before o) ∙ ap (passage_by e a o (spot_at t.site o)) (after o) in
    let both : (f s : Option Passage) → Passages = λ f s. record { first = f; second = s } in
    ap (λ o. passed_from e a o (book_in old) (book_in new) epochs) is
    ∙ ap (λ y. both y (passage_by e a pages.second (spot_in (book_in old) epochs pages.second) (spot_in (book_in new) later pages.second))) (one pages.first)
    ∙ ap (both (passage_at x pages.first)) (one pages.second)

-- the epochs after it
later_epochs : (c : Config) (es : List Event) (e : Event) (a : Answer) (w : Coursed) (u : Scene) (course : IsCourse c es w) → next c course.scene e ≡ Ok (a, u) → ForSome (new_epoch e a) (λ p. p.0 < VM_NUMBERS)
    → AreEpochs u.site (with_epoch w.epochs (new_epoch e a))
later_epochs c es e a w u course goes within =
    let t = course.scene in
    let S : Config → Type 0 = λ q. IsSound q t.site in
    let follow : (n : ℕ) → epoch_of u.site n ≡ epoch_after (new_epoch e a) n (epoch_of t.site n) = λ n. epochs_follow c (moment_of e a t u) n (subst S course.config course.shows.sound, goes) in
    next_epochs t.site u.site w.epochs (new_epoch e a) course.epochs course.long within follow

-- the course after it
pub course_more : (c : Config) (es : List Event) (e : Event) (a : Answer) (w v : Coursed) (u : Scene) (course : IsCourse c es w) → next c course.scene e ≡ Ok (a, u) → Shows v.machine u → v.machine.config ≡ c
    → v.epochs ≡ with_epoch w.epochs (new_epoch e a) → ForSome (new_epoch e a) (λ p. p.0 < VM_NUMBERS) → IsCourse c (es ++ e ∷ []) v
course_more c es e a w v u course goes shows config kept within =
    let P : List ℕ → Type 0 = AreEpochs u.site in
    record {
      good = course.good;
      config = config;
      scene = u;
      runs = run_one_more c es e course.scene u a course.runs goes;
      shows = shows;
      long = ap (λ xs. length xs) kept ∙ next_long w.epochs (new_epoch e a) ∙ course.long;
      epochs = subst P (sym kept) (later_epochs c es e a w u course goes within);
    }

-- and what it tells
pub told_of : (c : Config) (es : List Event) (e : Event) (a : Answer) (w v : Coursed) (u : Scene) (found : Option (ℕ × ℕ)) (passages : Passages) (course : IsCourse c es w) → next c course.scene e ≡ Ok (a, u) → Shows v.machine u
    → ForSome (new_epoch e a) (λ p. p.0 < VM_NUMBERS) → found ≡ found_by course.scene.site (compared course.scene.site e) → passages ≡ passed_from e a found (book_in w.machine) (book_in v.machine) w.epochs → IsTold c es e a passages
told_of c es e a w v u found passages course goes shows within is passed =
    let t = course.scene in
    let later = later_epochs c es e a w u course goes within in
    record {
      before = t;
      runs = course.runs;
      after = u;
      goes = goes;
      tells = passed ∙ told_is c w.machine v.machine t u e a w.epochs found is (λ o. spots_are w.machine t w.epochs o course.shows course.epochs) (λ o. spots_are v.machine u (with_epoch w.epochs (new_epoch e a)) o shows later);
    }

-- A course of no event.

no_epochs : (k n : ℕ) → ◌≡◌ {A = ℕ} (get_or (replicate k 0) n 0) 0
no_epochs zero n = refl
no_epochs (suc k) zero = refl
no_epochs (suc k) (suc n) = no_epochs k n

nobody : (k n : ℕ) → epoch_in (get_or (replicate k None) n None) ≡ 0
nobody zero n = refl
nobody (suc k) zero = refl
nobody (suc k) (suc n) = nobody k n

pub course_opens : (c : Config) (k : Coursed) → IsConfig c → k.machine.config ≡ c → Shows k.machine (opening c) → k.epochs ≡ replicate VM_NUMBERS 0 → IsCourse c [] k
unfolding run_from
course_opens c k good config shows kept = record {
  good = good;
  config = config;
  scene = opening c;
  runs = refl;
  shows = shows;
  long = ap (λ xs. length xs) kept ∙ length-replicate {A = ℕ} VM_NUMBERS 0;
  epochs = λ n. ap (λ xs. get_or xs n 0) kept ∙ no_epochs VM_NUMBERS n ∙ sym (nobody VM_NUMBERS n);
}

-- What it needs to go on.

pub can_rise : (k : Coursed) → MayGoOn k → CanEpochsRise k.machine.tables
can_rise k may = λ n v there. (
    let course = may.course in
    let low = shown_within k.machine.config (length may.events) course.scene.site n v (path_within may.config may.events course.scene course.runs)
    (sym (ap (λ (x : Tables). get_or x.vms n None) course.shows.tables) ∙ there) in
    let short = may.short in
    omega (arith, low, short))
