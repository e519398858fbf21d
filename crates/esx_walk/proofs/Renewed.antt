-- A loss of a path with one more event: it is as it was, or its page is back.
use Rattle.std.proofs.Common.{zero, suc, ◌≡◌, ℕ, ◌+◌, ◌-◌, ◌≤◌, ◌&&◌, nat_lt, nat_le, Bool, true, false, List, [], ◌∷◌, ◌++◌, length, slice_get, count_by, refl, sym, ap, ◌∙◌, subst, arith, cond, Option, Some, None, inl, inr, ◌⊎◌}
use Rattle.std.specs.List.{AllByRecursion}
use Rattle.std.specs.Option.{option_map}
use Rattle.std.proofs.lemmas.List.Sums.{sum_by-cons}
use Rattle.std.proofs.lemmas.Bool.Decides.{nat_tests}
use Rattle.std.proofs.lemmas.Option.{slice_get_within}
use Rattle.esx_types.specs.declared.config.Config.{Config}
use Rattle.esx_model.proofs.Callers.{all_append}
use Rattle.esx_story.specs.declared.change.How.{How}
use Rattle.esx_story.specs.declared.change.Change.{Change}
use Rattle.esx_story.specs.declared.story.Loss.{Loss}
use Rattle.esx_story.specs.Changes.{has_here}
use Rattle.esx_story.specs.Moments.{Moment}
use Rattle.esx_story.specs.Losses.{lost_at}
use Rattle.esx_story.specs.Gains.{gained_at}
use Rattle.esx_story.specs.Spans.{is_last, back, over, gained_how, came_by}
use Rattle.esx_story.specs.Waits.{Met, is_wait, is_before, waits}
use Rattle.esx_story.specs.Story.{told_at, told_from, told}
use Rattle.esx_story.proofs.Backs.{back_first}
use Rattle.esx_walk.proofs.Along.{back_next, over_next, back_along, over_along, renewed}
use Rattle.esx_walk.specs.Account.{back_with}
use Rattle.esx_walk.specs.Accounts.{IsOpen}
use Rattle.esx_walk.proofs.Lists.{get_front, get_last}

-- What is told of a path says itself.

pub record IsTold (ms : List Moment) (mets : List Met) (l : Loss) : Type 0 where
  pub early : l.at ≤ length ms
  pub same : renewed ms mets l ≡ l

told_one : (c : Config) (ms : List Moment) (mets : List Met) (i : ℕ) (x : Moment) (o : Option Change) → i ≤ length ms → AllByRecursion (IsTold ms mets) (told_at c ms mets i x o)
told_one c ms mets i x None within = tt
told_one c ms mets i x (Some y) within = (record { early = within; same = refl }, tt)

told_some : (c : Config) (ms : List Moment) (mets : List Met) (i : ℕ) (some : List Moment) → i + length some ≤ length ms + 1 → AllByRecursion (IsTold ms mets) (told_from c ms mets i some)
told_some c ms mets i [] within = tt
told_some c ms mets i (x ∷ some) within =
    all_append (IsTold ms mets) (told_at c ms mets i x (lost_at x)) (told_from c ms mets (i + 1) some) (told_one c ms mets i x (lost_at x) (omega (arith, within))) (told_some c ms mets (i + 1) some (omega (arith, within)))

one_loss : (x y : Loss) → Some x ≡ Some y → x ≡ y
one_loss x y h = cc

no_loss : (y : Loss) → None ≡ Some y → ⊥
no_loss y h = cc

all_get : (P : Loss → Type 0) (ls : List Loss) (k : ℕ) (l : Loss) → AllByRecursion P ls → slice_get ls k ≡ Some l → P l
all_get P [] k l all h = absurd (no_loss l h)
all_get P (x ∷ ls) zero l all h = subst P (one_loss x l h) all.0
all_get P (x ∷ ls) (suc k) l all h = all_get P ls k l all.1 h

pub is_told : (c : Config) (ms : List Moment) (mets : List Met) (j : ℕ) (l : Loss) → slice_get (told c ms mets) j ≡ Some l → IsTold ms mets l
is_told c ms mets j l h = all_get (IsTold ms mets) (told c ms mets) j l (told_some c ms mets 1 ms (omega arith)) h

-- Waits.

counted_alike : (p q : Met → Bool) (k : ℕ) (mets : List Met) → AllByRecursion (λ (m : Met). m.at ≤ k) mets → ((m : Met) → m.at ≤ k → p m ≡ q m) → count_by p mets ≡ count_by q mets
counted_alike p q k [] all each = refl
counted_alike p q k (m ∷ mets) all each =
    let a = sum_by-cons (λ m. cond (p m) 1 0) m mets in
    let b = sum_by-cons (λ m. cond (q m) 1 0) m mets in
    let own : cond (p m) 1 0 ≡ cond (q m) 1 0 = ap (λ t. let n : ℕ = cond t 1 0 in n) (each m all.0) in
    let rest = counted_alike p q k mets all.1 each in
    omega (arith, a, b, own, rest)

in_time : (at k : ℕ) → at ≤ k → nat_lt at (k + 1) ≡ true
in_time at k h = grind (arith, nat_tests)

before_alike : (f : Bool → Bool → Bool) (b o : Option ℕ) (here last : Bool) (k at : ℕ) → at ≤ k → f (is_before (back_next b o here (k + 1)) at) (is_before (over_next b o here last (k + 1)) at) ≡ f (is_before b at) (is_before o at)
before_alike f (Some j) o here last k at early = refl
before_alike f None (Some j) here last k at early = refl
before_alike f None None true last k at early = ap (λ t. f t true) (in_time at k early)
before_alike f None None false true k at early = ap (λ t. f true t) (in_time at k early)
before_alike f None None false false k at early = refl

pub waits_alike : (ms : List Moment) (x : Moment) (mets : List Met) (i n page : ℕ) → i ≤ length ms → AllByRecursion (λ (m : Met). m.at ≤ length ms) mets → waits (ms ++ x ∷ []) mets i n page ≡ waits ms mets i n page
waits_alike ms x mets i n page within early =
    let b = back ms i n page in
    let o = over ms i n page in
    let here = has_here x.after.site n page in
    let last = is_last n x.event x.answer in
    ap (λ (z : Option ℕ). count_by (λ (m : Met). is_wait n page m && nat_le i m.at && is_before z m.at && is_before (over (ms ++ x ∷ []) i n page) m.at) mets) (back_along ms x i n page within)
    ∙ ap (λ (z : Option ℕ). count_by (λ (m : Met). is_wait n page m && nat_le i m.at && is_before (back_next b o here (length ms + 1)) m.at && is_before z m.at) mets) (over_along ms x i n page within)
    ∙ counted_alike (λ (m : Met). is_wait n page m && nat_le i m.at && is_before (back_next b o here (length ms + 1)) m.at && is_before (over_next b o here last (length ms + 1)) m.at)
    (λ (m : Met). is_wait n page m && nat_le i m.at && is_before b m.at && is_before o m.at) (length ms) mets early
    (λ m h. before_alike (λ p q. is_wait n page m && nat_le i m.at && p && q) b o here last (length ms) m.at h)

-- How a page that is back came.

came_before : (ms : List Moment) (x : Moment) (i n page : ℕ) (o : Option ℕ) → back ms i n page ≡ o → came_by (ms ++ x ∷ []) o ≡ came_by ms o
came_before ms x i n page None is = refl
came_before ms x i n page (Some j) is =
    let b = (back_first ms i n page j).0 is in
    let place = b.at.0 in
    let number = b.at.1 in
    let below = slice_get_within ms place b.moment b.at.2 in
    let e : j - 1 ≡ place = omega (arith, number) in
    ap (λ k. gained_how (slice_get (ms ++ x ∷ []) k)) e ∙ ap gained_how (get_front ms x place below) ∙ ap (λ k. gained_how (slice_get ms k)) (sym e)

came_now : (ms : List Moment) (x : Moment) (g : Change) → gained_at x ≡ Some g → came_by (ms ++ x ∷ []) (Some (length ms + 1)) ≡ Some g.how
came_now ms x g gains =
    let e : length ms + 1 - 1 ≡ length ms = omega arith in
    ap (λ k. gained_how (slice_get (ms ++ x ∷ []) k)) e ∙ ap gained_how (get_last ms x) ∙ ap (option_map (λ (y : Change). y.how)) gains

abbrev with : Loss → Option ℕ → Option How → ℕ → Loss
with l b came count = record l { back = b; came = came; waits = count }

-- a loss as it is, if its page is not back now
stays_by : (ms : List Moment) (x : Moment) (mets : List Met) (l : Loss) → IsTold ms mets l → AllByRecursion (λ (m : Met). m.at ≤ length ms) mets
    → back (ms ++ x ∷ []) l.at l.change.vm l.change.page ≡ back ms l.at l.change.vm l.change.page → renewed (ms ++ x ∷ []) mets l ≡ l
stays_by ms x mets l told early is =
    let i = l.at in
    let n = l.change.vm in
    let page = l.change.page in
    let later = ms ++ x ∷ [] in
    ap (λ b. with l b (came_by later b) (waits later mets i n page)) is
    ∙ ap (λ came. with l (back ms i n page) came (waits later mets i n page)) (came_before ms x i n page (back ms i n page) refl)
    ∙ ap (with l (back ms i n page) (came_by ms (back ms i n page))) (waits_alike ms x mets i n page told.early early)
    ∙ told.same

returns_by : (ms : List Moment) (x : Moment) (mets : List Met) (l : Loss) (g : Change) → IsTold ms mets l → AllByRecursion (λ (m : Met). m.at ≤ length ms) mets → gained_at x ≡ Some g
    → back (ms ++ x ∷ []) l.at l.change.vm l.change.page ≡ Some (length ms + 1) → renewed (ms ++ x ∷ []) mets l ≡ back_with (length ms + 1) g.how l
returns_by ms x mets l g told early gains is =
    let i = l.at in
    let n = l.change.vm in
    let page = l.change.page in
    let later = ms ++ x ∷ [] in
    ap (λ b. with l b (came_by later b) (waits later mets i n page)) is
    ∙ ap (λ came. with l (Some (length ms + 1)) came (waits later mets i n page)) (came_now ms x g gains)
    ∙ ap (with l (Some (length ms + 1)) (Some g.how)) (waits_alike ms x mets i n page told.early early ∙ ap (λ (y : Loss). y.waits) told.same)

-- one whose page is here again is told so
pub returns : (ms : List Moment) (x : Moment) (mets : List Met) (l : Loss) (g : Change) → IsTold ms mets l → AllByRecursion (λ (m : Met). m.at ≤ length ms) mets → gained_at x ≡ Some g → IsOpen ms l
    → has_here x.after.site l.change.vm l.change.page ≡ true → renewed (ms ++ x ∷ []) mets l ≡ back_with (length ms + 1) g.how l
returns ms x mets l g told early gains stood here =
    let i = l.at in
    let n = l.change.vm in
    let page = l.change.page in
    returns_by ms x mets l g told early gains (back_along ms x i n page told.early ∙ ap (λ b. back_next b (over ms i n page) (has_here x.after.site n page) (length ms + 1)) stood.back
    ∙ ap (λ o. back_next None o (has_here x.after.site n page) (length ms + 1)) stood.over ∙ ap (λ a. back_next None None a (length ms + 1)) here)

-- A loss after one more event: as it was; or it stood open, and its page is here again.
pub record IsBack (ms : List Moment) (x : Moment) (mets : List Met) (l : Loss) : Type 0 where
  pub stood : IsOpen ms l
  pub here : has_here x.after.site l.change.vm l.change.page ≡ true
  pub told : (g : Change) → gained_at x ≡ Some g → renewed (ms ++ x ∷ []) mets l ≡ back_with (length ms + 1) g.how l

after_one_by : (ms : List Moment) (x : Moment) (mets : List Met) (l : Loss) (b o : Option ℕ) (here : Bool) → IsTold ms mets l → AllByRecursion (λ (m : Met). m.at ≤ length ms) mets
    → back ms l.at l.change.vm l.change.page ≡ b → over ms l.at l.change.vm l.change.page ≡ o → has_here x.after.site l.change.vm l.change.page ≡ here
    → back (ms ++ x ∷ []) l.at l.change.vm l.change.page ≡ back_next b o here (length ms + 1) → (renewed (ms ++ x ∷ []) mets l ≡ l) ⊎ IsBack ms x mets l
after_one_by ms x mets l (Some j) o here told early is ends has next = inl (stays_by ms x mets l told early (next ∙ sym is))
after_one_by ms x mets l None (Some j) here told early is ends has next = inl (stays_by ms x mets l told early (next ∙ sym is))
after_one_by ms x mets l None None false told early is ends has next = inl (stays_by ms x mets l told early (next ∙ sym is))
after_one_by ms x mets l None None true told early is ends has next = inr (record {
  stood = record { back = is; over = ends };
  here = has;
  told = λ g gains. returns_by ms x mets l g told early gains next;
})

pub after_one : (ms : List Moment) (x : Moment) (mets : List Met) (l : Loss) → IsTold ms mets l → AllByRecursion (λ (m : Met). m.at ≤ length ms) mets → (renewed (ms ++ x ∷ []) mets l ≡ l) ⊎ IsBack ms x mets l
after_one ms x mets l told early =
    let i = l.at in
    let n = l.change.vm in
    let page = l.change.page in
    let b = back ms i n page in
    let o = over ms i n page in
    let here = has_here x.after.site n page in
    let next = back_along ms x i n page told.early in
    after_one_by ms x mets l b o here told early refl refl refl next

-- one that stood open stands so still, if its page is away and its machine does not go
pub stands_on : (ms : List Moment) (x : Moment) (l : Loss) → l.at ≤ length ms → IsOpen ms l → has_here x.after.site l.change.vm l.change.page ≡ false → is_last l.change.vm x.event x.answer ≡ false → IsOpen (ms ++ x ∷ []) l
stands_on ms x l within stood away last =
    let i = l.at in
    let n = l.change.vm in
    let page = l.change.page in
    let here = has_here x.after.site n page in
    record {
      back = back_along ms x i n page within ∙ ap (λ b. back_next b (over ms i n page) here (length ms + 1)) stood.back ∙ ap (λ o. back_next None o here (length ms + 1)) stood.over
          ∙ ap (λ a. back_next None None a (length ms + 1)) away;
      over = over_along ms x i n page within ∙ ap (λ b. over_next b (over ms i n page) here (is_last n x.event x.answer) (length ms + 1)) stood.back
          ∙ ap (λ o. over_next None o here (is_last n x.event x.answer) (length ms + 1)) stood.over ∙ ap (λ a. over_next None None a (is_last n x.event x.answer) (length ms + 1)) away
          ∙ ap (λ a. over_next None None false a (length ms + 1)) last;
    }

-- and one that stands open after it stood so before
pub record Stood (ms : List Moment) (x : Moment) (l : Loss) : Type 0 where
  pub before : IsOpen ms l
  pub away : has_here x.after.site l.change.vm l.change.page ≡ false
  pub last : is_last l.change.vm x.event x.answer ≡ false

no_number : (j : ℕ) → Some j ≡ None → ⊥
no_number j h = cc

stood_by : (ms : List Moment) (x : Moment) (l : Loss) (b o : Option ℕ) (here last : Bool) → back ms l.at l.change.vm l.change.page ≡ b → over ms l.at l.change.vm l.change.page ≡ o
    → has_here x.after.site l.change.vm l.change.page ≡ here → is_last l.change.vm x.event x.answer ≡ last → back_next b o here (length ms + 1) ≡ None → over_next b o here last (length ms + 1) ≡ None → Stood ms x l
stood_by ms x l (Some j) o here last is ends has goes none nor = absurd (no_number j none)
stood_by ms x l None (Some j) here last is ends has goes none nor = absurd (no_number j nor)
stood_by ms x l None None true last is ends has goes none nor = absurd (no_number (length ms + 1) none)
stood_by ms x l None None false true is ends has goes none nor = absurd (no_number (length ms + 1) nor)
stood_by ms x l None None false false is ends has goes none nor = record { before = record { back = is; over = ends }; away = has; last = goes }

pub stood : (ms : List Moment) (x : Moment) (l : Loss) → l.at ≤ length ms → IsOpen (ms ++ x ∷ []) l → Stood ms x l
stood ms x l within open_still =
    let i = l.at in
    let n = l.change.vm in
    let page = l.change.page in
    stood_by ms x l (back ms i n page) (over ms i n page) (has_here x.after.site n page) (is_last n x.event x.answer) refl refl refl refl
    (sym (back_along ms x i n page within) ∙ open_still.back) (sym (over_along ms x i n page within) ∙ open_still.over)
