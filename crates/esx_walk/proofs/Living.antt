-- An account after one more event of its path: lives, and the whole.
use Rattle.std.proofs.Common.{◌≡◌, ℕ, ◌+◌, ◌*◌, ◌-◌, ◌<◌, ◌≤◌, ◌==◌, ◌&&◌, nat_le, Bool, true, false, List, [], ◌∷◌, ◌++◌, length, map, take, set, slice_get, count_by, refl, sym, ap, ◌∙◌, subst, arith, cond, Option, Some, None, inl, inr}
use Rattle.std.specs.List.{AllByRecursion}
use Rattle.std.proofs.lemmas.List.{length-append, length-set, get_or-set_same, get_or-set_other, take_all, take-append-le, append-nil}
use Rattle.std.proofs.lemmas.List.Sums.{sum_by-cons}
use Rattle.std.proofs.lemmas.Bool.{cases_eq}
use Rattle.std.proofs.lemmas.Bool.Decides.{nat_tests}
use Rattle.esx_types.specs.declared.config.TheConstants.{VM_NUMBERS}
use Rattle.esx_types.specs.declared.config.Config.{Config}
use Rattle.esx_events.specs.declared.event.Event.{Event}
use Rattle.esx_events.specs.declared.event.Event.TheVariants.{Admit, Gone, Rebalance}
use Rattle.esx_events.specs.declared.event.Answer.{Answer}
use Rattle.esx_events.specs.declared.event.Answer.TheVariants as answers
use Rattle.esx_model.proofs.Callers.{eqb_same, eqb_other, all_map}
use Rattle.esx_story.specs.declared.change.How.{How}
use Rattle.esx_story.specs.declared.change.How.TheVariants.{Balloon, Swap, Replaced, Dropped, First, Pop, SwapIn}
use Rattle.esx_story.specs.declared.change.Change.{Change}
use Rattle.esx_story.specs.declared.change.Asked.{Asked}
use Rattle.esx_story.specs.declared.change.Counts.{Counts}
use Rattle.esx_story.specs.declared.story.Loss.{Loss}
use Rattle.esx_story.specs.declared.story.Seen.{Seen}
use Rattle.esx_story.specs.Moments.{Moment}
use Rattle.esx_story.specs.Losses.{slot_by, loan_by, lost_at}
use Rattle.esx_story.specs.Gains.{gained_at}
use Rattle.esx_story.specs.Counts.{no_counts, with_change, counted, admits, counts, life_from}
use Rattle.esx_story.specs.Spans.{is_rebalance, back, over, came_by, set_from}
use Rattle.esx_story.specs.Waits.{Met, is_wait, is_before, waits, asked_by, asked_since}
use Rattle.esx_story.specs.Story.{seen, told_loss, told_at, told}
use Rattle.esx_walk.proofs.Along.{renewed, back_none, set_more, asked_still, life_more, counts_more, told_more}
use Rattle.esx_walk.proofs.Lists.{get_last, map_from_long, map_from_read}
use Rattle.esx_walk.specs.declared.lives.Life.{Life}
use Rattle.esx_walk.specs.Account.{Account, no_life, life_in, counted_in, asked_for, set_life, lived, new_loss, with_loss, closed, shut, cleared, opened, gone_on}
use Rattle.esx_walk.specs.Accounts.{IsLife, IsAccount}
use Rattle.esx_walk.proofs.Losing.{Comes, closed_are}
use Rattle.esx_walk.proofs.Standing.{HasRoom, front, places_then, holds_then, found_then}

-- The life of one machine.

abbrev with_counts : Life → Counts → Life
with_counts l k = record l { counts = k }

life_counted : (lives : List Life) (o : Option Change) (n : ℕ) → n < length lives → life_in (counted_in lives o) n ≡ with_counts (life_in lives n) (counted n o (life_in lives n).counts)
life_counted lives None n below = refl
life_counted lives (Some y) n below = elim (cases_eq n y.vm) [
  | inl e ↦ ap (life_in (counted_in lives (Some y))) e ∙ get_or-set_same lives y.vm (with_counts (life_in lives y.vm) (with_change (life_in lives y.vm).counts y.how)) no_life (subst (λ k. k < length lives) e below)
      ∙ ap (λ k. with_counts (life_in lives k) (with_change (life_in lives k).counts y.how)) (sym e)
      ∙ ap (λ b. with_counts (life_in lives n) (cond b (with_change (life_in lives n).counts y.how) (life_in lives n).counts)) (sym (eqb_same n) ∙ ap (λ k. k == n) e)
  | inr other ↦ get_or-set_other lives y.vm n _ no_life other
      ∙ ap (λ b. with_counts (life_in lives n) (cond b (with_change (life_in lives n).counts y.how) (life_in lives n).counts)) (sym (eqb_other y.vm n other))
]

counted_long : (lives : List Life) (o : Option Change) → length (counted_in lives o) ≡ length lives
counted_long lives None = refl
counted_long lives (Some y) = length-set lives y.vm _

-- one that begins anew
abbrev anew : Life → Life
anew l = record { lives = l.lives + 1; set = None; asked = None; counts = no_counts }

abbrev life_after : ℕ → ℕ → Event → Answer → Option (List ℕ) → Life → Life
life_after n i e answer given l = cond (admits n e) (anew l) (cond (is_rebalance e) (set_life i answer given n l) l)

life_lived : (lives : List Life) (i : ℕ) (e : Event) (answer : Answer) (given : Option (List ℕ)) (n : ℕ) → n < length lives → life_in (lived lives i e answer given) n ≡ life_after n i e answer given (life_in lives n)
life_lived lives i (Admit m spec) answer given n below = elim (cases_eq n m) [
  | inl e ↦ ap (life_in (lived lives i (Admit m spec) answer given)) e ∙ get_or-set_same lives m (anew (life_in lives m)) no_life (subst (λ k. k < length lives) e below)
      ∙ ap (λ k. anew (life_in lives k)) (sym e) ∙ ap (λ b. cond b (anew (life_in lives n)) (life_in lives n)) (sym (eqb_same n) ∙ ap (λ k. k == n) e)
  | inr other ↦ get_or-set_other lives m n _ no_life other ∙ ap (λ b. cond b (anew (life_in lives n)) (life_in lives n)) (sym (eqb_other m n other))
]
life_lived lives i Rebalance answer given n below = map_from_read (set_life i answer given) no_life lives n below
life_lived lives i _ answer given n below = refl

lived_long : (lives : List Life) (i : ℕ) (e : Event) (answer : Answer) (given : Option (List ℕ)) → length (lived lives i e answer given) ≡ length lives
lived_long lives i (Admit m spec) answer given = length-set lives m _
lived_long lives i Rebalance answer given = map_from_long (set_life i answer given) 0 lives
lived_long lives i _ answer given = refl

-- what the moment asks for, if it is a rebalance
abbrev pub IsAsking : Moment → Option (List ℕ) → ℕ → Type 0
IsAsking x given n = is_rebalance x.event ≡ true → asked_for x.answer given n ≡ asked_by n (Some x)

asked_last : (ms : List Moment) (x : Moment) (n : ℕ) → asked_by n (Some x) ≡ asked_since (ms ++ x ∷ []) n (Some (length ms + 1))
asked_last ms x n =
    let e : length ms ≡ length ms + 1 - 1 = omega arith in
    sym (ap (asked_by n) (get_last ms x)) ∙ ap (λ k. asked_by n (slice_get (ms ++ x ∷ []) k)) e

life_is : (ms : List Moment) (x : Moment) (given : Option (List ℕ)) (n : ℕ) (l : Life) → IsLife ms n l → IsAsking x given n
    → IsLife (ms ++ x ∷ []) n (life_after n (length ms + 1) x.event x.answer given (with_counts l (counted n (lost_at x) (counted n (gained_at x) l.counts))))
life_is ms x given n l is asks = by (admits n x.event) refl (is_rebalance x.event) refl
  where
    k : Counts
    k = counted n (lost_at x) (counted n (gained_at x) l.counts)

    by : (b : Bool) → admits n x.event ≡ b → (d : Bool) → is_rebalance x.event ≡ d
        → IsLife (ms ++ x ∷ []) n (cond b (anew l) (cond d (set_life (length ms + 1) x.answer given n (with_counts l k)) (with_counts l k)))
    by true e d f =
        let now : None ≡ set_from n 1 None (ms ++ x ∷ []) = sym (set_more n 1 None ms x ∙ ap (λ b. cond b None (cond (is_rebalance x.event) (Some (1 + length ms)) (set_from n 1 None ms))) e) in
        record {
          lives = ap (λ j. j + 1) is.lives ∙ sym (life_more n ms x 0 ∙ ap (λ b. cond b (life_from n ms 0 + 1) (life_from n ms 0)) e);
          set = now;
          asked = ap (asked_since (ms ++ x ∷ []) n) now;
          counts = sym (counts_more n ms x no_counts ∙ ap (λ b. cond b no_counts (counted n (lost_at x) (counted n (gained_at x) (counts n ms)))) e);
        }
    by false e true f =
        let now : Some (length ms + 1) ≡ set_from n 1 None (ms ++ x ∷ []) =
        ap (λ j. Some j) (let h : length ms + 1 ≡ 1 + length ms = omega arith in h)
        ∙ sym (set_more n 1 None ms x ∙ ap (λ b. cond b None (cond (is_rebalance x.event) (Some (1 + length ms)) (set_from n 1 None ms))) e ∙ ap (λ d. cond d (Some (1 + length ms)) (set_from n 1 None ms)) f) in
        record {
          lives = is.lives ∙ sym (life_more n ms x 0 ∙ ap (λ b. cond b (life_from n ms 0 + 1) (life_from n ms 0)) e);
          set = now;
          asked = asks f ∙ asked_last ms x n ∙ ap (asked_since (ms ++ x ∷ []) n) now;
          counts = ap (λ (z : Counts). counted n (lost_at x) (counted n (gained_at x) z)) is.counts
              ∙ sym (counts_more n ms x no_counts ∙ ap (λ b. cond b no_counts (counted n (lost_at x) (counted n (gained_at x) (counts n ms)))) e);
        }
    by false e false f =
        let now : set_from n 1 None ms ≡ set_from n 1 None (ms ++ x ∷ []) =
        sym (set_more n 1 None ms x ∙ ap (λ b. cond b None (cond (is_rebalance x.event) (Some (1 + length ms)) (set_from n 1 None ms))) e ∙ ap (λ d. cond d (Some (1 + length ms)) (set_from n 1 None ms)) f) in
        record {
          lives = is.lives ∙ sym (life_more n ms x 0 ∙ ap (λ b. cond b (life_from n ms 0 + 1) (life_from n ms 0)) e);
          set = is.set ∙ now;
          asked = is.asked ∙ sym (asked_still ms x n) ∙ ap (asked_since (ms ++ x ∷ []) n) now;
          counts = ap (λ (z : Counts). counted n (lost_at x) (counted n (gained_at x) z)) is.counts
              ∙ sym (counts_more n ms x no_counts ∙ ap (λ b. cond b no_counts (counted n (lost_at x) (counted n (gained_at x) (counts n ms)))) e);
        }

lives_then : (c : Config) (ms : List Moment) (mets : List Met) (x : Moment) (a : Account) (given : Option (List ℕ)) (n : ℕ) → Comes c ms mets x a → n < VM_NUMBERS → IsAsking x given n
    → IsLife (ms ++ x ∷ []) n (life_in (lived (counted_in (counted_in a.lives (gained_at x)) (lost_at x)) (length ms + 1) x.event x.answer given) n)
lives_then c ms mets x a given n comes below asks =
    let is = comes.account.lives n below in
    let numbers = comes.account.numbers in
    let l = life_in a.lives n in
    let one = counted_in a.lives (gained_at x) in
    let two = counted_in one (lost_at x) in
    let one_long = counted_long a.lives (gained_at x) in
    let two_long = counted_long one (lost_at x) in
    let first = life_counted a.lives (gained_at x) n (omega (arith, numbers, below)) in
    let second = life_counted one (lost_at x) n (omega (arith, numbers, below, one_long)) in
    let both : life_in two n ≡ with_counts l (counted n (lost_at x) (counted n (gained_at x) l.counts)) =
    second ∙ ap (λ (y : Life). with_counts y (counted n (lost_at x) y.counts)) first in
    let P : Life → Type 0 = IsLife (ms ++ x ∷ []) n in
    subst P (sym (life_lived two (length ms + 1) x.event x.answer given n (omega (arith, numbers, below, one_long, two_long)) ∙ ap (life_after n (length ms + 1) x.event x.answer given) both)) (life_is ms x given n l is asks)

-- A loss that is told when it comes.

whole_front : (ms : List Moment) (x : Moment) → take (1 + length ms - 1) (ms ++ x ∷ []) ≡ ms
whole_front ms x =
    let e : 1 + length ms - 1 ≡ length ms = omega arith in
    ap (λ k. take k (ms ++ x ∷ [])) e ∙ take-append-le (length ms) ms (x ∷ []) (omega arith) ∙ take_all (length ms) ms (omega arith)

too_late : (at k : ℕ) → at ≤ k → nat_le (1 + k) at ≡ false
too_late at k h = grind (arith, nat_tests)

none_of : (w a b : Bool) → (w && false && a && b) ≡ false
none_of true a b = refl
none_of false a b = refl

no_waits : (n page k : ℕ) (b o : Option ℕ) (mets : List Met) → AllByRecursion (λ (m : Met). m.at ≤ k) mets
    → count_by (λ (m : Met). is_wait n page m && nat_le (1 + k) m.at && is_before b m.at && is_before o m.at) mets ≡ 0
no_waits n page k b o [] early = refl
no_waits n page k b o (m ∷ mets) early =
    let a = sum_by-cons (λ (m : Met). cond (is_wait n page m && nat_le (1 + k) m.at && is_before b m.at && is_before o m.at) 1 0) m mets in
    let none : (is_wait n page m && nat_le (1 + k) m.at && is_before b m.at && is_before o m.at) ≡ false =
    ap (λ t. is_wait n page m && t && is_before b m.at && is_before o m.at) (too_late m.at k early.0) ∙ none_of (is_wait n page m) (is_before b m.at) (is_before o m.at) in
    let zero_is : cond (is_wait n page m && nat_le (1 + k) m.at && is_before b m.at && is_before o m.at) 1 0 ≡ 0 = ap (λ t. let r : ℕ = cond t 1 0 in r) none in
    let rest = no_waits n page k b o mets early.1 in
    omega (arith, a, zero_is, rest)

abbrev told_with : ℕ → Change → Seen → Answer → ℕ → Option ℕ → Option Asked → Option ℕ → Option How → ℕ → Loss
told_with i y seen answer life set asked back came count = record {
  at = i;
  change = y;
  life = life;
  set = set;
  asked = asked;
  seen = seen;
  slot = slot_by answer;
  loan = loan_by answer;
  back = back;
  came = came;
  waits = count;
}

new_told : (c : Config) (ms : List Moment) (mets : List Met) (x : Moment) (lives : List Life) (y : Change) → IsLife ms y.vm (life_in lives y.vm) → AllByRecursion (λ (m : Met). m.at ≤ length ms) mets
    → new_loss lives (length ms + 1) x.answer (seen c x.before y.vm) y ≡ told_loss c (ms ++ x ∷ []) mets (1 + length ms) x y
new_told c ms mets x lives y is early =
    let later = ms ++ x ∷ [] in
    let i = 1 + length ms in
    let s = seen c x.before y.vm in
    let n = y.vm in
    let page = y.page in
    let l = life_in lives n in
    let long = length-append ms (x ∷ []) in
    let none = back_none later i n page (omega (arith, long)) in
    let number : length ms + 1 ≡ i = omega arith in
    let front = take (i - 1) later in
    let life = life_from n front 0 in
    let set = set_from n 1 None front in
    ap (λ k. told_with k y s x.answer l.lives l.set l.asked None None 0) number
    ∙ ap (λ k. told_with i y s x.answer k l.set l.asked None None 0) (is.lives ∙ ap (λ (zs : List Moment). life_from n zs 0) (sym (whole_front ms x)))
    ∙ ap (λ o. told_with i y s x.answer life o l.asked None None 0) (is.set ∙ ap (λ (zs : List Moment). set_from n 1 None zs) (sym (whole_front ms x)))
    ∙ ap (λ o. told_with i y s x.answer life set o None None 0) (is.asked ∙ sym (asked_still ms x n) ∙ ap (λ (zs : List Moment). asked_since later n (set_from n 1 None zs)) (sym (whole_front ms x)))
    ∙ ap (λ k. told_with i y s x.answer life set (asked_since later n set) None None k) (sym (no_waits n page (length ms) (back later i n page) (over later i n page) mets early))
    ∙ ap (λ o. told_with i y s x.answer life set (asked_since later n set) o (came_by later o) (waits later mets i n page)) (sym none.0)

losses_then : (c : Config) (ms : List Moment) (mets : List Met) (x : Moment) (a : Account) (s : Seen) (o : Option Change) → Comes c ms mets x a → lost_at x ≡ o → ((y : Change) → lost_at x ≡ Some y → (y.vm < VM_NUMBERS) × (s ≡ seen c x.before y.vm))
    → with_loss (front ms x a) a.lives (length ms + 1) x.answer (Some s) o ≡ told c (ms ++ x ∷ []) mets
losses_then c ms mets x a s o comes is about =
    by o is
    ∙ ap (λ ls. map (renewed (ms ++ x ∷ []) mets) ls ++ told_at c (ms ++ x ∷ []) mets (1 + length ms) x (lost_at x)) comes.account.losses ∙ sym (told_more c ms x mets)
  where
    by : (o : Option Change) → lost_at x ≡ o → with_loss (front ms x a) a.lives (length ms + 1) x.answer (Some s) o ≡ map (renewed (ms ++ x ∷ []) mets) a.losses ++ told_at c (ms ++ x ∷ []) mets (1 + length ms) x (lost_at x)
    by None e = closed_are c ms mets x a comes ∙ sym (append-nil (map (renewed (ms ++ x ∷ []) mets) a.losses))
        ∙ ap (λ z. map (renewed (ms ++ x ∷ []) mets) a.losses ++ told_at c (ms ++ x ∷ []) mets (1 + length ms) x z) (sym e)
    by (Some y) e =
        let known = about y e in
        ap (λ ls. ls ++ new_loss a.lives (length ms + 1) x.answer s y ∷ []) (closed_are c ms mets x a comes)
        ∙ ap (λ z. map (renewed (ms ++ x ∷ []) mets) a.losses ++ new_loss a.lives (length ms + 1) x.answer z y ∷ []) known.1
        ∙ ap (λ l. map (renewed (ms ++ x ∷ []) mets) a.losses ++ l ∷ []) (new_told c ms mets x a.lives y (comes.account.lives y.vm known.0) comes.account.early)
        ∙ ap (λ z. map (renewed (ms ++ x ∷ []) mets) a.losses ++ told_at c (ms ++ x ∷ []) mets (1 + length ms) x z) (sym e)

-- The account goes on.

-- what was seen before a loss is told with it, and its page has a place; and what a rebalance asks for is known
pub record IsReady (c : Config) (x : Moment) (a : Account) (s : Seen) (given : Option (List ℕ)) : Type 0 where
  pub asks : (n : ℕ) → n < VM_NUMBERS → IsAsking x given n
  pub room : HasRoom x a.places
  pub told : (y : Change) → lost_at x ≡ Some y → s ≡ seen c x.before y.vm

cleared_long : (rows : List (List ℕ)) (e : Event) (answer : Answer) → length (cleared rows e answer) ≡ length rows
cleared_long rows (Gone n) answers.Gone = length-set rows n []
cleared_long rows _ _ = refl

shut_long : (rows : List (List ℕ)) (o : Option Change) → length (shut rows o) ≡ length rows
shut_long rows None = refl
shut_long rows (Some g) = length-set rows g.vm _

opened_long : (rows : List (List ℕ)) (k : ℕ) (o : Option Change) → length (opened rows k o) ≡ length rows
opened_long rows k None = refl
opened_long rows k (Some y) = length-set rows y.vm _

pub account_goes_on : (c : Config) (ms : List Moment) (mets : List Met) (x : Moment) (a : Account) (s : Seen) (given : Option (List ℕ)) → Comes c ms mets x a → IsReady c x a s given
    → IsAccount c (ms ++ x ∷ []) mets x.after.site (gone_on a x.event x.answer (Some s) given (lost_at x) (gained_at x))
account_goes_on c ms mets x a s given comes ready =
    let events = comes.account.events in
    let next : a.events + 1 ≡ length ms + 1 = ap (λ k. k + 1) events in
    let P : ℕ → Type 0 = λ i. IsAccount c (ms ++ x ∷ []) mets x.after.site (record {
      events = i;
      losses = with_loss (closed a.losses a.places i (gained_at x)) a.lives i x.answer (Some s) (lost_at x);
      lives = lived (counted_in (counted_in a.lives (gained_at x)) (lost_at x)) i x.event x.answer given;
      places = opened (places_then x a) (length a.losses + 1) (lost_at x);
    }) in
    subst P (sym next) (record {
      events = sym (length-append ms (x ∷ []));
      losses = losses_then c ms mets x a s (lost_at x) comes refl (λ y e. ((ready.room y e).0, ready.told y e));
      lives = λ n below. lives_then c ms mets x a given n comes below (ready.asks n below);
      numbers = lived_long (counted_in (counted_in a.lives (gained_at x)) (lost_at x)) (length ms + 1) x.event x.answer given ∙ counted_long (counted_in a.lives (gained_at x)) (lost_at x) ∙ counted_long a.lives (gained_at x) ∙ comes.account.numbers;
      rows = opened_long (places_then x a) (length a.losses + 1) (lost_at x) ∙ cleared_long (shut a.places (gained_at x)) x.event x.answer ∙ shut_long a.places (gained_at x) ∙ comes.account.rows;
      found = λ j l there stands. found_then c ms mets x a s (length ms + 1) (lost_at x) j l comes ready.room refl there stands;
      holds = λ n page j h. holds_then c ms mets x a s (length ms + 1) (lost_at x) n page j comes ready.room refl refl h;
      early = all_map (λ (m : Met). m.at ≤ length ms) (λ (m : Met). m.at ≤ length (ms ++ x ∷ [])) (λ m h. (let long = length-append ms (x ∷ []) in omega (arith, long, h))) mets comes.account.early;
    })
