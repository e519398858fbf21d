-- An account after one more event of its path: which losses stand open.
use Rattle.std.proofs.Common.{◌≡◌, ℕ, suc, ◌+◌, ◌<◌, Bool, true, false, List, [], ◌∷◌, ◌++◌, length, get_or, slice_get, refl, sym, ap, ◌∙◌, subst, arith, Option, Some, None, inl, inr}
use Rattle.std.specs.Option.{option_map}
use Rattle.std.proofs.lemmas.List.{length-append, length-set, set_past}
use Rattle.std.proofs.lemmas.Bool.{cases_eq, cases_lt}
use Rattle.std.proofs.lemmas.Option.{slice_get-map, slice_get_within}
use Rattle.esx_types.specs.declared.config.TheConstants.{VM_NUMBERS}
use Rattle.esx_types.specs.declared.config.Config.{Config}
use Rattle.esx_events.specs.declared.event.Event.{Event}
use Rattle.esx_events.specs.declared.event.Event.TheVariants.{Gone}
use Rattle.esx_events.specs.declared.event.Answer.{Answer}
use Rattle.esx_model.specs.declared.scene.Site.{Site}
use Rattle.esx_story.specs.declared.change.How.{How}
use Rattle.esx_story.specs.declared.change.Change.{Change}
use Rattle.esx_story.specs.declared.story.Loss.{Loss}
use Rattle.esx_story.specs.declared.story.Seen.{Seen}
use Rattle.esx_story.specs.Changes.{change, has_here}
use Rattle.esx_story.specs.Moments.{Moment}
use Rattle.esx_story.specs.Losses.{lost, lost_at}
use Rattle.esx_story.specs.Gains.{gained_at}
use Rattle.esx_story.specs.Spans.{is_last}
use Rattle.esx_story.specs.Waits.{Met}
use Rattle.esx_walk.proofs.Along.{renewed, back_none}
use Rattle.esx_walk.specs.Account.{Account, open_in, with_open, closed, shut, cleared, opened, new_loss, with_loss}
use Rattle.esx_walk.specs.Accounts.{IsOpen, IsFound, Holds}
use Rattle.esx_walk.proofs.Lists.{get_front, get_last, get_past}
use Rattle.esx_walk.proofs.Places.{put_there, put_other, open_at_last, open_other, left_open, shut_other, still_open, cleared_other}
use Rattle.esx_walk.proofs.Renewed.{after_one, stands_on, stood}
use Rattle.esx_walk.proofs.Losing.{IsStep, Comes, told_of, closed_are, closed_long}

-- the page of a loss has a place in its machine's row
abbrev pub HasRoom : Moment → List (List ℕ) → Type 0
HasRoom x rows = (y : Change) → lost_at x ≡ Some y → (y.vm < VM_NUMBERS) × (y.page < length (get_or rows y.vm []))

no_truth : true ≡ false → ⊥
no_truth h = cc

away_not_here : (s : Site) (n page : ℕ) → has_here s n page ≡ false → has_here s n page ≡ true → ⊥
away_not_here s n page a b = no_truth (sym b ∙ a)

-- a page that is away before and after was not gained
not_gained : (x : Moment) (n page : ℕ) → IsStep x → has_here x.after.site n page ≡ false → (how : How) → gained_at x ≡ Some (change n page how) → ⊥
not_gained x n page step away how names = away_not_here x.after.site n page away (step.gained (change n page how) names).1

abbrev pub front : List Moment → Moment → Account → List Loss
front ms x a = closed a.losses a.places (length ms + 1) (gained_at x)

abbrev pub places_then : Moment → Account → List (List ℕ)
places_then x a = cleared (shut a.places (gained_at x)) x.event x.answer

-- One that is found by its page.

hold_by : (c : Config) (ms : List Moment) (mets : List Met) (x : Moment) (a : Account) (n page j : ℕ) (here : Bool) → Comes c ms mets x a → (held : Holds ms a.losses n page j)
    → has_here x.after.site n page ≡ here → is_last n x.event x.answer ≡ false → ((how : How) → gained_at x ≡ Some (change n page how) → ⊥) → Holds (ms ++ x ∷ []) (front ms x a) n page j
hold_by c ms mets x a n page j true comes held has last stays =
    let l = held.loss in
    let found = comes.account.found j l held.there held.stands in
    let away : has_here x.before.site n page ≡ false = ap (λ k. has_here x.before.site k page) (sym held.number) ∙ ap (λ p. has_here x.before.site l.change.vm p) (sym held.same) ∙ found.away in
    let names = comes.step.gains n page away has in
    absurd (stays names.0 names.1)
hold_by c ms mets x a n page j false comes held has last stays =
    let l = held.loss in
    let told = told_of c ms mets x a j l comes held.there in
    let away : has_here x.after.site l.change.vm l.change.page ≡ false = ap (λ k. has_here x.after.site k l.change.page) held.number ∙ ap (λ p. has_here x.after.site n p) held.same ∙ has in
    let same : renewed (ms ++ x ∷ []) mets l ≡ l = elim (after_one ms x mets l told comes.account.early) [ inl e ↦ e | inr is ↦ absurd (away_not_here x.after.site l.change.vm l.change.page away is.here) ] in
    record {
      loss = l;
      there = ap (λ ls. slice_get ls j) (closed_are c ms mets x a comes) ∙ slice_get-map (renewed (ms ++ x ∷ []) mets) a.losses j ∙ ap (option_map (renewed (ms ++ x ∷ []) mets)) held.there ∙ ap (λ y. Some y) same;
      stands = stands_on ms x l told.early held.stands away (ap (λ k. is_last k x.event x.answer) held.number ∙ last);
      number = held.number;
      same = held.same;
    }

hold_front : (c : Config) (ms : List Moment) (mets : List Met) (x : Moment) (a : Account) (n page j : ℕ) → Comes c ms mets x a → open_in (places_then x a) n page ≡ suc j → Holds (ms ++ x ∷ []) (front ms x a) n page j
hold_front c ms mets x a n page j comes h =
    let still = still_open (shut a.places (gained_at x)) x.event x.answer n page j h in
    let left = left_open a.places (gained_at x) n page j still.0 in
    hold_by c ms mets x a n page j (has_here x.after.site n page) comes (comes.account.holds n page j left.before) refl still.1 left.stays

-- with one more loss behind
hold_more : (ms : List Moment) (losses : List Loss) (l : Loss) (n page j : ℕ) → Holds ms losses n page j → Holds ms (losses ++ l ∷ []) n page j
hold_more ms losses l n page j held = record {
  loss = held.loss;
  there = get_front losses l j (slice_get_within losses j held.loss held.there) ∙ held.there;
  stands = held.stands;
  number = held.number;
  same = held.same;
}

one_place : (j k : ℕ) → k + 1 ≡ suc j → j ≡ k
one_place j k h = omega (arith, h)

long_more : (ms : List Moment) (x : Moment) → length (ms ++ x ∷ []) ≡ length ms + 1
long_more ms x = length-append ms (x ∷ [])

hold_new : (ms : List Moment) (x : Moment) (losses : List Loss) (l : Loss) (j : ℕ) → l.at ≡ length ms + 1 → j ≡ length losses → Holds (ms ++ x ∷ []) (losses ++ l ∷ []) l.change.vm l.change.page j
hold_new ms x losses l j at is =
    let long = long_more ms x in
    let none = back_none (ms ++ x ∷ []) l.at l.change.vm l.change.page (omega (arith, at, long)) in
    record { loss = l; there = ap (slice_get (losses ++ l ∷ [])) is ∙ get_last losses l; stands = record { back = none.0; over = none.1 }; number = refl; same = refl }

-- an event that loses a page is none with which a machine goes
clear_none : (rows : List (List ℕ)) (e : Event) (a : Answer) (s : Site) (y : Change) → lost e a s ≡ Some y → cleared rows e a ≡ rows
clear_none rows (Gone m) a s y h = absurd (no_change y h)
  where
    no_change : (y : Change) → None ≡ Some y → ⊥
    no_change y h = cc
clear_none rows _ a s y h = refl

-- what a row is as long as
row_long : (rows : List (List ℕ)) (g : Option Change) (n : ℕ) → length (get_or (shut rows g) n []) ≡ length (get_or rows n [])
row_long rows None n = refl
row_long rows (Some g) n = elim (cases_eq n g.vm) [
  | inl e ↦ ap (λ k. length (get_or (shut rows (Some g)) k [])) e ∙ own ∙ ap (λ k. length (get_or rows k [])) (sym e)
  | inr other ↦ ap length (put_other rows g.vm n _ other)
]
  where
    own : length (get_or (with_open rows g.vm g.page 0) g.vm []) ≡ length (get_or rows g.vm [])
    own = elim (cases_lt g.vm (length rows)) [
      | inl below ↦ ap length (put_there rows g.vm _ below) ∙ length-set (get_or rows g.vm []) g.page 0
      | inr past ↦ ap length (ap (λ rs. get_or rs g.vm []) (set_past rows g.vm _ past))
    ]

rows_long : (rows : List (List ℕ)) (g : Option Change) → length (shut rows g) ≡ length rows
rows_long rows None = refl
rows_long rows (Some g) = length-set rows g.vm _

abbrev apart : Change → ℕ → ℕ → Type 0
apart y n page = n ≡ y.vm → page ≡ y.page → ⊥

pub holds_then : (c : Config) (ms : List Moment) (mets : List Met) (x : Moment) (a : Account) (seen : Seen) (i : ℕ) (o : Option Change) (n page j : ℕ) → Comes c ms mets x a → HasRoom x a.places → i ≡ length ms + 1 → lost_at x ≡ o
    → open_in (opened (places_then x a) (length a.losses + 1) o) n page ≡ suc j → Holds (ms ++ x ∷ []) (with_loss (front ms x a) a.lives i x.answer (Some seen) o) n page j
holds_then c ms mets x a seen i None n page j comes room number is h = hold_front c ms mets x a n page j comes h
holds_then c ms mets x a seen i (Some y) n page j comes room number is h = elim (cases_eq n y.vm) [
  | inl e ↦ elim (cases_eq page y.page) [
    | inl same ↦ own e same
    | inr other ↦ later (λ p q. other q)
  ]
  | inr other ↦ later (λ p q. other p)
]
  where
    l : Loss
    l = new_loss a.lives i x.answer seen y

    later : apart y n page → Holds (ms ++ x ∷ []) (front ms x a ++ l ∷ []) n page j
    later away = hold_more (ms ++ x ∷ []) (front ms x a) l n page j (hold_front c ms mets x a n page j comes (sym (open_other (places_then x a) y.vm y.page n page (length a.losses + 1) away) ∙ h))

    own : n ≡ y.vm → page ≡ y.page → Holds (ms ++ x ∷ []) (front ms x a ++ l ∷ []) n page j
    own e same =
        let rows = places_then x a in
        let long : length (get_or rows y.vm []) ≡ length (get_or a.places y.vm []) =
        ap (λ (rs : List (List ℕ)). length (get_or rs y.vm [])) (clear_none (shut a.places (gained_at x)) x.event x.answer x.before.site y is) ∙ row_long a.places (gained_at x) y.vm in
        let count : length rows ≡ VM_NUMBERS = ap length (clear_none (shut a.places (gained_at x)) x.event x.answer x.before.site y is) ∙ rows_long a.places (gained_at x) ∙ comes.account.rows in
        let has = room y is in
        let has0 = has.0 in
        let has1 = has.1 in
        let put = open_at_last rows y.vm y.page (length a.losses + 1) (omega (arith, count, has0)) (omega (arith, long, has1)) in
        let at : length a.losses + 1 ≡ suc j = sym put ∙ ap (λ m. open_in (opened rows (length a.losses + 1) (Some y)) m y.page) (sym e) ∙ ap (λ p. open_in (opened rows (length a.losses + 1) (Some y)) n p) (sym same) ∙ h in
        let place : j ≡ length (front ms x a) = one_place j (length a.losses) at ∙ sym (closed_long c ms mets x a comes) in
        let P : ℕ → Type 0 = λ m. Holds (ms ++ x ∷ []) (front ms x a ++ l ∷ []) m page j in
        let Q : ℕ → Type 0 = λ p. Holds (ms ++ x ∷ []) (front ms x a ++ l ∷ []) y.vm p j in
        subst P (sym e) (subst Q (sym same) (hold_new ms x (front ms x a) l j number place))

-- And one that stands open is found.

some_loss : (x y : Loss) → Some x ≡ Some y → x ≡ y
some_loss x y h = cc

renewed_from : (f : Loss → Loss) (o : Option Loss) (l : Loss) → option_map f o ≡ Some l → (k : Loss) × (o ≡ Some k) × (f k ≡ l)
renewed_from f None l h = absurd (no_loss l h)
  where
    no_loss : (l : Loss) → None ≡ Some l → ⊥
    no_loss l h = cc
renewed_from f (Some k) l h = (k, refl, some_loss (f k) l h)

-- found before, and neither back nor gone
pub record Kept (x : Moment) (rows : List (List ℕ)) (j : ℕ) (l : Loss) : Type 0 where
  pub place : open_in rows l.change.vm l.change.page ≡ suc j
  pub before : has_here x.before.site l.change.vm l.change.page ≡ false
  pub after : has_here x.after.site l.change.vm l.change.page ≡ false

kept_front : (c : Config) (ms : List Moment) (mets : List Met) (x : Moment) (a : Account) (j : ℕ) (l : Loss) → Comes c ms mets x a → slice_get (front ms x a) j ≡ Some l → IsOpen (ms ++ x ∷ []) l → Kept x (places_then x a) j l
kept_front c ms mets x a j l comes there is =
    let k = renewed_from (renewed (ms ++ x ∷ []) mets) (slice_get a.losses j) l (sym (slice_get-map (renewed (ms ++ x ∷ []) mets) a.losses j) ∙ ap (λ ls. slice_get ls j) (sym (closed_are c ms mets x a comes)) ∙ there) in
    let old = k.0 in
    let P : Loss → Type 0 = λ y. IsOpen (ms ++ x ∷ []) y in
    let open_old = subst P (sym k.2) is in
    let early = (told_of c ms mets x a j old comes k.1).early in
    let st = stood ms x old early (record { back = open_old.back; over = open_old.over }) in
    let found = comes.account.found j old k.1 st.before in
    let n = old.change.vm in
    let page = old.change.page in
    let place : open_in (places_then x a) n page ≡ suc j =
    cleared_other (shut a.places (gained_at x)) x.event x.answer n page st.last ∙ shut_other a.places (gained_at x) n page (not_gained x n page comes.step st.away) ∙ found.place in
    let Q : Loss → Type 0 = Kept x (places_then x a) j in
    subst Q k.2 (record { place = place; before = found.away; after = st.away })

pub found_then : (c : Config) (ms : List Moment) (mets : List Met) (x : Moment) (a : Account) (seen : Seen) (i : ℕ) (o : Option Change) (j : ℕ) (l : Loss) → Comes c ms mets x a → HasRoom x a.places → lost_at x ≡ o
    → slice_get (with_loss (front ms x a) a.lives i x.answer (Some seen) o) j ≡ Some l → IsOpen (ms ++ x ∷ []) l → IsFound x.after.site (opened (places_then x a) (length a.losses + 1) o) j l
found_then c ms mets x a seen i None j l comes room is there stands = (let kept = kept_front c ms mets x a j l comes there stands in record { place = kept.place; away = kept.after })
found_then c ms mets x a seen i (Some y) j l comes room is there stands = elim (cases_lt j (length (front ms x a))) [
  | inl below ↦ (let kept = kept_front c ms mets x a j l comes (sym (get_front (front ms x a) (new_loss a.lives i x.answer seen y) j below) ∙ there) stands in
      let was = (comes.step.lost y is).0 in
      record {
        place = open_other (places_then x a) y.vm y.page l.change.vm l.change.page (length a.losses + 1)
            (λ p q. away_not_here x.before.site l.change.vm l.change.page kept.before (ap (λ n. has_here x.before.site n l.change.page) p ∙ ap (has_here x.before.site y.vm) q ∙ was)) ∙ kept.place;
        away = kept.after;
      })
  | inr past ↦ (let last = get_past (front ms x a) (new_loss a.lives i x.answer seen y) l j there past in
      let rows = places_then x a in
      let long : length (get_or rows y.vm []) ≡ length (get_or a.places y.vm []) =
      ap (λ (rs : List (List ℕ)). length (get_or rs y.vm [])) (clear_none (shut a.places (gained_at x)) x.event x.answer x.before.site y is) ∙ row_long a.places (gained_at x) y.vm in
      let count : length rows ≡ VM_NUMBERS = ap length (clear_none (shut a.places (gained_at x)) x.event x.answer x.before.site y is) ∙ rows_long a.places (gained_at x) ∙ comes.account.rows in
      let has = room y is in
      let has0 = has.0 in
      let has1 = has.1 in
      let put = open_at_last rows y.vm y.page (length a.losses + 1) (omega (arith, count, has0)) (omega (arith, long, has1)) in
      let number = last.0 in
      let length_is = closed_long c ms mets x a comes in
      let e : length a.losses + 1 ≡ suc j = omega (arith, number, length_is) in
      let P : Loss → Type 0 = IsFound x.after.site (opened rows (length a.losses + 1) (Some y)) j in
      subst P last.1 (record { place = put ∙ e; away = (comes.step.lost y is).1 }))
]
