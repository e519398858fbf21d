-- An account over its path: opened, given room, and gone on.
use Rattle.std.proofs.Common.{◌≡◌, ℕ, zero, suc, ◌+◌, ◌-◌, ◌<◌, ◌≤◌, Bool, true, false, nat_lt, List, [], ◌∷◌, ◌++◌, length, get_or, set, slice_get, replicate, refl, sym, ap, ◌∙◌, subst, arith, cond, Option, Some, None, inl, inr}
use Rattle.std.proofs.lemmas.List.{length-append, length-set, length-replicate, get_or-set_same, get_or-set_other, get_or_past}
use Rattle.std.proofs.lemmas.Bool.{cases_eq, cases_lt}
use Rattle.std.proofs.lemmas.Bool.Decides.{nat_tests}
use Rattle.esx_types.specs.declared.config.TheConstants.{VM_NUMBERS}
use Rattle.esx_types.specs.declared.config.Config.{Config}
use Rattle.esx_events.specs.declared.event.Event.{Event}
use Rattle.esx_events.specs.declared.event.Answer.{Answer}
use Rattle.esx_model.specs.declared.scene.Site.{Site}
use Rattle.esx_story.specs.declared.change.Change.{Change}
use Rattle.esx_story.specs.declared.story.Loss.{Loss}
use Rattle.esx_story.specs.declared.story.Seen.{Seen}
use Rattle.esx_story.specs.Moments.{Moment}
use Rattle.esx_story.specs.Losses.{lost_at}
use Rattle.esx_story.specs.Gains.{gained_at}
use Rattle.esx_story.specs.Spans.{is_rebalance}
use Rattle.esx_story.specs.Waits.{Met}
use Rattle.esx_story.specs.Story.{seen}
use Rattle.esx_story.proofs.Told.{loss_told, gain_told}
use Rattle.esx_walk.specs.declared.lives.Life.{Life}
use Rattle.esx_walk.specs.Account.{Account, no_life, life_in, asked_for, open_in, closed, with_loss, roomy, gone_on, nothing}
use Rattle.esx_walk.specs.Accounts.{IsLife, IsAccount, IsNext}
use Rattle.esx_walk.proofs.Losing.{IsStep, Comes}
use Rattle.esx_walk.proofs.Living.{IsAsking, IsReady, account_goes_on}

-- what the laws say of a moment that comes
step_of : (c : Config) (x : Moment) (places : List (List ℕ)) (e : Event) (a : Answer) (s : Option Seen) (given : Option (List ℕ)) (lost gained : Option Change) → IsNext c x places e a s given lost gained → IsStep x
step_of c x places e a s given lost gained is = record {
  gains = λ n page away here. (gain_told c x.before x.event (x.answer, x.after) n page is.sound is.goes).0 (away, here);
  gained = λ g names. (gain_told c x.before x.event (x.answer, x.after) g.vm g.page is.sound is.goes).1 (g.how, names);
  lost = λ y names. (loss_told c x.before x.event (x.answer, x.after) y.vm y.page is.sound is.goes).1 (y.how, names);
}

-- where nothing is lost, it does not matter what was seen
no_change : (y : Change) → None ≡ Some y → ⊥
no_change y h = cc

unseen : (losses : List Loss) (lives : List Life) (i : ℕ) (answer : Answer) (s u : Option Seen) (o : Option Change) → o ≡ None → with_loss losses lives i answer s o ≡ with_loss losses lives i answer u o
unseen losses lives i answer s u None h = refl
unseen losses lives i answer s u (Some y) h = absurd (no_change y (sym h))

gone_by : (c : Config) (ms : List Moment) (mets : List Met) (x : Moment) (a : Account) (s : Option Seen) (given : Option (List ℕ)) (o : Option Change) → Comes c ms mets x a → lost_at x ≡ o → ((n : ℕ) → n < VM_NUMBERS → IsAsking x given n)
    → ((y : Change) → lost_at x ≡ Some y → (s ≡ Some (seen c x.before y.vm)) × (y.vm < VM_NUMBERS) × (y.page < length (get_or a.places y.vm [])))
    → IsAccount c (ms ++ x ∷ []) mets x.after.site (gone_on a x.event x.answer s given (lost_at x) (gained_at x))
gone_by c ms mets x a s given None comes is asks about =
    let u = seen c x.before 0 in
    let ready : IsReady c x a u given = record { asks = asks; room = λ y h. ((about y h).1, (about y h).2); told = λ y h. absurd (no_change y (sym is ∙ h)) } in
    let P : List Loss → Type 0 = λ ls. IsAccount c (ms ++ x ∷ []) mets x.after.site (record (gone_on a x.event x.answer s given (lost_at x) (gained_at x)) { losses = ls }) in
    subst P (unseen (closed a.losses a.places (a.events + 1) (gained_at x)) a.lives (a.events + 1) x.answer (Some u) s (lost_at x) is) (account_goes_on c ms mets x a u given comes ready)
gone_by c ms mets x a s given (Some y) comes is asks about =
    let u = seen c x.before y.vm in
    let ready : IsReady c x a u given = record { asks = asks; room = λ z h. ((about z h).1, (about z h).2); told = λ z h. ap (λ (w : Change). seen c x.before w.vm) (one_change y z (sym is ∙ h)) } in
    let P : Option Seen → Type 0 = λ o. IsAccount c (ms ++ x ∷ []) mets x.after.site (gone_on a x.event x.answer o given (lost_at x) (gained_at x)) in
    subst P (sym (about y is).0) (account_goes_on c ms mets x a u given comes ready)
  where
    one_change : (y z : Change) → Some y ≡ Some z → y ≡ z
    one_change y z h = cc

pub goes_on : (c : Config) (ms : List Moment) (mets : List Met) (x : Moment) (a b : Account) (e : Event) (answer : Answer) (s : Option Seen) (given : Option (List ℕ)) (lost gained : Option Change) → b ≡ gone_on a e answer s given lost gained
    → IsAccount c ms mets x.before.site a → IsNext c x a.places e answer s given lost gained → IsAccount c (ms ++ x ∷ []) mets x.after.site b
goes_on c ms mets x a b e answer s given lost gained is account nexts =
    let comes : Comes c ms mets x a = record { account = account; step = step_of c x a.places e answer s given lost gained nexts } in
    let P : Account → Type 0 = IsAccount c (ms ++ x ∷ []) mets x.after.site in
    let same : gone_on a x.event x.answer s given (lost_at x) (gained_at x) ≡ b =
    ap (λ z. gone_on a z x.answer s given (lost_at x) (gained_at x)) nexts.made ∙ ap (λ z. gone_on a e z s given (lost_at x) (gained_at x)) nexts.told
    ∙ ap (λ z. gone_on a e answer s given z (gained_at x)) nexts.loses ∙ ap (gone_on a e answer s given lost) nexts.gains ∙ sym is in
    let asks : (n : ℕ) → n < VM_NUMBERS → IsAsking x given n =
    λ n below h. ap (λ (r : Answer). asked_for r given n) nexts.told ∙ nexts.asks n below (sym (ap is_rebalance nexts.made) ∙ h) in
    subst P same (gone_by c ms mets x a s given (lost_at x) comes refl asks (λ y h. nexts.about y (sym nexts.loses ∙ h)))

-- At the opening.

life_none : (k n : ℕ) → life_in (replicate k no_life) n ≡ no_life
life_none zero n = refl
life_none (suc k) zero = refl
life_none (suc k) (suc n) = life_none k n

row_none : (k n page : ℕ) → open_in (replicate k []) n page ≡ 0
row_none zero n page = refl
row_none (suc k) zero page = refl
row_none (suc k) (suc n) page = row_none k n page

no_zero : (j : ℕ) → 0 ≡ suc j → ⊥
no_zero j h = omega (arith, h)

no_loss : (y : Loss) → None ≡ Some y → ⊥
no_loss y h = cc

pub opens : (c : Config) (s : Site) (a : Account) → a.events ≡ 0 → a.losses ≡ [] → a.lives ≡ replicate VM_NUMBERS no_life → a.places ≡ replicate VM_NUMBERS [] → IsAccount c [] [] s a
opens c s a events losses lives places = record {
  events = events;
  losses = losses;
  lives = λ n below. (let P : Life → Type 0 = IsLife [] n in
      subst P (sym (ap (λ ls. life_in ls n) lives ∙ life_none VM_NUMBERS n)) (record { lives = refl; set = refl; asked = refl; counts = refl }));
  numbers = ap length lives ∙ length-replicate VM_NUMBERS no_life;
  rows = ap length places ∙ length-replicate {A = List ℕ} VM_NUMBERS [];
  found = λ j l there stands. absurd (no_loss l (sym (ap (λ ls. slice_get ls j) losses) ∙ there));
  holds = λ n page j h. absurd (no_zero j (sym (ap (λ rs. open_in rs n page) places ∙ row_none VM_NUMBERS n page) ∙ h));
  early = tt;
}

pub opens_so : (c : Config) (s : Site) (a : Account) → a ≡ nothing → IsAccount c [] [] s a
opens_so c s a is = (let P : Account → Type 0 = IsAccount c [] [] s in subst P (sym is) (opens c s nothing refl refl refl refl))

-- With more places.

abbrev blank_row : ℕ → List ℕ
blank_row k = replicate k 0

blank_reads : (k page : ℕ) → get_or (blank_row k) page 0 ≡ 0
blank_reads zero page = refl
blank_reads (suc k) zero = refl
blank_reads (suc k) (suc page) = blank_reads k page

row_longer : (row : List ℕ) (k page : ℕ) → get_or (row ++ replicate k 0) page 0 ≡ get_or row page 0
row_longer [] k page = blank_reads k page
row_longer (x ∷ row) k zero = refl
row_longer (x ∷ row) k (suc page) = row_longer row k page

set_reads : (rows : List (List ℕ)) (n : ℕ) (row : List ℕ) (m page : ℕ) → ((p : ℕ) → get_or row p 0 ≡ open_in rows n p) → open_in (set rows n row) m page ≡ open_in rows m page
set_reads rows n row m page same = elim (cases_eq m n) [
  | inl e ↦ ap (λ k. open_in (set rows n row) k page) e ∙ own ∙ ap (λ k. open_in rows k page) (sym e)
  | inr other ↦ ap (λ (r : List ℕ). get_or r page 0) (get_or-set_other rows n m row [] other)
]
  where
    own : open_in (set rows n row) n page ≡ open_in rows n page
    own = elim (cases_lt n (length rows)) [
      | inl below ↦ ap (λ (r : List ℕ). get_or r page 0) (get_or-set_same rows n row [] below) ∙ same page
      | inr past ↦ ap (λ (r : List ℕ). get_or r page 0) (get_or_past (set rows n row) n [] (let long = length-set rows n row in omega (arith, long, past)))
          ∙ sym (ap (λ (r : List ℕ). get_or r page 0) (get_or_past rows n [] past))
    ]

roomy_reads : (rows : List (List ℕ)) (n pages m page : ℕ) → open_in (roomy rows n pages) m page ≡ open_in rows m page
roomy_reads rows n pages m page = by (nat_lt (length (get_or rows n [])) pages)
  where
    row : List ℕ
    row = get_or rows n []

    by : (b : Bool) → open_in (cond b (set rows n (row ++ replicate (pages - length row) 0)) rows) m page ≡ open_in rows m page
    by true = set_reads rows n (row ++ replicate (pages - length row) 0) m page (λ p. row_longer row (pages - length row) p)
    by false = refl

roomy_long : (rows : List (List ℕ)) (n pages : ℕ) → length (roomy rows n pages) ≡ length rows
roomy_long rows n pages = by (nat_lt (length (get_or rows n [])) pages)
  where
    row : List ℕ
    row = get_or rows n []

    by : (b : Bool) → length (cond b (set rows n (row ++ replicate (pages - length row) 0)) rows) ≡ length rows
    by true = length-set rows n _
    by false = refl

not_less : (a b : ℕ) → nat_lt a b ≡ false → b ≤ a
not_less a b h = grind (arith, nat_tests)

pub roomy_enough : (rows : List (List ℕ)) (n pages : ℕ) → n < length rows → pages ≤ length (get_or (roomy rows n pages) n [])
roomy_enough rows n pages below = by (nat_lt (length (get_or rows n [])) pages) refl
  where
    row : List ℕ
    row = get_or rows n []

    by : (b : Bool) → nat_lt (length row) pages ≡ b → pages ≤ length (get_or (cond b (set rows n (row ++ replicate (pages - length row) 0)) rows) n [])
    by true e =
        let same = ap length (get_or-set_same rows n (row ++ replicate (pages - length row) 0) [] below) in
        let long = length-append row (replicate (pages - length row) 0) in
        let more = length-replicate {A = ℕ} (pages - length row) 0 in
        omega (arith, same, long, more)
    by false e = not_less (length row) pages e

pub has_room : (c : Config) (ms : List Moment) (mets : List Met) (s : Site) (a b : Account) (n pages : ℕ) → b ≡ record a { places = roomy a.places n pages } → IsAccount c ms mets s a → IsAccount c ms mets s b
has_room c ms mets s a b n pages is account =
    let P : Account → Type 0 = IsAccount c ms mets s in
    subst P (sym is) (record {
      events = account.events;
      losses = account.losses;
      lives = account.lives;
      numbers = account.numbers;
      rows = roomy_long a.places n pages ∙ account.rows;
      found = λ j l there stands. (let f = account.found j l there stands in record { place = roomy_reads a.places n pages l.change.vm l.change.page ∙ f.place; away = f.away });
      holds = λ m page j h. account.holds m page j (sym (roomy_reads a.places n pages m page) ∙ h);
      early = account.early;
    })

pub room_so : (c : Config) (ms : List Moment) (mets : List Met) (s : Site) (a : Account) (n pages : ℕ) (losses : List Loss) (places : List (List ℕ)) → losses ≡ a.losses → places ≡ roomy a.places n pages → IsAccount c ms mets s a
    → IsAccount c ms mets s (record a { losses = losses; places = places })
room_so c ms mets s a n pages losses places same is account =
    has_room c ms mets s a (record a { losses = losses; places = places }) n pages (ap (λ ls. record a { losses = ls; places = places }) same ∙ ap (λ ps. record a { places = ps }) is) account

-- The same losses and places.
pub same_so : (c : Config) (ms : List Moment) (mets : List Met) (s : Site) (a : Account) (losses : List Loss) (places : List (List ℕ)) → losses ≡ a.losses → places ≡ a.places → IsAccount c ms mets s a
    → IsAccount c ms mets s (record a { losses = losses; places = places })
same_so c ms mets s a losses places same is account =
    let P : List Loss → Type 0 = λ ls. IsAccount c ms mets s (record a { losses = ls; places = places }) in
    let Q : List (List ℕ) → Type 0 = λ ps. IsAccount c ms mets s (record a { places = ps }) in
    subst P (sym same) (subst Q (sym is) account)

pub blank_is : (losses : List Loss) (lives : List Life) (places : List (List ℕ)) → losses ≡ [] → lives ≡ replicate VM_NUMBERS no_life → places ≡ replicate VM_NUMBERS [] → record { events = 0; losses = losses; lives = lives; places = places } ≡ nothing
blank_is losses lives places a b c =
    ap (λ (ls : List Loss). record { events = 0; losses = ls; lives = lives; places = places }) a
    ∙ ap (λ (ls : List Life). record { events = 0; losses = []; lives = ls; places = places }) b
    ∙ ap (λ (ps : List (List ℕ)). record { events = 0; losses = []; lives = replicate VM_NUMBERS no_life; places = ps }) c
