-- Where open losses stand, after one place changed.
use Rattle.std.proofs.Common.{◌≡◌, ◌≢◌, ℕ, suc, ◌<◌, ◌≤◌, false, true, ◌==◌, List, [], length, get_or, set, refl, sym, ap, ◌∙◌, arith, Option, Some, None, inl, inr}
use Rattle.std.proofs.lemmas.List.{get_or-set_same, get_or-set_other, get_or_past, length-set}
use Rattle.std.proofs.lemmas.Bool.{cases_eq, cases_lt}
use Rattle.esx_events.specs.declared.event.Event.{Event}
use Rattle.esx_events.specs.declared.event.Event.TheVariants.{Gone}
use Rattle.esx_events.specs.declared.event.Answer.{Answer}
use Rattle.esx_events.specs.declared.event.Answer.TheVariants as answers
use Rattle.esx_model.proofs.Callers.{eqb_same, eqb_other}
use Rattle.esx_story.specs.declared.change.How.{How}
use Rattle.esx_story.specs.declared.change.Change.{Change}
use Rattle.esx_story.specs.Changes.{change}
use Rattle.esx_story.specs.Spans.{is_last}
use Rattle.esx_walk.specs.Account.{open_in, with_open, shut, cleared}

row_set : (row : List ℕ) (page v : ℕ) → page < length row → get_or (set row page v) page 0 ≡ v
row_set row page v within = get_or-set_same row page v 0 within

row_other : (row : List ℕ) (page p v : ℕ) → p ≢ page → get_or (set row page v) p 0 ≡ get_or row p 0
row_other row page p v other = get_or-set_other row page p v 0 other

row_zero : (row : List ℕ) (page : ℕ) → get_or (set row page 0) page 0 ≡ 0
row_zero row page = elim (cases_lt page (length row)) [
  | inl below ↦ row_set row page 0 below
  | inr past ↦ get_or_past (set row page 0) page 0 (let long = length-set row page 0 in omega (arith, long, past))
]

-- what a row that was put somewhere is read as
pub put_there : (rows : List (List ℕ)) (n : ℕ) (row : List ℕ) → n < length rows → get_or (set rows n row) n [] ≡ row
put_there rows n row below = get_or-set_same rows n row [] below

put_past : (rows : List (List ℕ)) (n : ℕ) (row : List ℕ) → length rows ≤ n → get_or (set rows n row) n [] ≡ []
put_past rows n row past = get_or_past (set rows n row) n [] (let long = length-set rows n row in omega (arith, long, past))

pub put_other : (rows : List (List ℕ)) (n m : ℕ) (row : List ℕ) → m ≢ n → get_or (set rows n row) m [] ≡ get_or rows m []
put_other rows n m row other = get_or-set_other rows n m row [] other

pub open_at_last : (rows : List (List ℕ)) (n page v : ℕ) → n < length rows → page < length (get_or rows n []) → open_in (with_open rows n page v) n page ≡ v
open_at_last rows n page v below within = ap (λ (row : List ℕ). get_or row page 0) (put_there rows n (set (get_or rows n []) page v) below) ∙ row_set (get_or rows n []) page v within

shut_there : (rows : List (List ℕ)) (n page : ℕ) → open_in (with_open rows n page 0) n page ≡ 0
shut_there rows n page = elim (cases_lt n (length rows)) [
  | inl below ↦ ap (λ (row : List ℕ). get_or row page 0) (put_there rows n (set (get_or rows n []) page 0) below) ∙ row_zero (get_or rows n []) page
  | inr past ↦ ap (λ (row : List ℕ). get_or row page 0) (put_past rows n (set (get_or rows n []) page 0) past)
]

pub open_other : (rows : List (List ℕ)) (n page m p v : ℕ) → (m ≡ n → p ≡ page → ⊥) → open_in (with_open rows n page v) m p ≡ open_in rows m p
open_other rows n page m p v apart = elim (cases_eq m n) [
  | inl e ↦ ap (λ k. open_in (with_open rows n page v) k p) e ∙ own (λ same. apart e same) ∙ ap (λ k. open_in rows k p) (sym e)
  | inr other ↦ ap (λ (row : List ℕ). get_or row p 0) (put_other rows n m (set (get_or rows n []) page v) other)
]
  where
    own : p ≢ page → open_in (with_open rows n page v) n p ≡ open_in rows n p
    own other = elim (cases_lt n (length rows)) [
      | inl below ↦ ap (λ (row : List ℕ). get_or row p 0) (put_there rows n (set (get_or rows n []) page v) below) ∙ row_other (get_or rows n []) page p v other
      | inr past ↦ ap (λ (row : List ℕ). get_or row p 0) (put_past rows n (set (get_or rows n []) page v) past) ∙ sym (ap (λ (row : List ℕ). get_or row p 0) (get_or_past rows n [] past))
    ]

no_zero : (j : ℕ) → 0 ≡ suc j → ⊥
no_zero j h = omega (arith, h)

-- A page that stands open after some are shut stood so before, and is not the one that came.

pub record Left (rows : List (List ℕ)) (g : Option Change) (n page j : ℕ) : Type 0 where
  pub before : open_in rows n page ≡ suc j
  pub stays : (how : How) → g ≡ Some (change n page how) → ⊥

some_change : (x y : Change) → Some x ≡ Some y → x ≡ y
some_change x y h = cc

no_change : (y : Change) → None ≡ Some y → ⊥
no_change y h = cc

pub left_open : (rows : List (List ℕ)) (g : Option Change) (n page j : ℕ) → open_in (shut rows g) n page ≡ suc j → Left rows g n page j
left_open rows None n page j h = record { before = h; stays = λ how e. no_change (change n page how) e }
left_open rows (Some g) n page j h = record {
  before = sym (open_other rows g.vm g.page n page 0 apart) ∙ h;
  stays = λ how e. (let same = some_change g (change n page how) e in apart (ap (λ (y : Change). y.vm) (sym same)) (ap (λ (y : Change). y.page) (sym same)));
}
  where
    apart : n ≡ g.vm → page ≡ g.page → ⊥
    apart a b = no_zero j (sym (shut_there rows g.vm g.page) ∙ ap (λ m. open_in (with_open rows g.vm g.page 0) m g.page) (sym a) ∙ ap (λ p. open_in (with_open rows g.vm g.page 0) n p) (sym b) ∙ h)

pub shut_other : (rows : List (List ℕ)) (g : Option Change) (n page : ℕ) → ((how : How) → g ≡ Some (change n page how) → ⊥) → open_in (shut rows g) n page ≡ open_in rows n page
shut_other rows None n page apart = refl
shut_other rows (Some g) n page apart = open_other rows g.vm g.page n page 0 (λ a b. apart g.how (ap (λ k. Some (change k g.page g.how)) (sym a) ∙ ap (λ k. Some (change n k g.how)) (sym b)))

-- And its machine did not go.

gone_row : (rows : List (List ℕ)) (n page : ℕ) → open_in (set rows n []) n page ≡ 0
gone_row rows n page = elim (cases_lt n (length rows)) [
  | inl below ↦ ap (λ (row : List ℕ). get_or row page 0) (put_there rows n [] below)
  | inr past ↦ ap (λ (row : List ℕ). get_or row page 0) (put_past rows n [] past)
]

pub still_open : (rows : List (List ℕ)) (e : Event) (a : Answer) (n page j : ℕ) → open_in (cleared rows e a) n page ≡ suc j → (open_in rows n page ≡ suc j) × (is_last n e a ≡ false)
still_open rows (Gone m) answers.Gone n page j h = elim (cases_eq n m) [
  | inl e ↦ absurd (no_zero j (sym (gone_row rows n page) ∙ ap (λ k. open_in (set rows k []) n page) e ∙ h))
  | inr other ↦ (sym (ap (λ (row : List ℕ). get_or row page 0) (put_other rows m n [] other)) ∙ h, eqb_other m n other)
]
still_open rows _ _ n page j h = (h, refl)

pub cleared_other : (rows : List (List ℕ)) (e : Event) (a : Answer) (n page : ℕ) → is_last n e a ≡ false → open_in (cleared rows e a) n page ≡ open_in rows n page
cleared_other rows (Gone m) answers.Gone n page h = ap (λ (row : List ℕ). get_or row page 0) (put_other rows m n [] (λ e. no_truth (sym (eqb_same m) ∙ ap (λ k. m == k) (sym e) ∙ h)))
  where
    no_truth : true ≡ false → ⊥
    no_truth h = cc
cleared_other rows _ _ n page h = refl
