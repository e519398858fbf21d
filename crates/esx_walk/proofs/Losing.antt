-- An account after one more event of its path: its losses.
use Rattle.std.proofs.Common.{◌≡◌, ℕ, zero, suc, ◌+◌, true, false, List, [], ◌∷◌, ◌++◌, length, map, set, slice_get, refl, sym, ap, ◌∙◌, arith, Option, Some, None, inl, inr}
use Rattle.std.specs.Option.{option_map}
use Rattle.std.proofs.lemmas.List.{length-map}
use Rattle.std.proofs.lemmas.Bool.{cases_eq}
use Rattle.std.proofs.lemmas.Option.{slice_get-map}
use Rattle.esx_types.specs.declared.config.Config.{Config}
use Rattle.esx_story.specs.declared.change.How.{How}
use Rattle.esx_story.specs.declared.change.Change.{Change}
use Rattle.esx_story.specs.declared.story.Loss.{Loss}
use Rattle.esx_story.specs.Changes.{change, has_here}
use Rattle.esx_story.specs.Moments.{Moment}
use Rattle.esx_story.specs.Losses.{lost_at}
use Rattle.esx_story.specs.Gains.{gained_at}
use Rattle.esx_story.specs.Waits.{Met}
use Rattle.esx_walk.proofs.Along.{renewed}
use Rattle.esx_walk.specs.Account.{Account, open_in, back_with, closed_loss, closed_at, closed}
use Rattle.esx_walk.specs.Accounts.{IsAccount}
use Rattle.esx_walk.proofs.Lists.{get_set_same, get_set_other, same_lists}
use Rattle.esx_walk.proofs.Renewed.{IsTold, is_told, IsBack, after_one, returns}

-- What the laws say of the losses and gains at a moment.
pub record IsStep (x : Moment) : Type 0 where
  pub gains : (n page : ℕ) → has_here x.before.site n page ≡ false → has_here x.after.site n page ≡ true → (how : How) × (gained_at x ≡ Some (change n page how))
  pub gained : (g : Change) → gained_at x ≡ Some g → (has_here x.before.site g.vm g.page ≡ false) × (has_here x.after.site g.vm g.page ≡ true)
  pub lost : (y : Change) → lost_at x ≡ Some y → (has_here x.before.site y.vm y.page ≡ true) × (has_here x.after.site y.vm y.page ≡ false)

-- A path, its account, and a moment that comes.
pub record Comes (c : Config) (ms : List Moment) (mets : List Met) (x : Moment) (a : Account) : Type 0 where
  pub account : IsAccount c ms mets x.before.site a
  pub step : IsStep x

pub told_of : (c : Config) (ms : List Moment) (mets : List Met) (x : Moment) (a : Account) (k : ℕ) (l : Loss) → Comes c ms mets x a → slice_get a.losses k ≡ Some l → IsTold ms mets l
told_of c ms mets x a k l comes there = is_told c ms mets k l (ap (λ ls. slice_get ls k) (sym comes.account.losses) ∙ there)

-- a loss whose page is back is found by what was gained
pub back_is_found : (c : Config) (ms : List Moment) (mets : List Met) (x : Moment) (a : Account) (k : ℕ) (l : Loss) → Comes c ms mets x a → slice_get a.losses k ≡ Some l → IsBack ms x mets l
    → (g : Change) × (gained_at x ≡ Some g) × (open_in a.places g.vm g.page ≡ suc k)
back_is_found c ms mets x a k l comes there is =
    let found = comes.account.found k l there is.stood in
    let names = comes.step.gains l.change.vm l.change.page found.away is.here in
    (change l.change.vm l.change.page names.0, names.1, found.place)

some_change : (x y : Change) → Some x ≡ Some y → x ≡ y
some_change x y h = cc

no_change : (y : Change) → None ≡ Some y → ⊥
no_change y h = cc

one_place : (j k : ℕ) → suc j ≡ suc k → j ≡ k
one_place j k h = omega (arith, h)

no_place : (k : ℕ) → 0 ≡ suc k → ⊥
no_place k h = omega (arith, h)

-- a loss that is not the one found is as it was
same_by : (c : Config) (ms : List Moment) (mets : List Met) (x : Moment) (a : Account) (k : ℕ) (o : Option Loss) → Comes c ms mets x a → slice_get a.losses k ≡ o
    → ((g : Change) → gained_at x ≡ Some g → open_in a.places g.vm g.page ≡ suc k → ⊥) → o ≡ option_map (renewed (ms ++ x ∷ []) mets) o
same_by c ms mets x a k None comes there none = refl
same_by c ms mets x a k (Some l) comes there none = elim (after_one ms x mets l (told_of c ms mets x a k l comes there) comes.account.early) [
  | inl same ↦ ap (λ y. Some y) (sym same)
  | inr is ↦ (let found = back_is_found c ms mets x a k l comes there is in absurd (none found.0 found.1 found.2))
]

shut_each : (c : Config) (ms : List Moment) (mets : List Met) (x : Moment) (a : Account) (g : Change) (j : ℕ) (k : ℕ) → Comes c ms mets x a → gained_at x ≡ Some g → open_in a.places g.vm g.page ≡ suc j
    → slice_get (closed_loss a.losses j (length ms + 1) g.how (slice_get a.losses j)) k ≡ option_map (renewed (ms ++ x ∷ []) mets) (slice_get a.losses k)
shut_each c ms mets x a g j k comes gains place =
    let held = comes.account.holds g.vm g.page j place in
    let l = held.loss in
    let i = length ms + 1 in
    let told = told_of c ms mets x a j l comes held.there in
    let here : has_here x.after.site l.change.vm l.change.page ≡ true =
    ap (λ n. has_here x.after.site n l.change.page) held.number ∙ ap (λ p. has_here x.after.site g.vm p) held.same ∙ (comes.step.gained g gains).1 in
    let back = returns ms x mets l g told comes.account.early gains held.stands here in
    ap (λ o. slice_get (closed_loss a.losses j i g.how o) k) held.there ∙ elim (cases_eq k j) [
      | inl e ↦ ap (slice_get (set a.losses j (back_with i g.how l))) e ∙ get_set_same a.losses j l (back_with i g.how l) held.there ∙ ap (λ y. Some y) (sym back)
          ∙ ap (option_map (renewed (ms ++ x ∷ []) mets)) (sym held.there ∙ ap (slice_get a.losses) (sym e))
      | inr other ↦ get_set_other a.losses j k (back_with i g.how l) other
          ∙ same_by c ms mets x a k (slice_get a.losses k) comes refl (λ h names at. other (sym (one_place j k (sym place ∙ ap (λ (y : Change). open_in a.places y.vm y.page) (some_change g h (sym gains ∙ names)) ∙ at))))
    ]

closed_each : (c : Config) (ms : List Moment) (mets : List Met) (x : Moment) (a : Account) (o : Option Change) (k : ℕ) → Comes c ms mets x a → gained_at x ≡ o
    → slice_get (closed a.losses a.places (length ms + 1) o) k ≡ option_map (renewed (ms ++ x ∷ []) mets) (slice_get a.losses k)
closed_each c ms mets x a None k comes gains = same_by c ms mets x a k (slice_get a.losses k) comes refl (λ g names at. no_change g (sym gains ∙ names))
closed_each c ms mets x a (Some g) k comes gains = by (open_in a.places g.vm g.page) refl
  where
    by : (p : ℕ) → open_in a.places g.vm g.page ≡ p → slice_get (closed_at a.losses (length ms + 1) g.how p) k ≡ option_map (renewed (ms ++ x ∷ []) mets) (slice_get a.losses k)
    by zero place = same_by c ms mets x a k (slice_get a.losses k) comes refl (λ h names at. no_place k (sym place ∙ ap (λ (y : Change). open_in a.places y.vm y.page) (some_change g h (sym gains ∙ names)) ∙ at))
    by (suc j) place = shut_each c ms mets x a g j k comes gains place

-- the losses that stand are those of the path with the moment
pub closed_are : (c : Config) (ms : List Moment) (mets : List Met) (x : Moment) (a : Account) → Comes c ms mets x a → closed a.losses a.places (length ms + 1) (gained_at x) ≡ map (renewed (ms ++ x ∷ []) mets) a.losses
closed_are c ms mets x a comes = same_lists (closed a.losses a.places (length ms + 1) (gained_at x)) (map (renewed (ms ++ x ∷ []) mets) a.losses)
    (λ k. closed_each c ms mets x a (gained_at x) k comes refl ∙ sym (slice_get-map (renewed (ms ++ x ∷ []) mets) a.losses k))

pub closed_long : (c : Config) (ms : List Moment) (mets : List Met) (x : Moment) (a : Account) → Comes c ms mets x a → length (closed a.losses a.places (length ms + 1) (gained_at x)) ≡ length a.losses
closed_long c ms mets x a comes = ap length (closed_are c ms mets x a comes) ∙ length-map a.losses (renewed (ms ++ x ∷ []) mets)
