-- An account after a call that is refused: what waits for a page.
use Rattle.std.proofs.Common.{zero, suc, ◌≡◌, ℕ, ◌+◌, ◌<◌, ◌≤◌, ◌&&◌, nat_lt, nat_le, Bool, true, false, List, [], ◌∷◌, ◌++◌, length, map, set, slice_get, count_by, refl, sym, ap, ◌∙◌, subst, arith, cond, Option, Some, None, inl, inr, ◌==◌}
use Rattle.std.specs.Option.{option_map}
use Rattle.std.proofs.lemmas.List.Sums.{sum_by-cons, count_by-le-length}
use Rattle.std.proofs.lemmas.Bool.{cases_eq}
use Rattle.std.proofs.lemmas.Bool.Decides.{nat_tests}
use Rattle.std.proofs.lemmas.Option.{slice_get-map}
use Rattle.esx_types.specs.declared.config.Config.{Config}
use Rattle.esx_model.specs.declared.scene.Site.{Site}
use Rattle.esx_model.proofs.Callers.{all_append, eqb_same}
use Rattle.esx_story.specs.declared.change.Change.{Change}
use Rattle.esx_story.specs.declared.story.Loss.{Loss}
use Rattle.esx_story.specs.Moments.{Moment}
use Rattle.esx_story.specs.Losses.{lost_at}
use Rattle.esx_story.specs.Spans.{back, over}
use Rattle.esx_model.specs.Guests.{is_pressed}
use Rattle.esx_story.specs.Waits.{Met, is_page, is_wait, is_before, waits}
use Rattle.esx_story.specs.Story.{told_at, told_from}
use Rattle.esx_story.proofs.Backs.{back_first, over_first}
use Rattle.esx_walk.proofs.Along.{renewed}
use Rattle.std.proofs.lemmas.Option.{slice_get_within}
use Rattle.std.proofs.lemmas.List.{map-append}
use Rattle.esx_walk.specs.Account.{Account, open_in, wanted_by, waited_one, waited_loss, waited_at, waited, refused}
use Rattle.esx_walk.specs.Accounts.{IsOpen, IsFound, IsAccount}
use Rattle.esx_walk.proofs.Lists.{get_set_same, get_set_other, same_lists}
use Rattle.esx_walk.proofs.Renewed.{IsTold, is_told}

-- The list of losses, with one more refusal.

one_renewed : (c : Config) (ms : List Moment) (olds mets : List Met) (i : ℕ) (x : Moment) (o : Option Change) → told_at c ms mets i x o ≡ map (renewed ms mets) (told_at c ms olds i x o)
one_renewed c ms olds mets i x None = refl
one_renewed c ms olds mets i x (Some y) = refl

some_renewed : (c : Config) (ms : List Moment) (olds mets : List Met) (i : ℕ) (some : List Moment) → told_from c ms mets i some ≡ map (renewed ms mets) (told_from c ms olds i some)
some_renewed c ms olds mets i [] = refl
some_renewed c ms olds mets i (x ∷ some) =
    ap (λ ls. ls ++ told_from c ms mets (i + 1) some) (one_renewed c ms olds mets i x (lost_at x))
    ∙ ap (λ ls. map (renewed ms mets) (told_at c ms olds i x (lost_at x)) ++ ls) (some_renewed c ms olds mets (i + 1) some)
    ∙ sym (map-append (renewed ms mets) (told_at c ms olds i x (lost_at x)) (told_from c ms olds (i + 1) some))

-- One more refusal counts for a loss that stands open, and its page.

counted_last : (p : Met → Bool) (mets : List Met) (m : Met) → count_by p (mets ++ m ∷ []) ≡ count_by p mets + cond (p m) 1 0
counted_last p [] m = refl
counted_last p (x ∷ mets) m =
    let a = sum_by-cons (λ y. cond (p y) 1 0) x (mets ++ m ∷ []) in
    let b = sum_by-cons (λ y. cond (p y) 1 0) x mets in
    let rest = counted_last p mets m in
    omega (arith, a, b, rest)

late : (j k : ℕ) → j ≤ k → nat_lt k j ≡ false
late j k h = grind (arith, nat_tests)

in_time : (i k : ℕ) → i ≤ k → nat_le i k ≡ true
in_time i k h = grind (arith, nat_tests)

abbrev test : List Moment → Met → ℕ → ℕ → ℕ → Bool
test ms m i n page = is_wait n page m && nat_le i m.at && is_before (back ms i n page) m.at && is_before (over ms i n page) m.at

dead : (w b : Bool) (o : Option ℕ) (at : ℕ) → (w && b && false && is_before o at) ≡ false
dead true true o at = refl
dead true false o at = refl
dead false b o at = refl

done : (w b d : Bool) → (w && b && d && false) ≡ false
done true true true = refl
done true true false = refl
done true false d = refl
done false b d = refl

alive : (w : Bool) → (w && true && true && true) ≡ w
alive true = refl
alive false = refl

-- what one more refusal does to a loss
pub record OneMore (ms : List Moment) (m : Met) (l : Loss) : Type 0 where
  pub closed : test ms m l.at l.change.vm l.change.page ≡ true → IsOpen ms l
  pub stands : IsOpen ms l → test ms m l.at l.change.vm l.change.page ≡ is_wait l.change.vm l.change.page m

no_truth : false ≡ true → ⊥
no_truth h = cc

one_more_by : (ms : List Moment) (m : Met) (l : Loss) (b o : Option ℕ) → l.at ≤ length ms → m.at ≡ length ms → back ms l.at l.change.vm l.change.page ≡ b → over ms l.at l.change.vm l.change.page ≡ o
    → test ms m l.at l.change.vm l.change.page ≡ true → IsOpen ms l
one_more_by ms m l (Some j) o within at is ends h =
    let first = (back_first ms l.at l.change.vm l.change.page j).0 is in
    let below = slice_get_within ms first.at.0 first.moment first.at.2 in
    let number = first.at.1 in
    let none : nat_lt m.at j ≡ false = late j m.at (omega (arith, below, number, at)) in
    let w = is_wait l.change.vm l.change.page m in
    let t = nat_le l.at m.at in
    absurd (no_truth (sym (ap (λ z. w && t && is_before z m.at && is_before (over ms l.at l.change.vm l.change.page) m.at) is ∙ ap (λ z. w && t && z && is_before (over ms l.at l.change.vm l.change.page) m.at) none
    ∙ dead w t (over ms l.at l.change.vm l.change.page) m.at) ∙ h))
one_more_by ms m l None (Some j) within at is ends h =
    let first = (over_first ms l.at l.change.vm l.change.page j).0 ends in
    let below = slice_get_within ms first.at.0 first.moment first.at.2 in
    let number = first.at.1 in
    let none : nat_lt m.at j ≡ false = late j m.at (omega (arith, below, number, at)) in
    let w = is_wait l.change.vm l.change.page m in
    let t = nat_le l.at m.at in
    let d = is_before (back ms l.at l.change.vm l.change.page) m.at in
    absurd (no_truth (sym (ap (λ z. w && t && d && is_before z m.at) ends ∙ ap (λ z. w && t && d && z) none ∙ done w t d) ∙ h))
one_more_by ms m l None None within at is ends h = record { back = is; over = ends }

pub one_more_is : (ms : List Moment) (m : Met) (l : Loss) → l.at ≤ length ms → m.at ≡ length ms → OneMore ms m l
one_more_is ms m l within at = record {
  closed = λ h. one_more_by ms m l (back ms l.at l.change.vm l.change.page) (over ms l.at l.change.vm l.change.page) within at refl refl h;
  stands = λ stood. (let w = is_wait l.change.vm l.change.page m in
      ap (λ z. w && z && is_before (back ms l.at l.change.vm l.change.page) m.at && is_before (over ms l.at l.change.vm l.change.page) m.at) (in_time l.at m.at (omega (arith, within, at)))
      ∙ ap (λ z. w && true && is_before z m.at && is_before (over ms l.at l.change.vm l.change.page) m.at) stood.back ∙ ap (λ z. w && true && true && is_before z m.at) stood.over ∙ alive w);
}

-- The page that a refused access wants.

both_of : (a b : Bool) → (a && b) ≡ true → (a ≡ true) × (b ≡ true)
both_of true b h = (refl, h)
both_of false b h = absurd (no_truth h)

equal : (a b : ℕ) → (a == b) ≡ true → a ≡ b
equal a b h = grind (arith, nat_tests)

abbrev pair : ℕ → ℕ → Option (ℕ × ℕ)
pair n page = Some (n, page)

same_pair : (m p n page : ℕ) → ((m == n) && (p == page)) ≡ true → pair m p ≡ pair n page
same_pair m p n page h =
    let two = both_of (m == n) (p == page) h in
    ap (λ k. pair k p) (equal m n two.0) ∙ ap (pair n) (equal p page two.1)

access_named : (n page : ℕ) (o : Option (ℕ × ℕ)) → is_page n page o ≡ true → o ≡ Some (n, page)
access_named n page None h = absurd (no_truth h)
access_named n page (Some p) h = same_pair p.0 p.1 n page h

no_pair : (n page : ℕ) → None ≡ pair n page → ⊥
no_pair n page h = cc

abbrev left_of : Option (ℕ × ℕ) → ℕ
left_of None = 0
left_of (Some p) = p.0

abbrev right_of : Option (ℕ × ℕ) → ℕ
right_of None = 0
right_of (Some p) = p.1

one_pair : (m p n page : ℕ) → pair m p ≡ pair n page → (m ≡ n) × (p ≡ page)
one_pair m p n page h = (ap left_of h, ap right_of h)

named_again : (m p n page : ℕ) → pair m p ≡ pair n page → ((m == n) && (p == page)) ≡ true
named_again m p n page h =
    let two = one_pair m p n page h in
    ap (λ k. (k == n) && (p == page)) two.0 ∙ ap (λ k. (n == n) && (k == page)) two.1 ∙ ap (λ b. b && (page == page)) (eqb_same n) ∙ eqb_same page

named_access : (n page : ℕ) (o : Option (ℕ × ℕ)) → o ≡ Some (n, page) → is_page n page o ≡ true
named_access n page None h = absurd (no_pair n page h)
named_access n page (Some p) h = named_again p.0 p.1 n page h

wait_named : (n page : ℕ) (m : Met) → is_wait n page m ≡ true → wanted_by m.access m.refusal ≡ Some (n, page)
wait_named n page m h =
    let two = both_of (is_page n page m.access) (is_pressed m.refusal) h in
    ap (λ b. cond b (m.access) None) two.1 ∙ access_named n page m.access two.0

named_wait : (n page : ℕ) (m : Met) (b : Bool) → is_pressed m.refusal ≡ b → cond b (m.access) None ≡ Some (n, page) → (is_page n page m.access && b) ≡ true
named_wait n page m false is h = absurd (no_pair n page h)
named_wait n page m true is h = ap (λ a. a && true) (named_access n page m.access h)

wait_is : (n page : ℕ) (m : Met) → wanted_by m.access m.refusal ≡ Some (n, page) → is_wait n page m ≡ true
wait_is n page m h = named_wait n page m (is_pressed m.refusal) refl h

-- A loss after it.

abbrev at_work : Loss → ℕ → Loss
at_work l count = record l { waits = count }

waits_more : (ms : List Moment) (mets : List Met) (m : Met) (l : Loss) → renewed ms mets l ≡ l
    → renewed ms (mets ++ m ∷ []) l ≡ at_work l (l.waits + cond (test ms m l.at l.change.vm l.change.page) 1 0)
waits_more ms mets m l same =
    let i = l.at in
    let n = l.change.vm in
    let page = l.change.page in
    let extra = cond (test ms m i n page) 1 0 in
    ap (λ (k : ℕ). at_work (renewed ms mets l) k) (counted_last (λ (x : Met). is_wait n page x && nat_le i x.at && is_before (back ms i n page) x.at && is_before (over ms i n page) x.at) mets m)
    ∙ ap (λ (x : Loss). at_work x (waits ms mets i n page + extra)) same ∙ ap (λ (x : Loss). at_work l (x.waits + extra)) same

zero_more : (k : ℕ) → k + 0 ≡ k
zero_more k = omega arith

pub few_waits : (ms : List Moment) (mets : List Met) (l : Loss) → renewed ms mets l ≡ l → l.waits ≤ length mets
few_waits ms mets l same =
    let most = count_by-le-length (λ (x : Met). is_wait l.change.vm l.change.page x && nat_le l.at x.at && is_before (back ms l.at l.change.vm l.change.page) x.at && is_before (over ms l.at l.change.vm l.change.page) x.at) mets in
    let is : waits ms mets l.at l.change.vm l.change.page ≡ l.waits = ap (λ (x : Loss). x.waits) same in
    omega (arith, most, is)

-- What is asked of the refusal: it comes after all that were made.
pub record IsLate (ms : List Moment) (mets : List Met) (m : Met) : Type 0 where
  pub at : m.at ≡ length ms

loss_after : (ms : List Moment) (mets : List Met) (m : Met) (l : Loss) (b : Bool) → IsLate ms mets m → IsTold ms mets l → test ms m l.at l.change.vm l.change.page ≡ b → renewed ms (mets ++ m ∷ []) l ≡ cond b (waited_one l) l
loss_after ms mets m l true is told_l t = waits_more ms mets m l told_l.same ∙ ap (λ b. at_work l (l.waits + cond b 1 0)) t
loss_after ms mets m l false is told_l t = waits_more ms mets m l told_l.same ∙ ap (λ b. at_work l (l.waits + cond b 1 0)) t ∙ ap (at_work l) (zero_more l.waits)

told_here : (c : Config) (ms : List Moment) (mets : List Met) (s : Site) (a : Account) (k : ℕ) (l : Loss) → IsAccount c ms mets s a → slice_get a.losses k ≡ Some l → IsTold ms mets l
told_here c ms mets s a k l account there = is_told c ms mets k l (ap (λ ls. slice_get ls k) (sym account.losses) ∙ there)

-- one that does not wait
idle : (c : Config) (ms : List Moment) (mets : List Met) (m : Met) (s : Site) (a : Account) (k : ℕ) (o : Option Loss) → IsAccount c ms mets s a → IsLate ms mets m → slice_get a.losses k ≡ o
    → ((n page : ℕ) → wanted_by m.access m.refusal ≡ Some (n, page) → open_in a.places n page ≡ suc k → ⊥) → o ≡ option_map (renewed ms (mets ++ m ∷ [])) o
idle c ms mets m s a k None account is there none = refl
idle c ms mets m s a k (Some l) account is there none = by (test ms m l.at l.change.vm l.change.page) refl
  where
    told_l : IsTold ms mets l
    told_l = told_here c ms mets s a k l account there

    by : (b : Bool) → test ms m l.at l.change.vm l.change.page ≡ b → Some l ≡ Some (renewed ms (mets ++ m ∷ []) l)
    by false t = ap (λ y. Some y) (sym (loss_after ms mets m l false is told_l t))
    by true t =
        let one = one_more_is ms m l told_l.early is.at in
        let stood = one.closed t in
        let found = account.found k l there stood in
        absurd (none l.change.vm l.change.page (wait_named l.change.vm l.change.page m (sym (one.stands stood) ∙ t)) found.place)

one_place : (j k : ℕ) → suc j ≡ suc k → j ≡ k
one_place j k h = omega (arith, h)

no_place : (k : ℕ) → 0 ≡ suc k → ⊥
no_place k h = omega (arith, h)

-- the one that waits
busy : (c : Config) (ms : List Moment) (mets : List Met) (m : Met) (s : Site) (a : Account) (n page j k : ℕ) → IsAccount c ms mets s a → IsLate ms mets m → wanted_by m.access m.refusal ≡ Some (n, page) → open_in a.places n page ≡ suc j
    → slice_get (waited_loss a.losses j (slice_get a.losses j)) k ≡ option_map (renewed ms (mets ++ m ∷ [])) (slice_get a.losses k)
busy c ms mets m s a n page j k account is wants place =
    let held = account.holds n page j place in
    let l = held.loss in
    let told_l = told_here c ms mets s a j l account held.there in
    let one = one_more_is ms m l told_l.early is.at in
    let waits_now : is_wait l.change.vm l.change.page m ≡ true = ap (λ q. is_wait q l.change.page m) held.number ∙ ap (λ q. is_wait n q m) held.same ∙ wait_is n page m wants in
    let after = loss_after ms mets m l true is told_l (one.stands held.stands ∙ waits_now) in
    ap (λ o. slice_get (waited_loss a.losses j o) k) held.there ∙ elim (cases_eq k j) [
      | inl e ↦ ap (slice_get (set a.losses j (waited_one l))) e ∙ get_set_same a.losses j l (waited_one l) held.there ∙ ap (λ y. Some y) (sym after)
          ∙ ap (option_map (renewed ms (mets ++ m ∷ []))) (sym held.there ∙ ap (slice_get a.losses) (sym e))
      | inr other ↦ get_set_other a.losses j k (waited_one l) other
          ∙ idle c ms mets m s a k (slice_get a.losses k) account is refl
          (λ q r wants_q at. (let two = one_pair n page q r (sym wants ∙ wants_q) in
          other (one_place k j (sym at ∙ ap (λ v. open_in a.places v r) (sym two.0) ∙ ap (open_in a.places n) (sym two.1) ∙ place))))
    ]

each_after : (c : Config) (ms : List Moment) (mets : List Met) (m : Met) (s : Site) (a : Account) (o : Option (ℕ × ℕ)) (k : ℕ) → IsAccount c ms mets s a → IsLate ms mets m → wanted_by m.access m.refusal ≡ o
    → slice_get (waited a.losses a.places o) k ≡ option_map (renewed ms (mets ++ m ∷ [])) (slice_get a.losses k)
each_after c ms mets m s a None k account is wants = idle c ms mets m s a k (slice_get a.losses k) account is refl (λ n page h at. no_pair n page (sym wants ∙ h))
each_after c ms mets m s a (Some p) k account is wants = by (open_in a.places p.0 p.1) refl
  where
    by : (q : ℕ) → open_in a.places p.0 p.1 ≡ q → slice_get (waited_at a.losses q) k ≡ option_map (renewed ms (mets ++ m ∷ [])) (slice_get a.losses k)
    by zero place = idle c ms mets m s a k (slice_get a.losses k) account is refl
        (λ n page h at. (let two = one_pair p.0 p.1 n page (sym wants ∙ h) in no_place k (sym place ∙ ap (λ v. open_in a.places v p.1) two.0 ∙ ap (open_in a.places n) two.1 ∙ at)))
    by (suc j) place = busy c ms mets m s a p.0 p.1 j k account is wants place

losses_after : (c : Config) (ms : List Moment) (mets : List Met) (m : Met) (s : Site) (a : Account) → IsAccount c ms mets s a → IsLate ms mets m → waited a.losses a.places (wanted_by m.access m.refusal) ≡ map (renewed ms (mets ++ m ∷ [])) a.losses
losses_after c ms mets m s a account is = same_lists (waited a.losses a.places (wanted_by m.access m.refusal)) (map (renewed ms (mets ++ m ∷ [])) a.losses)
    (λ k. each_after c ms mets m s a (wanted_by m.access m.refusal) k account is refl ∙ sym (slice_get-map (renewed ms (mets ++ m ∷ [])) a.losses k))

some_loss : (x y : Loss) → Some x ≡ Some y → x ≡ y
some_loss x y h = cc

renewed_from : (f : Loss → Loss) (o : Option Loss) (l : Loss) → option_map f o ≡ Some l → (k : Loss) × (o ≡ Some k) × (f k ≡ l)
renewed_from f None l h = absurd (no_loss l h)
  where
    no_loss : (l : Loss) → None ≡ Some l → ⊥
    no_loss l h = cc
renewed_from f (Some k) l h = (k, refl, some_loss (f k) l h)

pub refusal_goes_on : (c : Config) (ms : List Moment) (mets : List Met) (m : Met) (s : Site) (a b : Account) → b ≡ refused a m.access m.refusal → IsAccount c ms mets s a → IsLate ms mets m → IsAccount c ms (mets ++ m ∷ []) s b
refusal_goes_on c ms mets m s a b gives account is =
    let f : Loss → Loss = renewed ms (mets ++ m ∷ []) in
    let same = losses_after c ms mets m s a account is in
    let P : Account → Type 0 = IsAccount c ms (mets ++ m ∷ []) s in
    let Q : List Loss → Type 0 = λ ls. IsAccount c ms (mets ++ m ∷ []) s (record a { losses = ls }) in
    let at = is.at in
    subst P (sym gives) (subst Q (sym same) (record {
      events = account.events;
      losses = ap (map f) account.losses ∙ sym (some_renewed c ms mets (mets ++ m ∷ []) 1 ms);
      lives = account.lives;
      numbers = account.numbers;
      rows = account.rows;
      found = λ j l there stands. (let k = renewed_from f (slice_get a.losses j) l (sym (slice_get-map f a.losses j) ∙ there) in
          let R : Loss → Type 0 = IsFound s a.places j in
          let S : Loss → Type 0 = IsOpen ms in
          let old = subst S (sym k.2) stands in
          let found = account.found j k.0 k.1 (record { back = old.back; over = old.over }) in
          subst R k.2 (record { place = found.place; away = found.away }));
      holds = λ n page j h. (let held = account.holds n page j h in
          record {
            loss = f held.loss;
            there = slice_get-map f a.losses j ∙ ap (option_map f) held.there;
            stands = record { back = held.stands.back; over = held.stands.over };
            number = held.number;
            same = held.same;
          });
      early = all_append (λ (x : Met). x.at ≤ length ms) mets (m ∷ []) account.early (omega (arith, at), tt);
    }))
