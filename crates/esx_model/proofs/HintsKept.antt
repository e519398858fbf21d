-- What the hints of a site keep.
use Rattle.std.proofs.Common.{◌≡◌, ◌≢◌, ℕ, ◌+◌, ◌<◌, ◌≤◌, Bool, true, false, not, ◌&&◌, ◌||◌, nat_le, List, [], ◌∷◌, length, refl, sym, ap, ◌∙◌, subst, arith, cond, Some, ◌==◌}
use Rattle.std.specs.List.{filter, AllByRecursion}
use Rattle.std.proofs.lemmas.Bool.Decides.{nat_tests}
use Rattle.esx_types.specs.declared.table.Hint.{Hint}
use Rattle.esx_model.specs.declared.scene.Place.{Place}
use Rattle.esx_model.specs.Places.{is_private}
use Rattle.esx_formulas.specs.Key.{IsShort}
use Rattle.esx_model.specs.Hints.{is_hint_of, without_hint, in_order, with_hint, hints_at, other_hint}
use Rattle.esx_model.specs.sound.Hints.{AreOrdered, AreHints}
use Rattle.esx_model.proofs.Lists.{all_map, all_middle, find_passes, find_in, one}

-- What passes a test.

all_filter_one : {X : Type 0} (P Q : X → Type 0) (p : X → Bool) → ((x : X) → p x ≡ true → P x → Q x) → (x : X) (xs : List X) → P x → AllByRecursion Q (filter p xs) → (b : Bool) → p x ≡ b
    → AllByRecursion Q (cond b (x ∷ filter p xs) (filter p xs))
all_filter_one P Q p go x xs h rest true e = (go x e h, rest)
all_filter_one P Q p go x xs h rest false e = rest

pub all_filter : {X : Type 0} (P Q : X → Type 0) (p : X → Bool) → ((x : X) → p x ≡ true → P x → Q x) → (xs : List X) → AllByRecursion P xs → AllByRecursion Q (filter p xs)
all_filter P Q p go [] h = tt
all_filter P Q p go (x ∷ xs) h = all_filter_one P Q p go x xs h.0 (all_filter P Q p go xs h.1) (p x) refl

pub filter_all : {X : Type 0} (p : X → Bool) (xs : List X) → AllByRecursion (λ x. p x ≡ true) xs → filter p xs ≡ xs
filter_all p [] h = refl
filter_all {X = X} p (x ∷ xs) h = ap (λ b. cond b (x ∷ filter p xs) (filter p xs)) h.0 ∙ ap (λ (ys : List X). x ∷ ys) (filter_all p xs h.1)

fewer_one : {X : Type 0} (q p : X → Bool) (x : X) (xs : List X) (a b : Bool) → q x ≡ b → length (filter q (filter p xs)) ≤ length (filter q xs)
    → length (filter q (cond a (x ∷ filter p xs) (filter p xs))) ≤ length (cond b (x ∷ filter q xs) (filter q xs))
fewer_one q p x xs true true e rest = rw e (omega arith)
fewer_one q p x xs true false e rest = rw e rest
fewer_one q p x xs false true e rest = omega arith
fewer_one q p x xs false false e rest = rest

-- filtered twice, no more pass
pub fewer : {X : Type 0} (q p : X → Bool) (xs : List X) → length (filter q (filter p xs)) ≤ length (filter q xs)
fewer q p [] = omega arith
fewer q p (x ∷ xs) = fewer_one q p x xs (p x) (q x) refl (fewer q p xs)

ordered_one : (p : Hint → Bool) (x : Hint) (xs : List Hint) → AllByRecursion (λ (later : Hint). x.key < later.key) xs → AreOrdered (filter p xs) → (b : Bool) → AreOrdered (cond b (x ∷ filter p xs) (filter p xs))
ordered_one p x xs h rest true = (all_filter (λ (later : Hint). x.key < later.key) (λ (later : Hint). x.key < later.key) p (λ y e k. k) xs h, rest)
ordered_one p x xs h rest false = rest

ordered_filter : (p : Hint → Bool) (hints : List Hint) → AreOrdered hints → AreOrdered (filter p hints)
ordered_filter p [] h = tt
ordered_filter p (x ∷ xs) h = ordered_one p x xs h.0 (ordered_filter p xs h.1) (p x)

-- A page at another place.

same_page : (n page : ℕ) (h : Hint) → is_hint_of n page h ≡ true → (h.vm ≡ n) × (h.page ≡ page)
same_page n page h e = (grind (arith, nat_tests), grind (arith, nat_tests))

private_after : (at after : ℕ → ℕ → Place) (n page : ℕ) (q : Place) → is_private q ≡ true → after n page ≡ q
    → ((m k : ℕ) → is_hint_of n page (record { key = 0; vm = m; page = k }) ≡ false → after m k ≡ at m k)
    → (h : Hint) (b : Bool) → is_hint_of n page h ≡ b → is_private (at h.vm h.page) ≡ true → is_private (after h.vm h.page) ≡ true
private_after at after n page q private here others h true e old =
    let same = same_page n page h e in
    ap (λ m. is_private (after m h.page)) same.0 ∙ ap (λ k. is_private (after n k)) same.1 ∙ ap is_private here ∙ private
private_after at after n page q private here others h false e old = ap is_private (others h.vm h.page e) ∙ old

not_it : (b : Bool) → not b ≡ true → b ≡ false
not_it true h = cc
not_it false h = refl

placed_by : (at after : ℕ → ℕ → Place) (n page : ℕ) (q : Place) (hints : List Hint) → AreHints at hints → after n page ≡ q
    → ((m k : ℕ) → is_hint_of n page (record { key = 0; vm = m; page = k }) ≡ false → after m k ≡ at m k)
    → (b : Bool) → is_private q ≡ b → AreHints after (cond b hints (without_hint n page hints))
placed_by at after n page q hints fine here others true e = record {
  ordered = fine.ordered;
  one = fine.one;
  private = all_map (λ (h : Hint). is_private (at h.vm h.page) ≡ true) (λ (h : Hint). is_private (after h.vm h.page) ≡ true) (λ h old. private_after at after n page q e here others h (is_hint_of n page h) refl old) hints fine.private;
  keys = fine.keys;
}
placed_by at after n page q hints fine here others false e =
    let p : Hint → Bool = λ h. not (is_hint_of n page h) in
    record {
      ordered = ordered_filter p hints fine.ordered;
      one = λ m k. (let few = fewer (is_hint_of m k) p hints in let old = fine.one m k in omega (arith, few, old));
      private = all_filter (λ (h : Hint). is_private (at h.vm h.page) ≡ true) (λ (h : Hint). is_private (after h.vm h.page) ≡ true) p (λ h other old. ap is_private (others h.vm h.page (not_it (is_hint_of n page h) other)) ∙ old) hints fine.private;
      keys = all_filter (λ (h : Hint). IsShort h.key) (λ (h : Hint). IsShort h.key) p (λ h e k. k) hints fine.keys;
    }

-- where it is private in a frame its hint stays, else it ends
pub hints_placed : (at after : ℕ → ℕ → Place) (n page : ℕ) (q : Place) (hints : List Hint) → AreHints at hints → after n page ≡ q
    → ((m k : ℕ) → is_hint_of n page (record { key = 0; vm = m; page = k }) ≡ false → after m k ≡ at m k) → AreHints after (hints_at n page q hints)
hints_placed at after n page q hints fine here others = placed_by at after n page q hints fine here others (is_private q) refl

-- where the pages that are private in a frame stay
pub hints_where : (at after : ℕ → ℕ → Place) (hints : List Hint) → AreHints at hints → ((m k : ℕ) → is_private (at m k) ≡ true → after m k ≡ at m k) → AreHints after hints
hints_where at after hints fine same = record {
  ordered = fine.ordered;
  one = fine.one;
  private = all_map (λ (h : Hint). is_private (at h.vm h.page) ≡ true) (λ (h : Hint). is_private (after h.vm h.page) ≡ true) (λ h e. ap is_private (same h.vm h.page e) ∙ e) hints fine.private;
  keys = fine.keys;
}

pub hints_stay : (at after : ℕ → ℕ → Place) (hints : List Hint) → AreHints at hints → ((m k : ℕ) → after m k ≡ at m k) → AreHints after hints
hints_stay at after hints fine same = hints_where at after hints fine (λ m k e. same m k)

-- A page that is here and private becomes the hint under its short.

all_in_order_one : (P : Hint → Type 0) (new x : Hint) (xs : List Hint) → P new → AllByRecursion P (x ∷ xs) → AllByRecursion P (in_order new xs) → (b : Bool) → AllByRecursion P (cond b (new ∷ x ∷ xs) (x ∷ in_order new xs))
all_in_order_one P new x xs p h rest true = (p, h)
all_in_order_one P new x xs p h rest false = (h.0, rest)

all_in_order : (P : Hint → Type 0) (new : Hint) (hints : List Hint) → P new → AllByRecursion P hints → AllByRecursion P (in_order new hints)
all_in_order P new [] p h = (p, tt)
all_in_order P new (x ∷ xs) p h = all_in_order_one P new x xs p h (all_in_order P new xs p h.1) (nat_le new.key x.key)

below_or_same : (a b : ℕ) → nat_le a b ≡ true → b ≢ a → a < b
below_or_same a b h other = grind (arith, nat_tests)

above : (a b : ℕ) → nat_le a b ≡ false → b < a
above a b h = grind (arith, nat_tests)

pub in_order_ordered : (new : Hint) (hints : List Hint) → AreOrdered hints → AllByRecursion (λ (h : Hint). h.key ≢ new.key) hints → AreOrdered (in_order new hints)
in_order_ordered new [] h others = (tt, tt)
in_order_ordered new (x ∷ xs) h others = of (nat_le new.key x.key) refl (in_order_ordered new xs h.1 others.1)
  where
    of : (b : Bool) → nat_le new.key x.key ≡ b → AreOrdered (in_order new xs) → AreOrdered (cond b (new ∷ x ∷ xs) (x ∷ in_order new xs))
    of true e rest =
        let less = below_or_same new.key x.key e others.0 in
        ((less, all_map (λ (later : Hint). x.key < later.key) (λ (later : Hint). new.key < later.key) (λ later k. omega (arith, less, k)) xs h.0), h)
    of false e rest = (all_in_order (λ (later : Hint). x.key < later.key) new xs (above new.key x.key e) h.0, rest)

in_order_length_one : (q : Hint → Bool) (new x : Hint) (xs : List Hint) → length (filter q (in_order new xs)) ≡ one (q new) + length (filter q xs) → (b c d : Bool) → q new ≡ c → q x ≡ d
    → length (filter q (cond b (new ∷ x ∷ xs) (x ∷ in_order new xs))) ≡ one (q new) + length (filter q (x ∷ xs))
in_order_length_one q new x xs rest true true true e f = rw (e, f) (omega arith)
in_order_length_one q new x xs rest true true false e f = rw (e, f) (omega arith)
in_order_length_one q new x xs rest true false true e f = rw (e, f) (omega arith)
in_order_length_one q new x xs rest true false false e f = rw (e, f) (omega arith)
in_order_length_one q new x xs rest false true true e f = (let r = rw e at rest in rw (e, f) (omega (arith, r)))
in_order_length_one q new x xs rest false true false e f = (let r = rw e at rest in rw (e, f) (omega (arith, r)))
in_order_length_one q new x xs rest false false true e f = (let r = rw e at rest in rw (e, f) (omega (arith, r)))
in_order_length_one q new x xs rest false false false e f = (let r = rw e at rest in rw (e, f) (omega (arith, r)))

in_order_length : (q : Hint → Bool) (new : Hint) (hints : List Hint) → length (filter q (in_order new hints)) ≡ one (q new) + length (filter q hints)
in_order_length q new [] = of (q new) refl
  where
    of : (b : Bool) → q new ≡ b → length (filter q (new ∷ [])) ≡ one b + 0
    of true e = rw e refl
    of false e = rw e refl
in_order_length q new (x ∷ xs) = in_order_length_one q new x xs (in_order_length q new xs) (nat_le new.key x.key) (q new) (q x) refl refl

none_pass_one : {X : Type 0} (q p : X → Bool) (x : X) (xs : List X) → ((x : X) → p x ≡ true → q x ≡ false) → (b : Bool) → p x ≡ b → length (filter q (filter p xs)) ≡ 0 → length (filter q (cond b (x ∷ filter p xs) (filter p xs))) ≡ 0
none_pass_one q p x xs h true e rest = rw (h x e) rest
none_pass_one q p x xs h false e rest = rest

none_pass : {X : Type 0} (q p : X → Bool) (xs : List X) → ((x : X) → p x ≡ true → q x ≡ false) → length (filter q (filter p xs)) ≡ 0
none_pass q p [] h = refl
none_pass q p (x ∷ xs) h = none_pass_one q p x xs h (p x) refl (none_pass q p xs h)

kept_test : Hint → Hint → Bool
kept_test new h = not ((h.key == new.key) || is_hint_of new.vm new.page h)

kept_key : (new h : Hint) → kept_test new h ≡ true → h.key ≢ new.key
unfolding kept_test
kept_key new h e same = absurd (of (h.key == new.key) refl e)
  where
    of : (b : Bool) → (h.key == new.key) ≡ b → not (b || is_hint_of new.vm new.page h) ≡ true → ⊥
    of true d k = cc
    of false d k = grind (arith, nat_tests)

kept_page : (new h : Hint) → kept_test new h ≡ true → is_hint_of new.vm new.page h ≡ false
unfolding kept_test
kept_page new h e = of (h.key == new.key) (is_hint_of new.vm new.page h) e
  where
    of : (a b : Bool) → not (a || b) ≡ true → b ≡ false
    of true b k = cc
    of false true k = cc
    of false false k = refl

pub hints_more : (at : ℕ → ℕ → Place) (new : Hint) (hints : List Hint) → AreHints at hints → is_private (at new.vm new.page) ≡ true → IsShort new.key → AreHints at (with_hint new hints)
unfolding kept_test
hints_more at new hints fine here key =
    let p = kept_test new in
    let xs = filter p hints in
    record {
      ordered = in_order_ordered new xs (ordered_filter p hints fine.ordered)
          (all_filter (λ (h : Hint). IsShort h.key) (λ (h : Hint). h.key ≢ new.key) p (λ h e k. kept_key new h e) hints fine.keys);
      one = λ n page. one_page n page (is_hint_of n page new) refl;
      private = all_in_order (λ (h : Hint). is_private (at h.vm h.page) ≡ true) new xs here
          (all_filter (λ (h : Hint). is_private (at h.vm h.page) ≡ true) (λ (h : Hint). is_private (at h.vm h.page) ≡ true) p (λ h e k. k) hints fine.private);
      keys = all_in_order (λ (h : Hint). IsShort h.key) new xs key (all_filter (λ (h : Hint). IsShort h.key) (λ (h : Hint). IsShort h.key) p (λ h e k. k) hints fine.keys);
    }
  where
    one_page : (n page : ℕ) (b : Bool) → is_hint_of n page new ≡ b → length (filter (is_hint_of n page) (with_hint new hints)) ≤ 1
    one_page n page true e =
        let same = same_page n page new e in
        let total = in_order_length (is_hint_of n page) new (filter (kept_test new) hints) in
        let some : one (is_hint_of n page new) ≡ 1 = ap one e in
        let none = none_pass (is_hint_of n page) (kept_test new) hints (λ h k. ap (λ m. is_hint_of m page h) (sym same.0) ∙ ap (λ j. is_hint_of new.vm j h) (sym same.1) ∙ kept_page new h k) in
        omega (arith, total, some, none)
    one_page n page false e =
        let total = in_order_length (is_hint_of n page) new (filter (kept_test new) hints) in
        let none : one (is_hint_of n page new) ≡ 0 = ap one e in
        let few = fewer (is_hint_of n page) (kept_test new) hints in
        let old = fine.one n page in
        omega (arith, total, none, few, old)

-- a page that is not here and private has no hint
pub no_hint : (at : ℕ → ℕ → Place) (n page : ℕ) (hints : List Hint) → AreHints at hints → is_private (at n page) ≡ false → without_hint n page hints ≡ hints
no_hint at n page hints fine away =
    filter_all (λ h. not (is_hint_of n page h)) hints (all_map (λ (h : Hint). is_private (at h.vm h.page) ≡ true) (λ (h : Hint). not (is_hint_of n page h) ≡ true) (λ h private. of h private (is_hint_of n page h) refl) hints fine.private)
  where
    of : (h : Hint) → is_private (at h.vm h.page) ≡ true → (b : Bool) → is_hint_of n page h ≡ b → not (is_hint_of n page h) ≡ true
    of h private false e = ap not e
    of h private true e =
        let same = same_page n page h e in
        let no : is_private (at h.vm h.page) ≡ false = ap (λ m. is_private (at m h.page)) same.0 ∙ ap (λ k. is_private (at n k)) same.1 ∙ away in cc

-- the hint that a look finds is of another page that is private in a frame
pub other_hint_private : (at : ℕ → ℕ → Place) (key n page : ℕ) (hints : List Hint) (h : Hint) → AreHints at hints → other_hint key n page hints ≡ Some h
    → (h.key ≡ key) × (is_private (at h.vm h.page) ≡ true) × (is_hint_of n page h ≡ false)
other_hint_private at key n page hints h fine found =
    let p : Hint → Bool = λ (x : Hint). (x.key == key) && not (is_hint_of n page x) in
    let passes = find_passes p hints h found in
    let split = find_in p hints h found in
    let P : List Hint → Type 0 = AllByRecursion (λ (x : Hint). is_private (at x.vm x.page) ≡ true) in
    let tests = both (h.key == key) (is_hint_of n page h) passes in
    (grind (arith, nat_tests), all_middle (λ (x : Hint). is_private (at x.vm x.page) ≡ true) split.0 split.1 h (subst P split.2 fine.private), tests.1)
  where
    both : (a b : Bool) → (a && not b) ≡ true → (a ≡ true) × (b ≡ false)
    both true true h = cc
    both true false h = (refl, refl)
    both false true h = cc
    both false false h = cc
