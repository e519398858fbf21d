-- Hints under the upper bits of their keys, where those tell the keys apart.
use Rattle.std.proofs.Common.{◌≡◌, ℕ, ◌<◌, ◌≤◌, Bool, true, false, not, ◌&&◌, ◌||◌, ◌==◌, nat_le, cond, List, [], ◌∷◌, map, refl, sym, ap, ◌∙◌, Option, Some, None, inl, inr, arith}
use Rattle.std.specs.Prelude.{find, filter, option_map}
use Rattle.std.specs.List.{AllByRecursion}
use Rattle.std.proofs.lemmas.Bool.{cases_lt}
use Rattle.std.proofs.lemmas.Bool.Decides.{nat_tests}
use Rattle.esx_types.specs.declared.table.Hint.{Hint}
use Rattle.esx_formulas.specs.Key.{content_key, short_of}
use Rattle.esx_model.specs.Hints.{is_hint_of, without_hint, in_order, with_hint, other_hint}
use Rattle.esx_laws.specs.Versions.{cut_hint, AreApart}

-- Lists whose elements are changed one by one.

filter_cut : (p q : Hint → Bool) (Q : Hint → Type 0) → ((h : Hint) → Q h → p (cut_hint h) ≡ q h) → (hints : List Hint) → AllByRecursion Q hints → filter p (map cut_hint hints) ≡ map cut_hint (filter q hints)
filter_cut p q Q same [] known = refl
filter_cut p q Q same (h ∷ hints) known =
    ap (λ t. cond t (cut_hint h ∷ filter p (map cut_hint hints)) (filter p (map cut_hint hints))) (same h known.0)
    ∙ ap (λ xs. cond (q h) (cut_hint h ∷ xs) xs) (filter_cut p q Q same hints known.1)
    ∙ of (q h)
  where
    of : (t : Bool) → cond t (cut_hint h ∷ map cut_hint (filter q hints)) (map cut_hint (filter q hints)) ≡ map cut_hint (cond t (h ∷ filter q hints) (filter q hints))
    of true = refl
    of false = refl

find_cut : (p q : Hint → Bool) (Q : Hint → Type 0) → ((h : Hint) → Q h → p (cut_hint h) ≡ q h) → (hints : List Hint) → AllByRecursion Q hints → find p (map cut_hint hints) ≡ option_map cut_hint (find q hints)
find_cut p q Q same [] known = refl
find_cut p q Q same (h ∷ hints) known =
    ap (λ t. cond t (Some (cut_hint h)) (find p (map cut_hint hints))) (same h known.0)
    ∙ ap (λ o. cond (q h) (Some (cut_hint h)) o) (find_cut p q Q same hints known.1)
    ∙ of (q h)
  where
    of : (t : Bool) → cond t (Some (cut_hint h)) (option_map cut_hint (find q hints)) ≡ option_map cut_hint (cond t (Some h) (find q hints))
    of true = refl
    of false = refl

pub all_kept : (Q : Hint → Type 0) (p : Hint → Bool) (hints : List Hint) → AllByRecursion Q hints → AllByRecursion Q (filter p hints)
all_kept Q p [] known = tt
all_kept Q p (h ∷ hints) known = of (all_kept Q p hints known.1) (p h)
  where
    of : AllByRecursion Q (filter p hints) → (t : Bool) → AllByRecursion Q (cond t (h ∷ filter p hints) (filter p hints))
    of rest true = (known.0, rest)
    of rest false = rest

all_placed : (Q : Hint → Type 0) (new : Hint) (hints : List Hint) → Q new → AllByRecursion Q hints → AllByRecursion Q (in_order new hints)
all_placed Q new [] fine known = (fine, tt)
all_placed Q new (h ∷ hints) fine known = of (all_placed Q new hints fine known.1) (nat_le new.key h.key)
  where
    of : AllByRecursion Q (in_order new hints) → (t : Bool) → AllByRecursion Q (cond t (new ∷ h ∷ hints) (h ∷ in_order new hints))
    of rest true = (fine, (known.0, known.1))
    of rest false = (known.0, rest)

-- what is found is one of them
abbrev pub OnHint : (Hint → Type 0) → Option Hint → Type 0
OnHint Q None = Unit {0}
OnHint Q (Some h) = Q h

pub all_found : (Q : Hint → Type 0) (p : Hint → Bool) (hints : List Hint) → AllByRecursion Q hints → OnHint Q (find p hints)
all_found Q p [] known = tt
all_found Q p (h ∷ hints) known = of (all_found Q p hints known.1) (p h)
  where
    of : OnHint Q (find p hints) → (t : Bool) → OnHint Q (cond t (Some h) (find p hints))
    of rest true = known.0
    of rest false = rest

-- a page's hint stands under no key
pub without_cut : (n page : ℕ) (hints : List Hint) → without_hint n page (map cut_hint hints) ≡ map cut_hint (without_hint n page hints)
without_cut n page hints = filter_cut (λ h. not (is_hint_of n page h)) (λ h. not (is_hint_of n page h)) (λ h. Unit {0}) (λ h k. refl) hints (all hints)
  where
    all : (hints : List Hint) → AllByRecursion (λ (h : Hint). Unit {0}) hints
    all [] = tt
    all (h ∷ hints) = (tt, all hints)

equal_tests : (x y a b : ℕ) → (x ≡ y → a ≡ b) → (a ≡ b → x ≡ y) → (x == y) ≡ (a == b)
equal_tests x y a b to back = of (x == y) (a == b) refl refl
  where
    of : (s t : Bool) → (x == y) ≡ s → (a == b) ≡ t → (x == y) ≡ (a == b)
    of true true e f = e ∙ sym f
    of false false e f = e ∙ sym f
    of true false e f = (let p : x ≡ y = grind (arith, nat_tests) in let q = to p in absurd (grind (arith, nat_tests)))
    of false true e f = (let p : a ≡ b = grind (arith, nat_tests) in let q = back p in absurd (grind (arith, nat_tests)))

module _ (looked : List ℕ → Bool) (apart : AreApart looked) where
  -- the key of a content that was looked at
  pub IsKnown : ℕ → Type 0
  IsKnown key = (bytes : List ℕ) × (looked bytes ≡ true) × (key ≡ content_key bytes)

  pub known_key : (bytes : List ℕ) → looked bytes ≡ true → IsKnown (content_key bytes)
  unfolding IsKnown
  known_key bytes h = (bytes, h, refl)

  same_key : (a b : ℕ) → IsKnown a → IsKnown b → short_of a ≡ short_of b → a ≡ b
  unfolding IsKnown
  same_key a b known other e =
      known.2 ∙ apart known.0 other.0 known.1 other.1 (ap short_of (sym known.2) ∙ e ∙ ap short_of other.2) ∙ sym other.2

  pub key_test : (a b : ℕ) → IsKnown a → IsKnown b → (short_of a == short_of b) ≡ (a == b)
  key_test a b known other = equal_tests (short_of a) (short_of b) a b (same_key a b known other) (ap short_of)

  order_test : (a b : ℕ) → IsKnown a → IsKnown b → nat_le (short_of a) (short_of b) ≡ nat_le a b
  order_test a b known other =
      elim (cases_lt (short_of b) (short_of a)) [
        | inl p ↦ (let q : b < a = omega (arith, p) in above (short_of a) (short_of b) p ∙ sym (above a b q))
        | inr p ↦ elim (cases_lt (short_of a) (short_of b)) [
          | inl q ↦ (let r : a ≤ b = omega (arith, q) in below (short_of a) (short_of b) p ∙ sym (below a b r))
          | inr q ↦ (let e : a ≡ b = same_key a b known other (omega arith) in let r : a ≤ b = omega (arith, e) in below (short_of a) (short_of b) p ∙ sym (below a b r))
        ]
      ]
    where
      above : (x y : ℕ) → y < x → nat_le x y ≡ false
      above x y h = grind (arith, nat_tests)

      below : (x y : ℕ) → x ≤ y → nat_le x y ≡ true
      below x y h = grind (arith, nat_tests)

  abbrev pub AreKnown : List Hint → Type 0
  AreKnown hints = AllByRecursion (λ (h : Hint). IsKnown h.key) hints

  pub other_cut : (key n page : ℕ) (hints : List Hint) → IsKnown key → AreKnown hints → other_hint (short_of key) n page (map cut_hint hints) ≡ option_map cut_hint (other_hint key n page hints)
  other_cut key n page hints fine known =
      find_cut (λ h. (h.key == short_of key) && not (is_hint_of n page h)) (λ h. (h.key == key) && not (is_hint_of n page h)) (λ h. IsKnown h.key)
      (λ h k. ap (λ t. t && not (is_hint_of n page h)) (key_test h.key key k fine)) hints known

  placed_cut : (new : Hint) (hints : List Hint) → IsKnown new.key → AreKnown hints → in_order (cut_hint new) (map cut_hint hints) ≡ map cut_hint (in_order new hints)
  placed_cut new [] fine known = refl
  placed_cut new (h ∷ hints) fine known =
      ap (λ t. cond t (cut_hint new ∷ cut_hint h ∷ map cut_hint hints) (cut_hint h ∷ in_order (cut_hint new) (map cut_hint hints))) (order_test new.key h.key fine known.0)
      ∙ ap (λ xs. cond (nat_le new.key h.key) (cut_hint new ∷ cut_hint h ∷ map cut_hint hints) (cut_hint h ∷ xs)) (placed_cut new hints fine known.1)
      ∙ of (nat_le new.key h.key)
    where
      of : (t : Bool) → cond t (cut_hint new ∷ cut_hint h ∷ map cut_hint hints) (cut_hint h ∷ map cut_hint (in_order new hints)) ≡ map cut_hint (cond t (new ∷ h ∷ hints) (h ∷ in_order new hints))
      of true = refl
      of false = refl

  pub with_cut : (new : Hint) (hints : List Hint) → IsKnown new.key → AreKnown hints → with_hint (cut_hint new) (map cut_hint hints) ≡ map cut_hint (with_hint new hints)
  with_cut new hints fine known =
      let p : Hint → Bool = λ h. not ((h.key == short_of new.key) || is_hint_of new.vm new.page h) in
      let q : Hint → Bool = λ h. not ((h.key == new.key) || is_hint_of new.vm new.page h) in
      ap (in_order (cut_hint new)) (filter_cut p q (λ h. IsKnown h.key) (λ h k. ap (λ t. not (t || is_hint_of new.vm new.page h)) (key_test h.key new.key k fine)) hints known)
      ∙ placed_cut new (filter q hints) fine (all_kept (λ (h : Hint). IsKnown h.key) q hints known)

  pub with_known : (new : Hint) (hints : List Hint) → IsKnown new.key → AreKnown hints → AreKnown (with_hint new hints)
  with_known new hints fine known =
      all_placed (λ (h : Hint). IsKnown h.key) new (filter (λ h. not ((h.key == new.key) || is_hint_of new.vm new.page h)) hints) fine
      (all_kept (λ (h : Hint). IsKnown h.key) (λ h. not ((h.key == new.key) || is_hint_of new.vm new.page h)) hints known)
