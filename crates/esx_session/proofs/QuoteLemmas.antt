-- Replies behind equals signs: what they are, and that they end where another line begins.
use Rattle.std.proofs.Common.{◌≡◌, ◌<◌, ℕ, List, Bool, true, false, [], ◌∷◌, ◌++◌, arith, refl, sym, ap, inl, inr, ◌⊎◌}
use Rattle.std.specs.List.{AllByRecursion}
use Rattle.std.proofs.Math.Dec.{eqb}
use Rattle.std.proofs.lemmas.Bool.Decides.{Decides-eqb}
use Rattle.esx_session.specs.Sessions.{quoted_from, quoted}
use Rattle.esx_session.specs.Reading.{HasNoFeed}

-- a text whose lines are all ended; not `fresh`, it goes on within a line
abbrev pub Closes : (fresh : Bool) → List ℕ → Type 0
Closes true [] = Unit {0}
Closes false [] = ⊥
Closes fresh (b ∷ bs) = Closes (eqb b 10) bs

abbrev pub AreAscii : List ℕ → Type 0
AreAscii = AllByRecursion (λ b. b < 128)

-- the text does not begin with a line of a reply
abbrev pub NoQuote : List ℕ → Type 0
NoQuote text = (line later : List ℕ) → HasNoFeed line → AreAscii line → text ≡ 61 ∷ 32 ∷ (line ++ 10 ∷ later) → ⊥

by_test : (b : ℕ) (t : Bool) → eqb b 10 ≡ t → (eqb b 10 ≡ true) × (b ≡ 10) ⊎ (eqb b 10 ≡ false) × (b ≡ 10 → ⊥)
by_test b true e = inl (e, grind (arith, Decides-eqb b 10))
by_test b false e = inr (e, λ is. grind (arith, Decides-eqb b 10))

pub tests_feed : (b : ℕ) → (eqb b 10 ≡ true) × (b ≡ 10) ⊎ (eqb b 10 ≡ false) × (b ≡ 10 → ⊥)
tests_feed b = by_test b (eqb b 10) refl

-- the first line of what goes on within one
first_line : (a text : List ℕ) → Closes false a → AreAscii a
    → (line : List ℕ) × (later : List ℕ) × (quoted_from false a ++ text ≡ line ++ 10 ∷ later) × HasNoFeed line × AreAscii line
first_line [] text ends ascii = absurd ends
first_line (b ∷ a) text ends ascii = elim (tests_feed b) [
  | inl is ↦ ([], quoted_from (eqb b 10) a ++ text, ap (λ x. x ∷ (quoted_from (eqb b 10) a ++ text)) is.1, tt, tt)
  | inr is ↦ (let h = rw is.0 at ends in let more = first_line a text h ascii.1 in
      (b ∷ more.0, more.1, rw is.0 (ap (λ t. b ∷ t) more.2), (is.1, more.3), (ascii.0, more.4)))
]

-- a reply that is not empty begins with a line
pub first_quote : (b : ℕ) (a text : List ℕ) → Closes true (b ∷ a) → AreAscii (b ∷ a)
    → (line : List ℕ) × (later : List ℕ) × (quoted (b ∷ a) ++ text ≡ 61 ∷ 32 ∷ (line ++ 10 ∷ later)) × HasNoFeed line × AreAscii line
first_quote b a text ends ascii =
    let first = first_line (b ∷ a) text ends ascii in
    (first.0, first.1, ap (λ t. 61 ∷ 32 ∷ t) first.2, first.3, first.4)

pub begins_quote : (b : ℕ) (a text : List ℕ) → Closes true (b ∷ a) → AreAscii (b ∷ a) → NoQuote (quoted (b ∷ a) ++ text) → ⊥
begins_quote b a text ends ascii none =
    let first = first_quote b a text ends ascii in
    none first.0 first.1 first.3 first.4 first.2

-- replies end where no line of a reply follows
same_from : (fresh : Bool) (a b r s : List ℕ) → Closes fresh a → Closes fresh b → AreAscii a → AreAscii b → NoQuote r → NoQuote s
    → quoted_from fresh a ++ r ≡ quoted_from fresh b ++ s → (a ≡ b) × (r ≡ s)
same_from true [] [] r s p q i j m n e = (refl, e)
same_from true [] (y ∷ b) r s p q i j m n e = absurd (begins_quote y b s q j (rw e at m))
same_from true (x ∷ a) [] r s p q i j m n e = absurd (begins_quote x a r p i (rw (sym e) at n))
same_from true (x ∷ a) (y ∷ b) r s p q i j m n e =
    let first : x ≡ y = cc in
    let more : quoted_from (eqb x 10) a ++ r ≡ quoted_from (eqb x 10) b ++ s = rw first (cc) in
    let rest = same_from (eqb x 10) a b r s p (rw first q) i.1 j.1 m n more in
    (cc, rest.1)
same_from false [] b r s p q i j m n e = absurd p
same_from false (x ∷ a) [] r s p q i j m n e = absurd q
same_from false (x ∷ a) (y ∷ b) r s p q i j m n e =
    let first : x ≡ y = cc in
    let more : quoted_from (eqb x 10) a ++ r ≡ quoted_from (eqb x 10) b ++ s = rw first (cc) in
    let rest = same_from (eqb x 10) a b r s p (rw first q) i.1 j.1 m n more in
    (cc, rest.1)

pub same_reply : (a b r s : List ℕ) → Closes true a → Closes true b → AreAscii a → AreAscii b → NoQuote r → NoQuote s
    → quoted a ++ r ≡ quoted b ++ s → (a ≡ b) × (r ≡ s)
same_reply a b r s p q i j m n e = same_from true a b r s p q i j m n e
