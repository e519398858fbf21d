-- Ends that wait, and lines behind one another.
use Rattle.std.proofs.Common.{◌≡◌, ℕ, List, [], ◌∷◌, ◌++◌, ◌<◌, ◌≤◌, ◌+◌, refl, ◌∙◌, ap, take, drop, length, arith, suc, get_or, add-one, length-take, length-drop, drop-cons, nat_eq, IsTrue, eqb-true, eq-eqb}
use Rattle.std.proofs.lemmas.List.{get_or-take}
use Rattle.esx_text.specs.Lines.{EndsAt, HasLines}

no_elements : (xs : List ℕ) → length xs ≡ 0 → xs ≡ []
no_elements [] e = refl
no_elements (x ∷ xs) e = absurd (omega (arith, e))

-- none waits where the next would be behind the last
pub none_waits : (xs : List ℕ) (next found : ℕ) → next ≤ found → found ≤ length xs
    → (IsTrue (nat_eq next found) → drop next (take found xs) ≡ []) × (drop next (take found xs) ≡ [] → IsTrue (nat_eq next found))
none_waits xs next found le within = (
  λ t. no_elements (drop next (take found xs)) (omega (arith, eqb-true next found t, length-drop next (take found xs), length-take found xs)),
  λ e. let same : next ≡ found = omega (arith, le, within, ap length e, length-drop next (take found xs), length-take found xs) in eq-eqb next found same,
)

-- the next of those that wait
pub next_waits : (xs : List ℕ) (next found : ℕ) → next < found → found ≤ length xs → drop next (take found xs) ≡ get_or xs next 0 ∷ drop (next + 1) (take found xs)
next_waits xs next found l le =
    rw add-one (drop-cons (take found xs) next 0 (omega (arith, l, le, length-take found xs)) ∙ ap (λ n. n ∷ drop (suc next) (take found xs)) (get_or-take found xs next 0 l))

-- behind lines of these lengths
abbrev pub behind : List ℕ → List ℕ → List ℕ
behind text [] = text
behind text (n ∷ ns) = behind (drop (n + 1) text) ns

pub one_line_more : (text ns : List ℕ) (at : ℕ) → HasLines text ns → EndsAt (behind text ns) at → HasLines text (ns ++ at ∷ [])
one_line_more text [] at has more = (more, tt)
one_line_more text (n ∷ ns) at has more = (has.0, one_line_more (drop (n + 1) text) ns at has.1 more)

pub behind_one_more : (text ns : List ℕ) (at : ℕ) → behind text (ns ++ at ∷ []) ≡ drop (at + 1) (behind text ns)
behind_one_more text [] at = refl
behind_one_more text (n ∷ ns) at = behind_one_more (drop (n + 1) text) ns at
