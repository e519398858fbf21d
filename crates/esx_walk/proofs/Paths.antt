-- A path that a walk goes event by event.
use Rattle.std.proofs.Common.{◌≡◌, ℕ, zero, suc, ◌+◌, ◌<◌, ◌≤◌, List, [], ◌∷◌, ◌++◌, length, take, get_or, slice_get, refl, sym, ap, ◌∙◌, arith, Some}
use Rattle.esx_events.specs.declared.event.Event.{Event}

take_next : (es : List Event) (i : ℕ) (e : Event) → i < length es → e ≡ get_or es i e → take i es ++ e ∷ [] ≡ take (suc i) es
take_next [] i e below is = absurd (omega (arith, below))
take_next (x ∷ es) zero e below is = ap (λ (y : Event). y ∷ []) is
take_next (x ∷ es) (suc i) e below is = ap (λ (ys : List Event). x ∷ ys) (take_next es i e (omega (arith, below)) is)

-- so far, and one more
pub taken : (es : List Event) (i : ℕ) (e : Event) → i < length es → e ≡ get_or es i e → take i es ++ e ∷ [] ≡ take (i + 1) es
taken es i e below is = take_next es i e below is ∙ ap (λ k. take k es) (let same : suc i ≡ i + 1 = omega arith in same)

pub item_there : (es : List Event) (i : ℕ) (e : Event) → i < length es → e ≡ get_or es i e → slice_get es i ≡ Some e
item_there [] i e below is = absurd (omega (arith, below))
item_there (x ∷ es) zero e below is = ap (λ (y : Event). Some y) (sym is)
item_there (x ∷ es) (suc i) e below is = item_there es i e (omega (arith, below)) is

pub short_front : (es : List Event) (i : ℕ) → length (take i es) ≤ i
short_front [] zero = omega arith
short_front [] (suc i) = omega arith
short_front (x ∷ es) zero = omega arith
short_front (x ∷ es) (suc i) = (let rest = short_front es i in omega (arith, rest))
