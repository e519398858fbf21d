-- The lines of a session, each alone.
use Rattle.std.proofs.Common.{◌≡◌, ◌<◌, ◌^◌, ◌↔◌, ℕ, List, Bool, true, false, ◌++◌, decimal, codes, arith, sym, ap, ◌∙◌}
use Rattle.std.specs.Prelude.{Option, None, Some, IfSome, IfNone, IsTrue}
use Rattle.std.specs.Option.{option_eq}
use Rattle.std.proofs.Math.Dec.{eqb}
use Rattle.std.proofs.lemmas.Bool.Decides.{Decides-eqb}
use Rattle.std.proofs.lemmas.Fmt.{decimal_injective}

-- a number that was read is the one that is wanted
same_number : (text : List ℕ) (n count : ℕ) → n < 2 ^ 64 → count < 2 ^ 64 → text ≡ decimal n → (b : Bool) → b ≡ eqb n count → IsTrue b ↔ (text ≡ decimal count)
same_number text n count small fits e b t = (
  λ is. let q : n ≡ count = grind (arith, Decides-eqb n count) in e ∙ ap decimal q,
  λ is. let q = decimal_injective n count small fits (sym e ∙ is) in rw t (grind (arith, Decides-eqb n count)),
)

pub is_number : (text : List ℕ) (found : Option ℕ) (count : ℕ) → count < 2 ^ 64
    → IfSome found (λ n. (n < 2 ^ 64) × (text ≡ decimal n)) → IfNone found ((n : ℕ) → n < 2 ^ 64 → text ≡ decimal n → ⊥)
    → (b : Bool) → b ≡ option_eq eqb found (Some count) → IsTrue b ↔ (text ≡ decimal count)
is_number text None count fits some none b t = (λ is. absurd (let q : true ≡ false = sym is ∙ t in cc), λ is. absurd (none count fits is))
is_number text (Some n) count fits some none b t = same_number text n count some.0 fits some.1 b t

-- behind a known front
pub is_behind : (line front text : List ℕ) (count : ℕ) (b : Bool) → line ≡ front ++ text → IsTrue b ↔ (text ≡ decimal count)
    → ((x y : List ℕ) → front ++ x ≡ front ++ y → x ≡ y) → IsTrue b ↔ (line ≡ front ++ decimal count)
is_behind line front text count b e h same = (λ t. e ∙ ap (λ v. front ++ v) (h.0 t), λ q. h.1 (same text (decimal count) (sym e ∙ q)))

pub same_end : (x y : List ℕ) → codes "end " ++ x ≡ codes "end " ++ y → x ≡ y
same_end x y e = cc
