-- Fractions that are compared by cross-multiplying: `over / under` of a, b, c as a₁ / a₂ and so on.
use Rattle.std.proofs.Common.{◌≡◌, ℕ, ◌*◌, ◌<◌, ◌≤◌, arith}
use Rattle.std.proofs.Math.Nat.{mul-le-mul_right, le_of_mul-le-mul_right}

-- a ≤ b and b ≤ c give a ≤ c
pub cross_chain : (a₁ a₂ b₁ b₂ c₁ c₂ : ℕ) → 0 < b₂ → a₁ * b₂ ≤ b₁ * a₂ → b₁ * c₂ ≤ c₁ * b₂ → a₁ * c₂ ≤ c₁ * a₂
cross_chain a₁ a₂ b₁ b₂ c₁ c₂ pos p q =
    let p' : a₁ * b₂ * c₂ ≤ b₁ * a₂ * c₂ = mul-le-mul_right c₂ p in
    let q' : b₁ * c₂ * a₂ ≤ c₁ * b₂ * a₂ = mul-le-mul_right a₂ q in
    let r : a₁ * c₂ * b₂ ≤ c₁ * a₂ * b₂ = omega arith in
    le_of_mul-le-mul_right r pos

-- then a = c gives a = b
pub cross_tie_first : (a₁ a₂ b₁ b₂ c₁ c₂ : ℕ) → 0 < c₂ → a₁ * b₂ ≤ b₁ * a₂ → b₁ * c₂ ≤ c₁ * b₂ → a₁ * c₂ ≡ c₁ * a₂ → a₁ * b₂ ≡ b₁ * a₂
cross_tie_first a₁ a₂ b₁ b₂ c₁ c₂ pos p q e =
    let q' : b₁ * c₂ * a₂ ≤ c₁ * b₂ * a₂ = mul-le-mul_right a₂ q in
    let e' : a₁ * c₂ * b₂ ≤ c₁ * a₂ * b₂ = mul-le-mul_right b₂ (omega arith) in
    let e'' : c₁ * a₂ * b₂ ≤ a₁ * c₂ * b₂ = mul-le-mul_right b₂ (omega arith) in
    let r : b₁ * a₂ * c₂ ≤ a₁ * b₂ * c₂ = omega arith in
    let back : b₁ * a₂ ≤ a₁ * b₂ = le_of_mul-le-mul_right r pos in
    omega arith

-- and b = c
pub cross_tie_last : (a₁ a₂ b₁ b₂ c₁ c₂ : ℕ) → 0 < a₂ → a₁ * b₂ ≤ b₁ * a₂ → b₁ * c₂ ≤ c₁ * b₂ → a₁ * c₂ ≡ c₁ * a₂ → b₁ * c₂ ≡ c₁ * b₂
cross_tie_last a₁ a₂ b₁ b₂ c₁ c₂ pos p q e =
    let p' : a₁ * b₂ * c₂ ≤ b₁ * a₂ * c₂ = mul-le-mul_right c₂ p in
    let e' : a₁ * c₂ * b₂ ≤ c₁ * a₂ * b₂ = mul-le-mul_right b₂ (omega arith) in
    let e'' : c₁ * a₂ * b₂ ≤ a₁ * c₂ * b₂ = mul-le-mul_right b₂ (omega arith) in
    let r : c₁ * b₂ * a₂ ≤ b₁ * c₂ * a₂ = omega arith in
    let back : c₁ * b₂ ≤ b₁ * c₂ = le_of_mul-le-mul_right r pos in
    omega arith
