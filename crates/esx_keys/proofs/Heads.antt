-- The number of heads is the least power of two that is not less than the room.
use Rattle.std.proofs.Common.{◌≡◌, ℕ, zero, suc, ◌+◌, ◌*◌, ◌/◌, ◌^◌, ◌<◌, ◌≤◌, refl, sym, ap, ◌∙◌, inl, inr, arith, add-one}
use Rattle.std.proofs.Math.Nat.{pow-succ', le-mul_of_pos_right, mul_assoc, mul_comm, one-mul}
use Rattle.std.proofs.lemmas.Nat.{pow_pos}
use Rattle.std.proofs.Math.Pow.{pow_mono}
use Rattle.std.proofs.lemmas.Bool.{cases_Bool, cases_lt, le-leb, lt-leb, cond-true, cond-false}
use Rattle.std.specs.Prelude.{nat_le, max}
use Rattle.std.specs.Int.{IsPowerOfTwo, IsNextPowerOfTwo}
use Rattle.esx_keys.specs.Table.{doubled_to, head_count}

doubled_is_power : (more a n : ℕ) → IsPowerOfTwo (doubled_to more (2 ^ a) n)
doubled_is_power zero a n = (a, refl)
doubled_is_power (suc more) a n =
    elim (cases_Bool (nat_le n (2 ^ a))) [
      | inl e ↦ (a, cond-true _ _ _ e)
      | inr e ↦
          let twice : 2 * 2 ^ a ≡ 2 ^ (a + 1) = rw add-one (sym (pow-succ' 2 a)) in
          let later = doubled_is_power more (a + 1) n in
          (later.0, cond-false _ _ _ e ∙ ap (λ q. doubled_to more q n) twice ∙ later.1)
    ]

pub head_count-is_power : (room : ℕ) → IsPowerOfTwo (head_count room)
unfolding head_count
head_count-is_power room = doubled_is_power 32 0 room

pub head_count-positive : (room : ℕ) → 0 < head_count room
head_count-positive room = let power = head_count-is_power room in rw power.1 (pow_pos power.0)

-- a double of q, doubled k times more
twice : (q k : ℕ) → q * 2 ^ suc k ≡ 2 * q * 2 ^ k
twice q k = ap (λ x. q * x) (pow-succ' 2 k) ∙ sym (mul_assoc q 2 (2 ^ k)) ∙ ap (λ x. x * 2 ^ k) (mul_comm q 2)

-- q * 2 ^ k is reached by doubling q, where its half is not enough
doubled-reaches : (more k q n p : ℕ) → p ≡ q * 2 ^ k → k ≤ more → 0 < q → n ≤ p → p / 2 < max 1 n → doubled_to more q n ≡ p
doubled-reaches zero zero q n p e few positive enough least = omega arith
doubled-reaches zero (suc k) q n p e few positive enough least = absurd (omega arith)
doubled-reaches (suc more) zero q n p e few positive enough least =
    let same : p ≡ q = omega arith in
    cond-true (nat_le n q) q (doubled_to more (2 * q) n) (le-leb n q (omega arith)) ∙ sym same
doubled-reaches (suc more) (suc k) q n p e few positive enough least =
    let split : p ≡ 2 * q * 2 ^ k = e ∙ twice q k in
    let large : 2 * q ≤ 2 * q * 2 ^ k = le-mul_of_pos_right (2 * q) (pow_pos k) in
    let short : q < n = omega arith in
    cond-false (nat_le n q) q (doubled_to more (2 * q) n) (lt-leb n q short)
    ∙ doubled-reaches more k (2 * q) n p split (omega arith) (omega arith) enough least

-- the least power of two for a number of 32 bits is 2 ^ 32 at most
few_doublings : (room p : ℕ) → room < 2 ^ 32 → (is_next : IsNextPowerOfTwo room p) → is_next.0.0 < 33
few_doublings room p fits is_next =
    elim (cases_lt is_next.0.0 33) [
      | inl below ↦ below
      | inr above ↦ absurd (omega (arith, pow_mono above, is_next.0.1, is_next.2))
    ]

pub next_power_of_two-fits : (room p : ℕ) → room < 2 ^ 32 → IsNextPowerOfTwo room p → p ≤ 2 ^ 32
next_power_of_two-fits room p fits is_next =
    let few : is_next.0.0 ≤ 32 = omega (arith, few_doublings room p fits is_next) in
    omega (arith, is_next.0.1, pow_mono few)

pub head_count-least : (room p : ℕ) → room < 2 ^ 32 → IsNextPowerOfTwo room p → head_count room ≡ p
unfolding head_count
head_count-least room p fits is_next =
    let k = is_next.0.0 in
    doubled-reaches 32 k 1 room p (is_next.0.1 ∙ sym (one-mul (2 ^ k))) (omega (arith, few_doublings room p fits is_next)) (omega arith) is_next.1 is_next.2
