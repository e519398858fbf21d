-- Texts in which a byte stands nowhere.
use Rattle.std.proofs.Common.{◌≡◌, ◌+◌, ◌/◌, ◌%◌, ◌<◌, ℕ, zero, suc, Bool, true, false, List, [], ◌∷◌, refl, sym, ◌∙◌, ap, decimal, ◌==◌, if◌then◌else◌, arith}
use Rattle.std.specs.Prelude.{not}
use Rattle.std.specs.List.{list_all}
use Rattle.std.specs.Fmt.{digits, digits_onto, digit_glyph}
use Rattle.std.proofs.lemmas.Bool.{and_from, lt-ltb, ne_eqb}

abbrev pub is_other : ℕ → ℕ → Bool
is_other mark b = not (b == mark)

-- the mark stands nowhere in the bytes
abbrev pub lacks : ℕ → List ℕ → Bool
lacks mark = list_all (is_other mark)

pub differs : (mark b : ℕ) → (b ≡ mark → ⊥) → is_other mark b ≡ true
differs mark b ne = ap not (ne_eqb b mark ne)

glyph_is : (d : ℕ) → d < 10 → digit_glyph false d ≡ 48 + d
glyph_is d small = ap (λ v. if v then 48 + d else 87 + d) (lt-ltb d 10 small)

module _ (mark : ℕ) (no_digit : (d : ℕ) → d < 10 → 48 + d ≡ mark → ⊥) where
  digit_lacks : (n : ℕ) (acc : List ℕ) → lacks mark acc ≡ true → lacks mark (digit_glyph false (n % 10) ∷ acc) ≡ true
  digit_lacks n acc h =
      let small : n % 10 < 10 = omega arith in
      and_from (is_other mark (digit_glyph false (n % 10))) (lacks mark acc)
      (differs mark (digit_glyph false (n % 10)) (λ e. no_digit (n % 10) small (sym (glyph_is (n % 10) small) ∙ e))) h

  onto_lacks : (k n : ℕ) (acc : List ℕ) → lacks mark acc ≡ true → lacks mark (digits_onto k 10 false n acc) ≡ true
  onto_lacks zero n acc h = h
  onto_lacks (suc k) n acc h =
      elim (n / 10 == 0) as (λ v. lacks mark (if v then digit_glyph false (n % 10) ∷ acc else digits_onto k 10 false (n / 10) (digit_glyph false (n % 10) ∷ acc)) ≡ true) [
        | true ↦ digit_lacks n acc h
        | false ↦ onto_lacks k (n / 10) (digit_glyph false (n % 10) ∷ acc) (digit_lacks n acc h)
      ]

  -- a mark that is no digit
  pub decimal_lacks : (n : ℕ) → lacks mark (decimal n) ≡ true
  unfolding digits
  decimal_lacks n = onto_lacks 64 n [] refl
