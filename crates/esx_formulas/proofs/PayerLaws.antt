-- How a search for the row that pays next goes on, and that it finds one.
use Rattle.std.proofs.Common.{◌≡◌, ℕ, zero, suc, ◌+◌, ◌<◌, ◌≤◌, ◌⊎◌, List, length, get_or, Option, Some, None, inl, inr, below_more, add-one, arith}
use Rattle.std.proofs.lemmas.Bool.{cases_lt}
use Rattle.std.proofs.lemmas.List.{get_or_read}
use Rattle.esx_formulas.specs.declared.targets.Row.{Row}
use Rattle.esx_formulas.specs.Ratio.{claim, ComesNoLater, AreRows, row_at, no_row}
use Rattle.esx_formulas.specs.Payers.{IsFirstBelow, AreNoneBelow, IsBestBelow}
use Rattle.esx_formulas.proofs.RatioLaws.{no_later_self, no_later_chain, no_later_either, claim_above_none}

module _ (rows : List Row) (pages : ℕ → ℕ) (n : ℕ) where
  abbrev pub Follows : ℕ → ℕ → Type 0
  Follows i j = (row_at rows j).floor < pages j → ComesNoLater (claim (row_at rows i) (pages i)) (claim (row_at rows j) (pages j))

  pub none_skips : AreNoneBelow rows pages n → pages n ≤ (row_at rows n).floor → AreNoneBelow rows pages (n + 1)
  none_skips h p = record { none = below_more (λ j. pages j ≤ (row_at rows j).floor) n h.none p }

  pub none_takes : AreNoneBelow rows pages n → (row_at rows n).floor < pages n → IsFirstBelow rows pages (n + 1) n
  none_takes h p = record {
    within = omega arith;
    above = p;
    first = below_more (Follows n) n (λ j q r. absurd (omega (arith, h.none j q))) (λ r. no_later_self _);
  }

  pub first_skips : (i : ℕ) → IsFirstBelow rows pages n i → pages n ≤ (row_at rows n).floor → IsFirstBelow rows pages (n + 1) i
  first_skips i h p = record {
    within = omega (arith, h.within);
    above = h.above;
    first = below_more (Follows i) n h.first (λ r. absurd (omega arith));
  }

  pub first_keeps : (i : ℕ) → IsFirstBelow rows pages n i →
      ComesNoLater (claim (row_at rows i) (pages i)) (claim (row_at rows n) (pages n)) → IsFirstBelow rows pages (n + 1) i
  first_keeps i h p = record {
    within = omega (arith, h.within);
    above = h.above;
    first = below_more (Follows i) n h.first (λ r. p);
  }

  pub first_yields : (i : ℕ) → AreRows rows → n < length rows → IsFirstBelow rows pages n i → (row_at rows n).floor < pages n →
      ComesNoLater (claim (row_at rows n) (pages n)) (claim (row_at rows i) (pages i)) → IsFirstBelow rows pages (n + 1) n
  first_yields i are fits h p q = record {
    within = omega arith;
    above = p;
    first = below_more (Follows n) n
        (λ j r s. no_later_chain (claim (row_at rows n) (pages n)) (claim (row_at rows i) (pages i)) (claim (row_at rows j) (pages j))
        (claim_above_none (row_at rows n) (pages n) (are.each n fits) (omega arith))
        (claim_above_none (row_at rows i) (pages i) (are.each i (omega (arith, h.within))) (omega (arith, h.above)))
        (claim_above_none (row_at rows j) (pages j) (are.each j (omega arith)) (omega arith))
        q (h.first j r s))
        (λ r. no_later_self _);
  }

-- one step of a search, where a row and its pages were read
module _ (rows : List Row) (pages : ℕ → ℕ) (n : ℕ) (row : Row) (mine : ℕ) (best after : Option ℕ)
    (fits : n < length rows) (read : row ≡ get_or rows n row) (counted : mine ≡ pages n) (h : IsBestBelow rows pages n best) where
  stands : row ≡ row_at rows n
  stands = get_or_read rows n row fits read no_row

  -- the row has nothing above its floor
  pub best_skips : after ≡ best → mine ≤ row.floor → IsBestBelow rows pages (n + 1) after
  best_skips e below = go best h e
    where
      under : pages n ≤ (row_at rows n).floor
      under = rw (← stands, ← counted) below

      go : (b : Option ℕ) → IsBestBelow rows pages n b → after ≡ b → IsBestBelow rows pages (n + 1) after
      go None g e' = rw e' (none_skips rows pages n g under)
      go (Some b) g e' = rw e' (first_skips rows pages n b g under)

  -- there is no best so far
  pub best_begins : best ≡ None → after ≡ Some n → row.floor < mine → IsBestBelow rows pages (n + 1) after
  best_begins e e' above =
      let none : AreNoneBelow rows pages n = rw e at h in
      rw e' (none_takes rows pages n none (rw (← stands, ← counted) above))

  module _ (b : ℕ) (other : Row) (theirs : ℕ) (found : best ≡ Some b) (read_other : other ≡ get_or rows b other) (counted_other : theirs ≡ pages b) where
    found_first : IsFirstBelow rows pages n b
    found_first = rw found at h

    other_stands : other ≡ row_at rows b
    other_stands = get_or_read rows b other (omega (arith, found_first.within)) read_other no_row

    -- the best so far comes no later
    pub best_keeps : after ≡ Some b → ComesNoLater (claim other theirs) (claim row mine) → IsBestBelow rows pages (n + 1) after
    best_keeps e p = rw e (first_keeps rows pages n b found_first (rw (← stands, ← other_stands, ← counted, ← counted_other) p))

    -- the best so far comes later
    pub best_yields : AreRows rows → after ≡ Some n → row.floor < mine →
        (ComesNoLater (claim other theirs) (claim row mine) → ⊥) → IsBestBelow rows pages (n + 1) after
    best_yields are e above loses =
        rw e (elim (no_later_either (claim (row_at rows b) (pages b)) (claim (row_at rows n) (pages n))) [
          | inl p ↦ absurd (loses (rw (stands, other_stands, counted, counted_other) p))
          | inr p ↦ first_yields rows pages n b are fits found_first (rw (← stands, ← counted) above) p
        ])

-- some row pays next
pub record HasFirst (rows : List Row) (pages : ℕ → ℕ) (n : ℕ) : Type 0 where
  pub at : ℕ
  pub first : IsFirstBelow rows pages n at

pub first_or_none : (rows : List Row) (pages : ℕ → ℕ) (n : ℕ) → AreRows rows → n ≤ length rows →
    HasFirst rows pages n ⊎ AreNoneBelow rows pages n
first_or_none rows pages zero are fits = inr (record { none = λ j p. absurd (omega arith) })
first_or_none rows pages (suc n) are fits =
    rw (← add-one) (elim (cases_lt (row_at rows n).floor (pages n)) [
      | inl above ↦ elim (first_or_none rows pages n are (omega arith)) [
        | inl f ↦ elim (no_later_either (claim (row_at rows f.at) (pages f.at)) (claim (row_at rows n) (pages n))) [
          | inl p ↦ inl (record { at = f.at; first = first_keeps rows pages n f.at f.first p })
          | inr p ↦ inl (record { at = n; first = first_yields rows pages n f.at are (omega arith) f.first above p })
        ]
        | inr none ↦ inl (record { at = n; first = none_takes rows pages n none above })
      ]
      | inr below ↦ elim (first_or_none rows pages n are (omega arith)) [
        | inl f ↦ inl (record { at = f.at; first = first_skips rows pages n f.at f.first below })
        | inr none ↦ inr (none_skips rows pages n none below)
      ]
    ])
