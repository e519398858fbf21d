-- The running averages of a machine's activity.
use Rattle.std.specs.Prelude.{ℕ, List, Option, Some, None}
use Rattle.esx_formulas.specs.declared.activity.Estimate.{Estimate}
use Rattle.esx_formulas.specs.Average.{touched_share, slower, faster, slow_average, fast_average}

-- the slow and the fast average, in units of 1/`WHOLE`
pub record Means : Type 0 where
  pub slow : ℕ
  pub fast : ℕ

abbrev pub estimate : ℕ → ℕ → Estimate
estimate touched pages = record { touched = touched; pages = pages }

-- what an open period tells so far, if there is one
abbrev pub so_far : Option (ℕ × ℕ) → Option Estimate
so_far None = None
so_far (Some e) = Some (estimate e.0 e.1)

-- the averages over closed periods, the oldest first
abbrev pub means_of : List Estimate → Means
means_of closed = record { slow = slow_average closed; fast = fast_average closed }

-- the averages after one more closed period
abbrev pub next_means : Means → Estimate → Means
next_means m e = record { slow = slower m.slow (touched_share e); fast = faster m.fast (touched_share e) }
