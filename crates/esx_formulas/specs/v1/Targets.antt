-- The taxed ratio and targets of version 1: one tax for all machines, and no factor that cancels where the tax is common.
use Rattle.std.specs.Prelude.{ℕ, zero, suc, ◌-◌, ◌*◌, nat_lt, List, map, fold, Option, None, if◌then◌else◌}
use Rattle.esx_formulas.specs.declared.targets.Row.{Row}
use Rattle.esx_formulas.specs.declared.ratio.TheConstants.{WHOLE_PRICE}
use Rattle.esx_formulas.specs.Ratio.{Claim}
use Rattle.esx_formulas.specs.Targets.{held, sooner, with_pages, paid}

-- the taxed ratio of a row, were it to have so many pages
abbrev pub claim : ℕ → Row → ℕ → Claim
claim tau row pages = record { vm = row.vm; over = row.shares; under = pages * (WHOLE_PRICE - tau * row.active) }

unfoldable pub first_claim : ℕ → List Row → Option Claim
first_claim tau rows = fold (λ best row. if nat_lt row.floor row.pages then sooner best (claim tau row row.pages) else best) None rows

unfoldable pub after_revoking : ℕ → ℕ → List Row → List Row
after_revoking tau zero rows = rows
after_revoking tau (suc n) rows = after_revoking tau n (paid rows (first_claim tau rows))

unfoldable pub targets_of : ℕ → List Row → ℕ → List ℕ
targets_of tau rows need = map (λ (row : Row). row.pages) (after_revoking tau need (map (λ (row : Row). with_pages row (held row)) rows))
