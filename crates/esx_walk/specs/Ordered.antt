-- The order of machines, row by row.
use Rattle.std.specs.Prelude.{ℕ, Option, Some, None, if◌then◌else◌}
use Rattle.esx_formulas.specs.declared.targets.Row.{Row}
use Rattle.esx_formulas.specs.Ratio.{Claim, claim}
use Rattle.esx_story.specs.Order.{is_other_above, sooner_row}

-- the claim of a row at the pages that it has
abbrev pub claim_of : Option Row → Option Claim
claim_of None = None
claim_of (Some row) = Some (claim row row.pages)

-- the row that comes first of those so far and one more
abbrev pub next_step : ℕ → Option Row → Row → Option Row
next_step n best row = if is_other_above n row then sooner_row best row else best
