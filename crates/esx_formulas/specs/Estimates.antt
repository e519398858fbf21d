-- What a sample period can tell.
use Rattle.std.specs.Prelude.{◌≤◌}
use Rattle.esx_types.specs.declared.config.TheConstants.{MAX_SAMPLE}
use Rattle.esx_formulas.specs.declared.activity.Estimate.{Estimate}

-- some of at most a hundred sampled pages were touched
pub record IsEstimate (e : Estimate) : Type 0 where
  pub touched : e.touched ≤ e.pages
  pub least_pages : 1 ≤ e.pages
  pub most_pages : e.pages ≤ MAX_SAMPLE
