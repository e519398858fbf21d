-- The numbers of a machine on a path, as far as they have to fit their types.
use Rattle.std.specs.Prelude.{◌≡◌, ◌≤◌, ◌<◌, length, Some, All}
use Rattle.esx_types.specs.declared.config.TheConstants.{MAX_LENGTH, MAX_OVERHEAD, MAX_PAGES, MAX_SAMPLE, MAX_SHARES}
use Rattle.esx_formulas.specs.declared.activity.Period.{Period}
use Rattle.esx_formulas.specs.Estimates.{IsEstimate}
use Rattle.esx_model.specs.declared.scene.Vm.{Vm}

pub record HasNumbers (v : Vm) : Type 0 where
  pub places : length v.places ≡ v.spec.max
  pub max : v.spec.max ≤ MAX_PAGES
  pub least_max : 1 ≤ v.spec.max
  pub shares : 1 ≤ v.spec.shares
  pub most_shares : v.spec.shares ≤ MAX_SHARES
  pub floor : v.spec.min ≤ v.spec.max
  pub overhead : length v.overhead ≤ MAX_OVERHEAD
  pub closed : All IsEstimate v.closed
  pub pages : (p : Period) → v.period ≡ Some p → 1 ≤ length p.pages
  pub most_pages : (p : Period) → v.period ≡ Some p → length p.pages ≤ MAX_SAMPLE
  pub accessed : (p : Period) → v.period ≡ Some p → length p.accessed < MAX_LENGTH
