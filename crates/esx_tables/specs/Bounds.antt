-- What a machine's row keeps of what the machine asked for: all but its shares, which events change.
use Rattle.std.specs.Prelude.{◌-◌, ◌≤◌}
use Rattle.esx_types.specs.declared.config.TheConstants.{MAX_OVERHEAD, MAX_PAGES}
use Rattle.esx_types.specs.declared.vm.VmSpec.{VmSpec}

-- the sizes are in their ranges
pub record AreSizes (s : VmSpec) : Type 0 where
  pub least_min : 1 ≤ s.min
  pub min_max : s.min ≤ s.max
  pub most_max : s.max ≤ MAX_PAGES
  pub least_overhead : 1 ≤ s.overhead
  pub most_overhead : s.overhead ≤ MAX_OVERHEAD
  pub most_balloon : s.balloon_max ≤ s.max - s.min
