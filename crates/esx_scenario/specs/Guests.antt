-- The virtual machines of a scenario.
use Rattle.std.specs.Prelude.{ℕ, ◌+◌, ◌-◌, ◌&&◌, ◌++◌, ◌∷◌, [], Bool, true, nat_le, List, length, codes, decimal, Option, Some, None, is_some, Ok, Err, if◌then◌else◌}
use Rattle.toml.specs.Data.{Data, array, table, string, Items, no_items, item, Members, get_member, as_table}
use Rattle.esx_types.specs.declared.config.Config.{Config}
use Rattle.esx_types.specs.declared.config.TheConstants.{MAX_OVERHEAD, MAX_PAGES, MAX_SHARES, MAX_TAU}
use Rattle.esx_types.specs.declared.version.Version.{Version}
use Rattle.esx_types.specs.declared.vm.VmSpec.{VmSpec}
use Rattle.esx_types.specs.Versions.{vm_numbers, has_own_taxes}
use Rattle.esx_scenario.specs.declared.plan.Guest.{Guest}
use Rattle.esx_scenario.specs.declared.plan.TraceLine.{TraceLine}
use Rattle.esx_scenario.specs.declared.guests.TheConstants.{MOST_LINES}
use Rattle.esx_scenario.specs.Plans.{has_number}
use Rattle.esx_scenario.specs.Lines.{line_of, ◌>>=◌ as then_some}
use Rattle.esx_scenario.specs.Keys.{Tried, ◌>>=◌, below, at_key, required, given}

abbrev pub count_items : Items → ℕ
count_items no_items = 0
count_items (item d ds) = 1 + count_items ds

-- the lines of these texts after some others, if each is one
unfoldable pub lines_from : ℕ → ℕ → List TraceLine → Items → Option (List TraceLine)
lines_from size pages lines no_items = Some lines
lines_from size pages lines (item (string text) ds) = then_some (line_of size pages text) (λ line. lines_from size pages (lines ++ line ∷ []) ds)
lines_from size pages lines (item _ ds) = None

-- the trace of the value at `trace`
unfoldable pub trace_in : ℕ → ℕ → Option Data → Option (List TraceLine)
trace_in size pages None = Some []
trace_in size pages (Some (array ds)) = if nat_le (count_items ds) MOST_LINES then lines_from size pages [] ds else None
trace_in size pages (Some _) = None

-- the number, if none of the earlier machines has it
unfoldable pub new_number : List Guest → ℕ → Tried ℕ
new_number earlier n = if has_number earlier n then Err (codes "id") else Ok n

abbrev pub number_at : Version → List Guest → Members → Tried ℕ
number_at version earlier t = do
  n ← required t (codes "id") 0 (vm_numbers version - 1)
  new_number earlier n

-- the tax of its own, which a machine may have in some versions
unfoldable pub tau_in : Version → Members → Tried (Option ℕ)
tau_in version t = if has_own_taxes version then given t (codes "tau") 0 MAX_TAU else Ok None

abbrev pub spec_in : Version → Members → Tried VmSpec
spec_in version t = do
  min ← required t (codes "min") 1 MAX_PAGES
  max ← required t (codes "max") min MAX_PAGES
  overhead ← required t (codes "overhead") 1 MAX_OVERHEAD
  shares ← required t (codes "shares") 1 MAX_SHARES
  balloon ← required t (codes "balloon") 0 (max - min)
  tau ← tau_in version t
  Ok (record { min = min; max = max; overhead = overhead; shares = shares; balloon_max = balloon; tau = tau })

abbrev pub guest_in : Version → Config → List Guest → Members → Tried Guest
guest_in version site earlier t = do
  vm ← number_at version earlier t
  spec ← spec_in version t
  trace ← at_key (codes "trace") (trace_in site.page spec.max (get_member (codes "trace") t))
  Ok (record { vm = vm; spec = spec; trace = trace })

-- the path of the machine at a place
abbrev pub vm_path : ℕ → List ℕ
vm_path i = codes "vm." ++ decimal i ++ codes "."

-- the machine of a table, after those before it
abbrev pub guest_at : Version → Config → List Guest → Members → Tried Guest
guest_at version site earlier t = below (vm_path (length earlier)) (guest_in version site earlier t)

-- those of these tables, after those before them
unfoldable pub guests_from : Version → Config → List Guest → Items → Tried (List Guest)
guests_from version site earlier no_items = Ok earlier
guests_from version site earlier (item (table t) ds) = do
  guest ← guest_at version site earlier t
  guests_from version site (earlier ++ guest ∷ []) ds
guests_from version site earlier (item _ ds) = Err (codes "vm")

abbrev pub are_tables : Items → Bool
are_tables no_items = true
are_tables (item d ds) = is_some (as_table d) && are_tables ds

-- the machines of the value at `vm`
unfoldable pub guests_at : Version → Config → Option Data → Tried (List Guest)
guests_at version site None = Ok []
guests_at version site (Some (array ds)) = if nat_le (count_items ds) (vm_numbers version) && are_tables ds then guests_from version site [] ds else Err (codes "vm")
guests_at version site (Some _) = Err (codes "vm")
