use Rattle.std.proofs.Common.{◌≡◌, ◌≤◌, ◌*◌, take, sum_by}
use Rattle.esx_types.specs.declared.config.TheConstants.{MAX_PAGES}
use Rattle.esx_sums.specs.Sums.{out_of}
use Rattle.esx_sums.proofs.site.all_out.Given as goal

abbrev pub invariant-loop-at : goal.invariant-loop-at
invariant-loop-at l = (l.total ≡ sum_by out_of (take l._at l.present)) × (l.total ≤ l._at * MAX_PAGES)
