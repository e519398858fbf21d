use Rattle.std.proofs.Common.{◌≡◌, take, map}
use Rattle.esx_model.specs.Tables.{read_place}
use Rattle.esx_tables.proofs.copy.copy_pages.Given as goal

abbrev pub invariant-loop-page : goal.invariant-loop-page
invariant-loop-page l = l.copy.items ≡ map (read_place l.epoch) (take l.page l.vm.pages)
