use Rattle.std.proofs.Common.{◌≡◌, take, map}
use Rattle.esx_model.specs.Show.{map_row}
use Rattle.esx_plain.proofs.machines.pages.Given as goal

abbrev pub invariant-loop-place : goal.invariant-loop-place
invariant-loop-place l = l.rows ≡ map (map_row l.vm.epoch) (take l.place-index l.place-items)
