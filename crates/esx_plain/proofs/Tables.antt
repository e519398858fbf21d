-- The rows of the machines before a number.
use Rattle.std.proofs.Common.{◌≡◌, ℕ, ◌+◌, ◌<◌, [], ◌∷◌, ◌++◌, length, take, map, ap, ◌∙◌, None, option_map}
use Rattle.std.proofs.lemmas.List.{take_more, map-append}
use Rattle.esx_model.specs.declared.scene.Site.{Site}
use Rattle.esx_model.specs.Site.{vm_at}
use Rattle.esx_model.specs.Show.{vm_row, vm_rows}

pub rows_more : (s : Site) (i : ℕ) → i < length s.vms → vm_rows (take (i + 1) s.vms) ≡ vm_rows (take i s.vms) ++ option_map vm_row (vm_at s i) ∷ []
rows_more s i h = ap (map (option_map vm_row)) (take_more s.vms i None h) ∙ map-append (option_map vm_row) (take i s.vms) (vm_at s i ∷ [])
